-- The live receive of a missing range, and the pair by which it has its message.
use Rattle.std.proofs.Common.{◌≡◌, List, Option, Some, None, refl, sym, ◌∙◌, ap, subst}
use Rattle.std.specs.Prelude.{option_map}
use Rattle.std.proofs.lemmas.Bool.{eqb-true}
use Rattle.rdm_lists.specs.Lists.{Member}
use Rattle.rdm_lists.proofs.Members.{find_member, member-map}
use Rattle.rdm_match.specs.Matcher.{Pair}
use Rattle.rdm_model.specs.Beginnings.{Own}
use Rattle.rdm_model.specs.Deeds.{Deed}
use Rattle.rdm_model.specs.Matches.{Receive}
use Rattle.rdm_life.specs.Kept.{Kept, LiveReceive, Matched, is_receive}
use Rattle.rdm_life.specs.Keeps.{own_pairs, own_live_receives, pair_of, matched_of, kept_receive, KeepsReceives}
use Rattle.rdm_life.specs.Lending.{Loan, IsMissing}
use Rattle.rdm_life.proofs.TakenBy.{pair_found, LiveOf}

-- the receive of a range that is missing, its pair, and that what is kept of both is of these
pub record LentOf (own : Own) (log : List Deed) (v : Kept) (l : Loan) (m : IsMissing v l) : Type 0 where
  pub pair : Pair
  pub paired : Member pair (own_pairs own log)
  pub of : LiveOf own log pair
  pub number_is : of.recv.number ≡ l.recv
  pub receive_is : m.receive ≡ kept_receive own log of.recv
  pub message_is : m.message ≡ matched_of own log pair

-- a receive with a message has a pair
pub pair_under : (own : Own) (log : List Deed) (o : Option Pair) (m : Matched) → option_map (matched_of own log) o ≡ Some m → (p : Pair) × (o ≡ Some p) × (m ≡ matched_of own log p)
pair_under own log None m h = cc
pair_under own log (Some p) m h = (let same : m ≡ matched_of own log p = cc in (p, refl, same))

-- so it is of each range that is missing
pub lent_of : (own : Own) (log : List Deed) (v : Kept) (l : Loan) → KeepsReceives own log v → (m : IsMissing v l) → LentOf own log v l m
unfolding kept_receive
lent_of own log v l k m =
    let found = find_member (is_receive l.recv) m.receive v.receives m.found in
    let made = member-map (kept_receive own log) m.receive (own_live_receives own log) (subst (λ (rs : List LiveReceive). Member m.receive rs) k.receives_are found.0) in
    let r : Receive = made.0 in
    let is : m.receive ≡ kept_receive own log r = sym made.2 in
    let number : r.number ≡ l.recv = ap (λ (x : LiveReceive). x.receive.number) made.2 ∙ eqb-true m.receive.receive.number l.recv found.1 in
    let p = pair_under own log (pair_of own log r) m.message (ap (λ (x : LiveReceive). x.matched) made.2 ∙ m.matched) in
    let of = pair_found own log r p.0 p.1 in
    record {
      pair = p.0;
      paired = of.0;
      of = record { recv = r; live = made.1; number_is = sym of.1; pair_is = p.1 };
      number_is = number;
      receive_is = is;
      message_is = p.2;
    }
