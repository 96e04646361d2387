-- A range that is missing of the message of a live receive stays so by each deed that spares it, so a loan of it lasts.
use Rattle.std.proofs.Common.{◌≡◌, ℕ, ◌≤◌, List, ◌∷◌, Some, arith, eq-eqb, eqb-true, sym, ◌∙◌, ap, subst}
use Rattle.std.specs.Prelude.{◌==◌, find, option_map}
use Rattle.rdm_lists.specs.Lists.{Member}
use Rattle.rdm_match.specs.Matcher.{Pair}
use Rattle.rdm_model.specs.Beginnings.{Own}
use Rattle.rdm_model.specs.Deeds.{Deed}
use Rattle.rdm_model.specs.Grants.{granted_bytes, with_window}
use Rattle.rdm_model.specs.Matches.{Receive}
use Rattle.rdm_law.proofs.Lives.Lives.{LifeLocal}
use Rattle.rdm_law.proofs.Matching.Received.{receive_once}
use Rattle.rdm_life.specs.Kept.{Kept, LiveReceive, Matched, is_receive, receive_numbered}
use Rattle.rdm_life.specs.Keeps.{own_live_receives, matched_of, kept_receive, KeepsReceives, Keeps}
use Rattle.rdm_life.specs.Handling.{after}
use Rattle.rdm_life.specs.Lending.{Loan, IsMissing, Spares}
use Rattle.rdm_life.proofs.CameWithin.{first_more}
use Rattle.rdm_life.proofs.LoanEnds.{paired_still, within_still, live_still}
use Rattle.rdm_life.proofs.LoanPairs.{lent_of}
use Rattle.rdm_life.proofs.LoanPlaces.{still_missing}
use Rattle.rdm_life.proofs.RecordKept.{keeps_step}
use Rattle.rdm_life.proofs.SendFacts.{find_map}
use Rattle.rdm_life.proofs.Stays.{head_stays}
use Rattle.rdm_life.proofs.TakenBy.{find_one, pair_is}
use Rattle.rdm_life.proofs.TakenRead.{AllTakenRead}
use Rattle.rdm_life.proofs.Windows.{newer_granted}
use Rattle.rdm_life.proofs.Apart.{live_is}

-- a range that is missing of the same message of the same receive, of which at least as many bytes are granted
pub record Lasts (v w : Kept) (l : Loan) (m : IsMissing v l) : Type 0 where
  pub still : IsMissing w l
  pub same_receive : still.receive.receive ≡ m.receive.receive
  pub same_source : still.message.source ≡ m.message.source
  pub same_number : still.message.number ≡ m.message.number
  pub same_head : still.message.head ≡ m.message.head
  pub grants_more : m.message.granted ≤ still.message.granted

-- a live receive is kept by its number
pub numbered_kept : (own : Own) (log : List Deed) (w : Kept) (n : ℕ) (r : Receive) → KeepsReceives own log w → Member r (own_live_receives own log) → r.number ≡ n
    → receive_numbered w n ≡ Some (kept_receive own log r)
unfolding kept_receive
numbered_kept own log w n r k live number =
    let found : find (λ (q : Receive). q.number == n) (own_live_receives own log) ≡ Some r =
    find_one (λ (q : Receive). q.number == n) r (own_live_receives own log) live (eq-eqb r.number n number)
    (λ q m same. receive_once log q r (live_is own log q m).0 (live_is own log r live).0 (eqb-true q.number n same ∙ sym number)) in
    ap (find (is_receive n)) k.receives_are ∙ find_map (kept_receive own log) (is_receive n) (own_live_receives own log) ∙ ap (option_map (kept_receive own log)) found

-- of a pair's message no less is granted after a deed
granted_more : (own : Own) (d : Deed) (log : List Deed) (p : Pair) → (matched_of own log p).granted ≤ (matched_of own (d ∷ log) p).granted
unfolding granted_bytes with_window
granted_more own d log p =
    let first = first_more d log p.message.life p.message.no.0 in
    let same = newer_granted own d log p in
    omega arith

-- a missing range lasts
pub lasts : (own : Own) (d : Deed) (log : List Deed) (v : Kept) (l : Loan) → LifeLocal own (d ∷ log) → AllTakenRead (d ∷ log) → Keeps own log v → (m : IsMissing v l) → Spares v d l
    → Lasts v (after d v) l m
unfolding kept_receive
lasts own d log v l local fit k m spares =
    let a = lent_of own log v l k.receives m in
    let r = a.of.recv in
    let p = a.pair in
    let now = keeps_step own d log v fit local k in
    let live = live_still own d log v l m a local k spares in
    record {
      still = record {
        receive = kept_receive own (d ∷ log) r;
        found = numbered_kept own (d ∷ log) (after d v) l.recv r now.receives live a.number_is;
        message = matched_of own (d ∷ log) p;
        matched = ap (option_map (matched_of own (d ∷ log))) (pair_is own (d ∷ log) r p (paired_still own d log v l m a) a.of.number_is);
        some_place = m.some_place;
        within = within_still own d log v l m a;
        missing = λ place low high. still_missing own d log v l m a place k.receives spares low high;
      };
      same_receive = sym (ap (λ (x : LiveReceive). x.receive) a.receive_is);
      same_source = sym (ap (λ (x : Matched). x.source) a.message_is);
      same_number = sym (ap (λ (x : Matched). x.number) a.message_is);
      same_head = sym (head_stays own d log p a.paired) ∙ sym (ap (λ (x : Matched). x.head) a.message_is);
      grants_more = subst (λ (x : Matched). x.granted ≤ (matched_of own (d ∷ log) p).granted) (sym a.message_is) (granted_more own d log p);
    }
