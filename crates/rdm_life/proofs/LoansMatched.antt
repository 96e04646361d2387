-- What a class says of a datagram that has none, of a range of a message, and of a live receive that was matched.
use Rattle.std.proofs.Common.{◌≡◌, ℕ, ◌+◌, ◌<◌, ◌≤◌, Bool, true, false, not, ◌&&◌, nat_le, leb-true, le-leb, List, Some, None, arith, refl, sym, ◌∙◌, ap, subst}
use Rattle.std.specs.Prelude.{◌-◌, is_none}
use Rattle.std.proofs.lemmas.Bool.{and_parts, and_from, not-true, not-false}
use Rattle.rdm_lists.specs.Lists.{Member, each_below, first_case}
use Rattle.rdm_lists.proofs.Below.{each_below_at, each_below_from}
use Rattle.rdm_lists.proofs.Members.{member-map}
use Rattle.rdm_num.specs.declared.numbers.Life.{Life}
use Rattle.rdm_num.specs.declared.numbers.Connid.{Connid}
use Rattle.rdm_match.specs.Matcher.{Pair}
use Rattle.rdm_model.specs.Beginnings.{Own}
use Rattle.rdm_model.specs.ClassFacts.{ClassFacts}
use Rattle.rdm_model.specs.Classes.{is_bad_key, is_no_op, is_mismatch, is_overlap, item_class_by}
use Rattle.rdm_model.specs.Completions.{is_matched}
use Rattle.rdm_model.specs.Currents.{is_forgotten}
use Rattle.rdm_model.specs.Deeds.{Deed, is_connid, Item}
use Rattle.rdm_model.specs.Matches.{Receive}
use Rattle.rdm_model.specs.Heard.{is_heard}
use Rattle.rdm_model.specs.Sources.{is_other, is_malformed, has_raw}
use Rattle.rdm_law.proofs.Lives.Lives.{first_none}
use Rattle.rdm_life.specs.Kept.{Kept, LiveReceive, Matched, receive_numbered}
use Rattle.rdm_life.specs.Keeps.{own_pairs, own_live_receives, pair_of, matched_of, kept_receive, KeepsMatching, KeepsReceives}
use Rattle.rdm_life.specs.Handling.{receive_of}
use Rattle.rdm_life.specs.Facts.{came_or_outside}
use Rattle.rdm_life.proofs.LoanPairs.{pair_under}
use Rattle.rdm_life.proofs.LoanPlaces.{by_message}
use Rattle.rdm_life.proofs.LoansLast.{numbered_kept}
use Rattle.rdm_life.proofs.MessageFacts.{named}
use Rattle.rdm_life.proofs.MessageStands.{matched_heard, early_none}
use Rattle.rdm_life.proofs.TakenBy.{pair_found, LiveOf, message_of_pair}
use Rattle.rdm_life.proofs.Tests.{and_none}

-- ---- a datagram that no class fits

-- no test of a class holds of a datagram, by these facts
pub record IsUnclassed (f : ClassFacts) (from : Life) (to : Connid) (item : Item) : Type 0 where
  pub for_life : not (is_connid f.now to) ≡ false
  pub from_current : is_other (f.current from.port.0) from ≡ false
  pub well_formed : is_malformed from item ≡ false
  pub known : (is_none (f.current from.port.0) && not (has_raw item)) ≡ false
  pub good_key : is_bad_key f from item ≡ false
  pub has_op : is_no_op f from item ≡ false
  pub agrees : is_mismatch f from item ≡ false
  pub new : is_overlap f from item ≡ false

-- a datagram without a class passes each test
pub unclassed : (f : ClassFacts) (from : Life) (to : Connid) (item : Item) → item_class_by f from to item ≡ None → IsUnclassed f from to item
unfolding item_class_by
unclassed f from to item h =
    let a = first_none _ _ _ h in
    let b = first_none _ _ _ a.1 in
    let c = first_none _ _ _ b.1 in
    let d = first_none _ _ _ c.1 in
    let e = first_none _ _ _ d.1 in
    let k = first_none _ _ _ e.1 in
    let g = first_none _ _ _ k.1 in
    let i = first_none _ _ _ g.1 in
    record { for_life = a.0; from_current = b.0; well_formed = c.0; known = d.0; good_key = e.0; has_op = k.0; agrees = g.0; new = i.0 }

-- and one that passes each has none
pub no_class : (f : ClassFacts) (from : Life) (to : Connid) (item : Item) → IsUnclassed f from to item → item_class_by f from to item ≡ None
unfolding item_class_by first_case
no_class f from to item t =
    let a = t.for_life in
    let b = t.from_current in
    let c = t.well_formed in
    let d = t.known in
    let e = t.good_key in
    let k = t.has_op in
    let g = t.agrees in
    let h = t.new in
    rw (a, b, c, d, e, k, g, h) refl

-- ---- ranges of a message

-- a range none of whose bytes came lies in the message
pub new_within : (came : ℕ → Bool) (size offset len : ℕ) → came_or_outside came size offset len ≡ false → offset + len ≤ size
unfolding came_or_outside
new_within came size offset len h =
    let both = not-false (nat_le (offset + len) size && each_below (λ k. not (came (offset + k))) len) h in
    leb-true (offset + len) size (and_parts (nat_le (offset + len) size) (each_below (λ k. not (came (offset + k))) len) both).0

-- and no place of it came
pub new_missing : (came : ℕ → Bool) (size offset len : ℕ) → came_or_outside came size offset len ≡ false → (place : ℕ) → offset ≤ place → place < offset + len → came place ≡ false
unfolding came_or_outside
new_missing came size offset len h place from below =
    let both = not-false (nat_le (offset + len) size && each_below (λ k. not (came (offset + k))) len) h in
    let each = (and_parts (nat_le (offset + len) size) (each_below (λ k. not (came (offset + k))) len) both).1 in
    let at : offset + (place - offset) ≡ place = omega arith in
    let less : place - offset < len = omega arith in
    let is : not (came (offset + (place - offset))) ≡ true = each_below_at (λ k. not (came (offset + k))) len (place - offset) each less in
    not-true (came place) (ap (λ (n : ℕ). not (came n)) (sym at) ∙ is)

-- a range in the message of which no place came
pub new_from : (came : ℕ → Bool) (size offset len : ℕ) → offset + len ≤ size → ((place : ℕ) → offset ≤ place → place < offset + len → came place ≡ false) → came_or_outside came size offset len ≡ false
unfolding came_or_outside
new_from came size offset len within missing =
    let each : each_below (λ k. not (came (offset + k))) len ≡ true = each_below_from (λ k. not (came (offset + k))) len (λ k less.
    let from : offset ≤ offset + k = omega arith in
    let below : offset + k < offset + len = omega arith in
    ap not (missing (offset + k) from below)) in
    ap not (and_from (nat_le (offset + len) size) (each_below (λ k. not (came (offset + k))) len) (le-leb (offset + len) size within) each)

-- ---- live receives with a message

-- the pair of a live receive that was matched
pub record IsPaired (own : Own) (log : List Deed) (r : LiveReceive) (m : Matched) : Type 0 where
  pub recv : Receive
  pub live : Member recv (own_live_receives own log)
  pub is : kept_receive own log recv ≡ r
  pub pair : Pair
  pub member : Member pair (own_pairs own log)
  pub number_is : pair.recv.id.0 ≡ recv.number
  pub pair_is : pair_of own log recv ≡ Some pair
  pub message_is : matched_of own log pair ≡ m

-- a live receive that was matched has such a pair
pub paired : (own : Own) (log : List Deed) (v : Kept) (r : LiveReceive) (m : Matched) → KeepsReceives own log v → Member r v.receives → r.matched ≡ Some m → IsPaired own log r m
unfolding kept_receive
paired own log v r m k member matched =
    let x = member-map (kept_receive own log) r (own_live_receives own log) (subst (λ (rs : List LiveReceive). Member r rs) k.receives_are member) in
    let p = pair_under own log (pair_of own log x.0) m (ap (λ (q : LiveReceive). q.matched) x.2 ∙ matched) in
    let f = pair_found own log x.0 p.0 p.1 in
    record { recv = x.0; live = x.1; is = x.2; pair = p.0; member = f.0; number_is = f.1; pair_is = p.1; message_is = sym p.2 }

-- a live receive is found by its number
pub found_by_number : (own : Own) (log : List Deed) (v : Kept) (r : LiveReceive) (m : Matched) → KeepsReceives own log v → IsPaired own log r m → receive_numbered v r.receive.number ≡ Some r
unfolding kept_receive
found_by_number own log v r m k p =
    numbered_kept own log v r.receive.number p.recv k p.live (ap (λ (q : LiveReceive). q.receive.number) p.is) ∙ ap Some p.is

-- and by its message
pub found_by_message : (own : Own) (log : List Deed) (v : Kept) (r : LiveReceive) (m : Matched) → KeepsReceives own log v → IsPaired own log r m → receive_of v m.source m.number ≡ Some r
found_by_message own log v r m k p =
    let l : LiveOf own log p.pair = record { recv = p.recv; live = p.live; number_is = sym p.number_is; pair_is = p.pair_is } in
    subst (λ (x : Matched). receive_of v x.source x.number ≡ Some r) p.message_is (by_message own log v p.pair k p.member l ∙ ap Some p.is)

-- its message was matched
pub paired_matched : (own : Own) (log : List Deed) (r : LiveReceive) (m : Matched) → IsPaired own log r m → is_matched (own_pairs own log) (named m.source m.number) ≡ true
paired_matched own log r m p =
    message_of_pair own log m.source m.number p.pair p.member (ap (λ (x : Matched). x.source) p.message_is) (ap (λ (x : Matched). x.number) p.message_is)

-- so it was heard of
pub paired_heard : (own : Own) (log : List Deed) (v : Kept) (r : LiveReceive) (m : Matched) → KeepsMatching own log v → is_forgotten log m.source ≡ false → IsPaired own log r m
    → (v.peers m.source).heard m.number ≡ true
paired_heard own log v r m k kept p = k.heard_is m.source kept m.number ∙ matched_heard own log m.source m.number (paired_matched own log r m p)

-- and is early no more
pub paired_early : (own : Own) (log : List Deed) (v : Kept) (r : LiveReceive) (m : Matched) → KeepsMatching own log v → is_forgotten log m.source ≡ false → IsPaired own log r m
    → v.early m.source m.number ≡ None
paired_early own log v r m k kept p =
    let none : (is_heard log m.source m.number && not (is_matched (own_pairs own log) (named m.source m.number))) ≡ false =
    ap (λ (b : Bool). is_heard log m.source m.number && not b) (paired_matched own log r m p) ∙ and_none (is_heard log m.source m.number) in
    k.early_is m.source kept m.number ∙ early_none own log m.source m.number none
