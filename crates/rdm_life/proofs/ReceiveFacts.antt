-- What a live receive takes, as it is kept.
use Rattle.std.proofs.Common.{◌≡◌, ℕ, Bool, true, false, not, ◌&&◌, nat_lt, List, Option, Some, None, refl, eq-eqb, sym, ◌∙◌, ap, subst}
use Rattle.std.specs.Prelude.{◌==◌, find, option_map, is_some}
use Rattle.std.proofs.lemmas.Bool.{and_parts, and_from, eqb-true, not-true}
use Rattle.rdm_lists.specs.Lists.{Member}
use Rattle.rdm_lists.proofs.Members.{find_member, member_find}
use Rattle.rdm_num.specs.Lives.{same_life}
use Rattle.rdm_num.specs.declared.numbers.Life.{Life}
use Rattle.rdm_num.specs.declared.head.Shape.{Shape}
use Rattle.rdm_num.proofs.Lives.{same_life-true, same_life-refl}
use Rattle.rdm_match.specs.Matcher.{Pair, is_recv}
use Rattle.rdm_model.specs.Beginnings.{Own}
use Rattle.rdm_model.specs.ClassFacts.{passes_grants, came_in_part, came_in_part_of}
use Rattle.rdm_num.specs.Pieces.{is_missing}
use Rattle.rdm_model.specs.Deeds.{Deed}
use Rattle.rdm_model.specs.Matches.{Receive}
use Rattle.rdm_model.specs.Targets.{live_pair, has_shape}
use Rattle.rdm_law.proofs.Lives.Lives.{life_scene}
use Rattle.rdm_law.proofs.Matching.Received.{receive_once}
use Rattle.rdm_life.specs.Kept.{Kept, LiveReceive, Matched}
use Rattle.rdm_life.specs.Keeps.{own_pairs, own_live_receives, pair_of, matched_of, kept_receive, KeepsReceives}
use Rattle.rdm_life.specs.Facts.{is_of, receive_from, passes, matched_passes, came_or_outside}
use Rattle.rdm_life.proofs.SendFacts.{find_map}
use Rattle.rdm_life.proofs.TakenBy.{false_unless, find_none, find_one, pair_found, LiveOf, live_of}
use Rattle.rdm_life.proofs.Apart.{own_ended, live_is}

-- the live receive has that number, and its pair is of that life
abbrev pub names : Own → List Deed → Life → ℕ → Receive → Bool
names own log source recv r = r.number == recv && is_of source (option_map (matched_of own log) (pair_of own log r))

-- the receive of a number, among those that are kept
pub receive_from_is : (own : Own) (log : List Deed) (v : Kept) (source : Life) (recv : ℕ) → KeepsReceives own log v
    → receive_from v source recv ≡ option_map (kept_receive own log) (find (names own log source recv) (own_live_receives own log))
unfolding receive_from kept_receive
receive_from_is own log v source recv k =
    ap (λ (rs : List LiveReceive). find (λ (r : LiveReceive). r.receive.number == recv && is_of source r.matched) rs) k.receives_are
    ∙ find_map (kept_receive own log) (λ (r : LiveReceive). r.receive.number == recv && is_of source r.matched) (own_live_receives own log)

-- a pair of that life
of_parts : (own : Own) (log : List Deed) (source : Life) (o : Option Pair) → is_of source (option_map (matched_of own log) o) ≡ true → (p : Pair) × (o ≡ Some p) × (p.message.life ≡ source)
unfolding is_of
of_parts own log source None h = cc
of_parts own log source (Some p) h = (p, refl, same_life-true p.message.life source h)

-- the pair that is looked for
abbrev seeks : Own → List Deed → Life → ℕ → Pair → Bool
seeks own log source recv p = is_recv recv p.recv && same_life p.message.life source && not (own_ended own log recv)

-- a receive that is named has such a pair
named_seeks : (own : Own) (log : List Deed) (source : Life) (recv : ℕ) (r : Receive) → Member r (own_live_receives own log) → names own log source recv r ≡ true
    → (p : Pair) × (pair_of own log r ≡ Some p) × Member p (own_pairs own log) × (seeks own log source recv p ≡ true)
unfolding is_recv
named_seeks own log source recv r m is =
    let parts = and_parts (r.number == recv) (is_of source (option_map (matched_of own log) (pair_of own log r))) is in
    let number : r.number ≡ recv = eqb-true r.number recv parts.0 in
    let p = of_parts own log source (pair_of own log r) parts.1 in
    let found = pair_found own log r p.0 p.1 in
    let going : not (own_ended own log recv) ≡ true = ap (λ (n : ℕ). not (own_ended own log n)) (sym number) ∙ ap not (live_is own log r m).1 in (
      p.0,
      p.1,
      found.0,
      and_from (p.0.recv.id.0 == recv && same_life p.0.message.life source) (not (own_ended own log recv))
          (and_from (p.0.recv.id.0 == recv) (same_life p.0.message.life source) (eq-eqb p.0.recv.id.0 recv (found.1 ∙ number)) (subst (λ (l : Life). same_life p.0.message.life l ≡ true) p.2 (same_life-refl p.0.message.life)))
          going,
    )

-- the receive of such a pair is named, and no other
pair_names : (own : Own) (log : List Deed) (source : Life) (recv : ℕ) (p : Pair) → Member p (own_pairs own log) → seeks own log source recv p ≡ true
    → (l : LiveOf own log p) × (find (names own log source recv) (own_live_receives own log) ≡ Some l.recv)
unfolding is_recv is_of
pair_names own log source recv p m is =
    let parts = and_parts (p.recv.id.0 == recv && same_life p.message.life source) (not (own_ended own log recv)) is in
    let first = and_parts (p.recv.id.0 == recv) (same_life p.message.life source) parts.0 in
    let number : p.recv.id.0 ≡ recv = eqb-true p.recv.id.0 recv first.0 in
    let going : own_ended own log p.recv.id.0 ≡ false = ap (own_ended own log) number ∙ not-true (own_ended own log recv) parts.1 in
    let l : LiveOf own log p = live_of own log p m going in
    let of : is_of source (option_map (matched_of own log) (pair_of own log l.recv)) ≡ true = ap (λ (o : Option Pair). is_of source (option_map (matched_of own log) o)) l.pair_is ∙ first.1 in (
      l,
      find_one (names own log source recv) l.recv (own_live_receives own log) l.live
          (and_from (l.recv.number == recv) (is_of source (option_map (matched_of own log) (pair_of own log l.recv))) (eq-eqb l.recv.number recv (l.number_is ∙ number)) of)
          (λ r k named.
          let parts' = and_parts (r.number == recv) (is_of source (option_map (matched_of own log) (pair_of own log r))) named in
          receive_once log r l.recv (live_is own log r k).0 (live_is own log l.recv l.live).0 (eqb-true r.number recv parts'.0 ∙ sym number ∙ sym l.number_is)),
    )

-- what a test says of the message of the receive of that number
pub matched_is : (own : Own) (ports : ℕ) (port_log log : List Deed) (v : Kept) (source : Life) (recv : ℕ) (test : Matched → Bool) → KeepsReceives own log v
    → matched_passes test (receive_from v source recv) ≡ passes test (option_map (matched_of own log) (live_pair (life_scene ports own port_log log) source recv))
unfolding live_pair matched_passes passes kept_receive
matched_is own ports port_log log v source recv test k =
    let ps = own_pairs own log in
    let found = find (seeks own log source recv) ps in
    ap (matched_passes test) (receive_from_is own log v source recv k)
    ∙ (elim found as (λ o. found ≡ o → matched_passes test (option_map (kept_receive own log) (find (names own log source recv) (own_live_receives own log))) ≡ passes test (option_map (matched_of own log) o)) [
      | Some p ↦ λ is.
          let f = find_member (seeks own log source recv) p ps is in
          let n = pair_names own log source recv p f.0 f.1 in
          ap (λ (o : Option Receive). matched_passes test (option_map (kept_receive own log) o)) n.1
          ∙ ap (λ (o : Option Pair). passes test (option_map (matched_of own log) o)) n.0.pair_is
      | None ↦ λ is.
          ap (λ (o : Option Receive). matched_passes test (option_map (kept_receive own log) o))
          (find_none (names own log source recv) (own_live_receives own log) (λ r m. false_unless (names own log source recv r) (λ named.
          let p = named_seeks own log source recv r m named in
          let there = member_find (seeks own log source recv) p.0 ps p.2 p.3 in
          let wrong : true ≡ false = sym there ∙ ap is_some is in
          cc)))
    ])
    refl

-- whether it takes bytes of messages of such a shape
pub has_shape_is : (own : Own) (ports : ℕ) (port_log log : List Deed) (v : Kept) (source : Life) (recv : ℕ) (test : Shape → Bool) → KeepsReceives own log v
    → matched_passes (λ (m : Matched). test m.head.shape) (receive_from v source recv)
    ≡ has_shape (life_scene ports own port_log log) test (live_pair (life_scene ports own port_log log) source recv)
unfolding has_shape passes
has_shape_is own ports port_log log v source recv test k =
    matched_is own ports port_log log v source recv (λ (m : Matched). test m.head.shape) k
    ∙ (elim (live_pair (life_scene ports own port_log log) source recv) as (λ o. passes (λ (m : Matched). test m.head.shape) (option_map (matched_of own log) o) ≡ has_shape (life_scene ports own port_log log) test o) [
      | Some p ↦ refl
      | None ↦ refl
    ])

-- whether bytes pass what is granted
pub passes_grants_is : (own : Own) (ports : ℕ) (port_log log : List Deed) (v : Kept) (source : Life) (recv end' : ℕ) → KeepsReceives own log v
    → matched_passes (λ (m : Matched). nat_lt m.granted end') (receive_from v source recv)
    ≡ passes_grants (life_scene ports own port_log log) end' (live_pair (life_scene ports own port_log log) source recv)
unfolding passes_grants passes
passes_grants_is own ports port_log log v source recv end' k =
    matched_is own ports port_log log v source recv (λ (m : Matched). nat_lt m.granted end') k
    ∙ (elim (live_pair (life_scene ports own port_log log) source recv) as (λ o. passes (λ (m : Matched). nat_lt m.granted end') (option_map (matched_of own log) o) ≡ passes_grants (life_scene ports own port_log log) end' o) [
      | Some p ↦ refl
      | None ↦ refl
    ])

-- whether bytes have come already or lie outside the message
pub came_in_part_of_is : (own : Own) (ports : ℕ) (port_log log : List Deed) (v : Kept) (source : Life) (recv offset len : ℕ) → KeepsReceives own log v
    → matched_passes (λ (m : Matched). came_or_outside m.came m.head.length offset len) (receive_from v source recv)
    ≡ came_in_part_of (life_scene ports own port_log log) offset len (live_pair (life_scene ports own port_log log) source recv)
unfolding came_in_part_of came_in_part passes came_or_outside is_missing
came_in_part_of_is own ports port_log log v source recv offset len k =
    matched_is own ports port_log log v source recv (λ (m : Matched). came_or_outside m.came m.head.length offset len) k
    ∙ (elim (live_pair (life_scene ports own port_log log) source recv) as (λ o.
    passes (λ (m : Matched). came_or_outside m.came m.head.length offset len) (option_map (matched_of own log) o) ≡ came_in_part_of (life_scene ports own port_log log) offset len o) [
      | Some p ↦ refl
      | None ↦ refl
    ])
