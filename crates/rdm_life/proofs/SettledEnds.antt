-- Which receives a deed that makes pairs or brings bytes ends: those of which all came. All others that are out are live after it.
use Rattle.std.proofs.Common.{◌≡◌, ℕ, ◌<◌, Bool, true, false, cond, not, ◌&&◌, List, [], ◌∷◌, ◌++◌, map, length, Option, Some, None, ◌⊎◌, refl, arith, inl, inr, sym, ◌∙◌, ap, subst}
use Rattle.std.specs.Prelude.{◌==◌, filter, flat_map, option_map}
use Rattle.std.specs.List.{list_any}
use Rattle.std.proofs.lemmas.Bool.{cases_lt, eqb-true, eq-eqb}
use Rattle.std.proofs.lemmas.List.Elements.{filter-append}
use Rattle.std.proofs.lemmas.Option.{slice_get_past}
use Rattle.rdm_lists.specs.Lists.{Member}
use Rattle.rdm_lists.proofs.Filters.{filter_all}
use Rattle.rdm_lists.proofs.Members.{member-filter, filter-member, member-map, map-member, list_any_member, member_list_any}
use Rattle.rdm_lists.proofs.Same.{filter_where}
use Rattle.rdm_match.specs.Matcher.{Pair}
use Rattle.rdm_model.specs.Beginnings.{Own}
use Rattle.rdm_model.specs.Deeds.{Deed}
use Rattle.rdm_model.specs.Matches.{Receive, receives, received_by, with_received}
use Rattle.rdm_model.specs.Parts.{carried_by}
use Rattle.rdm_model.specs.Receives.{RecvEnd, Filled, ended_recv, has_ended, is_filled, filled_by}
use Rattle.rdm_law.proofs.Ends.Ends.{ended_cases}
use Rattle.rdm_law.proofs.Ends.Live.{withdrawn_absent}
use Rattle.rdm_law.proofs.Lives.Lives.{LifeLocal}
use Rattle.rdm_law.proofs.Matching.Numbered.{matching_numbered}
use Rattle.rdm_law.proofs.Matching.Received.{receive_stands}
use Rattle.rdm_life.specs.Landing.{has_all, is_full, is_one_of, is_filled_one}
use Rattle.rdm_life.specs.Keeps.{told, own_pairs, own_live_receives, pair_of}
use Rattle.rdm_life.proofs.Apart.{own_ended}
use Rattle.rdm_life.proofs.EndSteps.{own_ends, new_ends, unended, live_are}
use Rattle.rdm_life.proofs.LiveLeft.{live_after}
use Rattle.rdm_life.proofs.Owing.{not_newly, pairs_then}
use Rattle.rdm_life.proofs.SettledDone.{landing_filled}
use Rattle.rdm_life.proofs.SettledPairs.{touched, received_number, all_is, only_touched}
use Rattle.rdm_life.proofs.Settling.{IsLanding, Touches, out_with, landed_message, landed_receive, numbers_of}
use Rattle.rdm_life.proofs.TakenBy.{false_unless, pair_is}
use Rattle.rdm_life.proofs.Tests.{same_test}

-- all of a pair's message came
abbrev pub is_whole : Own → Deed → List Deed → Pair → Bool
is_whole own d log p = has_all (landed_message own d log p)

-- a receive is of one of these pairs, and all of its message came
abbrev pub fills : Own → Deed → List Deed → List Pair → Receive → Bool
fills own d log ps r = is_filled_one (numbers_of ps) (landed_receive own d log r)

-- the ends of receives that take the messages of those of these pairs that came whole
abbrev pub whole_ends : Own → Deed → List Deed → List Pair → List RecvEnd
whole_ends own d log ps = map Filled (filter (is_whole own d log) ps)

-- ---- the ends

-- those that pass, one by one
filter_flat : {A : Type 0} (t : A → Bool) (xs : List A) → flat_map (λ x. cond (t x) (x ∷ []) []) xs ≡ filter t xs
filter_flat t [] = refl
filter_flat {A} t (x ∷ xs) =
    elim (t x) as (λ b. cond b (x ∷ []) [] ++ flat_map (λ y. cond (t y) (y ∷ []) []) xs ≡ cond b (x ∷ filter t xs) (filter t xs)) [
      | true ↦ ap (λ (ys : List A). x ∷ ys) (filter_flat t xs)
      | false ↦ filter_flat t xs
    ]

-- the pairs that the deed fills are those of these that came whole
filled_are : (own : Own) (d : Deed) (log : List Deed) (is_new : Bool) (ps : List Pair) → Touches own d log is_new ps
    → filled_by own.limits.first (told own (d ∷ log)).head d log ≡ filter (is_whole own d log) ps
unfolding filled_by
filled_are own d log is_new ps t =
    let first = own.limits.first in
    let heads = (told own (d ∷ log)).head in
    let newly : Pair → Bool = λ p. is_filled first heads (d ∷ log) p && not (is_filled first heads log p) in
    sym (filter_flat newly (own_pairs own (d ∷ log)))
    ∙ only_touched own d log is_new ps (λ p. cond (newly p) (p ∷ []) []) t
    (λ p m none.
    let was = pairs_then own d log in
    let quiet = not_newly first heads d log p (subst (λ (qs : List Pair). Member p qs) was m) (subst (λ (qs : List Pair). carried_by qs p.message.life p.message.no.0 d ≡ None) was none) in
    ap (λ (b : Bool). cond b (p ∷ []) []) quiet)
    ∙ filter_flat newly ps
    ∙ filter_where newly (is_whole own d log) ps (λ p m. all_is own d log is_new p (touched own d log is_new ps p t m))

-- so these are the ends
pub ends_are : (own : Own) (d : Deed) (log : List Deed) (is_new : Bool) (ps : List Pair) → IsLanding d → Touches own d log is_new ps → new_ends own d log ≡ whole_ends own d log ps
ends_are own d log is_new ps i t = landing_filled own d log i ∙ ap (map Filled) (filled_are own d log is_new ps t)

-- ---- a receive and the pairs

-- a pair of which something came is that of the receive
pub record PairOf (own : Own) (d : Deed) (log : List Deed) (ps : List Pair) (r : Receive) : Type 0 where
  pub pair : Pair
  pub member : Member pair ps
  pub number_is : r.number ≡ pair.recv.id.0
  pub paired : Member pair (own_pairs own (d ∷ log))
  pub pair_is : pair_of own (d ∷ log) r ≡ Some pair

-- a pair in the list with the number of a receive is its pair
abbrev pub pair_with : (own : Own) (d : Deed) (log : List Deed) (is_new : Bool) (ps : List Pair) (r : Receive) (p : Pair) → Touches own d log is_new ps → Member p ps → r.number ≡ p.recv.id.0
    → PairOf own d log ps r
pair_with own d log is_new ps r p t m is =
    let paired = (touched own d log is_new ps p t m).paired in
    record { pair = p; member = m; number_is = is; paired = paired; pair_is = pair_is own (d ∷ log) r p paired is }

-- a receive has such a pair, or none of the numbers
pub has_pair : (own : Own) (d : Deed) (log : List Deed) (is_new : Bool) (ps : List Pair) (r : Receive) → Touches own d log is_new ps
    → PairOf own d log ps r ⊎ (is_one_of (numbers_of ps) (landed_receive own d log r) ≡ false)
unfolding is_one_of
has_pair own d log is_new ps r t =
    let named : ℕ → Bool = λ number. r.number == number in
    (elim (list_any named (numbers_of ps)) as (λ b. list_any named (numbers_of ps) ≡ b → PairOf own d log ps r ⊎ (b ≡ false)) [
      | true ↦ λ h.
          let a = list_any_member named (numbers_of ps) h in
          let b = member-map (λ (p : Pair). p.recv.id.0) a.0 ps a.1 in
          inl (pair_with own d log is_new ps r b.0 t b.1 (eqb-true r.number a.0 a.2 ∙ sym b.2))
      | false ↦ λ h. inr refl
    ]) refl

-- one with such a pair has its number
pub has_number : (own : Own) (d : Deed) (log : List Deed) (ps : List Pair) (r : Receive) → PairOf own d log ps r → is_one_of (numbers_of ps) (landed_receive own d log r) ≡ true
unfolding is_one_of
has_number own d log ps r q =
    member_list_any (λ (number : ℕ). r.number == number) q.pair.recv.id.0 (numbers_of ps) (map-member (λ (p : Pair). p.recv.id.0) q.pair ps q.member) (eq-eqb r.number q.pair.recv.id.0 q.number_is)

-- so it fills where all came
pub fills_by : (own : Own) (d : Deed) (log : List Deed) (ps : List Pair) (r : Receive) (q : PairOf own d log ps r) → fills own d log ps r ≡ is_whole own d log q.pair
unfolding is_filled_one is_full
fills_by own d log ps r q =
    ap (λ (b : Bool). b && is_full (option_map (landed_message own d log) (pair_of own (d ∷ log) r))) (has_number own d log ps r q)
    ∙ ap (λ (o : Option Pair). is_full (option_map (landed_message own d log) o)) q.pair_is

-- as a receive does whose pair is in the list and came whole
pub fills_with : (own : Own) (d : Deed) (log : List Deed) (is_new : Bool) (ps : List Pair) (r : Receive) (p : Pair) → Touches own d log is_new ps → Member p ps → r.number ≡ p.recv.id.0
    → is_whole own d log p ≡ true → fills own d log ps r ≡ true
fills_with own d log is_new ps r p t m is whole = fills_by own d log ps r (pair_with own d log is_new ps r p t m is) ∙ whole

-- one without such a pair doesn't
pub fills_none : (own : Own) (d : Deed) (log : List Deed) (ps : List Pair) (r : Receive) → is_one_of (numbers_of ps) (landed_receive own d log r) ≡ false → fills own d log ps r ≡ false
unfolding is_filled_one
fills_none own d log ps r none = ap (λ (b : Bool). b && is_full (option_map (landed_message own d log) (pair_of own (d ∷ log) r))) none

-- a receive ends where it fills
fills_ends : (own : Own) (d : Deed) (log : List Deed) (is_new : Bool) (ps : List Pair) (r : Receive) → Touches own d log is_new ps
    → has_ended (whole_ends own d log ps) r.number ≡ fills own d log ps r
unfolding has_ended ended_recv
fills_ends own d log is_new ps r t =
    let whole = is_whole own d log in
    let named : RecvEnd → Bool = λ e. ended_recv e == r.number in
    same_test (list_any named (whole_ends own d log ps)) (fills own d log ps r)
    (λ h.
    let a = list_any_member named (whole_ends own d log ps) h in
    let b = member-map Filled a.0 (filter whole ps) a.1 in
    let c = member-filter whole b.0 ps b.1 in
    let number : b.0.recv.id.0 ≡ r.number = ap ended_recv b.2 ∙ eqb-true (ended_recv a.0) r.number a.2 in
    fills_with own d log is_new ps r b.0 t c.0 (sym number) c.1)
    (λ h.
    elim (has_pair own d log is_new ps r t) [
      | inl q ↦
          member_list_any named (Filled q.pair) (whole_ends own d log ps)
          (map-member Filled q.pair (filter whole ps) (filter-member whole q.pair ps q.member (sym (fills_by own d log ps r q) ∙ h)))
          (eq-eqb q.pair.recv.id.0 r.number (sym q.number_is))
      | inr none ↦ absurd (let wrong : true ≡ false = sym h ∙ fills_none own d log ps r none in cc)
    ])

-- ---- the live receives

-- a number of an accepted receive is below their count
number_below : (log : List Deed) (r : Receive) → Member r (receives log) → r.number < length (receives log)
number_below log r m =
    let at = (receive_stands log r m).0 in
    elim (cases_lt r.number (length (receives log))) [
      | inl low ↦ low
      | inr past ↦ absurd (let none = slice_get_past (receives log) r.number past in let wrong : Some r ≡ None = sym at ∙ none in cc)
    ]

-- a receive that has ended was accepted
ended_below : (own : Own) (log : List Deed) (n : ℕ) → LifeLocal own log → own_ended own log n ≡ true → n < length (receives log)
ended_below own log n local h =
    elim (ended_cases own.limits.first (told own log).head log n h) [
      | inl f ↦ (let low = (matching_numbered own.limits.first (told own log).head log).pairs_below f.pair f.member in let is = f.recv_is in omega arith)
      | inr other ↦ elim other [
        | inl w ↦ (let low = (withdrawn_absent own log w.0 local w.1).1 in let is = w.2 in omega arith)
        | inr g ↦ (let low = number_below log g.recv g.accepted in let is = g.recv_is in omega arith)
      ]
    ]

-- so one that a deed accepts has not ended before
new_unended : (own : Own) (d : Deed) (log : List Deed) (r : Receive) → LifeLocal own log → Member r (received_by (receives log) log d) → not (own_ended own log r.number) ≡ true
new_unended own d log r local m =
    ap not (false_unless (own_ended own log r.number) (λ h.
    let low = ended_below own log r.number local h in
    let is = received_number d log r m in
    omega arith))

-- what had not ended before a deed is what is out
out_are : (own : Own) (d : Deed) (log : List Deed) → LifeLocal own log → unended (own_ends own log) (receives (d ∷ log)) ≡ out_with own d log
unfolding receives with_received
out_are own d log local =
    let t : Receive → Bool = λ r. not (own_ended own log r.number) in
    let new = received_by (receives log) log d in
    filter-append t (receives log) new
    ∙ ap (λ (rs : List Receive). unended (own_ends own log) (receives log) ++ rs) (filter_all t new (λ r m. new_unended own d log r local m))
    ∙ ap (λ (rs : List Receive). rs ++ new) (sym (live_are own log))

-- the live receives after the deed
pub live_settled : (own : Own) (d : Deed) (log : List Deed) (is_new : Bool) (ps : List Pair) → LifeLocal own (d ∷ log) → IsLanding d → Touches own d log is_new ps
    → own_live_receives own (d ∷ log) ≡ filter (λ (r : Receive). not (fills own d log ps r)) (out_with own d log)
live_settled own d log is_new ps local i t =
    live_after own d log
    ∙ ap (filter (λ (r : Receive). not (has_ended (new_ends own d log) r.number))) (out_are own d log local.0)
    ∙ ap (λ (es : List RecvEnd). filter (λ (r : Receive). not (has_ended es r.number)) (out_with own d log)) (ends_are own d log is_new ps i t)
    ∙ filter_where (λ (r : Receive). not (has_ended (whole_ends own d log ps) r.number)) (λ (r : Receive). not (fills own d log ps r)) (out_with own d log)
    (λ r m. ap not (fills_ends own d log is_new ps r t))
