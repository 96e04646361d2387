-- Of eager deeds: as many messages have an early place as were heard of, but for those that were paired.
use Rattle.std.proofs.Common.{◌≡◌, ℕ, ◌+◌, ◌≤◌, Bool, true, false, cond, not, List, [], ◌∷◌, ◌++◌, length, Option, Some, None, refl, arith, ap, ◌∙◌, sym, subst, inl, inr}
use Rattle.std.specs.Prelude.{◌==◌, ◌&&◌, ◌||◌, filter, is_some}
use Rattle.std.proofs.lemmas.List.{append-nil}
use Rattle.std.specs.Bool.{then_some}
use Rattle.std.specs.List.{list_any}
use Rattle.std.proofs.lemmas.Bool.{and_parts, eqb-true, eq-eqb, and_from, false_from_ne_true}
use Rattle.rdm_lists.specs.Lists.{Member, or_else}
use Rattle.rdm_num.specs.Lives.{same_life}
use Rattle.rdm_num.specs.declared.numbers.Life.{Life}
use Rattle.rdm_num.specs.declared.head.Head.{Head}
use Rattle.rdm_pkt.specs.declared.Packet.TheVariants.{Rtm}
use Rattle.rdm_pkt.specs.Heads.{head_of}
use Rattle.rdm_match.specs.declared.Arrived.{Arrived}
use Rattle.rdm_match.specs.Matcher.{Pair}
use Rattle.rdm_model.specs.Deeds.{Deed, Took, Spelled}
use Rattle.rdm_model.specs.Beginnings.{Own}
use Rattle.rdm_model.specs.Currents.{is_forgotten}
use Rattle.rdm_model.specs.Heard.{head_by, heard_head, is_heard}
use Rattle.rdm_model.specs.Completions.{Name, named_by, heard_names, is_matched, early_count}
use Rattle.rdm_model.specs.Local.{heads_by}
use Rattle.rdm_model.proofs.Matches.{pair_heard}
use Rattle.rdm_ep.specs.Eager.{IsEager}
use Rattle.rdm_ep.proofs.Currents.{never_forgotten}
use Rattle.rdm_ep.proofs.Entered.{heard_stays}
use Rattle.rdm_ep.proofs.Pairs.{own_matching}
use Rattle.rdm_ep.proofs.Early.{count, count_first, one_if, named, at_most_one}
use Rattle.rdm_lists.proofs.Members.{member-append_left, member-append_right, member-append_cases, member-filter}
use Rattle.rdm_lists.proofs.Options.{then_some_parts}
use Rattle.rdm_lists.proofs.Same.{filter_where}
use Rattle.rdm_lists.proofs.Filters.{filter_nothing}
use Rattle.rdm_num.proofs.Lives.{same_life-true, same_life-refl}

-- no two names are of one message
abbrev NamesApart : List Name → Type 0
NamesApart [] = Unit {0}
NamesApart (x ∷ xs) = ((y : Name) → Member y xs → x.life ≡ y.life → x.number ≡ y.number → ⊥) × NamesApart xs

-- names are apart with one more that is new
apart_more : (xs : List Name) (x : Name) → NamesApart xs → ((y : Name) → Member y xs → y.life ≡ x.life → y.number ≡ x.number → ⊥) → NamesApart (xs ++ x ∷ [])
apart_more [] x a h = (λ y m. elim m [ ], tt)
apart_more (z ∷ xs) x a h = (
  λ y m l n. elim (member-append_cases y xs (x ∷ []) m) [
    | inl k ↦ a.0 y k l n
    | inr k ↦ elim k [ inl is ↦ h z (inl refl) (l ∙ ap (λ (w : Name). w.life) (sym is)) (n ∙ ap (λ (w : Name). w.number) (sym is)) | inr never ↦ elim never [ ] ]
  ],
  apart_more xs x a.1 (λ y m. h y (inr m)),
)

-- not, of false
not_parts : (b : Bool) → not b ≡ true → b ≡ false
not_parts true h = cc
not_parts false h = refl

-- something is there with something after it
some_after : {A : Type 0} (o : Option A) (x : A) → is_some (or_else o (Some x)) ≡ true
unfolding or_else
some_after None x = refl
some_after (Some y) x = refl

-- what is named by a deed was not heard of, and is heard of by it
named_new : (before : List Deed) (d : Deed) (m : Name) → Member m (named_by before d) → (is_heard before m.life m.number ≡ false) × (is_heard (d ∷ before) m.life m.number ≡ true)
unfolding named_by is_heard heard_head head_by or_else
named_new before (Took from (Spelled (Rtm number tag confirm opt form))) m k =
    let f = member-filter (λ (x : Name). not (is_heard before x.life x.number)) m (record { life = from; number = number.0 } ∷ []) k in
    let n = not_parts (is_heard before m.life m.number) f.1 in
    elim f.0 [
      | inl is ↦ (
        n,
        subst (λ (x : Name). is_some (or_else (heard_head before x.life x.number) (then_some (same_life from x.life && number.0 == x.number) (head_of tag confirm opt form))) ≡ true) is
            (let s = same_life-refl from in let e : (number.0 == number.0) ≡ true = eq-eqb number.0 number.0 refl in rw (s, e) (some_after (heard_head before from number.0) _)),
      )
      | inr never ↦ elim never [ ]
    ]
named_new before _ m k = elim k [ ]

-- a deed names one message at most
named_single : (before : List Deed) (d : Deed) (P : List Name → Type 0) → P [] → ((x : Name) → Member x (named_by before d) → P (x ∷ [])) → P (named_by before d)
unfolding named_by
named_single before (Took from (Spelled (Rtm number tag confirm opt form))) P none one =
    let x : Name = record { life = from; number = number.0 } in
    (elim (not (is_heard before from number.0)) as (λ b. ((y : Name) → Member y (cond b (x ∷ []) []) → P (y ∷ [])) → P (cond b (x ∷ []) [])) [
      | true ↦ λ f. f x (inl refl)
      | false ↦ λ f. none
    ]) one
named_single before _ P none one = none

-- what was named was heard of
pub names_heard : (log : List Deed) (m : Name) → Member m (heard_names log) → is_heard log m.life m.number ≡ true
unfolding heard_names
names_heard [] m k = elim k [ ]
names_heard (d ∷ before) m k =
    elim (member-append_cases m (heard_names before) (named_by before d) k) [
      | inl a ↦ heard_stays d before m.life m.number (names_heard before m a)
      | inr a ↦ (named_new before d m a).1
    ]

-- the names of a log are apart
names_apart : (log : List Deed) → NamesApart (heard_names log)
unfolding heard_names
names_apart [] = tt
names_apart (d ∷ before) =
    let earlier = names_apart before in
    named_single before d (λ xs. NamesApart (heard_names before ++ xs)) (subst NamesApart (sym (append-nil (heard_names before))) earlier)
    (λ x m. apart_more (heard_names before) x earlier (λ y k l n.
    let h = names_heard before y k in
    let f = (named_new before d x m).0 in
    let g : is_heard before x.life x.number ≡ true = subst (λ (l : Life). is_heard before l x.number ≡ true) l (subst (λ (i : ℕ). is_heard before y.life i ≡ true) n h) in
    cc))

-- a name by its life and number
name_is : (a b : Life) (n k : ℕ) → a ≡ b → n ≡ k → ◌≡◌ {A = Name} (record { life = a; number = n }) (record { life = b; number = k })
name_is a b n k e f = rw (e, f) refl

-- a deed that tells of a message first names it
first_named : (before : List Deed) (d : Deed) (source : Life) (n : ℕ) (h : Head) → heard_head before source n ≡ None → or_else None (head_by source n d) ≡ Some h
    → Member (record { life = source; number = n }) (named_by before d)
unfolding or_else head_by named_by is_heard
first_named before (Took from (Spelled (Rtm number tag confirm opt form))) source n h none is =
    let t = then_some_parts (same_life from source && number.0 == n) (head_of tag confirm opt form) h is in
    let p = and_parts (same_life from source) (number.0 == n) t.0 in
    let l = same_life-true from source p.0 in
    let e = eqb-true number.0 n p.1 in
    let f : heard_head before from number.0 ≡ None = subst (λ (i : ℕ). heard_head before from i ≡ None) (sym e) (subst (λ (x : Life). heard_head before x n ≡ None) (sym l) none) in
    rw f (inl (name_is from source number.0 n l e))
first_named before _ source n h none is = cc

-- what was heard of was named
heard_named : (log : List Deed) (source : Life) (n : ℕ) (h : Head) → heard_head log source n ≡ Some h → Member (record { life = source; number = n }) (heard_names log)
unfolding heard_head heard_names
heard_named [] source n h is = cc
heard_named (d ∷ before) source n h is =
    (elim (heard_head before source n) as (λ o. heard_head before source n ≡ o → or_else o (head_by source n d) ≡ Some h → Member (record { life = source; number = n }) (heard_names before ++ named_by before d)) [
      | Some x ↦ λ e k. member-append_left (record { life = source; number = n }) (heard_names before) (named_by before d) (heard_named before source n x e)
      | None ↦ λ e k. member-append_right (record { life = source; number = n }) (heard_names before) (named_by before d) (first_named before d source n h e k)
    ]) refl is

-- a name that is there once is counted once
count_one : (a : Arrived) (xs : List Name) (x : Name) → NamesApart xs → Member x xs → x.life ≡ a.life → x.number ≡ a.no.0 → count (named a) xs ≡ 1
unfolding one_if
count_one a [] x apart m l n = elim m [ ]
count_one a (y ∷ ys) x apart (inl is) l n =
    let t : named a y ≡ true = subst (λ (z : Name). named a z ≡ true) (sym is) (and_from (same_life a.life x.life) (a.no.0 == x.number) (subst (λ (z : Life). same_life a.life z ≡ true) (sym l) (same_life-refl a.life)) (eq-eqb a.no.0 x.number (sym n))) in
    let none : filter (named a) ys ≡ [] =
    filter_nothing (named a) ys (λ z k. false_from_ne_true (named a z) (λ e.
    let p = and_parts (same_life a.life z.life) (a.no.0 == z.number) e in
    apart.0 z k (ap (λ (w : Name). w.life) is ∙ l ∙ same_life-true a.life z.life p.0) (ap (λ (w : Name). w.number) is ∙ n ∙ eqb-true a.no.0 z.number p.1))) in
    let c = count_first (named a) y ys in
    let v = ap one_if t in
    let w = ap length none in
    omega arith
count_one a (y ∷ ys) x apart (inr m) l n =
    let f : named a y ≡ false = false_from_ne_true (named a y) (λ e.
    let p = and_parts (same_life a.life y.life) (a.no.0 == y.number) e in
    apart.0 x m (sym (same_life-true a.life y.life p.0) ∙ sym l) (sym (eqb-true a.no.0 y.number p.1) ∙ sym n)) in
    let c = count_first (named a) y ys in
    let v = ap one_if f in
    let r = count_one a ys x apart.1 m l n in
    omega arith

-- over all names, how many of the pairs have each
unfoldable pairs_of_names : List Pair → List Name → ℕ
pairs_of_names ps [] = 0
pairs_of_names ps (x ∷ xs) = count (λ (p : Pair). named p.message x) ps + pairs_of_names ps xs

-- with one pair more, each name that it has counts once more
pairs_more : (p : Pair) (ps : List Pair) (xs : List Name) → pairs_of_names (p ∷ ps) xs ≡ count (named p.message) xs + pairs_of_names ps xs
unfolding pairs_of_names
pairs_more p ps [] = refl
pairs_more p ps (x ∷ xs) =
    let r = pairs_more p ps xs in
    let c = count_first (λ (q : Pair). named q.message x) p ps in
    let d = count_first (named p.message) x xs in
    omega arith

-- no pairs, no names
pairs_none : (xs : List Name) → pairs_of_names [] xs ≡ 0
unfolding pairs_of_names
pairs_none [] = refl
pairs_none (x ∷ xs) = let r = pairs_none xs in omega arith

-- over all names there are as many as pairs
pairs_all : (ps : List Pair) (xs : List Name) → ((p : Pair) → Member p ps → count (named p.message) xs ≡ 1) → pairs_of_names ps xs ≡ length ps
pairs_all [] xs h = pairs_none xs
pairs_all (p ∷ ps) xs h =
    let r = pairs_all ps xs (λ q m. h q (inr m)) in
    let m = pairs_more p ps xs in
    let o = h p (inl refl) in
    omega arith

-- a name that pairs have once at most is matched, or none has it
matched_or_not : (ps : List Pair) (x : Name) → count (λ (p : Pair). named p.message x) ps ≤ 1 → count (λ (p : Pair). named p.message x) ps + one_if (not (is_matched ps x)) ≡ 1
unfolding is_matched one_if
matched_or_not [] x h = refl
matched_or_not (p ∷ ps) x h =
    let c = count_first (λ (q : Pair). named q.message x) p ps in
    (elim (named p.message x) as (λ b. named p.message x ≡ b → count (λ (q : Pair). named q.message x) (p ∷ ps) + one_if (not (b || list_any (λ (q : Pair). named q.message x) ps)) ≡ 1) [
      | true ↦ λ e. (let v = ap one_if e in omega arith)
      | false ↦ λ e. (let v = ap one_if e in let r = matched_or_not ps x (omega arith) in omega arith)
    ]) refl

-- the names that no pair has, and the pairs
unmet_and_pairs : (ps : List Pair) (xs : List Name) → ((x : Name) → count (λ (p : Pair). named p.message x) ps ≤ 1) → count (λ (x : Name). not (is_matched ps x)) xs + pairs_of_names ps xs ≡ length xs
unfolding pairs_of_names
unmet_and_pairs ps [] h = refl
unmet_and_pairs ps (x ∷ xs) h =
    let r = unmet_and_pairs ps xs h in
    let c = count_first (λ (y : Name). not (is_matched ps y)) x xs in
    let m = matched_or_not ps x (h x) in
    omega arith

-- as many messages have an early place as were heard of and not paired
pub early_is : (own : Own) (log : List Deed) → IsEager own log → early_count own (heads_by log) log + length (own_matching own log).pairs ≡ length (heard_names log)
unfolding early_count
early_is own log h =
    let ps = (own_matching own log).pairs in
    let xs = heard_names log in
    let same : filter (λ (m : Name). not (is_matched ps m) && not (is_forgotten log m.life)) xs ≡ filter (λ (m : Name). not (is_matched ps m)) xs =
    filter_where (λ (m : Name). not (is_matched ps m) && not (is_forgotten log m.life)) (λ (m : Name). not (is_matched ps m)) xs
    (λ m n. ap (λ (b : Bool). not (is_matched ps m) && not b) (never_forgotten own log m.life h)
    ∙ elim (not (is_matched ps m)) as (λ b. (b && true) ≡ b) [ true ↦ refl | false ↦ refl ]) in
    let once : (p : Pair) → Member p ps → count (named p.message) xs ≡ 1 =
    λ p m.
    let k = pair_heard own.limits.first (heads_by log) log p m in
    count_one p.message xs (record { life = p.message.life; number = p.message.no.0 }) (names_apart log) (heard_named log p.message.life p.message.no.0 k.0 k.1) refl refl in
    let all = pairs_all ps xs once in
    let u = unmet_and_pairs ps xs (λ x. let o = (at_most_one own log x h).most in omega arith) in
    let l = ap length same in
    omega arith
