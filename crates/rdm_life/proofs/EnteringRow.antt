-- The numbers of a life that enter by a deed are in a row from its next number on.
use Rattle.std.proofs.Common.{◌≡◌, ℕ, zero, suc, ◌+◌, ◌-◌, ◌<◌, ◌≤◌, Bool, true, false, not, ◌&&◌, List, [], ◌∷◌, ◌++◌, map, length, drop, Option, Some, None, refl, arith, le-leb, inl, sym, ◌∙◌, ap, length-append, append-nil, append_assoc}
use Rattle.std.specs.Prelude.{◌==◌, is_some, nat_le}
use Rattle.std.proofs.lemmas.Bool.{and_parts, and_from, eqb-true}
use Rattle.std.proofs.lemmas.List.{length-map, map-append}
use Rattle.rdm_lists.specs.Lists.{Member, or_else, below, each_below}
use Rattle.rdm_lists.proofs.Below.{each_below_from}
use Rattle.rdm_lists.proofs.Members.{member-append_left, member-append_right, filter-member}
use Rattle.rdm_lists.proofs.Same.{map_same}
use Rattle.rdm_pkt.specs.Heads.{head_of}
use Rattle.rdm_lists.proofs.Options.{some_of, then_some_parts}
use Rattle.rdm_num.specs.Lives.{same_life}
use Rattle.rdm_num.specs.declared.numbers.Life.{Life}
use Rattle.rdm_num.specs.declared.head.Head.{Head}
use Rattle.rdm_num.proofs.Lives.{same_life-true}
use Rattle.rdm_pkt.specs.declared.Packet.TheVariants.{Rtm}
use Rattle.rdm_model.specs.Completions.{Name, named_by, heard_names}
use Rattle.rdm_model.specs.Deeds.{Deed, Took, Spelled}
use Rattle.rdm_model.specs.Heard.{heard_head, head_by, is_heard, heard_below, is_next_message, entering}
use Rattle.rdm_law.proofs.Matching.Enters.{Reach, entering_joins}
use Rattle.rdm_life.specs.Receiving.{heard_run}
use Rattle.rdm_life.proofs.MessageFacts.{named}
use Rattle.rdm_life.proofs.Placed.{next_number_is}

-- the numbers below a sum
below_sum : (a b : ℕ) → below (a + b) ≡ below a ++ map (λ k. a + k) (below b)
unfolding below
below_sum a zero = (let e : a + 0 ≡ a = omega arith in ap below e) ∙ sym (append-nil (below a))
below_sum a (suc b) =
    let e : a + suc b ≡ suc (a + b) = omega arith in
    ap below e ∙ ap (λ (xs : List ℕ). xs ++ (a + b) ∷ []) (below_sum a b) ∙ append_assoc (below a) (map (λ k. a + k) (below b)) ((a + b) ∷ [])
    ∙ ap (λ (xs : List ℕ). below a ++ xs) (sym (map-append (λ k. a + k) (below b) (b ∷ [])))

-- a map after a map
map_map : (f g : ℕ → ℕ) (xs : List ℕ) → map f (map g xs) ≡ map (λ k. f (g k)) xs
map_map f g [] = refl
map_map f g (x ∷ xs) = ap (λ (ys : List ℕ). f (g x) ∷ ys) (map_map f g xs)

-- what is the same after the same list is the same
same_rest : (xs ys zs : List ℕ) → xs ++ ys ≡ xs ++ zs → ys ≡ zs
same_rest [] ys zs e = e
same_rest (x ∷ xs) ys zs e = same_rest xs ys zs (ap (drop 1) e)

-- the count of numbers below a bound
pub below_count : (n : ℕ) → length (below n) ≡ n
unfolding below
below_count zero = refl
below_count (suc n) = (let e = below_count n in let l = length-append (below n) (n ∷ []) in omega arith)

-- a log reaches no less far than before a deed
pub reach_grows : (first : ℕ) (d : Deed) (before : List Deed) (source : Life) (r : Reach first before source) (s : Reach first (d ∷ before) source) → r.count ≤ s.count
reach_grows first d before source r s =
    let joins = entering_joins first d before source r s in
    let a = ap (λ (xs : List ℕ). length xs) joins in
    let b = length-append (map (λ k. first + k) (below r.count)) (entering first d before source) in
    let c = length-map (below r.count) (λ k. first + k) in
    let e = length-map (below s.count) (λ k. first + k) in
    let f = below_count r.count in
    let g = below_count s.count in
    omega arith

-- what enters
pub entering_row : (first : ℕ) (d : Deed) (before : List Deed) (source : Life) (r : Reach first before source) (s : Reach first (d ∷ before) source)
    → entering first d before source ≡ map (λ k. first + r.count + k) (below (s.count - r.count))
entering_row first d before source r s =
    let le = reach_grows first d before source r s in
    let f : ℕ → ℕ = λ k. first + k in
    let split : r.count + (s.count - r.count) ≡ s.count = omega arith in
    let rest : map f (below s.count) ≡ map f (below r.count) ++ map (λ k. first + r.count + k) (below (s.count - r.count)) =
    ap (λ (n : ℕ). map f (below n)) (sym split) ∙ ap (map f) (below_sum r.count (s.count - r.count))
    ∙ map-append f (below r.count) (map (λ k. r.count + k) (below (s.count - r.count)))
    ∙ ap (λ (xs : List ℕ). map f (below r.count) ++ xs)
    (map_map f (λ k. r.count + k) (below (s.count - r.count)) ∙ map_same (λ k. first + (r.count + k)) (λ k. first + r.count + k) (below (s.count - r.count)) (λ k. omega arith)) in
    same_rest (map f (below r.count)) (entering first d before source) (map (λ k. first + r.count + k) (below (s.count - r.count))) (entering_joins first d before source r s ∙ rest)

-- the number after those that a log reaches is the next one
pub reach_next : (first : ℕ) (log : List Deed) (source : Life) (r : Reach first log source) → is_next_message first log source (first + r.count) ≡ true
unfolding is_next_message heard_below
reach_next first log source r =
    let n = first + r.count in
    and_from (nat_le first n && each_below (λ k. is_heard log source (first + k)) (n - first)) (not (is_heard log source n))
    (and_from (nat_le first n) (each_below (λ k. is_heard log source (first + k)) (n - first)) (le-leb first n (omega arith))
    (each_below_from (λ k. is_heard log source (first + k)) (n - first) (λ k less. r.heard k (omega arith))))
    (ap not r.stops)

-- so is each number that is next
pub next_is_reach : (first : ℕ) (log : List Deed) (source : Life) (r : Reach first log source) (next : ℕ) → is_next_message first log source next ≡ true → next ≡ first + r.count
next_is_reach first log source r next is = eqb-true next (first + r.count) (next_number_is first log source next (first + r.count) is ∙ reach_next first log source r)

-- a run of numbers that were heard of, up to one that was not
pub run_is : (most : ℕ) (heard : ℕ → Bool) (from count : ℕ) → ((k : ℕ) → k < count → heard (from + k) ≡ true) → heard (from + count) ≡ false → count ≤ most → heard_run most heard from ≡ count
unfolding heard_run
run_is zero heard from count there stops enough = omega arith
run_is (suc most) heard from zero there stops enough =
    let none : heard from ≡ false = (let e : from ≡ from + 0 = omega arith in ap heard e ∙ stops) in
    rw none
run_is (suc most) heard from (suc count) there stops enough =
    let first : heard from ≡ true = (let e : from ≡ from + 0 = omega arith in ap heard e ∙ there 0 (omega arith)) in
    let rest = run_is most heard (from + 1) count (λ k less. (let e : from + 1 + k ≡ from + suc k = omega arith in ap heard e ∙ there (suc k) (omega arith))) (let e : from + 1 + count ≡ from + suc count = omega arith in ap heard e ∙ stops) (omega arith) in
    rw (first, rest)

-- ---- how many numbers may enter

-- a deed that is the first to tell of a message names it
new_name : (before : List Deed) (d : Deed) (source : Life) (n : ℕ) → heard_head before source n ≡ None → (h : Head) → head_by source n d ≡ Some h → Member (named source n) (named_by before d)
unfolding head_by named_by is_heard
new_name before (Took from (Spelled (Rtm number tag confirm opt form))) source n none h is =
    let p = then_some_parts (same_life from source && number.0 == n) (head_of tag confirm opt form) h is in
    let q = and_parts (same_life from source) (number.0 == n) p.0 in
    let life = same_life-true from source q.0 in
    let no = eqb-true number.0 n q.1 in
    let same : named from number.0 ≡ named source n = ap (λ (l : Life). named l number.0) life ∙ ap (named source) no in
    let unheard : not (is_some (heard_head before from number.0)) ≡ true =
    ap (λ (l : Life). not (is_some (heard_head before l number.0))) life ∙ ap (λ (k : ℕ). not (is_some (heard_head before source k))) no ∙ ap (λ (o : Option Head). not (is_some o)) none in
    filter-member (λ (m : Name). not (is_some (heard_head before m.life m.number))) (named source n) (named from number.0 ∷ []) (inl same)
    (ap (λ (m : Name). not (is_some (heard_head before m.life m.number))) (sym same) ∙ unheard)
new_name before _ source n none h is = cc

-- a message that was heard of is among those that were
pub heard_name : (log : List Deed) (source : Life) (n : ℕ) → is_heard log source n ≡ true → Member (named source n) (heard_names log)
unfolding is_heard heard_head heard_names or_else
heard_name [] source n h = cc
heard_name (d ∷ before) source n h =
    (elim (heard_head before source n) as (λ o. heard_head before source n ≡ o → is_some (or_else o (head_by source n d)) ≡ true → Member (named source n) (heard_names before ++ named_by before d)) [
      | Some x ↦ λ is k. member-append_left (named source n) (heard_names before) (named_by before d) (heard_name before source n (ap is_some is))
      | None ↦ λ is k. member-append_right (named source n) (heard_names before) (named_by before d) ((let t = some_of (head_by source n d) k in new_name before d source n is t.0 t.1))
    ]) refl h
