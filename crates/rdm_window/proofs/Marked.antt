-- Marks beside the ring that keeps them.
use Rattle.std.proofs.Common.{◌≡◌, refl, sym, ap, ◌∙◌, ℕ, ◌+◌, ◌%◌, ◌^◌, ◌<◌, ◌≤◌, Bool, true, false, List, [], length, get_or, arith, inl, inr, true≢false}
use Rattle.std.specs.Prelude.{cond, ◌&&◌, nat_eq, replicate, slice_set}
use Rattle.std.specs.Ordering.{nat_cmp}
use Rattle.std.specs.List.{list_any}
use Rattle.std.specs.FinSet as set
use Rattle.std.proofs.lemmas.Bool.{cases_lt, le-ltb}
use Rattle.rdm_window.specs.Numbers.{numbers_where}
use Rattle.rdm_window.specs.Marks.{Marks, ring_size, flag_of, has, is_marked, marked_of, IsRing, TakesOut, none_marked, with_mark, passed}
use Rattle.rdm_window.proofs.Sets.{contains-where, contains-below, where_none, where_insert, where_remove}
use Rattle.rdm_window.proofs.Flags.{near, far, marked_near, marked_far, marked_passed, marked_none, marked_same, no_flag}

-- marks from where the ring begins, the marked numbers and the room
abbrev marks_in : ℕ → ℕ → set.FinSet nat_cmp → Marks
marks_in room next marked = record { next = next; marked = marked; room = room }

-- the marks of a ring
abbrev pub marks_of : ℕ → List Bool → List ℕ → ℕ → Marks
marks_of next flags later room = marks_in room next (marked_of next flags later)

-- the marks are the same where the later numbers are
pub marks_same : (next : ℕ) (flags : List Bool) (later rest : List ℕ) (room : ℕ) → ((q : ℕ) → has rest q ≡ has later q) → marks_of next flags rest room ≡ marks_of next flags later room
marks_same next flags later rest room same =
    ap (λ p. marks_in room next (numbers_where (2 ^ 32) p)) (λ i q. marked_same next flags later rest q (same q) i)

-- an empty set has no number
none_of_empty : (later : List ℕ) → later ≡ [] → (k : ℕ) → has later k ≡ false
none_of_empty later empty k = ap (list_any (nat_eq k)) empty

-- what is not true is false
not_set : (b : Bool) → (b ≡ true → ⊥) → b ≡ false
not_set true h = absurd (h refl)
not_set false h = refl

-- a new ring marks nothing
pub new_marks : (next : ℕ) (later : List ℕ) → later ≡ [] → marks_of next (replicate ring_size false) later 0 ≡ none_marked next
new_marks next later empty =
    ap (marks_in 0 next) (where_none (2 ^ 32) _ (λ q h. marked_none next later (none_of_empty later empty) q))

module _ (next : ℕ) (flags : List Bool) (later : List ℕ) (room : ℕ) (m : Marks) (is : marks_of next flags later room ≡ m) where
  -- a number of the ring is marked where its flag is set
  pub has_near : (k i : ℕ) → m.next ≤ k → k < next + ring_size → k < 2 ^ 32 → i ≡ k % ring_size → get_or flags i false ≡ set.contains m.marked k
  has_near k i from to fits place =
      let above : next ≤ k = rw (ap (λ (n : Marks). n.next) is) from in
      ap (λ j. get_or flags j false) place
      ∙ sym (near next flags later k above to)
      ∙ sym (contains-below (2 ^ 32) (is_marked next flags later) k fits)
      ∙ ap (λ (n : Marks). set.contains n.marked k) is

  -- a later number is marked where it is in the set
  pub has_far : (k : ℕ) → next + ring_size ≤ k → k < 2 ^ 32 → has later k ≡ set.contains m.marked k
  has_far k from fits =
      sym (far next flags later k from)
      ∙ sym (contains-below (2 ^ 32) (is_marked next flags later) k fits)
      ∙ ap (λ (n : Marks). set.contains n.marked k) is

  -- one more number of the ring is marked
  pub mark_near : (k i : ℕ) → length flags ≡ ring_size → m.next ≤ k → k < next + ring_size → k < 2 ^ 32 → i ≡ k % ring_size → marks_of next (slice_set flags i true) later room ≡ with_mark m k
  mark_near k i full from to fits place =
      let above : next ≤ k = rw (ap (λ (n : Marks). n.next) is) from in
      ap (marks_in room next) (where_insert (2 ^ 32) _ _ k fits (λ q h. marked_near next flags later k i full above to place q))
      ∙ ap (λ n. with_mark n k) is

  -- one more later number is marked
  pub mark_far : (more : List ℕ) (k : ℕ) → next + ring_size ≤ k → k < 2 ^ 32 → ((q : ℕ) → has more q ≡ cond (nat_eq k q) true (has later q)) → marks_of next flags more room ≡ with_mark m k
  mark_far more k from fits adds =
      ap (marks_in room next) (where_insert (2 ^ 32) _ _ k fits (λ q h. marked_far next flags later more k from adds q))
      ∙ ap (λ n. with_mark n k) is

  -- the ring begins one later
  pub pass_first : (rest : List ℕ) (i : ℕ) (flag : Bool) → length flags ≡ ring_size → i ≡ next % ring_size → TakesOut later rest (next + ring_size) flag → marks_of (next + 1) (slice_set flags i flag) rest room ≡ passed m
  pass_first rest i flag full place out =
      ap (marks_in room (next + 1)) (where_remove (2 ^ 32) _ _ next (λ q h. marked_passed next flags later rest i flag full place out q h))
      ∙ ap passed is

  -- the first number of the ring is marked where its flag is set
  pub has_first : (i : ℕ) → IsRing next flags later → i ≡ next % ring_size → get_or flags i false ≡ set.contains m.marked m.next
  has_first i ring place =
      elim (cases_lt next (2 ^ 32)) [
        | inl fits ↦
            (let from : m.next ≤ next = rw (ap (λ (n : Marks). n.next) is) (omega arith) in
            has_near next i from (omega arith) fits place ∙ ap (set.contains m.marked) (ap (λ (n : Marks). n.next) is))
        | inr past ↦
            ap (λ j. get_or flags j false) place
            ∙ not_set (flag_of flags next) (λ flagged. let fits : next < 2 ^ 32 = ring.numbers next (omega arith) (omega arith) flagged in omega arith)
            ∙ sym (contains-where (2 ^ 32) (is_marked next flags later) next ∙ ap (λ b. b && is_marked next flags later next) (le-ltb next (2 ^ 32) past))
            ∙ ap (λ (n : Marks). set.contains n.marked n.next) is
      ]

-- a new ring is one
pub new_ring : (next : ℕ) (later : List ℕ) → next < 2 ^ 32 → later ≡ [] → IsRing next (replicate ring_size false) later
new_ring next later fits empty =
    record {
      fits = omega arith;
      later_on = λ k there. absurd (true≢false (sym there ∙ none_of_empty later empty k));
      numbers = λ k from to flagged. absurd (true≢false (sym flagged ∙ no_flag k));
    }
