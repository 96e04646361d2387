-- Marked numbers beside the flags and the set that keep them.
use Rattle.std.proofs.Common.{◌≡◌, refl, sym, ap, ◌∙◌, ℕ, ◌+◌, ◌%◌, ◌^◌, ◌<◌, ◌≤◌, Bool, true, false, List, length, arith, inl, inr}
use Rattle.std.specs.Prelude.{cond, not, ◌&&◌, ◌||◌, nat_eq, nat_lt, nat_le, if◌then◌else◌, replicate, slice_set}
use Rattle.std.specs.Cmp.{nat_eq_equiv}
use Rattle.std.proofs.lemmas.Bool.{cases_lt, cases_eq, lt-ltb, le-ltb, le-leb, lt-leb, ne_eqb, eq-eqb}
use Rattle.std.proofs.lemmas.List.{get_or-set_other, get_or-replicate}
use Rattle.std.proofs.lemmas.Grind.{get_or-set_at}
use Rattle.rdm_window.specs.Marks.{ring_size, flag_of, has, is_marked, TakesOut}

module _ (next : ℕ) (flags : List Bool) (later : List ℕ) where
  -- a number before the ring is not marked
  before : (q : ℕ) → q < next → is_marked next flags later q ≡ false
  unfolding is_marked
  before q h = ap (λ b. b && (if nat_lt q (next + ring_size) then flag_of flags q else has later q)) (lt-leb next q h)

  -- a number of the ring is marked where its flag is set
  pub near : (q : ℕ) → next ≤ q → q < next + ring_size → is_marked next flags later q ≡ flag_of flags q
  unfolding is_marked
  near q h k = λ i. le-leb next q h i && (if lt-ltb q (next + ring_size) k i then flag_of flags q else has later q)

  -- a later number is marked where it is in the set
  pub far : (q : ℕ) → next + ring_size ≤ q → is_marked next flags later q ≡ has later q
  unfolding is_marked
  far q h =
      let from : next ≤ q = omega arith in
      λ i. le-leb next q from i && (if le-ltb q (next + ring_size) h i then flag_of flags q else has later q)

-- a number is marked as it was where it is a later one as it was
pub marked_same : (next : ℕ) (flags : List Bool) (later rest : List ℕ) (q : ℕ) → has rest q ≡ has later q → is_marked next flags rest q ≡ is_marked next flags later q
unfolding is_marked
marked_same next flags later rest q same = ap (λ b. nat_le next q && (if nat_lt q (next + ring_size) then flag_of flags q else b)) same

-- two numbers of the ring with one place are one number
pub one_place : (next a b : ℕ) → next ≤ a → a < next + ring_size → next ≤ b → b < next + ring_size → a % ring_size ≡ b % ring_size → a ≡ b
one_place next a b h k i j e = omega arith

-- the flag of the number at the place that was written
pub flag_here : (flags : List Bool) (i q : ℕ) (b : Bool) → length flags ≡ ring_size → i < ring_size → q % ring_size ≡ i → flag_of (slice_set flags i b) q ≡ b
flag_here flags i q b full inside here = get_or-set_at flags i (q % ring_size) b false here (omega arith)

-- the flag of another number
pub flag_elsewhere : (flags : List Bool) (i q : ℕ) (b : Bool) → (q % ring_size ≡ i → ⊥) → flag_of (slice_set flags i b) q ≡ flag_of flags q
flag_elsewhere flags i q b apart = get_or-set_other flags i (q % ring_size) b false apart

-- no flag of none is set
pub no_flag : (q : ℕ) → flag_of (replicate ring_size false) q ≡ false
no_flag q = get_or-replicate ring_size (q % ring_size) false false (omega arith)

-- one more number of the ring is marked
pub marked_near : (next : ℕ) (flags : List Bool) (later : List ℕ) (k i : ℕ) → length flags ≡ ring_size → next ≤ k → k < next + ring_size → i ≡ k % ring_size → (q : ℕ) → is_marked next (slice_set flags i true) later q ≡ (nat_eq q k || is_marked next flags later q)
marked_near next flags later k i full from to place q =
    elim (cases_lt q next) [
      | inl below ↦
          before next (slice_set flags i true) later q below
          ∙ sym (λ j. ne_eqb q k (omega arith) j || before next flags later q below j)
      | inr above ↦ elim (cases_lt q (next + ring_size)) [
        | inl inside ↦
            near next (slice_set flags i true) later q above inside
            ∙ elim (cases_eq q k) [
              | inl same ↦ flag_here flags i q true full (omega arith) (omega arith) ∙ sym (ap (λ b. b || is_marked next flags later q) (eq-eqb q k same))
              | inr other ↦
                  flag_elsewhere flags i q true (λ e. other (one_place next q k above inside from to (e ∙ place)))
                  ∙ sym (λ j. ne_eqb q k other j || near next flags later q above inside j)
            ]
        | inr past ↦
            far next (slice_set flags i true) later q past
            ∙ sym (λ j. ne_eqb q k (omega arith) j || far next flags later q past j)
      ]
    ]

-- a test of the other side
turned : (k q : ℕ) → nat_eq k q ≡ nat_eq q k
turned k q = nat_eq_equiv.symm k q

-- one or another
cond_is_or : (a b : Bool) → cond a true b ≡ (a || b)
cond_is_or true b = refl
cond_is_or false b = refl

-- one more later number is marked
pub marked_far : (next : ℕ) (flags : List Bool) (later more : List ℕ) (k : ℕ) → next + ring_size ≤ k → ((q : ℕ) → has more q ≡ cond (nat_eq k q) true (has later q)) → (q : ℕ) → is_marked next flags more q ≡ (nat_eq q k || is_marked next flags later q)
marked_far next flags later more k from adds q =
    elim (cases_lt q next) [
      | inl below ↦ before next flags more q below ∙ sym (λ j. ne_eqb q k (omega arith) j || before next flags later q below j)
      | inr above ↦ elim (cases_lt q (next + ring_size)) [
        | inl inside ↦ near next flags more q above inside ∙ sym (λ j. ne_eqb q k (omega arith) j || near next flags later q above inside j)
        | inr past ↦
            far next flags more q past
            ∙ adds q
            ∙ cond_is_or (nat_eq k q) (has later q)
            ∙ (λ j. turned k q j || sym (far next flags later q past) j)
      ]
    ]

-- a conjunct that does not hold
and_not : (a b : Bool) → b ≡ false → not (a && b) ≡ true
and_not true b h = ap not h
and_not false b h = refl

-- the ring begins one later: the place of its first number has the flag of the number that came into the ring
pub marked_passed : (next : ℕ) (flags : List Bool) (later rest : List ℕ) (i : ℕ) (flag : Bool) → length flags ≡ ring_size → i ≡ next % ring_size → TakesOut later rest (next + ring_size) flag → (q : ℕ) → q < 2 ^ 32 → is_marked (next + 1) (slice_set flags i flag) rest q ≡ (not (nat_eq q next) && is_marked next flags later q)
marked_passed next flags later rest i flag full place out q fits =
    elim (cases_lt q next) [
      | inl below ↦
          before (next + 1) (slice_set flags i flag) rest q (omega arith)
          ∙ sym (λ j. not (ne_eqb q next (omega arith) j) && before next flags later q below j)
      | inr above ↦ elim (cases_eq q next) [
        | inl same ↦
            before (next + 1) (slice_set flags i flag) rest q (omega arith)
            ∙ sym (ap (λ b. not b && is_marked next flags later q) (eq-eqb q next same))
        | inr other ↦ elim (cases_lt q (next + ring_size)) [
          | inl inside ↦
              near (next + 1) (slice_set flags i flag) rest q (omega arith) (omega arith)
              ∙ flag_elsewhere flags i q flag (λ e. other (one_place next q next above inside (omega arith) (omega arith) (e ∙ place)))
              ∙ sym (λ j. not (ne_eqb q next other j) && near next flags later q above inside j)
          | inr past ↦ elim (cases_eq q (next + ring_size)) [
            | inl comes ↦
                near (next + 1) (slice_set flags i flag) rest q (omega arith) (omega arith)
                ∙ flag_here flags i q flag full (omega arith) (omega arith)
                ∙ out.answer
                ∙ (λ j. lt-ltb (next + ring_size) (2 ^ 32) (omega arith) j && has later (sym comes j))
                ∙ sym (λ j. not (ne_eqb q next other j) && far next flags later q past j)
            | inr later_on ↦
                far (next + 1) (slice_set flags i flag) rest q (omega arith)
                ∙ out.left q
                ∙ ap (λ b. b && has later q) (and_not (nat_lt (next + ring_size) (2 ^ 32)) (nat_eq q (next + ring_size)) (ne_eqb q (next + ring_size) later_on))
                ∙ sym (λ j. not (ne_eqb q next other j) && far next flags later q past j)
          ]
        ]
      ]
    ]

-- without flags and later numbers nothing is marked
pub marked_none : (next : ℕ) (later : List ℕ) → ((k : ℕ) → has later k ≡ false) → (q : ℕ) → is_marked next (replicate ring_size false) later q ≡ false
marked_none next later none q =
    elim (cases_lt q next) [
      | inl below ↦ before next (replicate ring_size false) later q below
      | inr above ↦ elim (cases_lt q (next + ring_size)) [
        | inl inside ↦ near next (replicate ring_size false) later q above inside ∙ no_flag q
        | inr past ↦ far next (replicate ring_size false) later q past ∙ none q
      ]
    ]
