-- What a window tells beside the ring that keeps it.
use Rattle.std.proofs.Common.{◌≡◌, refl, sym, ap, subst, ◌∙◌, ℕ, ◌+◌, ◌-◌, ◌^◌, ◌<◌, ◌≤◌, true, false, arith, inl, inr, true≢false}
use Rattle.std.specs.Prelude.{Result, Ok, Err, OnOk, OnErr, ◌&&◌, ◌||◌, nat_eq, nat_lt, nat_le, if◌then◌else◌}
use Rattle.std.specs.Cmp.{nat_cmp_total, unsigned_tied, first_so, second_so}
use Rattle.std.specs.Ordering.{nat_cmp}
use Rattle.std.specs.FinSet as set
use Rattle.std.proofs.lemmas.Bool.{cases_lt, lt-ltb, le-ltb, le-leb, lt-leb, ltb-true, leb-true, ne_eqb}
use Rattle.rdm_lists.proofs.Bools.{or_true}
use Rattle.rdm_window.specs.declared.window.Heard.TheVariants.{New, Waiting, Entered}
use Rattle.rdm_window.specs.Window.{Hearing, none_heard, state_of, after_hear, with_room, with_spent, IsLeastMissing, NextIsTold}
use Rattle.rdm_window.specs.Marks.{Marks, IsAdvanced, none_marked, with_mark, with_room as marks_room, with_spent as marks_spent}
use Rattle.rdm_window.specs.HeardFlags.{is_heard, heard_of, IsWindow}
use Rattle.rdm_window.proofs.Sets.{contains-where, contains-below, where_none, where_insert, and_false}

-- what a window heard
abbrev pub hearing_of : ℕ → Marks → Hearing
hearing_of first ring = record { first = first; heard = heard_of first ring; next = ring.next; room = ring.room }

-- a number is marked, with a reservation
abbrev pub one_marked : Marks → ℕ → Marks
one_marked ring n = marks_spent (with_mark ring n)

-- a reservation that is made and spent
pub spent_room : (a : Hearing) → with_spent (with_room a) ≡ a
spent_room a = ap (λ room. record a { room = room }) (let e : a.room + 1 - 1 ≡ a.room = omega arith in e)

module _ (first : ℕ) (ring : Marks) where
  -- a number before the first one was not heard
  before : (q : ℕ) → q < first → is_heard first ring q ≡ false
  unfolding is_heard
  before q h = ap (λ b. b && (nat_lt q ring.next || set.contains ring.marked q)) (lt-leb first q h)

  -- a number before the next one was heard
  entered : (q : ℕ) → first ≤ q → q < ring.next → is_heard first ring q ≡ true
  unfolding is_heard
  entered q h k = λ i. le-leb first q h i && (lt-ltb q ring.next k i || set.contains ring.marked q)

  -- a later number was heard where it is marked
  later : (q : ℕ) → first ≤ q → ring.next ≤ q → is_heard first ring q ≡ set.contains ring.marked q
  unfolding is_heard
  later q h k = λ i. le-leb first q h i && (le-ltb q ring.next k i || set.contains ring.marked q)

  -- a number that was heard is not before the first one
  from_first : (q : ℕ) → is_heard first ring q ≡ true → first ≤ q
  unfolding is_heard
  from_first q h = leb-true first q (first_so (nat_le first q) (nat_lt q ring.next || set.contains ring.marked q) h)

  -- the next number of a window is its least missing one
  pub least_missing : IsWindow first ring → IsLeastMissing (hearing_of first ring)
  least_missing w =
      record {
        from = w.from;
        before = λ k from to. (contains-below (2 ^ 32) (is_heard first ring) k (let fits : ring.next ≤ 2 ^ 32 = w.fits in omega arith) ∙ entered k from to);
        missing =
            (contains-where (2 ^ 32) (is_heard first ring) ring.next
            ∙ ap (λ b. nat_lt ring.next (2 ^ 32) && b) (later ring.next w.from (omega arith) ∙ w.missing)
            ∙ and_false (nat_lt ring.next (2 ^ 32)));
        numbers = λ k there.
            (let both = sym (contains-where (2 ^ 32) (is_heard first ring) k) ∙ there in
            (from_first k (second_so (nat_lt k (2 ^ 32)) (is_heard first ring k) both), ltb-true k (2 ^ 32) (first_so (nat_lt k (2 ^ 32)) (is_heard first ring k) both)));
      }

  -- a later number of 32 bits was heard where it is marked
  pub heard_later : (q : ℕ) → first ≤ q → ring.next ≤ q → q < 2 ^ 32 → set.contains (heard_of first ring) q ≡ set.contains ring.marked q
  heard_later q from past fits = contains-below (2 ^ 32) (is_heard first ring) q fits ∙ later q from past

-- room that is made is no part of what was heard
pub hearing_room : (first : ℕ) (ring : Marks) → hearing_of first (marks_room ring) ≡ with_room (hearing_of first ring)
unfolding is_heard
hearing_room first ring = refl

-- room that is given back is no part of what was heard
pub hearing_spent : (first : ℕ) (ring : Marks) → hearing_of first (marks_spent ring) ≡ with_spent (hearing_of first ring)
unfolding is_heard
hearing_spent first ring = refl

-- room that is made is no part of what a number is
pub state_room : (a : Hearing) (n : ℕ) → state_of (with_room a) n ≡ state_of a n
unfolding state_of
state_room a n = refl

-- a window in which room was to be made is one
pub window_reserved : {E : Type 0} (first : ℕ) (ring new : Marks) (r : Result (Unit {0}) E) → OnOk r (new ≡ marks_room ring) → OnErr r (new ≡ ring) → IsWindow first ring → IsWindow first new
window_reserved first ring new (Ok done) ok err w = subst (IsWindow first) (sym ok) (record { from = w.from; fits = w.fits; missing = w.missing })
window_reserved first ring new (Err why) ok err w = subst (IsWindow first) (sym err) w

-- a window in which a reservation was given back is one
pub window_spent : (first : ℕ) (ring new : Marks) → new ≡ marks_spent ring → IsWindow first ring → IsWindow first new
window_spent first ring new given w = subst (IsWindow first) (sym given) (record { from = w.from; fits = w.fits; missing = w.missing })

-- no number of a new window was heard
not_yet : (first q : ℕ) → is_heard first (none_marked first) q ≡ false
not_yet first q =
    elim (cases_lt q first) [
      | inl below ↦ before first (none_marked first) q below
      | inr from ↦ later first (none_marked first) q from from ∙ set.contains-empty nat_cmp q
    ]

-- a new window heard nothing
pub new_hearing : (first : ℕ) → hearing_of first (none_marked first) ≡ none_heard first
new_hearing first = ap (λ (s : set.FinSet nat_cmp). record { first = first; heard = s; next = first; room = 0 }) (where_none (2 ^ 32) _ (λ q h. not_yet first q))

-- a new window is one
pub new_window : (first : ℕ) → first < 2 ^ 32 → IsWindow first (none_marked first)
new_window first fits = record { from = omega arith; fits = omega arith; missing = set.contains-empty nat_cmp first }

-- a number that was heard and did not enter waits
pub state_waits : (a : Hearing) (n : ℕ) → a.next ≤ n → set.contains a.heard n ≡ true → Waiting ≡ state_of a n
unfolding state_of
state_waits a n from there = sym (λ i. if le-ltb n a.next from i then Entered else if there i then Waiting else New)

-- a number that was not heard is new
pub state_new : (a : Hearing) (n : ℕ) → a.next ≤ n → set.contains a.heard n ≡ false → New ≡ state_of a n
unfolding state_of
state_new a n from there = sym (λ i. if le-ltb n a.next from i then Entered else if there i then Waiting else New)

-- a new number is not before the next one
pub new_from_next : (a : Hearing) (n : ℕ) → state_of a n ≡ New → a.next ≤ n
unfolding state_of
new_from_next a n is =
    elim (cases_lt n a.next) [
      | inl below ↦ (let e : Entered ≡ New = sym (ap (λ b. if b then Entered else if set.contains a.heard n then Waiting else New) (lt-ltb n a.next below)) ∙ is in cc)
      | inr from ↦ from
    ]

-- a number that is marked, or was
one_more_heard : (first : ℕ) (ring : Marks) (n q : ℕ) → first ≤ q → ring.next ≤ q → set.contains (with_mark ring n).marked q ≡ (nat_eq q n || is_heard first ring q)
one_more_heard first ring n q from past =
    set.contains-insert nat_cmp_total ring.marked n q ∙ (λ i. unsigned_tied q n i || sym (later first ring q from past) i)

-- what was heard after a number was marked and the ring advanced
heard_after : (first : ℕ) (ring new : Marks) (n : ℕ) → IsWindow first ring → ring.next ≤ n → IsAdvanced (one_marked ring n) new → (q : ℕ) → is_heard first new q ≡ (nat_eq q n || is_heard first ring q)
heard_after first ring new n w at advanced q =
    let from : first ≤ ring.next = w.from in
    let rises : ring.next ≤ new.next = advanced.from in
    elim (cases_lt q first) [
      | inl below ↦ before first new q below ∙ sym (λ i. ne_eqb q n (omega arith) i || before first ring q below i)
      | inr above ↦ elim (cases_lt q ring.next) [
        | inl had ↦ entered first new q above (omega arith) ∙ sym (ap (λ b. nat_eq q n || b) (entered first ring q above had) ∙ or_true (nat_eq q n))
        | inr past ↦ elim (cases_lt q new.next) [
          | inl enters ↦ entered first new q above enters ∙ sym (advanced.passed q past enters) ∙ one_more_heard first ring n q above past
          | inr waits ↦ later first new q above waits ∙ advanced.left q waits ∙ one_more_heard first ring n q above past
        ]
      ]
    ]

-- what was heard after a number was marked and the ring advanced
pub hearing_after : (first : ℕ) (ring new : Marks) (a : Hearing) (n risen : ℕ) → hearing_of first ring ≡ a → IsWindow first ring → ring.next ≤ n → n < 2 ^ 32 → IsAdvanced (one_marked ring n) new → new.next ≡ ring.next + risen → hearing_of first new ≡ with_spent (after_hear a n risen)
hearing_after first ring new a n risen is w at fits advanced rises =
    (λ i. record { first = first; heard = where_insert (2 ^ 32) (is_heard first ring) (is_heard first new) n fits (λ q h. heard_after first ring new n w at advanced q) i; next = rises i; room = advanced.room i })
    ∙ ap (λ b. with_spent (after_hear b n risen)) is

-- a window whose ring advanced is one
pub window_after : (first : ℕ) (ring new : Marks) (n : ℕ) → IsWindow first ring → IsAdvanced (one_marked ring n) new → new.next ≤ 2 ^ 32 → set.contains new.marked new.next ≡ false → IsWindow first new
window_after first ring new n w advanced fits stops =
    let from : first ≤ ring.next = w.from in
    let rises : ring.next ≤ new.next = advanced.from in
    record { from = omega arith; fits = fits; missing = stops }

-- with the same heard numbers neither of two is behind
not_behind : (a b : Hearing) → a.first ≡ b.first → a.heard ≡ b.heard → IsLeastMissing a → IsLeastMissing b → a.next < b.next → ⊥
not_behind a b same_first same_heard p q h =
    let from : a.first ≤ a.next = p.from in
    let there : set.contains b.heard a.next ≡ true = q.before a.next (omega arith) h in
    true≢false (sym there ∙ ap (λ s. set.contains s a.next) (sym same_heard) ∙ p.missing)

-- what was heard tells the least missing number
pub next_told : NextIsTold
next_told a b same_first same_heard p q =
    elim (cases_lt a.next b.next) [
      | inl below ↦ absurd (not_behind a b same_first same_heard p q below)
      | inr from ↦ elim (cases_lt b.next a.next) [
        | inl above ↦ absurd (not_behind b a (sym same_first) (sym same_heard) q p above)
        | inr upto ↦ omega arith
      ]
    ]

-- the two ways of a number that did not enter
module _ (first : ℕ) (ring : Marks) (a : Hearing) (is : hearing_of first ring ≡ a) (w : IsWindow first ring) (n : ℕ) (past : ring.next ≤ n) (fits : n < 2 ^ 32) where
  -- a number is heard as the ring has it
  heard_in_ring : set.contains a.heard n ≡ set.contains ring.marked n
  heard_in_ring =
      let from : first ≤ ring.next = w.from in
      ap (λ (b : Hearing). set.contains b.heard n) (sym is) ∙ heard_later first ring n (omega arith) past fits

  -- it is not before the next one
  not_before : a.next ≤ n
  not_before = rw (sym (ap (λ (b : Hearing). b.next) is)) past

  -- a marked number waits
  pub waits_in_ring : set.contains ring.marked n ≡ true → Waiting ≡ state_of a n
  waits_in_ring there = state_waits a n not_before (heard_in_ring ∙ there)

  -- another is new
  pub new_to_ring : set.contains ring.marked n ≡ false → New ≡ state_of a n
  new_to_ring there = state_new a n not_before (heard_in_ring ∙ there)
