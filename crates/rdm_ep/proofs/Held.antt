-- The held messages that follow one another, and those that stay held.
use Rattle.std.proofs.Common.{◌≡◌, ℕ, zero, suc, ◌+◌, ◌<◌, ◌≤◌, Bool, true, false, cond, List, [], ◌∷◌, length, Some, None, refl, arith, inl, inr, ◌∙◌, sym, subst}
use Rattle.std.specs.Prelude.{◌==◌, ◌||◌, find, is_some}
use Rattle.std.specs.List.{list_any}
use Rattle.std.proofs.lemmas.Bool.{and_parts, eqb-true, false_from_ne_true}
use Rattle.rdm_lists.specs.Lists.{Member, without_first}
use Rattle.rdm_num.specs.Lives.{same_life}
use Rattle.rdm_num.specs.declared.numbers.Life.{Life}
use Rattle.rdm_ep.specs.declared.state.Inbound.{Inbound}
use Rattle.rdm_ep.specs.Entering.{is_message, held_at, message_then, following, left_held}
use Rattle.rdm_lists.proofs.Members.{member_list_any, find_member, without_member}
use Rattle.rdm_num.proofs.Lives.{same_life-true, same_life-refl}

-- messages of a life that follow one another from a number on
abbrev pub InRun : Life → ℕ → List Inbound → Type 0
InRun from n [] = Unit {0}
InRun from n (i ∷ is) = (is_message from n i ≡ true) × InRun from (n + 1) is

-- what is found is one less
pub without_length : {A : Type 0} (t : A → Bool) (xs : List A) (x : A) → find t xs ≡ Some x → length (without_first t xs) + 1 ≡ length xs
unfolding without_first
without_length t [] x h = cc
without_length {A} t (y ∷ ys) x h =
    (elim (t y) as (λ b. cond b (Some y) (find t ys) ≡ Some x → length (cond b ys (y ∷ without_first t ys)) + 1 ≡ length (y ∷ ys)) [
      | true ↦ λ k. omega arith
      | false ↦ λ k. let r = without_length t ys x k in omega arith
    ]) h

-- some other one is there as before
without_any : {A : Type 0} (t s : A → Bool) (xs : List A) → ((x : A) → t x ≡ true → s x ≡ false) → list_any s (without_first t xs) ≡ list_any s xs
unfolding without_first
without_any t s [] h = refl
without_any t s (x ∷ xs) h =
    (elim (t x) as (λ b. t x ≡ b → list_any s (cond b xs (x ∷ without_first t xs)) ≡ (s x || list_any s xs)) [
      | true ↦ λ e. let n = h x e in rw n refl
      | false ↦ λ e. let r = without_any t s xs h in rw r refl
    ]) refl

-- none passes where none is found
none_any : {A : Type 0} (t : A → Bool) (xs : List A) → find t xs ≡ None → list_any t xs ≡ false
none_any t [] h = refl
none_any {A} t (x ∷ xs) h =
    (elim (t x) as (λ b. cond b (Some x) (find t xs) ≡ None → (b || list_any t xs) ≡ false) [
      | true ↦ λ k. cc
      | false ↦ λ k. none_any t xs k
    ]) h

-- a message of one number is of no other
other_message : (from life : Life) (n m : ℕ) (i : Inbound) → (same_life from life ≡ true → m ≡ n → ⊥) → is_message from n i ≡ true → is_message life m i ≡ false
other_message from life n m i apart e =
    false_from_ne_true (is_message life m i) (λ f.
    let a = and_parts (same_life i.life from) (i.no.0 == n) e in
    let b = and_parts (same_life i.life life) (i.no.0 == m) f in
    let same : from ≡ life = sym (same_life-true i.life from a.0) ∙ same_life-true i.life life b.0 in
    apart (subst (λ (l : Life). same_life from l ≡ true) same (same_life-refl from)) (sym (eqb-true i.no.0 m b.1) ∙ eqb-true i.no.0 n a.1))

-- what is done where a message is found, or none
by_found : (most : ℕ) (held : List Inbound) (from : Life) (n : ℕ) (P : List Inbound → List Inbound → Type 0) → (held_at held from n ≡ None → P [] held)
    → ((i : Inbound) → held_at held from n ≡ Some i → P (i ∷ following most (without_first (is_message from n) held) from (n + 1)) (left_held most (without_first (is_message from n) held) from (n + 1)))
    → P (following (suc most) held from n) (left_held (suc most) held from n)
unfolding following left_held message_then
by_found most held from n P none some =
    (elim (held_at held from n) as (λ o. held_at held from n ≡ o
    → P (message_then o (following most (without_first (is_message from n) held) from (n + 1))) (cond (is_some o) (left_held most (without_first (is_message from n) held) from (n + 1)) held)) [
      | None ↦ none
      | Some i ↦ some i
    ]) refl

-- those that follow are in a row
pub following_run : (most : ℕ) (held : List Inbound) (from : Life) (n : ℕ) → InRun from n (following most held from n)
unfolding following
following_run zero held from n = tt
following_run (suc most) held from n =
    by_found most held from n (λ is left. InRun from n is) (λ e. tt)
    (λ i e. ((find_member (is_message from n) i held e).1, following_run most (without_first (is_message from n) held) from (n + 1)))

-- they were held
pub following_member : (most : ℕ) (held : List Inbound) (from : Life) (n : ℕ) (i : Inbound) → Member i (following most held from n) → Member i held
unfolding following
following_member zero held from n i m = elim m [ ]
following_member (suc most) held from n i m' =
    by_found most held from n (λ is left. Member i is → Member i held) (λ e m. elim m [ ])
    (λ j e m. elim m [
      | inl is ↦ subst (λ (x : Inbound). Member x held) is (find_member (is_message from n) j held e).0
      | inr k ↦ without_member (is_message from n) i held (following_member most (without_first (is_message from n) held) from (n + 1) i k)
    ]) m'

-- and so were those that stay
pub left_member : (most : ℕ) (held : List Inbound) (from : Life) (n : ℕ) (i : Inbound) → Member i (left_held most held from n) → Member i held
unfolding left_held
left_member zero held from n i m = m
left_member (suc most) held from n i m' =
    by_found most held from n (λ is left. Member i left → Member i held) (λ e m. m)
    (λ j e m. without_member (is_message from n) i held (left_member most (without_first (is_message from n) held) from (n + 1) i m)) m'

-- together they are as many as were held
pub following_count : (most : ℕ) (held : List Inbound) (from : Life) (n : ℕ) → length (following most held from n) + length (left_held most held from n) ≡ length held
unfolding following left_held
following_count zero held from n = omega arith
following_count (suc most) held from n =
    by_found most held from n (λ is left. length is + length left ≡ length held) (λ e. omega arith)
    (λ i e.
    let r = following_count most (without_first (is_message from n) held) from (n + 1) in
    let l = without_length (is_message from n) held i e in
    omega arith)

-- a message of a number that does not follow stays
pub left_any : (most : ℕ) (held : List Inbound) (from life : Life) (n m : ℕ)
    → ((k : ℕ) → k < length (following most held from n) → same_life from life ≡ true → m ≡ n + k → ⊥)
    → list_any (is_message life m) (left_held most held from n) ≡ list_any (is_message life m) held
unfolding following left_held
left_any zero held from life n m h = refl
left_any (suc most) held from life n m h' =
    by_found most held from n (λ is left. ((k : ℕ) → k < length is → same_life from life ≡ true → m ≡ n + k → ⊥) → list_any (is_message life m) left ≡ list_any (is_message life m) held)
    (λ e h. refl)
    (λ i e h.
    left_any most (without_first (is_message from n) held) from life (n + 1) m (λ k lt s is. h (k + 1) (omega arith) s (omega arith))
    ∙ without_any (is_message from n) (is_message life m) held (λ j t. other_message from life n m j (λ s is. h 0 (omega arith) s (omega arith)) t)) h'

-- a number that follows is that of a held message
pub following_any : (most : ℕ) (held : List Inbound) (from : Life) (n k : ℕ) → k < length (following most held from n) → list_any (is_message from (n + k)) held ≡ true
unfolding following
following_any zero held from n k lt = absurd (omega arith)
following_any (suc most) held from n zero lt' =
    by_found most held from n (λ is left. 0 < length is → list_any (is_message from (n + 0)) held ≡ true) (λ e lt. absurd (omega arith))
    (λ i e lt.
    let f = find_member (is_message from n) i held e in
    let z : n ≡ n + 0 = omega arith in
    subst (λ (x : ℕ). list_any (is_message from x) held ≡ true) z (member_list_any (is_message from n) i held f.0 f.1)) lt'
following_any (suc most) held from n (suc k) lt' =
    by_found most held from n (λ is left. suc k < length is → list_any (is_message from (n + suc k)) held ≡ true) (λ e lt. absurd (omega arith))
    (λ i e lt.
    let r = following_any most (without_first (is_message from n) held) from (n + 1) k (omega arith) in
    let z : n + 1 + k ≡ n + suc k = omega arith in
    let s = without_any (is_message from n) (is_message from (n + 1 + k)) held (λ j t. other_message from from n (n + 1 + k) j (λ x is. omega arith) t) in
    subst (λ (x : ℕ). list_any (is_message from x) held ≡ true) z (sym s ∙ r)) lt'

-- the number after those that follow is that of none
pub following_ends : (most : ℕ) (held : List Inbound) (from : Life) (n : ℕ) → length held ≤ most
    → list_any (is_message from (n + length (following most held from n))) held ≡ false
unfolding following
following_ends zero [] from n le = refl
following_ends zero (i ∷ held) from n le = absurd (omega arith)
following_ends (suc most) held from n le =
    by_found most held from n (λ is left. list_any (is_message from (n + length is)) held ≡ false)
    (λ e. let z : n ≡ n + 0 = omega arith in subst (λ (x : ℕ). list_any (is_message from x) held ≡ false) z (none_any (is_message from n) held e))
    (λ i e.
    let l = without_length (is_message from n) held i e in
    let rest = following most (without_first (is_message from n) held) from (n + 1) in
    let r = following_ends most (without_first (is_message from n) held) from (n + 1) (omega arith) in
    let z : n + 1 + length rest ≡ n + length (i ∷ rest) = omega arith in
    let s = without_any (is_message from n) (is_message from (n + 1 + length rest)) held (λ j t. other_message from from n (n + 1 + length rest) j (λ x is. omega arith) t) in
    subst (λ (x : ℕ). list_any (is_message from x) held ≡ false) z (sym s ∙ r))
