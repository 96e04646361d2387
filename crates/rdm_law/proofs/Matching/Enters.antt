-- The messages of each life enter in the order of their numbers, with none left out.
use Rattle.std.proofs.Common.{◌≡◌, ℕ, zero, suc, ◌+◌, ◌-◌, ◌<◌, ◌≤◌, max, min, Bool, true, false, cond, not, List, [], ◌∷◌, ◌++◌, length, map, Option, refl, arith, inl, inr, sym, ◌∙◌, ap, subst}
use Rattle.std.specs.Prelude.{◌&&◌, nat_eq, nat_le, filter}
use Rattle.std.proofs.lemmas.Bool.{and_parts, and_from, cases_Bool, cases_lt, cases_eq, eqb-true, eq-eqb, leb-true, le-leb, not-true, false_from_ne_true}
use Rattle.std.proofs.lemmas.List.{append-nil, append_assoc, map-append, length-map}
use Rattle.std.proofs.lemmas.List.Elements.{filter-append}
use Rattle.rdm_lists.specs.Lists.{Member, below, each_below, without_first}
use Rattle.rdm_num.specs.declared.numbers.Life.{Life}
use Rattle.rdm_num.specs.declared.numbers.MsgNo.{MsgNo}
use Rattle.rdm_hdr.specs.declared.Opt.{Opt}
use Rattle.rdm_pkt.specs.declared.Form.{Form}
use Rattle.rdm_pkt.specs.declared.Packet.TheVariants.{Rtm}
use Rattle.rdm_model.specs.Deeds.{Deed, Took, Spelled}
use Rattle.rdm_model.specs.Heard.{heard_head, is_heard, heard_below, has_entered, entering}
use Rattle.rdm_model.proofs.Matches.{heard_still}
use Rattle.rdm_law.proofs.Accounts.Known.{heard_taken}
use Rattle.rdm_lists.proofs.Members.{map-member}
use Rattle.rdm_lists.proofs.Options.{some_of, is_some_from}
use Rattle.rdm_lists.proofs.Below.{last_or_less, each_below_at, each_below_from}

-- without one element, a list has one element less and each other one
length_without : (x : ℕ) (xs : List ℕ) → Member x xs → suc (length (without_first (λ y. nat_eq y x) xs)) ≡ length xs
unfolding without_first
length_without x [] m = elim m [ ]
length_without x (y ∷ xs) m =
    (elim (nat_eq y x) as (λ b. nat_eq y x ≡ b → suc (length (cond b xs (y ∷ without_first (λ y. nat_eq y x) xs))) ≡ length (y ∷ xs)) [
      | true ↦ λ is. refl
      | false ↦ λ is. elim m [
        | inl same ↦ (let e = eq-eqb y x same in cc)
        | inr k ↦ (let r = length_without x xs k in omega arith)
      ]
    ]) refl

-- without one number the others stay
other_without : (x y : ℕ) (xs : List ℕ) → Member y xs → (y ≡ x → ⊥) → Member y (without_first (λ z. nat_eq z x) xs)
unfolding without_first
other_without x y [] m n = elim m [ ]
other_without x y (z ∷ xs) m n =
    (elim (nat_eq z x) as (λ b. nat_eq z x ≡ b → Member y (cond b xs (z ∷ without_first (λ z. nat_eq z x) xs))) [
      | true ↦ λ is. elim m [ inl same ↦ absurd (n (sym same ∙ eqb-true z x is)) | inr k ↦ k ]
      | false ↦ λ is. elim m [ inl same ↦ inl same | inr k ↦ inr (other_without x y xs k n) ]
    ]) refl

-- a list that has n numbers in a row has n elements at least
row_fits : (first n : ℕ) (xs : List ℕ) → ((k : ℕ) → k < n → Member (first + k) xs) → n ≤ length xs
row_fits first zero xs h = omega arith
row_fits first (suc n) xs h =
    let l = length_without (first + n) xs (h n (omega arith)) in
    let r = row_fits first n (without_first (λ z. nat_eq z (first + n)) xs) (λ k lt. other_without (first + n) (first + k) xs (h k (omega arith)) (λ e. absurd (omega arith))) in
    omega arith

-- the number of the message that a deed opens
deed_number : Deed → ℕ
deed_number (Took from (Spelled (Rtm number tag confirm opt form))) = number.0
deed_number _ = 0

-- the number of a packet that opens a message
rtm_number : (source : Life) (number : MsgNo) (tag : Option ℕ) (confirm : Bool) (opt : Opt) (form : Form) → deed_number (Took source (Spelled (Rtm number tag confirm opt form))) ≡ number.0
unfolding deed_number
rtm_number source number tag confirm opt form = refl

-- a number that was heard of is that of a deed
heard_member : (log : List Deed) (source : Life) (n : ℕ) → is_heard log source n ≡ true → Member n (map deed_number log)
unfolding is_heard
heard_member log source n h =
    let s = some_of (heard_head log source n) h in
    let t = heard_taken log source n s.0 s.1 in
    subst (λ (m : ℕ). Member m (map deed_number log)) (rtm_number source t.number t.tag t.confirm t.opt t.form ∙ t.number_is)
    (map-member deed_number (Took source (Spelled (Rtm t.number t.tag t.confirm t.opt t.form))) log t.took)

-- so many numbers from the first one on were heard, and the next one was not
pub record Reach (first : ℕ) (log : List Deed) (source : Life) : Type 0 where
  pub count : ℕ
  pub within : count ≤ length log
  pub heard : (k : ℕ) → k < count → is_heard log source (first + k) ≡ true
  pub stops : is_heard log source (first + count) ≡ false

-- from so many numbers on
reach_from : (first : ℕ) (log : List Deed) (source : Life) (fuel n : ℕ) → n + fuel ≡ suc (length log) → ((k : ℕ) → k < n → is_heard log source (first + k) ≡ true) → Reach first log source
reach_from first log source zero n e h =
    let r = row_fits first n (map deed_number log) (λ k lt. heard_member log source (first + k) (h k lt)) in
    let l = length-map log deed_number in
    absurd (omega arith)
reach_from first log source (suc fuel) n e h =
    elim (cases_Bool (is_heard log source (first + n))) [
      | inl heard ↦ reach_from first log source fuel (suc n) (omega arith) (λ k lt. elim (last_or_less k n lt) [ inl same ↦ ap (λ x. is_heard log source (first + x)) same ∙ heard | inr less ↦ h k less ])
      | inr other ↦ record { count = n; within = omega arith; heard = h; stops = other }
    ]

-- a log hears of so many numbers in a row
pub reach : (first : ℕ) (log : List Deed) (source : Life) → Reach first log source
reach first log source = reach_from first log source (suc (length log)) 0 (omega arith) (λ k lt. absurd (omega arith))

-- the numbers within the reach have entered
pub entered_from : (first : ℕ) (log : List Deed) (source : Life) (r : Reach first log source) (k : ℕ) → k < r.count → has_entered first log source (first + k) ≡ true
unfolding has_entered heard_below
entered_from first log source r k lt =
    and_from (nat_le first (first + k) && each_below (λ j. is_heard log source (first + j)) (first + k - first)) (is_heard log source (first + k))
    (and_from (nat_le first (first + k)) (each_below (λ j. is_heard log source (first + j)) (first + k - first)) (le-leb first (first + k) (omega arith))
    (each_below_from (λ j. is_heard log source (first + j)) (first + k - first) (λ j l. r.heard j (omega arith))))
    (r.heard k lt)

-- a number that has entered: it and all before it were heard of
entered_parts : (first : ℕ) (log : List Deed) (source : Life) (n : ℕ) → has_entered first log source n ≡ true
    → (first ≤ n) × ((j : ℕ) → j < n - first → is_heard log source (first + j) ≡ true) × (is_heard log source n ≡ true)
unfolding has_entered heard_below
entered_parts first log source n h =
    let p = and_parts (nat_le first n && each_below (λ j. is_heard log source (first + j)) (n - first)) (is_heard log source n) h in
    let q = and_parts (nat_le first n) (each_below (λ j. is_heard log source (first + j)) (n - first)) p.0 in
    (leb-true first n q.0, λ j l. each_below_at (λ j. is_heard log source (first + j)) (n - first) j q.1 l, p.1)

-- the numbers past the reach have not entered
pub not_entered : (first : ℕ) (log : List Deed) (source : Life) (r : Reach first log source) (k : ℕ) → r.count ≤ k → has_entered first log source (first + k) ≡ false
not_entered first log source r k le =
    false_from_ne_true (has_entered first log source (first + k)) (λ t.
    let p = entered_parts first log source (first + k) t in
    let stops = r.stops in
    elim (cases_eq r.count k) [
      | inl same ↦ (let e : is_heard log source (first + r.count) ≡ is_heard log source (first + k) = ap (λ x. is_heard log source (first + x)) same in let f = p.2 in cc)
      | inr other ↦ (let e = p.1 r.count (omega arith) in cc)
    ])

-- a number that does not pass is left out
last_no : (first : ℕ) (p : ℕ → Bool) (n : ℕ) → p (first + n) ≡ false → (xs : List ℕ) → xs ++ filter p ((first + n) ∷ []) ≡ xs
last_no first p n h xs = rw h (append-nil xs)

-- a number that passes comes next
last_yes : (first : ℕ) (p : ℕ → Bool) (n m : ℕ) → m ≡ n → p (first + n) ≡ true
    → map (λ k. first + k) (below m) ++ filter p ((first + n) ∷ []) ≡ map (λ k. first + k) (below (suc m))
unfolding below
last_yes first p n m e h =
    let y : filter p ((first + n) ∷ []) ≡ (first + n) ∷ [] = rw h refl in
    ap (λ (xs : List ℕ). map (λ k. first + k) (below m) ++ xs) (y ∙ ap (λ (x : ℕ). (first + x) ∷ []) (sym e)) ∙ sym (map-append (λ k. first + k) (below m) (m ∷ []))

-- numbers in a row, and those of the next stretch
rows_join : (first c e : ℕ) (p : ℕ → Bool) (n : ℕ) → c ≤ e → ((k : ℕ) → c ≤ k → k < e → p (first + k) ≡ true) → ((k : ℕ) → k < c → p (first + k) ≡ false)
    → ((k : ℕ) → e ≤ k → p (first + k) ≡ false)
    → map (λ k. first + k) (below c) ++ filter p (map (λ k. first + k) (below n)) ≡ map (λ k. first + k) (below (max c (min e n)))
unfolding below
rows_join first c e p zero le in' low high =
    let m : max c (min e 0) ≡ c = omega arith in
    append-nil (map (λ k. first + k) (below c)) ∙ ap (λ x. map (λ k. first + k) (below x)) (sym m)
rows_join first c e p (suc n) le in' low high =
    let f : ℕ → ℕ = λ k. first + k in
    let earlier = rows_join first c e p n le in' low high in
    let split : filter p (map f (below n ++ n ∷ [])) ≡ filter p (map f (below n)) ++ filter p ((first + n) ∷ []) =
    ap (filter p) (map-append f (below n) (n ∷ [])) ∙ filter-append p (map f (below n)) ((first + n) ∷ []) in
    let joined : map f (below c) ++ filter p (map f (below n ++ n ∷ [])) ≡ map f (below (max c (min e n))) ++ filter p ((first + n) ∷ []) =
    ap (λ (xs : List ℕ). map f (below c) ++ xs) split ∙ sym (append_assoc (map f (below c)) (filter p (map f (below n))) (filter p ((first + n) ∷ []))) ∙ ap (λ (xs : List ℕ). xs ++ filter p ((first + n) ∷ [])) earlier in
    elim (cases_lt n c) [
      | inl less ↦ (
          let t : max c (min e (suc n)) ≡ max c (min e n) = omega arith in
          joined ∙ last_no first p n (low n less) (map f (below (max c (min e n)))) ∙ ap (λ x. map f (below x)) (sym t))
      | inr more ↦ elim (cases_lt n e) [
        | inl within ↦ (
            let t : max c (min e (suc n)) ≡ suc (max c (min e n)) = omega arith in
            let u : max c (min e n) ≡ n = omega arith in
            joined ∙ last_yes first p n (max c (min e n)) u (in' n more within) ∙ ap (λ x. map f (below x)) (sym t))
        | inr past ↦ (
            let t : max c (min e (suc n)) ≡ max c (min e n) = omega arith in
            joined ∙ last_no first p n (high n past) (map f (below (max c (min e n)))) ∙ ap (λ x. map f (below x)) (sym t))
      ]
    ]

-- what a deed makes enter, after what had entered
pub entering_joins : (first : ℕ) (d : Deed) (before : List Deed) (source : Life) (r : Reach first before source) (s : Reach first (d ∷ before) source)
    → map (λ k. first + k) (below r.count) ++ entering first d before source ≡ map (λ k. first + k) (below s.count)
unfolding entering is_heard
entering_joins first d before source r s =
    let p : ℕ → Bool = λ n. has_entered first (d ∷ before) source n && not (has_entered first before source n) in
    let le : r.count ≤ s.count =
    (elim (cases_lt s.count r.count) [
      | inl less ↦ (
          let a = r.heard s.count less in
          let b = some_of (heard_head before source (first + s.count)) a in
          let c = is_some_from (heard_head (d ∷ before) source (first + s.count)) b.0 (heard_still d before source (first + s.count) b.0 b.1) in
          let e = s.stops in
          cc)
      | inr more ↦ more
    ]) in
    let joined = rows_join first r.count s.count p (length (d ∷ before)) le
    (λ k low high. and_from (has_entered first (d ∷ before) source (first + k)) (not (has_entered first before source (first + k)))
    (entered_from first (d ∷ before) source s k high) (ap not (not_entered first before source r k low)))
    (λ k low. let e = entered_from first before source r k low in
    false_from_ne_true (p (first + k)) (λ t. let q = not-true (has_entered first before source (first + k)) (and_parts (has_entered first (d ∷ before) source (first + k)) (not (has_entered first before source (first + k))) t).1 in cc))
    (λ k high. let e = not_entered first (d ∷ before) source s k high in
    false_from_ne_true (p (first + k)) (λ t. let q = (and_parts (has_entered first (d ∷ before) source (first + k)) (not (has_entered first before source (first + k))) t).0 in cc)) in
    let w = s.within in
    let m : max r.count (min s.count (length (d ∷ before))) ≡ s.count = omega arith in
    joined ∙ ap (λ x. map (λ k. first + k) (below x)) m
