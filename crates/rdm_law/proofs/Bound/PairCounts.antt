-- What a pair owes: its asks once, a grant for each window, an end once.
use Rattle.std.proofs.Common.{◌≡◌, ℕ, ◌+◌, ◌≤◌, Bool, true, false, cond, not, ◌&&◌, List, [], ◌∷◌, ◌++◌, length, map, refl, arith, ◌⊎◌, inl, inr, ◌∙◌, ap}
use Rattle.std.specs.Prelude.{nat_lt}
use Rattle.std.proofs.lemmas.Bool.{cases_lt, ltb-true}
use Rattle.std.proofs.lemmas.List.{length-append, length-map}
use Rattle.rdm_num.specs.declared.numbers.MsgNo.{MsgNo}
use Rattle.rdm_num.specs.declared.numbers.OpId.{OpId}
use Rattle.rdm_num.specs.declared.limits.EpLimits.{EpLimits}
use Rattle.rdm_num.specs.declared.head.Shape.{Shape}
use Rattle.rdm_num.specs.declared.head.Shape.TheVariants.{Eager, Medium, LongCts, LongRead, Runt}
use Rattle.rdm_match.specs.Matcher.{Pair, is_pair}
use Rattle.rdm_model.specs.Deeds.{Deed, Item, Asks, Spelled}
use Rattle.rdm_pkt.specs.declared.Packet.TheVariants.{Cts}
use Rattle.rdm_model.specs.Beginnings.{Own, Heads}
use Rattle.rdm_model.specs.Matches.{pairs}
use Rattle.rdm_model.specs.Receives.{is_filled}
use Rattle.rdm_model.specs.Grants.{window, with_window, granted_bytes}
use Rattle.rdm_model.specs.Replies.{receipt_for, asks_for, grant_for, end_for, pair_items}
use Rattle.rdm_model.proofs.Matches.{is_pair_still}
use Rattle.rdm_model.proofs.SameReceives.{filled_still}
use Rattle.rdm_law.proofs.Replies.Owed.{confirm_in, ends_in, shape_in, recv_in}
use Rattle.rdm_law.proofs.Windows.Windows.{is_window}

-- the pair is there
abbrev there : Own → Heads → Pair → List Deed → Bool
there own heads p log = is_pair (pairs own.limits.first heads log) p.recv.id.0 p.message.life p.message.no.0

-- how many items a pair owed since it was made
unfoldable pub item_count : Own → Heads → Pair → List Deed → ℕ
item_count own heads p [] = 0
item_count own heads p (d ∷ before) =
    item_count own heads p before
    + cond (is_pair (pairs own.limits.first heads (d ∷ before)) p.recv.id.0 p.message.life p.message.no.0) (length (pair_items own heads d before p)) 0

-- the list, or none
cond_length : {A : Type 0} (b : Bool) (xs : List A) → length (cond b xs []) ≡ cond b (length xs) 0
cond_length true xs = refl
cond_length false xs = refl

-- a grant is no more than its window
grant_length : (own : Own) (shape : Shape) (recv : OpId) (size : ℕ) → length (grant_for own shape recv size) ≤ size
unfolding grant_for
grant_length own (LongCts send credits) recv size =
    let one : Item = Spelled (Cts send recv size own.life.connid) in
    (elim (nat_lt 0 size) as (λ b. nat_lt 0 size ≡ b → length (cond b (one ∷ []) []) ≤ size) [ true ↦ λ is. (let l = ltb-true 0 size is in omega arith) | false ↦ λ is. omega arith ]) refl
grant_length own Eager recv size = omega arith
grant_length own Medium recv size = omega arith
grant_length own (LongRead send iov) recv size = omega arith
grant_length own (Runt send iov runt) recv size = omega arith

-- what a deed makes a pair owe: asks where it is new, a grant at most, an end where it is filled
items_length : (own : Own) (heads : Heads) (d : Deed) (before : List Deed) (p : Pair)
    → length (pair_items own heads d before p) ≤ cond (not (there own heads p before)) (length (asks_for (shape_in heads p) (recv_in p))) 0
    + window own.limits heads (d ∷ before) p (granted_bytes own.limits heads before p)
    + cond (is_filled own.limits.first heads (d ∷ before) p && not (is_filled own.limits.first heads before p)) (length (ends_in own heads p)) 0
unfolding pair_items
items_length own heads d before p =
    let asks = asks_for (shape_in heads p) (recv_in p) in
    let A : List Item = cond (not (there own heads p before)) (map Asks asks) [] in
    let w = window own.limits heads (d ∷ before) p (granted_bytes own.limits heads before p) in
    let G = grant_for own (shape_in heads p) (recv_in p) w in
    let over = is_filled own.limits.first heads (d ∷ before) p && not (is_filled own.limits.first heads before p) in
    let E : List Item = cond over (ends_in own heads p) [] in
    let l1 = length-append (A ++ G) E in
    let l2 = length-append A G in
    let a : length A ≡ cond (not (there own heads p before)) (length asks) 0 = cond_length (not (there own heads p before)) (map Asks asks) ∙ ap (λ (n : ℕ). cond (not (there own heads p before)) n 0) (length-map asks Asks) in
    let g = grant_length own (shape_in heads p) (recv_in p) w in
    let e = cond_length over (ends_in own heads p) in
    omega arith

-- a deed adds its window
granted_step : (limits : EpLimits) (heads : Heads) (d : Deed) (before : List Deed) (p : Pair)
    → granted_bytes limits heads (d ∷ before) p ≡ granted_bytes limits heads before p + window limits heads (d ∷ before) p (granted_bytes limits heads before p)
unfolding granted_bytes with_window
granted_step limits heads d before p = refl

-- the sums, by which tests hold
count_step : (was now filled_was filled_now : Bool) (old items asks ends win gran : ℕ) → (was ≡ true → now ≡ true) → (filled_was ≡ true → filled_now ≡ true)
    → old ≤ cond was asks 0 + gran + cond filled_was ends 0
    → items ≤ cond (not was) asks 0 + win + cond (filled_now && not filled_was) ends 0
    → old + cond now items 0 ≤ cond now asks 0 + (gran + win) + cond filled_now ends 0
count_step true false fw fn old items asks ends win gran s f a b = let e = s refl in cc
count_step was now true false old items asks ends win gran s f a b = let e = f refl in cc
count_step true true true true old items asks ends win gran s f a b = omega arith
count_step true true false true old items asks ends win gran s f a b = omega arith
count_step true true false false old items asks ends win gran s f a b = omega arith
count_step false true true true old items asks ends win gran s f a b = omega arith
count_step false true false true old items asks ends win gran s f a b = omega arith
count_step false true false false old items asks ends win gran s f a b = omega arith
count_step false false true true old items asks ends win gran s f a b = omega arith
count_step false false false true old items asks ends win gran s f a b = omega arith
count_step false false false false old items asks ends win gran s f a b = omega arith

-- a pair owes its asks once, no more grants than bytes in its windows, and an end once
pub items_counted : (own : Own) (heads : Heads) (p : Pair) (log : List Deed)
    → item_count own heads p log ≤ cond (there own heads p log) (length (asks_for (shape_in heads p) (recv_in p))) 0 + granted_bytes own.limits heads log p
    + cond (is_filled own.limits.first heads log p) (length (ends_in own heads p)) 0
unfolding item_count
items_counted own heads p [] = omega arith
items_counted own heads p (d ∷ before) =
    let old = items_counted own heads p before in
    let items = items_length own heads d before p in
    let g = granted_step own.limits heads d before p in
    let c = count_step (there own heads p before) (there own heads p (d ∷ before)) (is_filled own.limits.first heads before p) (is_filled own.limits.first heads (d ∷ before) p)
    (item_count own heads p before) (length (pair_items own heads d before p)) (length (asks_for (shape_in heads p) (recv_in p))) (length (ends_in own heads p))
    (window own.limits heads (d ∷ before) p (granted_bytes own.limits heads before p)) (granted_bytes own.limits heads before p)
    (λ h. is_pair_still own.limits.first heads d before p.recv.id.0 p.message.life p.message.no.0 h) (λ h. filled_still own.limits.first heads d before p h) old items in
    omega arith

-- the windows of a message lie in it
granted_fits : (limits : EpLimits) (heads : Heads) (log : List Deed) (p : Pair) → granted_bytes limits heads log p ≤ (heads p.message.life p.message.no.0).length
unfolding granted_bytes with_window
granted_fits limits heads [] p = omega arith
granted_fits limits heads (d ∷ before) p =
    let old = granted_fits limits heads before p in
    let w = window limits heads (d ∷ before) p (granted_bytes limits heads before p) in
    elim (cases_lt 0 w) [
      | inl some ↦ (let i = is_window limits heads (d ∷ before) p (granted_bytes limits heads before p) some in let k = i.within in omega arith)
      | inr none ↦ omega arith
    ]

-- a message that is not long has no windows
none_granted : (limits : EpLimits) (heads : Heads) (log : List Deed) (p : Pair) → ((send : OpId) (credits : ℕ) → shape_in heads p ≡ LongCts send credits → ⊥) → granted_bytes limits heads log p ≡ 0
unfolding granted_bytes with_window
none_granted limits heads [] p h = refl
none_granted limits heads (d ∷ before) p h =
    let old = none_granted limits heads before p h in
    let w = window limits heads (d ∷ before) p (granted_bytes limits heads before p) in
    elim (cases_lt 0 w) [
      | inl some ↦ (let i = is_window limits heads (d ∷ before) p (granted_bytes limits heads before p) some in absurd (h i.send i.credits i.shape_is))
      | inr none ↦ omega arith
    ]

-- a part that may be left out
cond_less : (b : Bool) (n : ℕ) → cond b n 0 ≤ n
cond_less true n = omega arith
cond_less false n = omega arith

-- and one receipt
receipt_one : (own : Own) (confirm : Bool) (number : MsgNo) → length (receipt_for own confirm number) ≤ 1
unfolding receipt_for
receipt_one own true number = omega arith
receipt_one own false number = omega arith

-- a message owes one end at most
ends_one : (own : Own) (shape : Shape) (confirm : Bool) (number : MsgNo) (recv : OpId) → length (end_for own shape confirm number recv) ≤ 1
unfolding end_for
ends_one own (LongRead send iov) confirm number recv = omega arith
ends_one own (Runt send iov runt) confirm number recv = omega arith
ends_one own Eager confirm number recv = receipt_one own confirm number
ends_one own Medium confirm number recv = receipt_one own confirm number
ends_one own (LongCts send credits) confirm number recv = receipt_one own confirm number

-- a long message owes no asks
long_cases : (shape : Shape) (recv : OpId) → ((send : OpId) × (credits : ℕ) × (shape ≡ LongCts send credits) × (asks_for shape recv ≡ []))
    ⊎ ((send : OpId) (credits : ℕ) → shape ≡ LongCts send credits → ⊥)
unfolding asks_for
long_cases (LongCts send credits) recv = inl (send, credits, refl, refl)
long_cases Eager recv = inr (λ s c e. cc)
long_cases Medium recv = inr (λ s c e. cc)
long_cases (LongRead send iov) recv = inr (λ s c e. cc)
long_cases (Runt send iov runt) recv = inr (λ s c e. cc)

-- a pair owes no more than its message has bytes, and one
pub pair_bound : (own : Own) (heads : Heads) (p : Pair) (log : List Deed) → length (asks_for (shape_in heads p) (recv_in p)) ≤ (heads p.message.life p.message.no.0).length
    → item_count own heads p log ≤ 1 + (heads p.message.life p.message.no.0).length
pair_bound own heads p log asks =
    let c = items_counted own heads p log in
    let a = cond_less (there own heads p log) (length (asks_for (shape_in heads p) (recv_in p))) in
    let e = cond_less (is_filled own.limits.first heads log p) (length (ends_in own heads p)) in
    elim (long_cases (shape_in heads p) (recv_in p)) [
      | inl l ↦ (
          let none = ap length l.3 in
          let one = ends_one own (shape_in heads p) (confirm_in heads p) p.message.no (recv_in p) in
          let g = granted_fits own.limits heads log p in
          omega arith)
      | inr other ↦ (
          let g = none_granted own.limits heads log p other in
          let one = ends_one own (shape_in heads p) (confirm_in heads p) p.message.no (recv_in p) in
          omega arith)
    ]
