-- Messages and numbers that stand in a list once.
use Rattle.std.proofs.Common.{◌≡◌, ℕ, zero, suc, ◌+◌, ◌<◌, Bool, true, false, cond, List, [], ◌∷◌, ◌++◌, map, Some, refl, arith, inl, inr, sym, ◌∙◌, ap, subst}
use Rattle.std.specs.Prelude.{find, filter}
use Rattle.rdm_lists.specs.Lists.{Member, without_first, below}
use Rattle.rdm_match.specs.declared.Arrived.{Arrived}
use Rattle.rdm_lists.proofs.Members.{find_member}
use Rattle.rdm_lists.proofs.Below.{member_below}

-- the message is none of the list
abbrev pub Other : Arrived → List Arrived → Type 0
Other a [] = Unit {0}
Other a (b ∷ bs) = (b.life ≡ a.life → b.no.0 ≡ a.no.0 → ⊥) × Other a bs

-- each message of the list stands in it once
abbrev pub AllOther : List Arrived → Type 0
AllOther [] = Unit {0}
AllOther (a ∷ as') = Other a as' × AllOther as'

-- an element of the list is another message
pub other_member : (a b : Arrived) (bs : List Arrived) → Other a bs → Member b bs → b.life ≡ a.life → b.no.0 ≡ a.no.0 → ⊥
other_member a b [] o h s n = elim h [ ]
other_member a b (c ∷ bs) o (inl is) s n = o.0 (ap (λ (x : Arrived). x.life) is ∙ s) (ap (λ (x : Arrived). x.no.0) is ∙ n)
other_member a b (c ∷ bs) o (inr h) s n = other_member a b bs o.1 h s n

-- another message may be added
pub other_push : (a b : Arrived) (bs : List Arrived) → Other a bs → (b.life ≡ a.life → b.no.0 ≡ a.no.0 → ⊥) → Other a (bs ++ b ∷ [])
other_push a b [] o h = (h, tt)
other_push a b (c ∷ bs) o h = (o.0, other_push a b bs o.1 h)

-- and so to a list of which each stands in it once
pub all_push : (a : Arrived) (bs : List Arrived) → AllOther bs → ((b : Arrived) → Member b bs → b.life ≡ a.life → b.no.0 ≡ a.no.0 → ⊥) → AllOther (bs ++ a ∷ [])
all_push a [] o h = (tt, tt)
all_push a (b ∷ bs) o h = (other_push b a bs o.0 (λ s n. h b (inl refl) (sym s) (sym n)), all_push a bs o.1 (λ c k. h c (inr k)))

-- a filter has no more messages
pub other_filter : (t : Arrived → Bool) (a : Arrived) (bs : List Arrived) → Other a bs → Other a (filter t bs)
other_filter t a [] o = tt
other_filter t a (b ∷ bs) o = elim (t b) as (λ x. Other a (cond x (b ∷ filter t bs) (filter t bs))) [ true ↦ (o.0, other_filter t a bs o.1) | false ↦ other_filter t a bs o.1 ]

-- and each of them once
pub all_filter : (t : Arrived → Bool) (bs : List Arrived) → AllOther bs → AllOther (filter t bs)
all_filter t [] o = tt
all_filter t (b ∷ bs) o = elim (t b) as (λ x. AllOther (cond x (b ∷ filter t bs) (filter t bs))) [ true ↦ (other_filter t b bs o.0, all_filter t bs o.1) | false ↦ all_filter t bs o.1 ]

-- nor has a list without one of its elements
pub other_without : (t : Arrived → Bool) (a : Arrived) (bs : List Arrived) → Other a bs → Other a (without_first t bs)
unfolding without_first
other_without t a [] o = tt
other_without t a (b ∷ bs) o = elim (t b) as (λ x. Other a (cond x bs (b ∷ without_first t bs))) [ true ↦ o.1 | false ↦ (o.0, other_without t a bs o.1) ]

-- and each of them once
pub all_without : (t : Arrived → Bool) (bs : List Arrived) → AllOther bs → AllOther (without_first t bs)
unfolding without_first
all_without t [] o = tt
all_without t (b ∷ bs) o = elim (t b) as (λ x. AllOther (cond x bs (b ∷ without_first t bs))) [ true ↦ o.1 | false ↦ (other_without t b bs o.0, all_without t bs o.1) ]

-- the list without its first element that passes lacks that one
pub first_other : (t : Arrived → Bool) (a : Arrived) (bs : List Arrived) → AllOther bs → find t bs ≡ Some a → Other a (without_first t bs)
unfolding without_first
first_other t a [] o h = tt
first_other t a (b ∷ bs) o h =
    (elim (t b) as (λ x. cond x (Some b) (find t bs) ≡ Some a → Other a (cond x bs (b ∷ without_first t bs))) [
      | true ↦ λ k. let e : b ≡ a = cc in subst (λ (x : Arrived). Other x bs) e o.0
      | false ↦ λ k. (λ s n. other_member b a bs o.0 (find_member t a bs k).0 (sym s) (sym n), first_other t a bs o.1 k)
    ]) h

-- no number of the list is that one
abbrev pub LacksNumber : ℕ → List ℕ → Type 0
LacksNumber n [] = Unit {0}
LacksNumber n (k ∷ ks) = (k ≡ n → ⊥) × LacksNumber n ks

-- each number stands in the list once
abbrev pub NumbersApart : List ℕ → Type 0
NumbersApart [] = Unit {0}
NumbersApart (k ∷ ks) = LacksNumber k ks × NumbersApart ks

-- an element of the list is another number
pub lacks_number : (n k : ℕ) (ks : List ℕ) → LacksNumber n ks → Member k ks → k ≡ n → ⊥
lacks_number n k [] l h e = elim h [ ]
lacks_number n k (j ∷ ks) l (inl is) e = l.0 (is ∙ e)
lacks_number n k (j ∷ ks) l (inr h) e = lacks_number n k ks l.1 h e

-- another number may be added
pub lacks_push : (n k : ℕ) (ks : List ℕ) → LacksNumber n ks → (k ≡ n → ⊥) → LacksNumber n (ks ++ k ∷ [])
lacks_push n k [] l h = (h, tt)
lacks_push n k (j ∷ ks) l h = (l.0, lacks_push n k ks l.1 h)

-- and so to numbers that are apart
pub apart_push : (k : ℕ) (ks : List ℕ) → NumbersApart ks → ((j : ℕ) → Member j ks → j ≡ k → ⊥) → NumbersApart (ks ++ k ∷ [])
apart_push k [] l h = (tt, tt)
apart_push k (j ∷ ks) l h = (lacks_push j k ks l.0 (λ e. h j (inl refl) (sym e)), apart_push k ks l.1 (λ i m. h i (inr m)))

-- each of them once
pub below_apart : (n : ℕ) → NumbersApart (below n)
unfolding below
below_apart zero = tt
below_apart (suc n) = apart_push n (below n) (below_apart n) (λ j h e. let l = member_below n j h in omega arith)

-- a filter lacks no less
pub lacks_filter : (p : ℕ → Bool) (n : ℕ) (ks : List ℕ) → LacksNumber n ks → LacksNumber n (filter p ks)
lacks_filter p n [] l = tt
lacks_filter p n (k ∷ ks) l = elim (p k) as (λ x. LacksNumber n (cond x (k ∷ filter p ks) (filter p ks))) [ true ↦ (l.0, lacks_filter p n ks l.1) | false ↦ lacks_filter p n ks l.1 ]

-- and its numbers stay apart
pub apart_filter : (p : ℕ → Bool) (ks : List ℕ) → NumbersApart ks → NumbersApart (filter p ks)
apart_filter p [] l = tt
apart_filter p (k ∷ ks) l = elim (p k) as (λ x. NumbersApart (cond x (k ∷ filter p ks) (filter p ks))) [ true ↦ (lacks_filter p k ks l.0, apart_filter p ks l.1) | false ↦ apart_filter p ks l.1 ]

-- numbers that are moved on lack the number moved on
pub numbers_lack : (first n : ℕ) (ks : List ℕ) → LacksNumber n ks → LacksNumber (first + n) (map (λ k. first + k) ks)
numbers_lack first n [] l = tt
numbers_lack first n (k ∷ ks) l = ((λ e. l.0 (omega arith)), numbers_lack first n ks l.1)

-- and stay apart
pub numbers_apart : (first : ℕ) (ks : List ℕ) → NumbersApart ks → NumbersApart (map (λ k. first + k) ks)
numbers_apart first [] l = tt
numbers_apart first (k ∷ ks) l = (numbers_lack first k ks l.0, numbers_apart first ks l.1)
