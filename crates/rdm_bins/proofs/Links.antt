-- The links of places after one of them changed.
use Rattle.std.proofs.Common.{◌≡◌, refl, sym, ap, ◌∙◌, ℕ, zero, suc, ◌+◌, ◌<◌, ◌≤◌, List, [], ◌∷◌, ◌++◌, Option, Some, None, length, get_or, length-append, arith}
use Rattle.std.specs.Prelude.{cond, nat_eq}
use Rattle.std.specs.List.{slice_get}
use Rattle.std.proofs.Math.ListN.{set}
use Rattle.rdm_bins.specs.declared.chains.Link.{Link}
use Rattle.rdm_bins.specs.Chains.{after_at, before_at, after_link, before_link, with_after_at, with_before_at, with_after, with_before}
use Rattle.rdm_bins.proofs.Places.{apart, apart_turned, both_suc}
use Rattle.rdm_bins.proofs.Neighbours.{is_there}

-- a write behind a link
pub set_is_after : (ls : List Link) (n : ℕ) (l : Link) (a : Option ℕ) → l ≡ get_or ls n l → set ls n (record { before = l.before; after = a }) ≡ with_after_at ls n a
unfolding with_after_at
set_is_after [] n l a h = refl
set_is_after (k ∷ ls) zero l a h = ap (λ (m : Link). record { before = m.before; after = a } ∷ ls) h
set_is_after (k ∷ ls) (suc n) l a h = ap (λ ms. k ∷ ms) (set_is_after ls n l a h)

-- a write before a link
pub set_is_before : (ls : List Link) (n : ℕ) (l : Link) (b : Option ℕ) → l ≡ get_or ls n l → set ls n (record { before = b; after = l.after }) ≡ with_before_at ls n b
unfolding with_before_at
set_is_before [] n l b h = refl
set_is_before (k ∷ ls) zero l b h = ap (λ (m : Link). record { before = b; after = m.after } ∷ ls) h
set_is_before (k ∷ ls) (suc n) l b h = ap (λ ms. k ∷ ms) (set_is_before ls n l b h)

-- past the links nothing is written
pub past_after : (ls : List Link) (n : ℕ) (a : Option ℕ) → length ls ≤ n → ls ≡ with_after_at ls n a
unfolding with_after_at
past_after [] n a h = refl
past_after (k ∷ ls) zero a h = absurd (omega arith)
past_after (k ∷ ls) (suc n) a h = ap (λ ms. k ∷ ms) (past_after ls n a (omega arith))

-- past the links nothing is written
pub past_before : (ls : List Link) (n : ℕ) (b : Option ℕ) → length ls ≤ n → ls ≡ with_before_at ls n b
unfolding with_before_at
past_before [] n b h = refl
past_before (k ∷ ls) zero b h = absurd (omega arith)
past_before (k ∷ ls) (suc n) b h = ap (λ ms. k ∷ ms) (past_before ls n b (omega arith))

after_here : (ls : List Link) (n : ℕ) (a : Option ℕ) (k : ℕ) → n < length ls → after_at (with_after_at ls n a) k ≡ cond (nat_eq n k) a (after_at ls k)
unfolding with_after_at
after_here [] n a k h = absurd (omega arith)
after_here (l ∷ ls) zero a zero h = refl
after_here (l ∷ ls) zero a (suc k) h = sym (ap (λ t. cond t a (after_at ls k)) (apart 0 (suc k) (omega arith)))
after_here (l ∷ ls) (suc n) a zero h = sym (ap (λ t. cond t a (after_link (Some l))) (apart_turned (suc n) 0 (omega arith)))
after_here (l ∷ ls) (suc n) a (suc k) h = after_here ls n a k (omega arith) ∙ sym (ap (λ t. cond t a (after_at ls k)) (both_suc n k))

before_there : (ls : List Link) (n : ℕ) (a : Option ℕ) (k : ℕ) → before_at (with_after_at ls n a) k ≡ before_at ls k
unfolding with_after_at
before_there [] n a k = refl
before_there (l ∷ ls) zero a zero = refl
before_there (l ∷ ls) zero a (suc k) = refl
before_there (l ∷ ls) (suc n) a zero = refl
before_there (l ∷ ls) (suc n) a (suc k) = before_there ls n a k

before_here : (ls : List Link) (n : ℕ) (b : Option ℕ) (k : ℕ) → n < length ls → before_at (with_before_at ls n b) k ≡ cond (nat_eq n k) b (before_at ls k)
unfolding with_before_at
before_here [] n b k h = absurd (omega arith)
before_here (l ∷ ls) zero b zero h = refl
before_here (l ∷ ls) zero b (suc k) h = sym (ap (λ t. cond t b (before_at ls k)) (apart 0 (suc k) (omega arith)))
before_here (l ∷ ls) (suc n) b zero h = sym (ap (λ t. cond t b (before_link (Some l))) (apart_turned (suc n) 0 (omega arith)))
before_here (l ∷ ls) (suc n) b (suc k) h = before_here ls n b k (omega arith) ∙ sym (ap (λ t. cond t b (before_at ls k)) (both_suc n k))

after_there : (ls : List Link) (n : ℕ) (b : Option ℕ) (k : ℕ) → after_at (with_before_at ls n b) k ≡ after_at ls k
unfolding with_before_at
after_there [] n b k = refl
after_there (l ∷ ls) zero b zero = refl
after_there (l ∷ ls) zero b (suc k) = refl
after_there (l ∷ ls) (suc n) b zero = refl
after_there (l ∷ ls) (suc n) b (suc k) = after_there ls n b k

length_after_at : (ls : List Link) (n : ℕ) (a : Option ℕ) → length (with_after_at ls n a) ≡ length ls
unfolding with_after_at
length_after_at [] n a = refl
length_after_at (l ∷ ls) zero a = refl
length_after_at (l ∷ ls) (suc n) a = ap suc (length_after_at ls n a)

length_before_at : (ls : List Link) (n : ℕ) (b : Option ℕ) → length (with_before_at ls n b) ≡ length ls
unfolding with_before_at
length_before_at [] n b = refl
length_before_at (l ∷ ls) zero b = refl
length_before_at (l ∷ ls) (suc n) b = ap suc (length_before_at ls n b)

-- as many links as before
pub length_after : (ls : List Link) (p a : Option ℕ) → length (with_after ls p a) ≡ length ls
unfolding with_after
length_after ls None a = refl
length_after ls (Some n) a = length_after_at ls n a

-- as many links as before
pub length_before : (ls : List Link) (p b : Option ℕ) → length (with_before ls p b) ≡ length ls
unfolding with_before
length_before ls None b = refl
length_before ls (Some n) b = length_before_at ls n b

-- the place, if there is one, has a link
abbrev pub IsLinked : List Link → Option ℕ → Type 0
IsLinked ls None = Unit {0}
IsLinked ls (Some n) = n < length ls

-- what stands behind each place after a write behind one
pub after_with_after : (ls : List Link) (p a : Option ℕ) (k : ℕ) → IsLinked ls p → after_at (with_after ls p a) k ≡ cond (is_there p k) a (after_at ls k)
unfolding with_after
after_with_after ls None a k h = refl
after_with_after ls (Some n) a k h = after_here ls n a k h

-- what stands before each place is not changed by a write behind one
pub before_with_after : (ls : List Link) (p a : Option ℕ) (k : ℕ) → before_at (with_after ls p a) k ≡ before_at ls k
unfolding with_after
before_with_after ls None a k = refl
before_with_after ls (Some n) a k = before_there ls n a k

-- what stands before each place after a write before one
pub before_with_before : (ls : List Link) (p b : Option ℕ) (k : ℕ) → IsLinked ls p → before_at (with_before ls p b) k ≡ cond (is_there p k) b (before_at ls k)
unfolding with_before
before_with_before ls None b k h = refl
before_with_before ls (Some n) b k h = before_here ls n b k h

-- what stands behind each place is not changed by a write before one
pub after_with_before : (ls : List Link) (p b : Option ℕ) (k : ℕ) → after_at (with_before ls p b) k ≡ after_at ls k
unfolding with_before
after_with_before ls None b k = refl
after_with_before ls (Some n) b k = after_there ls n b k

-- a new last link changes no other one
pub link_front : (ls : List Link) (l : Link) (k : ℕ) → k < length ls → slice_get (ls ++ l ∷ []) k ≡ slice_get ls k
link_front [] l k h = absurd (omega arith)
link_front (m ∷ ls) l zero h = refl
link_front (m ∷ ls) l (suc k) h = link_front ls l k (omega arith)

-- the new last link
pub link_last : (ls : List Link) (l : Link) → slice_get (ls ++ l ∷ []) (length ls) ≡ Some l
link_last [] l = refl
link_last (m ∷ ls) l = link_last ls l

-- one link more
pub length_last : (ls : List Link) (l : Link) → length (ls ++ l ∷ []) ≡ length ls + 1
length_last ls l = length-append ls (l ∷ [])
