-- Lists by their places, and datagrams by their senders.
use Rattle.std.proofs.Common.{◌≡◌, ◌≢◌, ℕ, zero, suc, ◌<◌, ◌≤◌, eqb, cond, List, [], ◌∷◌, ◌++◌, length, take, replicate, get_or, sym, refl, ap, ◌∙◌, ◌⊎◌, inl, inr, arith, eq-eqb, ne_eqb}
use Rattle.std.proofs.lemmas.List.Elements.{filter-append}
use mathlib.Core.Option.{some, some-injective, some-ne-none}
use lib.ListN.{get_elem?}
use Rattle.rdm_wire.specs.declared.Datagram.{Datagram}
use Rattle.rdm_inbox.specs.Senders.{from_port, AreFor, list_at, changed_at}

-- a function with another value at one number
abbrev pub with_at : {A : Type 0} → (ℕ → A) → ℕ → A → ℕ → A
with_at f i x k = cond (eqb i k) x (f k)

pub with_at-here : {A : Type 0} (f : ℕ → A) (i k : ℕ) (x : A) → i ≡ k → with_at f i x k ≡ x
with_at-here f i k x e = ap (λ t. cond t x (f k)) (eq-eqb i k e)

pub with_at-else : {A : Type 0} (f : ℕ → A) (i k : ℕ) (x : A) → i ≢ k → with_at f i x k ≡ f k
with_at-else f i k x e = ap (λ t. cond t x (f k)) (ne_eqb i k e)

-- of one datagram, all is from its source
pub from_own : (p : ℕ) (d : Datagram) (ds : List Datagram) → d.src.0 ≡ p → from_port p (d ∷ ds) ≡ d ∷ from_port p ds
from_own p d ds e = ap (λ t. cond t (d ∷ from_port p ds) (from_port p ds)) (eq-eqb d.src.0 p e)

pub from_other : (p : ℕ) (d : Datagram) (ds : List Datagram) → d.src.0 ≢ p → from_port p (d ∷ ds) ≡ from_port p ds
from_other p d ds e = ap (λ t. cond t (d ∷ from_port p ds) (from_port p ds)) (ne_eqb d.src.0 p e)

pub from_port-append : (p : ℕ) (xs ys : List Datagram) → from_port p (xs ++ ys) ≡ from_port p xs ++ from_port p ys
from_port-append p xs ys = filter-append (λ (d : Datagram). eqb d.src.0 p) xs ys

pub AreFor-append : (port ports : ℕ) (xs ys : List Datagram) → AreFor port ports xs → AreFor port ports ys → AreFor port ports (xs ++ ys)
AreFor-append port ports [] ys a b = b
AreFor-append port ports (d ∷ ds) ys a b = (a.0, AreFor-append port ports ds ys a.1 b)

-- none comes from beyond the ports
pub from_beyond : (port ports p : ℕ) (xs : List Datagram) → AreFor port ports xs → ports ≤ p → from_port p xs ≡ []
from_beyond port ports p [] a le = refl
from_beyond port ports p (d ∷ ds) a le = from_other p d ds (λ e. let low = a.0.1 in absurd (omega arith)) ∙ from_beyond port ports p ds a.1 le

-- where there are no ports, there is no datagram
pub none_for : (port : ℕ) (xs : List Datagram) → AreFor port 0 xs → xs ≡ []
none_for port [] a = refl
none_for port (d ∷ ds) a = absurd (let low = a.0.1 in omega arith)

pub list_at-before : (ks : List (List Datagram)) (x : List Datagram) (k : ℕ) → k < length ks → list_at (ks ++ x ∷ []) k ≡ list_at ks k
list_at-before [] x k lt = absurd (omega arith)
list_at-before (y ∷ ks) x zero lt = refl
list_at-before (y ∷ ks) x (suc k) lt = list_at-before ks x k (omega arith)

pub list_at-last : (ks : List (List Datagram)) (x : List Datagram) (k : ℕ) → k ≡ length ks → list_at (ks ++ x ∷ []) k ≡ x
list_at-last [] x zero e = refl
list_at-last [] x (suc k) e = absurd (omega arith)
list_at-last (y ∷ ks) x zero e = absurd (omega arith)
list_at-last (y ∷ ks) x (suc k) e = list_at-last ks x k (omega arith)

pub list_at-take : (n k : ℕ) (ks : List (List Datagram)) → k < n → list_at (take n ks) k ≡ list_at ks k
list_at-take zero k ks lt = absurd (omega arith)
list_at-take (suc n) k [] lt = refl
list_at-take (suc n) zero (y ∷ ks) lt = refl
list_at-take (suc n) (suc k) (y ∷ ks) lt = list_at-take n k ks (omega arith)

pub length-take_all : (n : ℕ) (ks : List (List Datagram)) → n ≤ length ks → length (take n ks) ≡ n
length-take_all zero ks le = refl
length-take_all (suc n) [] le = absurd (omega arith)
length-take_all (suc n) (y ∷ ks) le = ap suc (length-take_all n ks (omega arith))

pub list_at-replicate : (n k : ℕ) → list_at (replicate n []) k ≡ []
list_at-replicate zero k = refl
list_at-replicate (suc n) zero = refl
list_at-replicate (suc n) (suc k) = list_at-replicate n k

pub length-replicate : {A : Type 0} (n : ℕ) (x : A) → length (replicate n x) ≡ n
length-replicate zero x = refl
length-replicate (suc n) x = ap suc (length-replicate n x)

module _ {A : Type 0} (f : A → A) where
  pub length-changed_at : (xs : List A) (i : ℕ) → length (changed_at f xs i) ≡ length xs
  length-changed_at [] i = refl
  length-changed_at (x ∷ xs) zero = refl
  length-changed_at (x ∷ xs) (suc i) = ap suc (length-changed_at xs i)

  pub changed_at-here : (xs : List A) (i : ℕ) (d : A) → i < length xs → get_or (changed_at f xs i) i d ≡ f (get_or xs i d)
  changed_at-here [] i d lt = absurd (omega arith)
  changed_at-here (x ∷ xs) zero d lt = refl
  changed_at-here (x ∷ xs) (suc i) d lt = changed_at-here xs i d (omega arith)

  pub changed_at-else : (xs : List A) (i j : ℕ) (d : A) → j ≢ i → get_or (changed_at f xs i) j d ≡ get_or xs j d
  changed_at-else [] i j d ne = refl
  changed_at-else (x ∷ xs) zero zero d ne = absurd (ne refl)
  changed_at-else (x ∷ xs) zero (suc j) d ne = refl
  changed_at-else (x ∷ xs) (suc i) zero d ne = refl
  changed_at-else (x ∷ xs) (suc i) (suc j) d ne = changed_at-else xs i j d (λ e. ne (ap suc e))

-- the last element, and those before it
pub at_last_or_before : {A : Type 0} (l : List A) (a b : A) (j : ℕ) → get_elem? (l ++ a ∷ []) j ≡ some b → (get_elem? l j ≡ some b) ⊎ ((a ≡ b) × (j ≡ length l))
at_last_or_before [] a b zero e = inr (some-injective a b e, refl)
at_last_or_before [] a b (suc j) e = absurd (some-ne-none b (sym e))
at_last_or_before (x ∷ xs) a b zero e = inl e
at_last_or_before (x ∷ xs) a b (suc j) e = elim (at_last_or_before xs a b j e) [ inl t ↦ inl t | inr t ↦ inr (t.0, ap suc t.1) ]
