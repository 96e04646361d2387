-- The places that parts at home have.
use Rattle.std.proofs.Common.{◌≡◌, ℕ, zero, suc, ◌+◌, ◌-◌, ◌<◌, ◌≤◌, true, false, cond, ltb, List, [], ◌∷◌, ◌++◌, length, get_or, take, drop, map, replicate, Option, Some, None, refl, sym, ap, subst, ◌∙◌, arith, append_assoc, length-append, ltb-true, ltb-false, take_at, drop_at, drop-cons}
use Rattle.std.proofs.lemmas.List.{length-replicate, length-map, nil_from_length, replicate-append-replicate, get_or-take, get_or-drop, get_or-replicate, get_or-append_right, take-append-drop, length-take-le, length-take-le}
use Rattle.std.specs.List.{All, AllWithin}
use Rattle.rdm_mr.specs.Part.{Piece, end_of}
use Rattle.rdm_mr.specs.Ordered.{cells_of, AreApart, unless_empty}
use Rattle.rdm_mr.specs.Tiles.{laid, Lie, AreHome}

-- what lies before a part, the part, and what lies after it
pub cells_of-append : (lo n : ℕ) (xs : List Piece) (p : Piece) (ys : List Piece) → cells_of lo n (xs ++ p ∷ ys) ≡ cells_of lo p.start xs ++ (map Some p.bytes ++ cells_of (end_of p) n ys)
cells_of-append lo n [] p ys = refl
cells_of-append lo n (x ∷ xs) p ys =
    let rest = map Some p.bytes ++ cells_of (end_of p) n ys in
    ap (λ l. replicate (x.start - lo) None ++ (map Some x.bytes ++ l)) (cells_of-append (end_of x) n xs p ys)
    ∙ ap (λ l. replicate (x.start - lo) None ++ l) (sym (append_assoc (map Some x.bytes) (cells_of (end_of x) p.start xs) rest))
    ∙ sym (append_assoc (replicate (x.start - lo) None) (map Some x.bytes ++ cells_of (end_of x) p.start xs) rest)

pub AreApart_le : (lo n : ℕ) (parts : List Piece) → AreApart lo n parts → lo ≤ n + 1
AreApart_le lo n [] s = s
AreApart_le lo n (p ∷ parts) s = let rest : end_of p + 1 ≤ n + 1 = AreApart_le (end_of p + 1) n parts s.2 in omega (arith, s.0, s.1)

pub AreApart_lower : (lo lo' n : ℕ) (parts : List Piece) → lo' ≤ lo → AreApart lo n parts → AreApart lo' n parts
AreApart_lower lo lo' n [] le s = omega arith
AreApart_lower lo lo' n (p ∷ parts) le s = (omega (arith, s.0), s.1, s.2)

pub length-cells_of : (lo n : ℕ) (parts : List Piece) → AreApart lo n parts → length (cells_of lo n parts) ≡ n - lo
length-cells_of lo n [] s = length-replicate (n - lo) None
length-cells_of lo n (p ∷ parts) s =
    let gap = replicate {A = Option ℕ} (p.start - lo) None in
    let a : length gap ≡ p.start - lo = length-replicate (p.start - lo) None in
    let b : length (map Some p.bytes) ≡ length p.bytes = length-map p.bytes Some in
    let low : AreApart (end_of p) n parts = AreApart_lower (end_of p + 1) (end_of p) n parts (omega arith) s.2 in
    let c : length (cells_of (end_of p) n parts) ≡ n - end_of p = length-cells_of (end_of p) n parts low in
    let le : end_of p + 1 ≤ n + 1 = AreApart_le (end_of p + 1) n parts s.2 in
    let d = length-append gap (map Some p.bytes ++ cells_of (end_of p) n parts) in
    let e = length-append (map Some p.bytes) (cells_of (end_of p) n parts) in
    omega (arith, a, b, c, d, e, le, s.0, s.1)

pub AreApart_front : (lo n : ℕ) (xs : List Piece) (p : Piece) (ys : List Piece) → AreApart lo n (xs ++ p ∷ ys) → AreApart lo p.start xs
AreApart_front lo n [] p ys s = omega (arith, s.0)
AreApart_front lo n (x ∷ xs) p ys s = (s.0, s.1, AreApart_front (end_of x + 1) n xs p ys s.2)

pub AreApart_at : (lo n : ℕ) (xs : List Piece) (p : Piece) (ys : List Piece) → AreApart lo n (xs ++ p ∷ ys) → (0 < length p.bytes) × AreApart (end_of p + 1) n ys
AreApart_at lo n [] p ys s = (s.1, s.2)
AreApart_at lo n (x ∷ xs) p ys s = AreApart_at (end_of x + 1) n xs p ys s.2

pub AreApart_upto : (lo n : ℕ) (xs : List Piece) (p : Piece) (ys : List Piece) → AreApart lo n (xs ++ p ∷ ys) → AreApart lo (end_of p) (xs ++ p ∷ [])
AreApart_upto lo n [] p ys s = (s.0, s.1, omega arith)
AreApart_upto lo n (x ∷ xs) p ys s = (s.0, s.1, AreApart_upto (end_of x + 1) n xs p ys s.2)

pub AreApart_ends : (lo n m : ℕ) (xs ys : List Piece) → lo ≤ m + 1 → All (λ (p : Piece). end_of p ≤ m) xs → AreApart lo n (xs ++ ys) → AreApart lo m xs
AreApart_ends lo n m [] ys le a s = le
AreApart_ends lo n m (x ∷ xs) ys le a s = (s.0, s.1, AreApart_ends (end_of x + 1) n m xs ys (let first : end_of x ≤ m = a 0 x (omega arith) in omega arith) (λ k d lt. a (suc k) d (omega arith)) s.2)

pub AreApart_join : (lo n : ℕ) (xs : List Piece) (p : Piece) (ys zs : List Piece) → AreApart lo n (xs ++ p ∷ ys) → AreApart p.start n zs → AreApart lo n (xs ++ zs)
AreApart_join lo n [] p ys zs s t = AreApart_lower p.start lo n zs s.0 t
AreApart_join lo n (x ∷ xs) p ys zs s t = (s.0, s.1, AreApart_join (end_of x + 1) n xs p ys zs s.2 t)

pub cells_seam : (lo m n : ℕ) (ys : List Piece) → lo ≤ m → m ≤ n → AreApart m n ys → replicate (m - lo) None ++ cells_of m n ys ≡ cells_of lo n ys
cells_seam lo m n [] a b s =
    let e : (m - lo) + (n - m) ≡ n - lo = omega arith in
    replicate-append-replicate (m - lo) (n - m) None ∙ ap (λ k. replicate k None) e
cells_seam lo m n (y ∷ ys) a b s =
    let rest = map Some y.bytes ++ cells_of (end_of y) n ys in
    let e : (m - lo) + (y.start - m) ≡ y.start - lo = omega (arith, s.0) in
    sym (append_assoc (replicate (m - lo) None) (replicate (y.start - m) None) rest) ∙ ap (λ l. l ++ rest) (replicate-append-replicate (m - lo) (y.start - m) None ∙ ap (λ k. replicate k None) e)

pub cells_cut : (lo m n : ℕ) (xs ys : List Piece) → lo ≤ m → m ≤ n → AreApart lo m xs → AreApart m n ys → cells_of lo m xs ++ cells_of m n ys ≡ cells_of lo n (xs ++ ys)
cells_cut lo m n [] ys a b s t = cells_seam lo m n ys a b t
cells_cut lo m n (x ∷ xs) ys a b s t =
    let le : end_of x + 1 ≤ m + 1 = AreApart_le (end_of x + 1) m xs s.2 in
    let low : AreApart (end_of x) m xs = AreApart_lower (end_of x + 1) (end_of x) m xs (omega arith) s.2 in
    append_assoc (replicate (x.start - lo) None) (map Some x.bytes ++ cells_of (end_of x) m xs) (cells_of m n ys)
    ∙ ap (λ l. replicate (x.start - lo) None ++ l) (append_assoc (map Some x.bytes) (cells_of (end_of x) m xs) (cells_of m n ys)
    ∙ ap (λ l. map Some x.bytes ++ l) (cells_cut (end_of x) m n xs ys (omega arith) b low t))

-- a part that may be empty
pub cells_unless_empty : (lo n : ℕ) (p : Piece) (xs ys : List Piece) → lo ≤ p.start → end_of p ≤ n → AreApart lo p.start xs → AreApart (end_of p) n ys
    → cells_of lo n (xs ++ (unless_empty p ++ ys)) ≡ cells_of lo p.start xs ++ (map Some p.bytes ++ cells_of (end_of p) n ys)
cells_unless_empty lo n p xs ys la bn s t =
    elim (ltb 0 (length p.bytes)) as (λ v. ltb 0 (length p.bytes) ≡ v → cells_of lo n (xs ++ (cond v (p ∷ []) [] ++ ys)) ≡ cells_of lo p.start xs ++ (map Some p.bytes ++ cells_of (end_of p) n ys)) [
      | true ↦ λ e. cells_of-append lo n xs p ys
      | false ↦ λ e.
          let le : length p.bytes ≤ 0 = ltb-false 0 (length p.bytes) e in
          let none : p.bytes ≡ [] = nil_from_length p.bytes (omega arith) in
          let same : p.start ≡ end_of p = omega arith in
          sym (cells_cut lo p.start n xs ys la (omega arith) s (subst (λ k. AreApart k n ys) (sym same) t))
          ∙ ap (λ k. cells_of lo p.start xs ++ cells_of k n ys) same ∙ ap (λ l. cells_of lo p.start xs ++ (map Some l ++ cells_of (end_of p) n ys)) (sym none)
    ] refl

pub AreApart_unless_empty : (lo n : ℕ) (p : Piece) (ys : List Piece) → lo ≤ p.start → AreApart (end_of p + 1) n ys → AreApart lo n (unless_empty p ++ ys)
AreApart_unless_empty lo n p ys la s =
    elim (ltb 0 (length p.bytes)) as (λ v. ltb 0 (length p.bytes) ≡ v → AreApart lo n (cond v (p ∷ []) [] ++ ys)) [
      | true ↦ λ e. (la, ltb-true 0 (length p.bytes) e, s)
      | false ↦ λ e. AreApart_lower (end_of p + 1) lo n ys (omega arith) s
    ] refl

-- a range between a front and a back
pub laid_between : (xs F M B : List (Option ℕ)) (at : ℕ) → length F ≡ at → length M ≡ length xs → laid at xs (F ++ (M ++ B)) ≡ F ++ (xs ++ B)
laid_between xs F M B at f m =
    let all : length (F ++ M) ≡ at + length xs = length-append F M ∙ ap (λ k. k + length M) f ∙ ap (λ k. at + k) m in
    let front : take at (F ++ (M ++ B)) ≡ F = take_at F (M ++ B) at f in
    let back : drop (at + length xs) (F ++ (M ++ B)) ≡ B = ap (drop (at + length xs)) (sym (append_assoc F M B)) ∙ drop_at (F ++ M) B (at + length xs) all in
    ap (λ l. l ++ (xs ++ drop (at + length xs) (F ++ (M ++ B)))) front ∙ ap (λ l. F ++ (xs ++ l)) back

pub lie_between : (xs F B : List (Option ℕ)) (at : ℕ) → length F ≡ at → Lie at xs (F ++ (xs ++ B))
lie_between xs F B at f =
    let l = length-append F (xs ++ B) in
    let k = length-append xs B in
    (omega (arith, l, k, f), ap (take (length xs)) (drop_at F (xs ++ B) at f) ∙ take_at xs B (length xs) refl)

pub parted : (parts : List Piece) (i : ℕ) (d : Piece) → i < length parts → parts ≡ take i parts ++ get_or parts i d ∷ drop (i + 1) parts
parted parts i d lt =
    let next : suc i ≡ i + 1 = omega arith in
    sym (take-append-drop i parts) ∙ ap (λ l. take i parts ++ l) (drop-cons parts i d lt ∙ ap (λ k. get_or parts i d ∷ drop k parts) next)

-- the first place before any part is not at home
not_head : (m n : ℕ) (ys : List Piece) → m < n → AreApart (m + 1) n ys → get_or (cells_of m n ys) 0 None ≡ None
not_head m n [] lt s = get_or-replicate (n - m) 0 None None (omega arith)
not_head m n (y ∷ ys) lt s =
    elim (y.start - m) as (λ k. y.start - m ≡ k → get_or (replicate k None ++ (map Some y.bytes ++ cells_of (end_of y) n ys)) 0 None ≡ None) [
      | zero ↦ λ e. absurd (omega (arith, s.0, e))
      | suc k ↦ λ e. refl
    ] refl

-- a place between parts is not at home
pub not_home : (lo m n : ℕ) (xs ys : List Piece) → lo ≤ m → m < n → AreApart lo m xs → AreApart (m + 1) n ys → get_or (cells_of lo n (xs ++ ys)) (m - lo) None ≡ None
not_home lo m n xs ys le lt s t =
    let low : AreApart m n ys = AreApart_lower (m + 1) m n ys (omega arith) t in
    let len : length (cells_of lo m xs) ≡ m - lo = length-cells_of lo m xs s in
    let none : (m - lo) - (m - lo) ≡ 0 = omega arith in
    ap (λ l. get_or l (m - lo) None) (sym (cells_cut lo m n xs ys le (omega arith) s low))
    ∙ get_or-append_right (cells_of lo m xs) (cells_of m n ys) (m - lo) (m - lo) None len (omega arith)
    ∙ ap (λ k. get_or (cells_of m n ys) k None) none ∙ not_head m n ys lt t

-- each place of a range at home has a byte
pub home_at : (at len k : ℕ) (cs : List (Option ℕ)) → AreHome at len cs → at ≤ k → k < at + len → get_or cs k None ≡ None → ⊥
home_at at len k cs h p q none =
    let xs = h.0 in
    let i : k - at < length xs = omega (arith, h.1) in
    let sum : at + (k - at) ≡ k = omega arith in
    let long : length (map Some xs) ≡ length xs = length-map xs Some in
    let inside : k - at < length (map Some xs) = omega arith in
    some_none _ (sym (get_or_map xs (k - at) i) ∙ ap (λ l. get_or l (k - at) None) (sym h.2.1) ∙ get_or-take (length (map Some xs)) (drop at cs) (k - at) None inside ∙ get_or-drop at cs (k - at) None ∙ ap (λ j. get_or cs j None) sum ∙ none)
  where
    some_none : (x : ℕ) → Some x ≡ None → ⊥
    some_none x e = subst (λ (o : Option ℕ). the o) e tt
      where
        the : Option ℕ → Type 0
        the (Some y) = Unit {0}
        the None = ⊥

    get_or_map : (xs : List ℕ) (k : ℕ) → k < length xs → get_or (map Some xs) k None ≡ Some (get_or xs k 0)
    get_or_map [] k lt = absurd (omega arith)
    get_or_map (x ∷ xs) zero lt = refl
    get_or_map (x ∷ xs) (suc k) lt = get_or_map xs k (omega arith)

-- what holds of those before i holds of the first i
pub within_front : (P : Piece → Type 0) (i : ℕ) (parts : List Piece) → i ≤ length parts → AllWithin P parts 0 i → All P (take i parts)
within_front P i parts le h k d lt =
    let size = length-take-le i parts le in
    subst P (sym (get_or-take i parts k d (omega arith))) (h k d (omega arith) (omega arith))
