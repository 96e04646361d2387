-- The places that gaps have.
use Rattle.std.proofs.Common.{◌≡◌, ℕ, suc, ◌+◌, ◌-◌, ◌*◌, ◌<◌, ◌≤◌, Bool, true, false, cond, ltb, List, [], ◌∷◌, ◌++◌, length, get_or, take, drop, replicate, set, refl, sym, ap, subst, ◌∙◌, arith, append_assoc, length-append, lt-ltb, ltb-false, take_at, drop_at}
use Rattle.std.proofs.lemmas.List.{length-replicate, take-append-drop, take-set, drop-set, set-get_or, get_or_default, replicate-append-replicate, get_or-take, get_or-drop, get_or-replicate}
use Rattle.std.proofs.lemmas.List.Sums.{sum_by-append}
use Rattle.std.proofs.lemmas.List.Folds.{sum_by-replicate}
use Rattle.std.proofs.lemmas.Bool.{le-ltb}
use Rattle.std.proofs.Math.Seq.{drop-append-add}
use Rattle.std.specs.List.{All, count_by}
use Rattle.rdm_gaps.specs.declared.ranges.Gap.{Gap}
use Rattle.rdm_gaps.specs.Ranges.{gap, places_of, AreApart, total, between}
use Rattle.rdm_gaps.specs.Places.{with_range, AreAll}

no : ℕ → List Bool
no n = replicate n false

yes : ℕ → List Bool
yes n = replicate n true

-- what lies before a gap, the gap, and what lies after it
pub places_of-append : (lo n : ℕ) (xs : List Gap) (h : Gap) (ys : List Gap) → places_of lo n (xs ++ h ∷ ys) ≡ places_of lo h.start xs ++ (replicate (h.end - h.start) true ++ places_of h.end n ys)
places_of-append lo n [] h ys = refl
places_of-append lo n (x ∷ xs) h ys =
    let rest = replicate (h.end - h.start) true ++ places_of h.end n ys in
    ap (λ l. replicate (x.start - lo) false ++ (replicate (x.end - x.start) true ++ l)) (places_of-append x.end n xs h ys)
    ∙ ap (λ l. replicate (x.start - lo) false ++ l) (sym (append_assoc (replicate (x.end - x.start) true) (places_of x.end h.start xs) rest))
    ∙ sym (append_assoc (replicate (x.start - lo) false) (replicate (x.end - x.start) true ++ places_of x.end h.start xs) rest)

pub AreApart_le : (lo n : ℕ) (gaps : List Gap) → AreApart lo n gaps → lo ≤ n + 1
AreApart_le lo n [] s = s
AreApart_le lo n (h ∷ gaps) s = let rest : h.end + 1 ≤ n + 1 = AreApart_le (h.end + 1) n gaps s.2 in omega (arith, s.0, s.1)

pub AreApart_lower : (lo lo' n : ℕ) (gaps : List Gap) → lo' ≤ lo → AreApart lo n gaps → AreApart lo' n gaps
AreApart_lower lo lo' n [] le s = omega arith
AreApart_lower lo lo' n (h ∷ gaps) le s = (omega (arith, s.0), s.1, s.2)

pub length-places_of : (lo n : ℕ) (gaps : List Gap) → AreApart lo n gaps → length (places_of lo n gaps) ≡ n - lo
length-places_of lo n [] s = length-replicate (n - lo) false
length-places_of lo n (h ∷ gaps) s =
    let a : length (replicate (h.start - lo) false) ≡ h.start - lo = length-replicate (h.start - lo) false in
    let b : length (replicate (h.end - h.start) true) ≡ h.end - h.start = length-replicate (h.end - h.start) true in
    let low : AreApart h.end n gaps = AreApart_lower (h.end + 1) h.end n gaps (omega arith) s.2 in
    let c : length (places_of h.end n gaps) ≡ n - h.end = length-places_of h.end n gaps low in
    let le : h.end + 1 ≤ n + 1 = AreApart_le (h.end + 1) n gaps s.2 in
    let d = length-append (replicate (h.start - lo) false) (replicate (h.end - h.start) true ++ places_of h.end n gaps) in
    let e = length-append (replicate (h.end - h.start) true) (places_of h.end n gaps) in
    omega (arith, a, b, c, d, e, le, s.0, s.1)

-- the part before a gap, and the part after it
pub AreApart_front : (lo n : ℕ) (xs : List Gap) (h : Gap) (ys : List Gap) → AreApart lo n (xs ++ h ∷ ys) → AreApart lo h.start xs
AreApart_front lo n [] h ys s = omega (arith, s.0)
AreApart_front lo n (x ∷ xs) h ys s = (s.0, s.1, AreApart_front (x.end + 1) n xs h ys s.2)

pub AreApart_at : (lo n : ℕ) (xs : List Gap) (h : Gap) (ys : List Gap) → AreApart lo n (xs ++ h ∷ ys) → (h.start < h.end) × AreApart (h.end + 1) n ys
AreApart_at lo n [] h ys s = (s.1, s.2)
AreApart_at lo n (x ∷ xs) h ys s = AreApart_at (x.end + 1) n xs h ys s.2

-- gaps that end by m
pub AreApart_ends : (lo n m : ℕ) (xs ys : List Gap) → lo ≤ m + 1 → All (λ (h : Gap). h.end ≤ m) xs → AreApart lo n (xs ++ ys) → AreApart lo m xs
AreApart_ends lo n m [] ys le a s = le
AreApart_ends lo n m (x ∷ xs) ys le a s = (s.0, s.1, AreApart_ends (x.end + 1) n m xs ys (let first : x.end ≤ m = a 0 x (omega arith) in omega arith) (λ k d lt. a (suc k) d (omega arith)) s.2)

pub AreApart_rest : (lo n : ℕ) (xs ys : List Gap) → AreApart lo n (xs ++ ys) → (k : ℕ) × AreApart k n ys
AreApart_rest lo n [] ys s = (lo, s)
AreApart_rest lo n (x ∷ xs) ys s = AreApart_rest (x.end + 1) n xs ys s.2

pub places_seam : (lo m n : ℕ) (ys : List Gap) → lo ≤ m → m ≤ n → AreApart m n ys → replicate (m - lo) false ++ places_of m n ys ≡ places_of lo n ys
places_seam lo m n [] a b s =
    let e : (m - lo) + (n - m) ≡ n - lo = omega arith in
    replicate-append-replicate (m - lo) (n - m) false ∙ ap (λ k. replicate k false) e
places_seam lo m n (y ∷ ys) a b s =
    let rest = replicate (y.end - y.start) true ++ places_of y.end n ys in
    let e : (m - lo) + (y.start - m) ≡ y.start - lo = omega (arith, s.0) in
    sym (append_assoc (replicate (m - lo) false) (replicate (y.start - m) false) rest) ∙ ap (λ l. l ++ rest) (replicate-append-replicate (m - lo) (y.start - m) false ∙ ap (λ k. replicate k false) e)

-- cut at a place where no gap stands across
pub places_cut : (lo m n : ℕ) (xs ys : List Gap) → lo ≤ m → m ≤ n → AreApart lo m xs → AreApart m n ys → places_of lo m xs ++ places_of m n ys ≡ places_of lo n (xs ++ ys)
places_cut lo m n [] ys a b s t = places_seam lo m n ys a b t
places_cut lo m n (x ∷ xs) ys a b s t =
    let le : x.end + 1 ≤ m + 1 = AreApart_le (x.end + 1) m xs s.2 in
    let low : AreApart x.end m xs = AreApart_lower (x.end + 1) x.end m xs (omega arith) s.2 in
    append_assoc (replicate (x.start - lo) false) (replicate (x.end - x.start) true ++ places_of x.end m xs) (places_of m n ys)
    ∙ ap (λ l. replicate (x.start - lo) false ++ l) (append_assoc (replicate (x.end - x.start) true) (places_of x.end m xs) (places_of m n ys)
    ∙ ap (λ l. replicate (x.end - x.start) true ++ l) (places_cut x.end m n xs ys (omega arith) b low t))

-- a gap that may be empty
pub places_between : (lo a b n : ℕ) (xs ys : List Gap) → lo ≤ a → a ≤ b → b ≤ n → AreApart lo a xs → AreApart b n ys
    → places_of lo n (xs ++ (between a b ++ ys)) ≡ places_of lo a xs ++ (replicate (b - a) true ++ places_of b n ys)
places_between lo a b n xs ys la ab bn s t =
    elim (ltb a b) as (λ v. ltb a b ≡ v → places_of lo n (xs ++ (cond v (gap a b ∷ []) [] ++ ys)) ≡ places_of lo a xs ++ (replicate (b - a) true ++ places_of b n ys)) [
      | true ↦ λ e. places_of-append lo n xs (gap a b) ys
      | false ↦ λ e.
          let le : b ≤ a = ltb-false a b e in
          let same : a ≡ b = omega arith in
          let none : b - a ≡ 0 = omega arith in
          sym (places_cut lo a n xs ys la (omega arith) s (subst (λ k. AreApart k n ys) (sym same) t))
          ∙ ap (λ k. places_of lo a xs ++ places_of k n ys) same ∙ ap (λ k. places_of lo a xs ++ (replicate k true ++ places_of b n ys)) (sym none)
    ] refl

-- the range is inside what is all missing
module _ (A C : List Bool) (s e off len : ℕ) where
  pub middle : s ≤ off → off + len ≤ e → replicate (e - s) true ≡ replicate (off - s) true ++ (replicate len true ++ replicate (e - (off + len)) true)
  middle p q =
      let i : (off - s) + (len + (e - (off + len))) ≡ e - s = omega arith in
      sym (ap (λ l. replicate (off - s) true ++ l) (replicate-append-replicate len (e - (off + len)) true)
      ∙ replicate-append-replicate (off - s) (len + (e - (off + len))) true ∙ ap (λ k. replicate k true) i)

-- a range that is between a front and a back is written
pub set_between : (b : Bool) (F M B : List Bool) (off len : ℕ) → length F ≡ off → length M ≡ len → with_range b off len (F ++ (M ++ B)) ≡ F ++ (replicate len b ++ B)
set_between b F M B off len f m =
    let all : length (F ++ M) ≡ off + len = length-append F M ∙ ap (λ k. k + length M) f ∙ ap (λ k. off + k) m in
    let front : take off (F ++ (M ++ B)) ≡ F = take_at F (M ++ B) off f in
    let back : drop (off + len) (F ++ (M ++ B)) ≡ B = ap (drop (off + len)) (sym (append_assoc F M B)) ∙ drop_at (F ++ M) B (off + len) all in
    ap (λ l. l ++ (replicate len b ++ drop (off + len) (F ++ (M ++ B)))) front ∙ ap (λ l. F ++ (replicate len b ++ l)) back

-- and it is all b where it was
pub all_between : (b : Bool) (F B : List Bool) (off len : ℕ) → length F ≡ off → AreAll b off len (F ++ (replicate len b ++ B))
all_between b F B off len f =
    let l = length-append F (replicate len b ++ B) in
    let k = length-append (replicate len b) B in
    let r : length (replicate len b) ≡ len = length-replicate len b in
    (omega (arith, l, k, r, f), ap (take len) (drop_at F (replicate len b ++ B) off f) ∙ take_at (replicate len b) B len r)

-- each place of the range
pub all_at : (b d : Bool) (off len k : ℕ) (bs : List Bool) → AreAll b off len bs → off ≤ k → k < off + len → get_or bs k d ≡ b
all_at b d off len k bs a p q =
    let i : k - off < len = omega arith in
    let at : off + (k - off) ≡ k = omega arith in
    sym (ap (λ j. get_or bs j d) at) ∙ sym (get_or-drop off bs (k - off) d) ∙ sym (get_or-take len (drop off bs) (k - off) d i)
    ∙ ap (λ l. get_or l (k - off) d) a.1 ∙ get_or-replicate len (k - off) b d i

-- how many places are missing
count_one : (n : ℕ) (b : Bool) → count_by (λ b. b) (replicate n b) ≡ n * cond b 1 0
count_one n b = sum_by-replicate (λ b. cond b 1 0) n b

pub count-places_of : (lo n : ℕ) (gaps : List Gap) → count_by (λ b. b) (places_of lo n gaps) ≡ total gaps
count-places_of lo n [] = let e = count_one (n - lo) false in omega (arith, e)
count-places_of lo n (h ∷ gaps) =
    let f : Bool → ℕ = λ b. cond b 1 0 in
    let rest = places_of h.end n gaps in
    let a = sum_by-append f (replicate (h.start - lo) false) (replicate (h.end - h.start) true ++ rest) in
    let b = sum_by-append f (replicate (h.end - h.start) true) rest in
    let none = count_one (h.start - lo) false in
    let some = count_one (h.end - h.start) true in
    omega (arith, a, b, none, some, count-places_of h.end n gaps)

pub between-some : (a b : ℕ) → a < b → between a b ≡ gap a b ∷ []
between-some a b lt = ap (λ v. cond v (gap a b ∷ []) []) (lt-ltb a b lt)

pub between-none : (a b : ℕ) → b ≤ a → between a b ≡ []
between-none a b le = ap (λ v. cond v (gap a b ∷ []) []) (le-ltb a b le)

pub set_is : (gaps : List Gap) (i : ℕ) (h : Gap) → i < length gaps → set gaps i h ≡ take i gaps ++ h ∷ drop (i + 1) gaps
set_is gaps i h lt = sym (take-append-drop i (set gaps i h)) ∙ ap (λ l. l ++ drop i (set gaps i h)) (take-set gaps i h) ∙ ap (λ l. take i gaps ++ l) (drop-set gaps i h lt)

pub parted : (gaps : List Gap) (i : ℕ) (d : Gap) → i < length gaps → gaps ≡ take i gaps ++ get_or gaps i d ∷ drop (i + 1) gaps
parted gaps i d lt = sym (set-get_or gaps i d) ∙ set_is gaps i (get_or gaps i d) lt

-- the gap at i, less what is taken from its front, or from its back
module _ (gaps : List Gap) (i off end : ℕ) (h : Gap) (lt : i < length gaps) (is : h ≡ get_or gaps i h) where
  same : get_or gaps i (gap 0 0) ≡ h
  same = get_or_default gaps i (gap 0 0) h lt ∙ sym is

  pub cut_back : h.start < off → h.end ≤ end
      → set gaps i (gap h.start off) ≡ take i gaps ++ (between (get_or gaps i (gap 0 0)).start off ++ (between end (get_or gaps i (gap 0 0)).end ++ drop (i + 1) gaps))
  cut_back p q = rw (same, between-some h.start off p, between-none end h.end q) (set_is gaps i (gap h.start off) lt)

  pub cut_front : off ≤ h.start → end < h.end
      → set gaps i (gap end h.end) ≡ take i gaps ++ (between (get_or gaps i (gap 0 0)).start off ++ (between end (get_or gaps i (gap 0 0)).end ++ drop (i + 1) gaps))
  cut_front p q = rw (same, between-none h.start off p, between-some end h.end q) (set_is gaps i (gap end h.end) lt)

-- what is dropped reaches past the first list
pub drop_past : {A : Type 0} (xs ys : List A) (k : ℕ) → length xs ≤ k → drop k (xs ++ ys) ≡ drop (k - length xs) ys
drop_past xs ys k le =
    let e : k ≡ length xs + (k - length xs) = omega arith in
    ap (λ j. drop j (xs ++ ys)) e ∙ drop-append-add xs ys (k - length xs)
