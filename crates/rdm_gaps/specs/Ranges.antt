-- The missing places as gaps in order.
use Rattle.std.specs.Prelude.{ℕ, zero, suc, ◌+◌, ◌-◌, ◌<◌, ◌≤◌, ◌⊎◌, Bool, true, false, cond, ltb, eqb, List, [], ◌∷◌, ◌++◌, take, drop, replicate, slice_index_or}
use Rattle.std.specs.List.{insert}
use Rattle.rdm_gaps.specs.declared.ranges.Gap.{Gap}

-- the gap from start up to end
abbrev pub gap : ℕ → ℕ → Gap
gap start end = record { start = start; end = end }

-- of each place from lo up to n, whether a gap has it
abbrev pub places_of : ℕ → ℕ → List Gap → List Bool
places_of lo n [] = replicate (n - lo) false
places_of lo n (g ∷ gaps) = replicate (g.start - lo) false ++ (replicate (g.end - g.start) true ++ places_of g.end n gaps)

-- the gaps lie in order from lo up to n, none is empty, and no two touch
abbrev pub AreApart : ℕ → ℕ → List Gap → Type 0
AreApart lo n [] = lo ≤ n + 1
AreApart lo n (g ∷ gaps) = (lo ≤ g.start) × (g.start < g.end) × AreApart (g.end + 1) n gaps

-- the gaps are of some message
abbrev pub AreInOrder : List Gap → Type 0
AreInOrder gaps = (n : ℕ) × AreApart 0 n gaps

-- the gap has the place
abbrev pub Has : ℕ → Gap → Type 0
Has place g = (g.start ≤ place) × (place < g.end)

-- the gap has the place not, since it ends before it or begins after it
abbrev pub Misses : ℕ → Gap → Type 0
Misses place g = (g.end ≤ place) ⊎ (place < g.start)

-- how many places the gaps have
abbrev pub total : List Gap → ℕ
total [] = 0
total (g ∷ gaps) = (g.end - g.start) + total gaps

-- the gap from start up to end, unless it is empty
abbrev pub between : ℕ → ℕ → List Gap
between start end = cond (ltb start end) (gap start end ∷ []) []

-- the gap at i
abbrev pub gap_at : List Gap → ℕ → Gap
gap_at gaps i = slice_index_or gaps i (gap 0 0)

-- the gaps, once the places from off up to end are taken out of the gap at i
abbrev pub cut_at : List Gap → ℕ → ℕ → ℕ → List Gap
cut_at gaps i off end = take i gaps ++ (between (gap_at gaps i).start off ++ (between end (gap_at gaps i).end ++ drop (i + 1) gaps))

-- the gaps, with the gap at i and the next as one where they touch
abbrev pub fused : ℕ → List Gap → List Gap
fused zero [] = []
fused zero (g ∷ []) = g ∷ []
fused zero (g ∷ h ∷ gaps) = cond (eqb g.end h.start) (gap g.start h.end ∷ gaps) (g ∷ h ∷ gaps)
fused (suc i) [] = []
fused (suc i) (g ∷ gaps) = g ∷ fused i gaps

-- the same for the gap before the one at i, if there is one
abbrev pub fused_before : ℕ → List Gap → List Gap
fused_before zero gaps = gaps
fused_before (suc i) gaps = fused i gaps

-- the gaps, once g is put before the gap at i
abbrev pub put_at : List Gap → ℕ → Gap → List Gap
put_at gaps i g = fused_before i (fused i (insert gaps i g))
