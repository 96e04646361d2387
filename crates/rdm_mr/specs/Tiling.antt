-- When parts tile their block, and that cutting and joining keep it.
use Rattle.std.specs.Prelude.{◌≡◌, ℕ, ◌<◌, ◌≤◌, ◌⊎◌, List, [], ◌∷◌, ◌++◌, length}
use Rattle.std.specs.List.{AllByRecursion}
use denote.RawPtr.{Ptr}
use Rattle.rdm_mr.specs.Part.{Piece, end_of, Whole, Meets, front_of, back_of, joined, with_bytes}

-- the part has this place of its block
abbrev pub HasPlace : ℕ → Piece → Type 0
HasPlace i p = (p.start ≤ i) × (i < end_of p)

-- the part lies in the block
abbrev pub LiesIn : Ptr → ℕ → Piece → Type 0
LiesIn block whole p = (p.block ≡ block) × (p.whole ≡ whole) × (end_of p ≤ whole)

-- no place is in both
abbrev pub Disjoint : Piece → Piece → Type 0
Disjoint p q = (i : ℕ) → HasPlace i p → HasPlace i q → ⊥

-- any two of them are disjoint
abbrev pub PairwiseDisjoint : List Piece → Type 0
PairwiseDisjoint [] = Unit {0}
PairwiseDisjoint (p ∷ ps) = AllByRecursion (Disjoint p) ps × PairwiseDisjoint ps

-- one of them has the place
abbrev pub Covered : ℕ → List Piece → Type 0
Covered i [] = ⊥
Covered i (p ∷ ps) = HasPlace i p ⊎ Covered i ps

-- the parts lie in the block, are pairwise disjoint and cover it
pub record Tiles (block : Ptr) (whole : ℕ) (parts : List Piece) : Type 0 where
  pub inside : AllByRecursion (LiesIn block whole) parts
  pub disjoint : PairwiseDisjoint parts
  pub covered : (i : ℕ) → i < whole → Covered i parts

-- beside a part that is its whole block no part has a byte
abbrev pub HaveNoBytes : List Piece → Type 0
HaveNoBytes = AllByRecursion (λ p. length p.bytes ≡ 0)

-- parts that tile their block still do so after each call
pub record TilingLaw : Type 0 where
  -- the order in which they are named is free
  pub order : (block : Ptr) (whole : ℕ) (before between after : List Piece) (p q : Piece) → Tiles block whole (before ++ p ∷ (between ++ q ∷ after)) → Tiles block whole (before ++ q ∷ (between ++ p ∷ after))
  -- a new block
  pub make : (p : Piece) → Whole p → Tiles p.block p.whole (p ∷ [])
  pub split : (block : Ptr) (whole : ℕ) (before after : List Piece) (p : Piece) (at : ℕ) → at ≤ length p.bytes
      → Tiles block whole (before ++ p ∷ after) → Tiles block whole (before ++ front_of at p ∷ back_of at p ∷ after)
  pub join : (block : Ptr) (whole : ℕ) (before between after : List Piece) (l r : Piece) → Meets l r
      → Tiles block whole (before ++ l ∷ (between ++ r ∷ after)) → Tiles block whole (before ++ joined l r ∷ (between ++ after))
  -- new bytes in the place of a part's own
  pub write : (block : Ptr) (whole : ℕ) (before after : List Piece) (p : Piece) (bytes : List ℕ)
      → Tiles block whole (before ++ p ∷ after) → Tiles block whole (before ++ with_bytes p bytes ∷ after)
  -- the block goes only when all of its bytes are back
  pub release : (block : Ptr) (whole : ℕ) (before after : List Piece) (p : Piece) → Whole p → Tiles block whole (before ++ p ∷ after) → HaveNoBytes (before ++ after)
