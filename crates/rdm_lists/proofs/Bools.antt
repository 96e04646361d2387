-- Tests joined.
use Rattle.std.proofs.Common.{Bool, cond, false, refl, true, ◌≡◌}
use Rattle.std.specs.Prelude.{◌||◌}

-- a choice of true is an or
pub cond_is_or : (a b : Bool) → cond a true b ≡ (a || b)
cond_is_or true b = refl
cond_is_or false b = refl

-- neither of two tests holds where their or doesn't
pub or_false : (a b : Bool) → (a || b) ≡ false → (a ≡ false) × (b ≡ false)
or_false true b h = cc
or_false false b h = (refl, h)

-- one of two where the second holds
pub or_true : (b : Bool) → (b || true) ≡ true
or_true true = refl
or_true false = refl
