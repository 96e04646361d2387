-- Sums over lists.
use Rattle.std.proofs.Common.{◌≡◌, ℕ, ◌+◌, ◌≤◌, [], ◌∷◌, ◌++◌, arith, ◌⊎◌, ◌∙◌}
use Rattle.rdm_model.specs.Deeds.{Deed, Pushed, Took, Asks}

-- 1 for a push of the life
unfoldable pub pushes_of : Deed → ℕ
pushes_of Pushed = 1
pushes_of _ = 0

-- 1 for an ask that was taken
unfoldable pub asks_taken_by : Deed → ℕ
asks_taken_by (Took from (Asks a)) = 1
asks_taken_by _ = 0
