-- Bits of a word.
use Rattle.std.proofs.Common.{◌≡◌, ℕ, ◌/◌, ◌%◌, ◌^◌}
use Rattle.std.specs.Int.Bits.{bit_and}
use Rattle.std.proofs.lemmas.Nat.Bits.{shr_and_one}

-- shifted down and masked, a bit is what is left over of two
pub bit_is_set : (n word : ℕ) → bit_and (word / 2 ^ n) 1 ≡ word / 2 ^ n % 2
bit_is_set n word = shr_and_one word n
