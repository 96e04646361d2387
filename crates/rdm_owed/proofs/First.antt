-- The first answer of a queue.
use Rattle.std.proofs.Common.{◌≡◌, List, [], ◌∷◌, length, drop, refl, arith, ap, ◌∙◌}
use Rattle.rdm_owed.specs.declared.Owed.{Owed}
use Rattle.rdm_owed.specs.Owing.{first_left}

-- what is left of the first answer stands before the others
pub left_first : {T : Type 0} (old rest : List (Owed T)) (first : Owed T) (answer : T) → old ≡ first ∷ rest → record { to = first.to; answer = answer } ∷ rest ≡ first_left old answer
unfolding first_left
left_first old rest first answer e = rw e refl

-- a list that is what stands behind its first element has none
pub none_left : {T : Type 0} (old new : List (Owed T)) (answer : T) → old ≡ new → new ≡ drop 1 old → new ≡ first_left old answer
unfolding first_left
none_left [] new answer e d = d
none_left (x ∷ xs) new answer e d =
    let l : length (x ∷ xs) ≡ length xs = ap length (e ∙ d) in
    absurd (omega (arith, l))
