-- Lists that differ in their order alone.
use Rattle.std.specs.Prelude.{◌≡◌, List, [], ◌∷◌, ◌++◌}

-- the second list has the elements of the first, each as often, in any order
abbrev pub IsReordered : {A : Type 0} → List A → List A → Type 0
IsReordered {A} [] ys = ys ≡ []
IsReordered {A} (x ∷ xs) ys = (front : List A) × (back : List A) × (ys ≡ front ++ x ∷ back) × IsReordered xs (front ++ back)
