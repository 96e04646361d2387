-- Which places of a message are missing, with one test for each place.
use Rattle.std.specs.Prelude.{◌≡◌, refl, ℕ, suc, ◌+◌, ◌-◌, ◌≤◌, max, Bool, true, false, List, [], ◌∷◌, ◌++◌, length, take, drop, replicate, Result, Ok, Err}
use Rattle.std.specs.List.{count_by}
use Rattle.std.specs.Coded.{Coded, code_by, coded×, coded_list, coded_bool, coded_ℕ}

-- places says of each place whether it is missing, and spare for how many ranges there is room to be taken or put back
pub record Missing : Type 0 where
  pub places : List Bool
  pub spare : ℕ

-- it is stored as the pair of its fields
abbrev pub missing_code : Coded Missing
missing_code = code_by (List Bool × ℕ) (coded× (coded_list coded_bool) coded_ℕ) (λ m. (m.places, m.spare)) (λ p. record { places = p.0; spare = p.1 }) (λ _. refl)

-- all of `length` places are missing
abbrev pub all_missing : ℕ → Missing
all_missing length = record { places = replicate length true; spare = 0 }

-- the len places from off on are there, and the test of each is b
abbrev pub AreAll : Bool → ℕ → ℕ → List Bool → Type 0
AreAll b off len places = (off + len ≤ length places) × (take len (drop off places) ≡ replicate len b)

-- each place of the range is there and missing
abbrev pub AreMissing : ℕ → ℕ → List Bool → Type 0
AreMissing off len places = AreAll true off len places

-- each place of the range is there and not missing
abbrev pub AreTaken : ℕ → ℕ → List Bool → Type 0
AreTaken off len places = AreAll false off len places

-- the tests, with b for the len places from off on
abbrev pub with_range : Bool → ℕ → ℕ → List Bool → List Bool
with_range b off len places = take off places ++ (replicate len b ++ drop (off + len) places)

-- the range is missing no more
abbrev pub with_taken : Missing → ℕ → ℕ → Missing
with_taken m off len = record m { places = with_range false off len m.places }

-- the range is missing again, which takes one of the spare
abbrev pub with_untaken : Missing → ℕ → ℕ → Missing
with_untaken m off len = record { places = with_range true off len m.places; spare = m.spare - 1 }

-- there is room to put back n ranges at least
abbrev pub with_spare : Missing → ℕ → Missing
with_spare m n = record m { spare = max m.spare n }

-- what a take of the range leaves: only one that answers true changes anything
abbrev pub after_take : {E : Type 0} → Missing → ℕ → ℕ → Result Bool E → Missing
after_take m off len (Ok true) = with_taken m off len
after_take m off len (Ok false) = m
after_take m off len (Err why) = m

-- what a take where there is room leaves: one that answers true takes one of the spare
abbrev pub after_reserved_take : Missing → ℕ → ℕ → Bool → Missing
after_reserved_take m off len true = record { places = with_range false off len m.places; spare = m.spare - 1 }
after_reserved_take m off len false = m

-- how many places are missing
abbrev pub count_missing : Missing → ℕ
count_missing m = count_by (λ b. b) m.places

-- how many tests hold before the first that doesn't
abbrev pub run : List Bool → ℕ
run [] = 0
run (true ∷ tests) = suc (run tests)
run (false ∷ tests) = 0

-- how many places from `at` on are missing, up to the first that isn't
abbrev pub missing_from : Missing → ℕ → ℕ
missing_from m at = run (drop at m.places)

-- how many tests fail before the first that holds
abbrev pub lull : List Bool → ℕ
lull [] = 0
lull (true ∷ tests) = 0
lull (false ∷ tests) = suc (lull tests)

-- how many places from `at` on have come, up to the first that is missing or the end
abbrev pub came_from : Missing → ℕ → ℕ
came_from m at = lull (drop at m.places)
