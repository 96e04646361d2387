-- What tests that are joined come to.
use Rattle.std.proofs.Common.{◌≡◌, Bool, true, false, cond, ◌&&◌, ◌||◌, Option, None, refl, sym}

-- a test or nothing
pub or_none : (b : Bool) → (b || false) ≡ b
or_none true = refl
or_none false = refl

-- a test and all
pub and_all : (b : Bool) → (b && true) ≡ b
and_all true = refl
and_all false = refl

-- a test and nothing
pub and_none : (b : Bool) → (b && false) ≡ false
and_none true = refl
and_none false = refl

-- two tests of which each follows from the other
pub same_test : (a b : Bool) → (a ≡ true → b ≡ true) → (b ≡ true → a ≡ true) → a ≡ b
same_test true b there back = sym (there refl)
same_test false true there back = back refl
same_test false false there back = refl

-- a test between nothing and nothing
pub none_either : {A : Type 0} (b : Bool) (o : Option A) → o ≡ None → cond b o None ≡ None
none_either true o h = h
none_either false o h = refl
