-- Values that may be missing.
use Rattle.std.proofs.Common.{None, Option, Some, refl, true, ◌≡◌, ap, inl, inr, ◌⊎◌, Bool, false}
use Rattle.std.specs.Prelude.{is_some, is_none}
use Rattle.rdm_lists.specs.Lists.{or_else}
use Rattle.std.specs.Bool.{then_some}

-- what is there has a value
pub some_of : {A : Type 0} (o : Option A) → is_some o ≡ true → (x : A) × (o ≡ Some x)
some_of (Some x) h = (x, refl)
some_of None h = cc

-- what has a value is there
pub is_some_from : {A : Type 0} (o : Option A) (x : A) → o ≡ Some x → is_some o ≡ true
is_some_from o x h = ap (λ (v : Option _). is_some v) h

-- the first value comes before the second
pub or_else_left : {A : Type 0} (x y : Option A) (a : A) → x ≡ Some a → or_else x y ≡ Some a
unfolding or_else
or_else_left x y a h = rw h

-- the value is the first one, or the second where there is no first
pub or_else_cases : {A : Type 0} (x y : Option A) (a : A) → or_else x y ≡ Some a → (x ≡ Some a) ⊎ ((x ≡ None) × (y ≡ Some a))
unfolding or_else
or_else_cases None y a h = inr (refl, h)
or_else_cases (Some x) y a h = inl h

-- a value that is there if a test holds
pub then_some_parts : {A : Type 0} (b : Bool) (x y : A) → then_some b x ≡ Some y → (b ≡ true) × (x ≡ y)
then_some_parts true x y h = (refl, cc)
then_some_parts false x y h = cc

-- a first value is enough
pub some-or_else_left : {A : Type 0} (x y : Option A) → is_some x ≡ true → is_some (or_else x y) ≡ true
unfolding or_else
some-or_else_left None y h = cc
some-or_else_left (Some a) y h = refl

-- a second value is enough
pub some-or_else_right : {A : Type 0} (x y : Option A) → is_some y ≡ true → is_some (or_else x y) ≡ true
unfolding or_else
some-or_else_right None y h = h
some-or_else_right (Some a) y h = refl

-- nothing comes after
pub or_else-none : {A : Type 0} (x : Option A) → or_else x None ≡ x
unfolding or_else
or_else-none None = refl
or_else-none (Some x) = refl

-- the first of three
pub or_else-assoc : {A : Type 0} (x y z : Option A) → or_else (or_else x y) z ≡ or_else x (or_else y z)
unfolding or_else
or_else-assoc None y z = refl
or_else-assoc (Some x) y z = refl

-- a test for none
pub none_is : {A : Type 0} (o : Option A) → is_none o ≡ true → o ≡ None
none_is None h = refl
none_is (Some x) h = cc

-- no value is there
pub none_there : {A : Type 0} (o : Option A) → is_some o ≡ false → o ≡ None
none_there None h = refl
none_there (Some x) h = cc
