-- What holds of a result.
use Rattle.std.specs.Prelude.{Result, Ok, Err, IfOk}

-- what holds of a value holds with what follows from it
pub ok_then : {A E : Type 0} (P Q : A → Type 0) (r : Result A E) → ((a : A) → P a → Q a) → IfOk r P → IfOk r Q
ok_then P Q (Ok a) f h = f a h
ok_then P Q (Err e) f h = tt
