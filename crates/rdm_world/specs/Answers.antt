-- Which answers of a port's steps are entries.
use Rattle.std.specs.Prelude.{Bool, true, false}
use Rattle.rdm_model.specs.declared.answer.Polled.{Polled}
use Rattle.rdm_model.specs.declared.answer.Polled.TheVariants as P
use Rattle.rdm_model.specs.declared.answer.Push.{Push}
use Rattle.rdm_model.specs.declared.answer.Push.TheVariants.{Pushed}

-- a datagram was pushed
unfoldable pub is_pushed : Push → Bool
is_pushed (Pushed number) = true
is_pushed _ = false

-- a completion was polled
unfoldable pub is_polled : Polled → Bool
is_polled (P.Some c) = true
is_polled _ = false
