-- What is true of the fields of an `Asked`.
use Rattle.std.specs.Prelude.{◌+◌, ◌^◌, ◌<◌, ◌≤◌, length}
use Rattle.rdm_gaps.specs.Places.{count_missing}
use Rattle.rdm_tx.specs.declared.asked.Asked.TheInside.{Inside}

-- each answer that is owed is for a place at least that was asked for
pub record IsAsked (a : Inside) : Type 0 where
  pub fits : length a.unasked.places < 2 ^ 64
  pub owed : a.owed + count_missing a.unasked ≤ length a.unasked.places
