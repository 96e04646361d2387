-- That the lives of an endpoint are the current and superseded ones of its record.
use Rattle.std.specs.Prelude.{◌≡◌, ℕ, Bool, Option}
use Rattle.rdm_num.specs.declared.numbers.Life.{Life}
use Rattle.rdm_num.specs.declared.numbers.PortNo.{PortNo}
use Rattle.rdm_av.specs.Lives as Av
use Rattle.rdm_av.specs.Lives.{current_life, is_superseded}

-- each port has the same current life, and the same lives are superseded
pub record ShowsLives (lives : Av.Lives) (current : (port : ℕ) → Option Life) (superseded : Life → Bool) : Type 0 where
  pub current_is : (port : PortNo) → current port.0 ≡ current_life lives port
  pub superseded_is : (life : Life) → superseded life ≡ is_superseded lives life
