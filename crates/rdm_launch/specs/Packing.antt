-- Ports and passes that are kept in two lists.
use Rattle.std.specs.Prelude.{◌≡◌, ℕ, List, Some, slice_get}
use Rattle.rdm_inbox.specs.Passes.{InboxState}
use Rattle.rdm_inbox.specs.Queues.{PassesState}
use Rattle.rdm_port.specs.Views.{PortView}
use Rattle.rdm_launch.specs.Fitting.{FitsPlace}

-- each port, with the passes at the same place, fits that place
abbrev pub AllFit : List InboxState → List PortView → List PortView → List PassesState → Type 0
AllFit tables starts ports all = (i : ℕ) (p : PortView) (v : PassesState) → slice_get ports i ≡ Some p → slice_get all i ≡ Some v → FitsPlace tables starts p v i
