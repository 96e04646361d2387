use Rattle.rdm_held.proofs.Calls.{none_is_held, hears}
use Rattle.rdm_held.proofs.Came.{opens, opens_with}
use Rattle.rdm_held.proofs.Changes.{adds, adds_reserved, reserves}
use Rattle.rdm_held.proofs.Leaving.{meets, forgets, full_as_kept}
use Rattle.rdm_held.proofs.Missing.{awaits_in}
use Rattle.rdm_held.proofs.held_law.Goals as goal

pub returns : goal.returns
returns c =
    record {
      none = none_is_held;
      opens = opens;
      opens_with = opens_with;
      hears = hears;
      adds = adds;
      adds_reserved = adds_reserved;
      reserves = reserves;
      meets = meets;
      forgets = forgets;
      awaits = awaits_in;
      full = full_as_kept;
    }
