-- The messages of a rank have no more bytes than all together.
use Rattle.std.proofs.Common.{◌≤◌, Bool, not, List, filter, arith, refl}
use Rattle.std.proofs.lemmas.List.Filters.{sum_by-filter_both}
use Rattle.rdm_generate.specs.declared.draws.Message.{Message}
use Rattle.rdm_generate.specs.Programs.{total_of}

pub total_of-filter : (p : Message → Bool) (ms : List Message) → total_of (filter p ms) ≤ total_of ms
total_of-filter p ms = omega (arith, sum_by-filter_both p (λ m. not (p m)) (λ m. refl) (λ (m : Message). m.len) ms)
