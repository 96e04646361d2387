use Rattle.std.proofs.Common.{ap, sym, ◌∙◌, vec_len}
use mathlib.Core.Option.{some-injective}
use lib.ListN.{get_elem?}
use Rattle.rdm_turn.specs.Slots.{block_of}
use Rattle.rdm_turn.proofs.block.EmptyVec.into_vec.Goals as goal

pub returns : goal.returns
returns g c =
    let last = c.close-closed.ensures.values.2 in
    let kept = last.1 in
    let is = some-injective _ _ (sym c.take-values.ensures.value ∙ last.4 0 kept.0 (ap (λ homes. get_elem? homes 0) kept.1)) in
    record { empty = ap (λ v. vec_len v) is ∙ kept.2; block = ap (λ v. block_of v) is ∙ kept.3 ∙ c.self.view_is }
