use Rattle.std.proofs.Common.{rules, ◌≡◌, sym, subst, ◌∙◌, List, IfErr}
use Rattle.rdm_turn.specs.declared.block.Block.{Block}
use Rattle.rdm_turn.specs.Slots.{EachFits, block_of}
use Rattle.rdm_turn.proofs.Values.{values_in, words_for, full_of}
use Rattle.rdm_turn.proofs.turns.Turns.new.Goals as goal

pub open-requires-clause-words : goal.open-requires-clause-words
open-requires-clause-words g c = words_for c.as_slice.result.now c.len.result _ c.args.values.items (search rules) (search rules) c.in-Ok-into_slots.ensures.slots.0

pub open-requires-clause-full : goal.open-requires-clause-full
open-requires-clause-full g c = full_of _ _ c.in-Ok-into_slots.ensures.slots.0

pub open-requires-clause-fits : goal.open-requires-clause-fits
open-requires-clause-fits g c = subst (λ l. EachFits g.V.Tagged.fits l) (sym (values_in _ _ c.in-Ok-into_slots.ensures.slots.0)) c.requires.fits

pub returns-in-Ok-keep-clause-err : goal.returns-in-Ok-keep-clause-err
returns-in-Ok-keep-clause-err g c =
    let same = values_in _ _ c.in-Ok-into_slots.ensures.slots.0 in
    let block : c.in-Ok-keep.vector ≡ block_of c.args.values = c.in-Ok-keep.ensures.ok ∙ c.into_slots.ensures.block in
    subst (λ (p : List g.row.V.Denot × Block). IfErr c.open.result (λ back. (back.items ≡ p.0) × (block_of back ≡ p.1))) (λ k. (same k, block k)) c.open.ensures.err

pub returns-clause-err : goal.returns-clause-err
returns-clause-err g c = (c.from_slots.ensures.values ∙ values_in _ _ c.in-Ok-into_slots.ensures.slots.0, search rules)
