use Rattle.std.proofs.Common.{rules, ◌≡◌, ◌+◌, ◌<◌, List, ◌++◌, ◌∷◌, [], drop, length, get_or, append_assoc, sym, ap, ◌∙◌}
use Rattle.std.proofs.lemmas.List.{drop_more}
use Rattle.rdm_model.specs.declared.entry.Entry.{Entry}
use Rattle.rdm_world.proofs.joint.add_entries.Goals as goal

pub loop-entry-preserved : goal.loop-entry-preserved
loop-entry-preserved c =
    let log = c.as_slice-log.result.now in
    let i = c.loop-entry.entry-index in
    let items = c.loop-entry.entries.items in
    let x = c.entry-item.result in
    let same : c.in_ok-clone.field-0 ≡ get_or log i x = search rules in
    let inside : i < length log = search rules in
    ap (λ (l : List Entry). l ++ drop (i + 1) log) c.in_ok-push.ensures.items
    ∙ append_assoc items (c.in_ok-clone.field-0 ∷ []) (drop (i + 1) log)
    ∙ ap (λ (y : Entry). items ++ y ∷ drop (i + 1) log) same
    ∙ sym (ap (λ (l : List Entry). items ++ l) (drop_more log i x inside))
    ∙ c.loop-entry.invariant
