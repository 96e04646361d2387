use Rattle.std.proofs.Common.{◌≡◌, ℕ, length, sym, ◌∙◌, ap}
use Rattle.std.proofs.lemmas.List.{get_or-set_same, get_or_default}
use Rattle.rdm_port.specs.Views.{PortView}
use Rattle.rdm_world.specs.Views.{WorldView}
use Rattle.rdm_world.proofs.HandleSteps.{handle_tries}
use Rattle.rdm_world.proofs.world.World.handle.Goals as goal

pub returns-clause-does : goal.returns-clause-does
returns-clause-does c =
    let old : WorldView = record { ports = c.self.inside.ports.items; wire = c.self.inside.wire } in
    let p : PortView = c.index_mut.result.now in
    let q : PortView = c.handle-answer.new.self in
    let r : ℕ = c.args.rank in
    let within = rw (← c.self.view_is) at c.requires in
    let first : c.index.result.now ≡ p = c.index.ensures ∙ get_or_default old.ports r c.index.result.now p within ∙ sym c.index_mut.ensures.value in
    let last : c.index-2.result.now ≡ q = c.index-2.ensures ∙ get_or-set_same old.ports r q c.index-2.result.now within in
    let before : c.waiting-before.result ≡ length p.stash = c.waiting-before.ensures ∙ ap (λ (x : PortView). length x.stash) first in
    let after : c.waiting-after.result ≡ length q.stash = c.waiting-after.ensures ∙ ap (λ (x : PortView). length x.stash) last in
    let made = c.in_ok-made.ensures in
    rw (← c.self.view_is)
    (handle_tries old c.handle-answer.new.wire r c.args.pick p q c.handle-answer.result c.in_ok-made.made c.waiting-before.result c.waiting-after.result within c.index_mut.ensures.value
    c.handle-answer.ensures.does made.1 made.0 before after)
