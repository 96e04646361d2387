use Rattle.std.proofs.Common.{refl, sym, ◌∙◌}
use Rattle.rdm_script.specs.Drafts.{made}
use Rattle.rdm_script.proofs.Programs.{lives_tested-open, lives_tested-other}
use Rattle.rdm_script.proofs.program.Program.lives_tested.Goals as goal

pub returns-then-self : goal.returns-then-self
returns-then-self c =
    rw (← c.self.view_is)
    (sym (lives_tested-open _ (made c.args.draft.now) c.in-Some.connid _ _ c.in-Some.ensures c.self.invariant.0 refl ∙ rw c.if-self.true))

pub returns-then-contains : goal.returns-then-contains
returns-then-contains c =
    rw (← c.self.view_is)
    (sym (lives_tested-open _ (made c.args.draft.now) c.in-Some.connid _ _ c.in-Some.ensures c.self.invariant.0 (c.contains.ensures ∙ c.self.invariant.1 c.in-Some.connid) ∙ rw (c.if-self.false, c.if-contains.true)))

pub returns-else-contains : goal.returns-else-contains
returns-else-contains c =
    rw (← c.self.view_is)
    (sym (lives_tested-open _ (made c.args.draft.now) c.in-Some.connid _ _ c.in-Some.ensures c.self.invariant.0 (c.contains.ensures ∙ c.self.invariant.1 c.in-Some.connid) ∙ rw (c.if-self.false, c.if-contains.false)))

pub returns-then-self-2 : goal.returns-then-self-2
returns-then-self-2 c =
    rw (← c.self.view_is) (sym (lives_tested-other _ (made c.args.draft.now) _ c.in-None.ensures c.self.invariant.0 ∙ rw c.if-self-2.true))

pub returns-then-needs_life : goal.returns-then-needs_life
returns-then-needs_life c =
    rw (← c.self.view_is)
    (sym (lives_tested-other _ (made c.args.draft.now) _ c.in-None.ensures c.self.invariant.0 ∙ rw (c.if-self-2.false, ← c.needs_life.ensures, c.if-needs_life.true)))

pub returns-else-needs_life : goal.returns-else-needs_life
returns-else-needs_life c =
    rw (← c.self.view_is)
    (sym (lives_tested-other _ (made c.args.draft.now) _ c.in-None.ensures c.self.invariant.0 ∙ rw (c.if-self-2.false, ← c.needs_life.ensures, c.if-needs_life.false)))
