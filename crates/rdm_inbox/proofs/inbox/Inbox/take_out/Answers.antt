use Rattle.std.proofs.Common.{◌≡◌, [], sym, subst, MatchOption}
use Rattle.rdm_inbox.specs.Senders.{joined}
use Rattle.rdm_inbox.specs.Letters.{with_taken_out, with_empty, IsWhole, IsFirst}
use Rattle.rdm_inbox.specs.Passes.{ReadState, post_of, reader_of}
use Rattle.rdm_inbox.proofs.Steps.{learns}
use Rattle.rdm_inbox.proofs.Rules.{takes_out_as, take_out_answer}
use Rattle.rdm_inbox.proofs.inbox.Inbox.take_out.Goals as goal

pub pop-requires-clause-rule : goal.pop-requires-clause-rule
pop-requires-clause-rule g c = let whole = subst (λ r. IsWhole r.post) (sym c.pass.view_is) c.requires.whole in
    (takes_out_as _ _ c.pass.invariant.0 whole, learns _ _)

pub returns : goal.returns
returns g c =
    let whole = subst (λ r. IsWhole r.post) (sym c.pass.view_is) c.requires.whole in
    let now : ReadState = record { table = c.pop.new.pass.table_id; post = reader_of (post_of c.pop.new.pass) } in
    subst (λ r. MatchOption c.pop.result ((now ≡ record { table = r.table; post = with_empty r.post }) × (joined r.post.known ≡ []))
    (λ d. (now ≡ record { table = r.table; post = with_taken_out r.post d }) × IsFirst r.post d)) c.pass.view_is
    (take_out_answer c.pass.inside.pass.table_id c.pop.new.pass.table_id (post_of c.pass.inside.pass) (post_of c.pop.new.pass) c.pop.result c.pop.ensures.own.0 c.pass.invariant.0 whole c.pop.ensures.view)
