use Rattle.std.proofs.Common.{◌≡◌, ◌<◌, sym, ap, ◌∙◌, subst, length, MatchResult}
use Rattle.rdm_inbox.specs.Senders.{joined}
use Rattle.rdm_inbox.specs.Letters.{with_put, with_full_for, IsWhole}
use Rattle.rdm_inbox.specs.Passes.{ReadState, post_of, reader_of}
use Rattle.rdm_inbox.proofs.Steps.{learns}
use Rattle.rdm_inbox.proofs.Rules.{puts_as, put_answer}
use Rattle.rdm_inbox.proofs.inbox.Inbox.put.Goals as goal

pub push-requires-clause-rule : goal.push-requires-clause-rule
push-requires-clause-rule g c =
    let to = subst (λ r. (c.args.d.src.0 < r.post.ports) × (c.args.d.dst.0 ≡ r.post.port)) (sym c.pass.view_is) c.requires.addressed in
    let whole = subst (λ r. IsWhole r.post) (sym c.pass.view_is) c.requires.whole in
    (puts_as _ _ _ c.args.d c.pass.invariant.0 whole to.0 to.1 (ap (λ r. r.post.size) c.pass.view_is ∙ (c.requires.of.1 ∙ sym (ap (λ i. i.size) c.self.view_is))), learns _ _)

pub returns : goal.returns
returns g c =
    let whole = subst (λ r. IsWhole r.post) (sym c.pass.view_is) c.requires.whole in
    let now : ReadState = record { table = c.push.new.pass.table_id; post = reader_of (post_of c.push.new.pass) } in
    subst (λ i. MatchResult c.push.result (λ _. (now ≡ record { table = c.args.pass.now.table; post = with_put c.args.pass.now.post c.args.d }) × (length (joined c.args.pass.now.post.known) < i.size))
    (λ back. (back ≡ c.args.d) × (now ≡ record { table = c.args.pass.now.table; post = with_full_for c.args.pass.now.post }) × (length (joined c.args.pass.now.post.known) ≡ i.size))) c.self.view_is
    (subst (λ r. MatchResult c.push.result (λ _. (now ≡ record { table = r.table; post = with_put r.post c.args.d }) × (length (joined r.post.known) < c.self.inside.line.cap))
    (λ back. (back ≡ c.args.d) × (now ≡ record { table = r.table; post = with_full_for r.post }) × (length (joined r.post.known) ≡ c.self.inside.line.cap))) c.pass.view_is
    (put_answer c.self.inside.line.cap c.pass.inside.pass.table_id c.push.new.pass.table_id (post_of c.pass.inside.pass) (post_of c.push.new.pass) c.args.d c.push.result c.push.ensures.own.0 c.pass.invariant.0 whole
    (ap (λ r. r.post.size) c.pass.view_is ∙ (c.requires.of.1 ∙ sym (ap (λ i. i.size) c.self.view_is))) c.push.ensures.view))
