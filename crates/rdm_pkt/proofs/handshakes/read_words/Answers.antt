use Rattle.std.proofs.Common.{sym, ◌∙◌}
use Rattle.rdm_pkt.proofs.Shaken.{words_at-next, words_at-last}
use Rattle.rdm_pkt.proofs.handshakes.read_words.Goals as goal

pub loop-k-preserved : goal.loop-k-preserved
loop-k-preserved c =
    let pushed = c.in_ok-push.ensures in
    rw (pushed.items, c.u64_at.ensures) (words_at-next c.args.count c.loop-k.k c.loop-k.words.items c.args.bytes.now c.loop-k-test.true ∙ c.loop-k.invariant)

pub returns : goal.returns
returns c = rw (c.from_vec.ensures) (sym (words_at-last c.args.count c.loop-k.k c.loop-k.words.items c.args.bytes.now c.loop-k-test.false) ∙ c.loop-k.invariant)
