use Rattle.rdm_pkt.proofs.InRange.{fit_words}
use Rattle.rdm_pkt.proofs.ranges.words_in_range.Goals as goal

pub returns : goal.returns
returns c = fit_words c.args.words.now (λ i. (c.type_inv.words i).fits)
