use Rattle.std.proofs.Common.{◌≡◌, ◌+◌, ◌-◌, ◌*◌, ◌++◌}
use Rattle.rdm_pkt.specs.Reading.{words_at}
use Rattle.rdm_pkt.proofs.handshakes.read_words.Given as goal

abbrev pub invariant-loop-k : goal.invariant-loop-k
invariant-loop-k l = l.words.items ++ words_at (8 + 8 * l.k) (l.count - l.k) l.bytes ≡ words_at 8 l.count l.bytes
