use Rattle.std.proofs.Common.{sym, rules}
use Rattle.std.proofs.lemmas.List.{length-replicate}
use Rattle.rdm_script.proofs.Lengths.{length-hex_bytes, length-fill_bytes}
use Rattle.rdm_script.proofs.content.Content.len.Goals as goal

pub returns-in-Hex : goal.returns-in-Hex
returns-in-Hex c = rw (c.in-Hex.is) (sym (length-hex_bytes _))

pub returns-in-Zero : goal.returns-in-Zero
returns-in-Zero c = rw (c.in-Zero.is, length-replicate) (search rules)

pub returns-in-Fill : goal.returns-in-Fill
returns-in-Fill c = rw (c.in-Fill.is, length-fill_bytes) (search rules)
