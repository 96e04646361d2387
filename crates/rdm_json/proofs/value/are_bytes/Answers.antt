use Rattle.rdm_json.proofs.Seen.{bytes_of_8_bits}
use Rattle.rdm_json.proofs.value.are_bytes.Goals as goal

pub returns : goal.returns
returns c = bytes_of_8_bits c.args.text.now c.type_inv.text
