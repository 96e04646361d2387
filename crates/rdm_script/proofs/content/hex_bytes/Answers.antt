use Rattle.std.proofs.Common.{◌∙◌, arith}
use Rattle.rdm_script.proofs.Lengths.{hex_bytes-next, hex_bytes-end}
use Rattle.rdm_script.proofs.content.hex_bytes.Goals as goal

pub loop-i-preserved : goal.loop-i-preserved
loop-i-preserved c =
    rw (c.in_ok-push.ensures.items, c.hex_value.ensures.value, c.hex_value-in-loop-i.ensures.value) (hex_bytes-next c.loop-i.bytes.items c.as_bytes-digits.result.now c.loop-i.i (omega arith) ∙ c.loop-i.invariant)

pub returns : goal.returns
returns c = rw (← c.as_bytes-digits.ensures.value) (hex_bytes-end _ _ _ c.loop-i.i (omega arith) c.loop-i.invariant)
