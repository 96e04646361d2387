use Rattle.std.proofs.Common.{sym, ◌∙◌}
use Rattle.rdm_pkt.proofs.Openers.{opening-none, opening-some, kind_at}
use Rattle.rdm_pkt.proofs.Forms.{eager-is, eager-takes}
use Rattle.rdm_pkt.proofs.read_forms.read_eager.Goals as goal

pub returns-in_default : goal.returns-in_default
returns-in_default c = sym (eager-takes c.args.bytes.now (λ i. (c.type_inv.bytes i).fits) (λ o. opening-none (kind_at 64 c.args.bytes.now) 8 c.args.bytes.now (sym (rw (c.confirmed_kind.ensures.value, c.asks_receipt.ensures) at c.read_opening.ensures.value) ∙ c.in_default.is) o))

pub returns : goal.returns
returns c =
    let found = c.in-Some.ensures in
    let o = opening-some (kind_at 64 c.args.bytes.now) 8 c.args.bytes.now c.in-Some.opening (rw (c.confirmed_kind.ensures.value, c.asks_receipt.ensures) at found.value) in
    rw (c.packet.ensures, c.in_ok-bytes.ensures, c.after.ensures, o.1) (sym (eager-is c.args.bytes.now (λ i. (c.type_inv.bytes i).fits) o.0))
