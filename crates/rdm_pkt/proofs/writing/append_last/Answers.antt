use Rattle.std.proofs.Common.{refl, append_assoc}
use Rattle.rdm_pkt.proofs.PacketBytes.{last-bytes}
use Rattle.rdm_pkt.proofs.writing.append_last.Goals as goal

pub returns-in-Runt : goal.returns-in-Runt
returns-in-Runt c = rw (last-bytes c.args.form.now, c.in-Runt.is, c.append_bytes.ensures.items, c.append_iov-in-Runt.ensures.items, c.as_slice-in-Runt.ensures.items, c.as_slice-in-Runt-2.ensures) (simp append_assoc refl)
