use Rattle.std.proofs.Common.{refl, append_assoc}
use Rattle.rdm_pkt.proofs.PacketBytes.{packet-bytes}
use Rattle.rdm_pkt.proofs.Packet.append.Goals as goal

pub returns-in-Cts : goal.returns-in-Cts
returns-in-Cts c = rw (packet-bytes c.args.self.now, c.in-Cts.is, c.append_u32-in-Cts-2.ensures.items, c.append_u64.ensures.items, c.append_u32-in-Cts.ensures.items, c.append_u32.ensures.items, c.append_head.ensures.items) (simp append_assoc refl)

pub returns-in-CtsData : goal.returns-in-CtsData
returns-in-CtsData c = rw (packet-bytes c.args.self.now, c.in-CtsData.is, c.append_bytes.ensures.items, c.append_u32-in-CtsData-2.ensures.items, c.append_u64-in-CtsData-2.ensures.items, c.append_u64-in-CtsData.ensures.items, c.append_u32-in-CtsData.ensures.items, c.append_head-in-CtsData.ensures.items, c.as_slice-bytes.ensures) (simp append_assoc refl)

pub returns-in-Eor : goal.returns-in-Eor
returns-in-Eor c = rw (packet-bytes c.args.self.now, c.in-Eor.is, c.append_u32-in-Eor-3.ensures.items, c.append_u32-in-Eor-2.ensures.items, c.append_u32-in-Eor.ensures.items, c.append_head-in-Eor.ensures.items) (simp append_assoc refl)

pub returns-in-Handshake : goal.returns-in-Handshake
returns-in-Handshake c = rw (packet-bytes c.args.self.now, c.in-Handshake.is, c.append_opt.ensures.items, c.append_words.ensures.items, c.append_u32-in-Handshake.ensures.items, c.append_head-in-Handshake.ensures.items, c.opt_flags.ensures.value, c.sender_opt-sender.ensures, c.as_slice-words.ensures) (simp append_assoc refl)

pub returns-in-Receipt : goal.returns-in-Receipt
returns-in-Receipt c = rw (packet-bytes c.args.self.now, c.in-Receipt.is, c.append_u32-in-Receipt-2.ensures.items, c.append_u32-in-Receipt.ensures.items, c.append_head-in-Receipt.ensures.items) (simp append_assoc refl)
