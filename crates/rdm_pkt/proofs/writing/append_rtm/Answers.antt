use Rattle.std.proofs.Common.{refl, append_assoc, arith}
use Rattle.rdm_pkt.proofs.PacketSizes.{rtm-size}
use Rattle.rdm_pkt.proofs.PacketBytes.{rtm-bytes}
use Rattle.rdm_pkt.proofs.writing.append_rtm.Goals as goal

pub append_head-requires : goal.append_head-requires
append_head-requires c = omega (arith, rtm-size c.args.no c.args.tag c.args.confirm c.args.opt.now c.args.form.now)

pub append_u32-requires : goal.append_u32-requires
append_u32-requires c = omega (arith, rtm-size c.args.no c.args.tag c.args.confirm c.args.opt.now c.args.form.now)

pub append_form-requires-clause-room : goal.append_form-requires-clause-room
append_form-requires-clause-room c = omega (arith, rtm-size c.args.no c.args.tag c.args.confirm c.args.opt.now c.args.form.now)

pub append_tag-requires : goal.append_tag-requires
append_tag-requires c = omega (arith, rtm-size c.args.no c.args.tag c.args.confirm c.args.opt.now c.args.form.now)

pub append_opt-requires : goal.append_opt-requires
append_opt-requires c = omega (arith, rtm-size c.args.no c.args.tag c.args.confirm c.args.opt.now c.args.form.now)

pub append_last-requires : goal.append_last-requires
append_last-requires c = omega (arith, rtm-size c.args.no c.args.tag c.args.confirm c.args.opt.now c.args.form.now)

pub returns : goal.returns
returns c =
    rw (rtm-bytes c.args.no c.args.tag c.args.confirm c.args.opt.now c.args.form.now, c.append_last.ensures, c.append_opt.ensures.items, c.append_tag.ensures.items, c.append_form.ensures.items, c.append_u32.ensures.items, c.append_head.ensures.items, c.rtm_kind.ensures, c.rtm_flags.ensures)
    (simp append_assoc refl)
