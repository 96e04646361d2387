use Rattle.std.proofs.Common.{append_assoc, refl}
use Rattle.rdm_hdr.proofs.opt_headers.append_opt.Goals as goal
use Rattle.rdm_hdr.proofs.Opts.{opt_bytes}

pub returns-clause-items : goal.returns-clause-items
returns-clause-items c = rw (opt_bytes c.args.opt.now, c.append_connid.ensures.items, c.append_cq_data.ensures.items, c.append_raw.ensures.items) (simp append_assoc refl)
