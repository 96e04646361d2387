use Rattle.std.proofs.Common.{◌≤◌, length, subst, ap, arith}
use Rattle.rdm_pkt.proofs.sizes.last_size.Goals as goal
use Rattle.rdm_pkt.specs.declared.Form.{Form}
use Rattle.rdm_pkt.proofs.PacketSizes.{form-few, iov_count}

pub returns-in-Runt-clause-bound : goal.returns-in-Runt-clause-bound
returns-in-Runt-clause-bound c =
    let few : length c.in-Runt.iov ≤ 4 = subst (λ (f : Form). iov_count f ≤ 4) c.in-Runt.is (form-few c.args.form.now c.requires) in
    let same = ap length c.as_slice-in-Runt.ensures.items in
    omega arith
