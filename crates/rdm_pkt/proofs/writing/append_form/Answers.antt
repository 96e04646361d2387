use Rattle.std.proofs.Common.{◌≤◌, length, subst, arith}
use Rattle.rdm_pkt.proofs.writing.append_form.Goals as goal
use Rattle.rdm_pkt.specs.declared.Form.{Form}
use Rattle.rdm_pkt.proofs.PacketSizes.{form-few, iov_count}

pub overflow_cast-as_slice : goal.overflow_cast-as_slice
overflow_cast-as_slice c =
    let few : length c.in-LongRead.iov ≤ 4 = subst (λ (f : Form). iov_count f ≤ 4) c.in-LongRead.is (form-few c.args.form.now c.requires.fits) in
    rw c.as_slice.ensures.items (record { fits = omega arith })

pub overflow_cast-as_slice-in-Runt : goal.overflow_cast-as_slice-in-Runt
overflow_cast-as_slice-in-Runt c =
    let few : length c.in-Runt.iov ≤ 4 = subst (λ (f : Form). iov_count f ≤ 4) c.in-Runt.is (form-few c.args.form.now c.requires.fits) in
    rw c.as_slice-in-Runt.ensures.items (record { fits = omega arith })
