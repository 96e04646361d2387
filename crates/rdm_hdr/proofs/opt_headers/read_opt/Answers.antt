use Rattle.std.proofs.Common.{◌∙◌, refl, sym}
use Rattle.rdm_hdr.proofs.opt_headers.read_opt.Goals as goal
use Rattle.rdm_hdr.specs.Fields.{has_bit}
use Rattle.rdm_hdr.proofs.Opts.{opt_in-by, none-then, some-then}

pub returns-in_err-read_raw : goal.returns-in_err-read_raw
returns-in_err-read_raw c =
    let e = opt_in-by c.args.flags c.args.bytes.now (λ i. (c.type_inv.bytes i).fits) c.has_bit-has_raw.result (has_bit 1 c.args.flags) (has_bit 15 c.args.flags) (cc) refl refl in
    let raw = none-then _ _ (sym c.read_raw.ensures ∙ c.in_err-read_raw.was) in
    rw (c.from_residual.ensures, e, raw) refl

pub returns-in_err-read_cq_data : goal.returns-in_err-read_cq_data
returns-in_err-read_cq_data c =
    let e = opt_in-by c.args.flags c.args.bytes.now (λ i. (c.type_inv.bytes i).fits) c.has_bit-has_raw.result c.has_bit-has_cq_data.result (has_bit 15 c.args.flags) (cc) (cc) refl in
    let raw = some-then _ _ _ (sym c.read_raw.ensures ∙ c.in_ok-read_raw.was) in
    let cq_data = none-then _ _ (sym (rw c.size_if-cq_data_place.ensures at c.read_cq_data.ensures) ∙ c.in_err-read_cq_data.was) in
    rw (c.from_residual-in_err-read_cq_data.ensures, e, raw.0, cq_data) refl

pub returns-in_err-read_connid : goal.returns-in_err-read_connid
returns-in_err-read_connid c =
    let e = opt_in-by c.args.flags c.args.bytes.now (λ i. (c.type_inv.bytes i).fits) c.has_bit-has_raw.result c.has_bit-has_cq_data.result c.has_bit.result (cc) (cc) (cc) in
    let raw = some-then _ _ _ (sym c.read_raw.ensures ∙ c.in_ok-read_raw.was) in
    let cq_data = some-then _ _ _ (sym (rw c.size_if-cq_data_place.ensures at c.read_cq_data.ensures) ∙ c.in_ok-read_cq_data.was) in
    let connid = none-then _ _ (sym (rw (c.size_if-cq_data_place.ensures, c.size_if.ensures) at c.read_connid.ensures) ∙ c.in_err-read_connid.was) in
    rw (c.from_residual-in_err-read_connid.ensures, e, raw.0, cq_data.0, connid) refl

pub returns : goal.returns
returns c =
    let e = opt_in-by c.args.flags c.args.bytes.now (λ i. (c.type_inv.bytes i).fits) c.has_bit-has_raw.result c.has_bit-has_cq_data.result c.has_bit.result (cc) (cc) (cc) in
    let raw = some-then _ _ _ (sym c.read_raw.ensures ∙ c.in_ok-read_raw.was) in
    let cq_data = some-then _ _ _ (sym (rw c.size_if-cq_data_place.ensures at c.read_cq_data.ensures) ∙ c.in_ok-read_cq_data.was) in
    let connid = some-then _ _ _ (sym (rw (c.size_if-cq_data_place.ensures, c.size_if.ensures) at c.read_connid.ensures) ∙ c.in_ok-read_connid.was) in
    rw (e, raw.0, cq_data.0, connid.0, c.opt_size.ensures.value, raw.1, cq_data.1, connid.1) refl
