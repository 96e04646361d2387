use Rattle.std.proofs.Common.{◌≡◌, ◌+◌, ◌*◌, length, sym, ap, ◌∙◌, arith}
use Rattle.rdm_hdr.specs.Fields.{number_at}
use Rattle.rdm_hdr.proofs.Opts.{none-then, some-then}
use Rattle.rdm_pkt.specs.declared.reading.Opening.{Opening}
use Rattle.rdm_pkt.specs.Grammar.{iov_fits}
use Rattle.rdm_pkt.specs.Reading.{iov_at}
use Rattle.rdm_pkt.specs.Opened.{last_place}
use Rattle.rdm_pkt.proofs.Openers.{opening-none, opening-some, true-not-false}
use Rattle.rdm_pkt.proofs.ReadLists.{no-ranges}
use Rattle.rdm_pkt.proofs.ReadForms.{long_read-is, long_read-takes, count_at, same-iov}
use Rattle.rdm_pkt.proofs.read_forms.read_long_read.Goals as goal

pub returns-in_err-opening : goal.returns-in_err-opening
returns-in_err-opening c = c.from_residual.ensures ∙ sym (long_read-takes c.args.bytes.now (λ i. (c.type_inv.bytes i).fits) (λ o few end fit. opening-none 128 24 c.args.bytes.now (sym c.read_opening.ensures.value ∙ c.in_err-opening.was) o))

pub returns-then-count-gt4 : goal.returns-then-count-gt4
returns-then-count-gt4 c = sym (long_read-takes c.args.bytes.now (λ i. (c.type_inv.bytes i).fits) (λ _ few end fit. let many = c.if-count-gt4.true in absurd (omega arith)))

pub returns-then-bytes-opening : goal.returns-then-bytes-opening
returns-then-bytes-opening c =
    let found = c.in_ok-opening.ensures in
    let o = opening-some 128 24 c.args.bytes.now c.in_ok-opening.opening found.value in
    let place : c.in_ok-opening.opening.place ≡ last_place 24 c.args.bytes.now = ap (λ (x : Opening). x.place) o.1 in
    let other = c.if-bytes-opening.true in
    sym (long_read-takes c.args.bytes.now (λ i. (c.type_inv.bytes i).fits) (λ _ few end fit. absurd (other (let e : length c.args.bytes.now ≡ c.in_ok-opening.opening.place + 24 * c.u32_at-count.result = omega (arith, place) in e))))

pub returns-then-not-iov_fits : goal.returns-then-not-iov_fits
returns-then-not-iov_fits c =
    let found = c.in_ok-opening.ensures in
    let o = opening-some 128 24 c.args.bytes.now c.in_ok-opening.opening found.value in
    let place : c.in_ok-opening.opening.place ≡ last_place 24 c.args.bytes.now = ap (λ (x : Opening). x.place) o.1 in
    let few = c.if-count-gt4.false in
    let count : c.u32_at-count.result ≡ count_at c.args.bytes.now = omega arith in
    let iov : c.in_ok-iov.iov ≡ iov_at (last_place 24 c.args.bytes.now) (count_at c.args.bytes.now) c.args.bytes.now =
    (some-then _ _ _ (sym c.read_iov.ensures ∙ c.in_ok-iov.was)).1 ∙ same-iov c.in_ok-opening.opening.place (last_place 24 c.args.bytes.now) c.u32_at-count.result (count_at c.args.bytes.now) c.args.bytes.now place count in
    let test : c.iov_fits.result ≡ iov_fits (iov_at (last_place 24 c.args.bytes.now) (count_at c.args.bytes.now) c.args.bytes.now) (number_at 8 8 c.args.bytes.now) =
    rw (c.as_slice.ensures.items, iov, c.u64_at-msg_length.ensures) at c.iov_fits.ensures in
    sym (long_read-takes c.args.bytes.now (λ i. (c.type_inv.bytes i).fits) (λ _ _ end fit. true-not-false (sym test ∙ c.if-not-iov_fits.true) fit))

pub returns : goal.returns
returns c =
    let found = c.in_ok-opening.ensures in
    let o = opening-some 128 24 c.args.bytes.now c.in_ok-opening.opening found.value in
    let place : c.in_ok-opening.opening.place ≡ last_place 24 c.args.bytes.now = ap (λ (x : Opening). x.place) o.1 in
    let few = c.if-count-gt4.false in
    let count : c.u32_at-count.result ≡ count_at c.args.bytes.now = omega arith in
    let iov : c.in_ok-iov.iov ≡ iov_at (last_place 24 c.args.bytes.now) (count_at c.args.bytes.now) c.args.bytes.now =
    (some-then _ _ _ (sym c.read_iov.ensures ∙ c.in_ok-iov.was)).1 ∙ same-iov c.in_ok-opening.opening.place (last_place 24 c.args.bytes.now) c.u32_at-count.result (count_at c.args.bytes.now) c.args.bytes.now place count in
    let test : c.iov_fits.result ≡ iov_fits (iov_at (last_place 24 c.args.bytes.now) (count_at c.args.bytes.now) c.args.bytes.now) (number_at 8 8 c.args.bytes.now) =
    rw (c.as_slice.ensures.items, iov, c.u64_at-msg_length.ensures) at c.iov_fits.ensures in
    let end = c.if-bytes-opening.false in
    rw (c.packet.ensures, iov, o.1, c.u64_at-msg_length.ensures, c.u32_at.ensures)
    (sym (long_read-is c.args.bytes.now (λ i. (c.type_inv.bytes i).fits) o.0 (omega arith) (omega (arith, place, count, end)) (sym test ∙ c.if-not-iov_fits.false)))

pub returns-in_err-iov : goal.returns-in_err-iov
returns-in_err-iov c =
    let few = c.if-count-gt4.false in
    let count : c.u32_at-count.result ≡ count_at c.args.bytes.now = omega arith in
    let none = none-then _ _ (sym c.read_iov.ensures ∙ c.in_err-iov.was) in
    c.from_residual-in_err-iov.ensures
    ∙ sym (long_read-takes c.args.bytes.now (λ i. (c.type_inv.bytes i).fits) (λ _ _ end fit. no-ranges (last_place 24 c.args.bytes.now) c.u32_at-count.result (count_at c.args.bytes.now) (number_at 8 8 c.args.bytes.now) c.args.bytes.now none count fit))
