use Rattle.std.proofs.Common.{◌≡◌, ℕ, ◌+◌, ◌*◌, length, drop, sym, ap, ◌∙◌, arith}
use Rattle.rdm_hdr.specs.Fields.{number_at}
use Rattle.rdm_hdr.proofs.Opts.{none-then, some-then}
use Rattle.rdm_pkt.specs.declared.reading.Opening.{Opening}
use Rattle.rdm_pkt.specs.Grammar.{iov_fits}
use Rattle.rdm_pkt.specs.Reading.{iov_at}
use Rattle.rdm_pkt.specs.Opened.{last_place}
use Rattle.rdm_pkt.proofs.Openers.{opening-none, opening-some, true-not-false}
use Rattle.rdm_pkt.proofs.ReadLists.{no-ranges}
use Rattle.rdm_pkt.proofs.ReadForms.{runt-is, runt-takes, RuntParts, runt_place, count_at, same-iov}
use Rattle.rdm_pkt.proofs.Forms.{not-above, not-below}
use Rattle.rdm_pkt.proofs.read_forms.read_runt.Goals as goal

pub returns-in_default : goal.returns-in_default
returns-in_default c = sym (runt-takes c.args.bytes.now (λ i. (c.type_inv.bytes i).fits) (λ o parts. opening-none 192 40 c.args.bytes.now (sym c.read_opening.ensures.value ∙ c.in_default.is) o))

pub returns-then-count-gt4 : goal.returns-then-count-gt4
returns-then-count-gt4 c = sym (runt-takes c.args.bytes.now (λ i. (c.type_inv.bytes i).fits) (λ _ parts. let few = parts.few in let many = c.if-count-gt4.true in absurd (omega arith)))

pub returns-then-bytes-place : goal.returns-then-bytes-place
returns-then-bytes-place c =
    let found = c.in-Some.ensures in
    let o = opening-some 192 40 c.args.bytes.now c.in-Some.opening found.value in
    let place : c.in-Some.opening.place ≡ last_place 40 c.args.bytes.now = ap (λ (x : Opening). x.place) o.1 in
    let few = c.if-count-gt4.false in
    let count : c.u32_at-count.result ≡ count_at c.args.bytes.now = omega arith in
    let at : c.in-Some.opening.place + 24 * c.u32_at-count.result ≡ runt_place c.args.bytes.now = omega (arith, place, count) in
    let short = c.if-bytes-place.true in
    sym (runt-takes c.args.bytes.now (λ i. (c.type_inv.bytes i).fits) (λ _ parts. let some = parts.some in absurd (omega (arith, at, some, short))))

pub returns-then-not-iov_fits : goal.returns-then-not-iov_fits
returns-then-not-iov_fits c =
    let found = c.in-Some.ensures in
    let o = opening-some 192 40 c.args.bytes.now c.in-Some.opening found.value in
    let place : c.in-Some.opening.place ≡ last_place 40 c.args.bytes.now = ap (λ (x : Opening). x.place) o.1 in
    let few = c.if-count-gt4.false in
    let count : c.u32_at-count.result ≡ count_at c.args.bytes.now = omega arith in
    let iov : c.in-Some-read_iov.iov ≡ iov_at (last_place 40 c.args.bytes.now) (count_at c.args.bytes.now) c.args.bytes.now =
    (some-then _ _ _ (sym c.read_iov.ensures ∙ c.in-Some-read_iov.is)).1 ∙ same-iov c.in-Some.opening.place (last_place 40 c.args.bytes.now) c.u32_at-count.result (count_at c.args.bytes.now) c.args.bytes.now place count in
    let test : c.iov_fits.result ≡ iov_fits (iov_at (last_place 40 c.args.bytes.now) (count_at c.args.bytes.now) c.args.bytes.now) (number_at 8 8 c.args.bytes.now) =
    rw (c.as_slice.ensures.items, iov, c.u64_at-msg_length.ensures) at c.iov_fits.ensures in
    sym (runt-takes c.args.bytes.now (λ i. (c.type_inv.bytes i).fits) (λ _ parts. true-not-false (sym test ∙ c.if-not-iov_fits.true) parts.iov))

pub returns-then-not-ends_by : goal.returns-then-not-ends_by
returns-then-not-ends_by c =
    let found = c.in-Some.ensures in
    let o = opening-some 192 40 c.args.bytes.now c.in-Some.opening found.value in
    let place : c.in-Some.opening.place ≡ last_place 40 c.args.bytes.now = ap (λ (x : Opening). x.place) o.1 in
    let few = c.if-count-gt4.false in
    let count : c.u32_at-count.result ≡ count_at c.args.bytes.now = omega arith in
    let at : c.in-Some.opening.place + 24 * c.u32_at-count.result ≡ runt_place c.args.bytes.now = omega (arith, place, count) in
    let data' : c.after-data.result.now ≡ drop (runt_place c.args.bytes.now) c.args.bytes.now = c.after-data.ensures ∙ ap (λ (n : ℕ). drop n c.args.bytes.now) at in
    let len = ap length data' in
    let late = not-above (c.u64_at-offset.result + length c.after-data.result.now) c.u64_at-runt_length.result c.ends_by.result c.ends_by.ensures c.if-not-ends_by.true in
    sym (runt-takes c.args.bytes.now (λ i. (c.type_inv.bytes i).fits) (λ _ parts. let within = parts.within in absurd (omega (arith, len, late, within))))

pub returns-then-runt_length-msg_length : goal.returns-then-runt_length-msg_length
returns-then-runt_length-msg_length c =
    let whole = c.if-runt_length-msg_length.true in
    sym (runt-takes c.args.bytes.now (λ i. (c.type_inv.bytes i).fits) (λ _ parts. let part = parts.part in absurd (omega (arith, whole, part))))

pub returns : goal.returns
returns c =
    let found = c.in-Some.ensures in
    let o = opening-some 192 40 c.args.bytes.now c.in-Some.opening found.value in
    let place : c.in-Some.opening.place ≡ last_place 40 c.args.bytes.now = ap (λ (x : Opening). x.place) o.1 in
    let few = c.if-count-gt4.false in
    let count : c.u32_at-count.result ≡ count_at c.args.bytes.now = omega arith in
    let iov : c.in-Some-read_iov.iov ≡ iov_at (last_place 40 c.args.bytes.now) (count_at c.args.bytes.now) c.args.bytes.now =
    (some-then _ _ _ (sym c.read_iov.ensures ∙ c.in-Some-read_iov.is)).1 ∙ same-iov c.in-Some.opening.place (last_place 40 c.args.bytes.now) c.u32_at-count.result (count_at c.args.bytes.now) c.args.bytes.now place count in
    let test : c.iov_fits.result ≡ iov_fits (iov_at (last_place 40 c.args.bytes.now) (count_at c.args.bytes.now) c.args.bytes.now) (number_at 8 8 c.args.bytes.now) =
    rw (c.as_slice.ensures.items, iov, c.u64_at-msg_length.ensures) at c.iov_fits.ensures in
    let at : c.in-Some.opening.place + 24 * c.u32_at-count.result ≡ runt_place c.args.bytes.now = omega (arith, place, count) in
    let data' : c.after-data.result.now ≡ drop (runt_place c.args.bytes.now) c.args.bytes.now = c.after-data.ensures ∙ ap (λ (n : ℕ). drop n c.args.bytes.now) at in
    let len = ap length data' in
    let late = not-below (c.u64_at-offset.result + length c.after-data.result.now) c.u64_at-runt_length.result c.ends_by.result c.ends_by.ensures c.if-not-ends_by.false in
    let some = c.if-bytes-place.false in
    let part = c.if-runt_length-msg_length.false in
    let parts : RuntParts c.args.bytes.now =
    record { few = omega arith; some = omega (arith, at, some); iov = sym test ∙ c.if-not-iov_fits.false; within = omega (arith, len, late); part = omega arith } in
    rw (c.packet.ensures, iov, o.1, c.in_ok-from_slice.ensures, data', c.u64_at-msg_length.ensures, c.u32_at.ensures, c.u64_at-runt_length.ensures, c.u64_at-offset.ensures)
    (sym (runt-is c.args.bytes.now (λ i. (c.type_inv.bytes i).fits) o.0 parts))

pub returns-in_default-read_iov : goal.returns-in_default-read_iov
returns-in_default-read_iov c =
    let few = c.if-count-gt4.false in
    let count : c.u32_at-count.result ≡ count_at c.args.bytes.now = omega arith in
    let none = none-then _ _ (sym c.read_iov.ensures ∙ c.in_default-read_iov.is) in
    sym (runt-takes c.args.bytes.now (λ i. (c.type_inv.bytes i).fits) (λ _ parts. no-ranges (last_place 40 c.args.bytes.now) c.u32_at-count.result (count_at c.args.bytes.now) (number_at 8 8 c.args.bytes.now) c.args.bytes.now none count parts.iov))
