use Rattle.std.proofs.Common.{◌≡◌, ℕ, false, ◌≤◌, ◌+◌, length, refl, sym, ap, ◌∙◌, arith}
use Rattle.rdm_hdr.proofs.Opts.{none-then, some-then}
use Rattle.rdm_hdr.specs.declared.Opt.{Opt}
use Rattle.rdm_hdr.specs.Headers.{opt_size}
use Rattle.rdm_pkt.specs.Grammar.{opt_fits}
use Rattle.rdm_pkt.specs.Opened.{opt_place, opt_of, tag_at, last_place}
use Rattle.rdm_pkt.proofs.Openers.{place-by, size-first, opening-takes, opening-is, tag-by, opened-room, read-opt, Opened, true-not-false}
use Rattle.rdm_pkt.proofs.reading.read_opening.Goals as goal

pub returns-then-bytes-size-clause-value : goal.returns-then-bytes-size-clause-value
returns-then-bytes-size-clause-value c =
    sym (opening-takes c.args.kind c.args.size c.args.bytes.now (λ o. let short = c.if-bytes-size.true in let first = size-first c.args.size c.args.bytes.now in let room = o.room in absurd (omega arith)))

pub returns-then-bytes-place-clause-value : goal.returns-then-bytes-place-clause-value
returns-then-bytes-place-clause-value c =
    let e = place-by c.args.size c.u16_at-flags.result c.size_if.result c.args.bytes.now c.has_bit-tagged.result c.u16_at-flags.ensures (cc) c.size_if.ensures in
    sym (opening-takes c.args.kind c.args.size c.args.bytes.now (λ o. let short = c.if-bytes-place.true in let room = o.room in absurd (omega arith)))

pub returns-in_err-opt-clause-value : goal.returns-in_err-opt-clause-value
returns-in_err-opt-clause-value c =
    let e = place-by c.args.size c.u16_at-flags.result c.size_if.result c.args.bytes.now c.has_bit-tagged.result c.u16_at-flags.ensures (cc) c.size_if.ensures in
    let opt = read-opt c.args.size c.u16_at-flags.result (c.args.size + c.size_if.result) c.args.bytes.now c.after.result.now e c.u16_at-flags.ensures c.after.ensures in
    let none = none-then _ _ (sym opt ∙ sym c.read_opt.ensures ∙ c.in_err-opt.was) in
    c.from_residual.ensures ∙ sym (opening-takes c.args.kind c.args.size c.args.bytes.now (λ o. true-not-false none o.opts))

pub returns-then-not-opt_fits-clause-value : goal.returns-then-not-opt_fits-clause-value
returns-then-not-opt_fits-clause-value c =
    let e = place-by c.args.size c.u16_at-flags.result c.size_if.result c.args.bytes.now c.has_bit-tagged.result c.u16_at-flags.ensures (cc) c.size_if.ensures in
    let opt = read-opt c.args.size c.u16_at-flags.result (c.args.size + c.size_if.result) c.args.bytes.now c.after.result.now e c.u16_at-flags.ensures c.after.ensures in
    let all = some-then _ _ _ (sym opt ∙ sym c.read_opt.ensures ∙ c.in_ok-opt.was) in
    let same : c.in_ok-opt.opt ≡ opt_of c.args.size c.args.bytes.now = ap (λ (x : Opt × ℕ). x.0) all.1 in
    let unfit : opt_fits (opt_of c.args.size c.args.bytes.now) ≡ false = ap opt_fits (sym same) ∙ sym c.opt_fits.ensures ∙ c.if-not-opt_fits.true in
    sym (opening-takes c.args.kind c.args.size c.args.bytes.now (λ o. true-not-false unfit o.fit))

pub returns-then-not-has_head-clause-value : goal.returns-then-not-has_head-clause-value
returns-then-not-has_head-clause-value c =
    let e = place-by c.args.size c.u16_at-flags.result c.size_if.result c.args.bytes.now c.has_bit-tagged.result c.u16_at-flags.ensures (cc) c.size_if.ensures in
    let opt = read-opt c.args.size c.u16_at-flags.result (c.args.size + c.size_if.result) c.args.bytes.now c.after.result.now e c.u16_at-flags.ensures c.after.ensures in
    let all = some-then _ _ _ (sym opt ∙ sym c.read_opt.ensures ∙ c.in_ok-opt.was) in
    let same : c.in_ok-opt.opt ≡ opt_of c.args.size c.args.bytes.now = ap (λ (x : Opt × ℕ). x.0) all.1 in
    let tag : c.read_tag-tag.result ≡ tag_at c.args.size c.args.bytes.now = c.read_tag-tag.ensures ∙ tag-by c.args.size c.u16_at-flags.result c.args.bytes.now c.has_bit-tagged.result c.u16_at-flags.ensures (cc) in
    let head = rw (c.rtm_flags.ensures, c.tagged_kind.ensures, tag, same) at c.has_head.ensures in
    let other = sym head ∙ c.if-not-has_head.true in
    sym (opening-takes c.args.kind c.args.size c.args.bytes.now (λ o. true-not-false other o.head))

pub overflow_add-result : goal.overflow_add-result
unfolding last_place
overflow_add-result c =
    let e = place-by c.args.size c.u16_at-flags.result c.size_if.result c.args.bytes.now c.has_bit-tagged.result c.u16_at-flags.ensures (cc) c.size_if.ensures in
    let opt = read-opt c.args.size c.u16_at-flags.result (c.args.size + c.size_if.result) c.args.bytes.now c.after.result.now e c.u16_at-flags.ensures c.after.ensures in
    let all = some-then _ _ _ (sym opt ∙ sym c.read_opt.ensures ∙ c.in_ok-opt.was) in
    let same : c.in_ok-opt.opt ≡ opt_of c.args.size c.args.bytes.now = ap (λ (x : Opt × ℕ). x.0) all.1 in
    let tag : c.read_tag-tag.result ≡ tag_at c.args.size c.args.bytes.now = c.read_tag-tag.ensures ∙ tag-by c.args.size c.u16_at-flags.result c.args.bytes.now c.has_bit-tagged.result c.u16_at-flags.ensures (cc) in
    let head = rw (c.rtm_flags.ensures, c.tagged_kind.ensures, tag, same) at c.has_head.ensures in
    let room : opt_place c.args.size c.args.bytes.now ≤ length c.args.bytes.now = let within = c.if-bytes-place.false in omega arith in
    let there : Opened c.args.kind c.args.size c.args.bytes.now =
    record { room = room; opts = all.0; fit = ap opt_fits (sym same) ∙ sym c.opt_fits.ensures ∙ c.if-not-opt_fits.false; head = sym head ∙ c.if-not-has_head.false } in
    let size : c.in_ok-opt.opt_size ≡ opt_size (opt_of c.args.size c.args.bytes.now) = ap (λ (x : Opt × ℕ). x.1) all.1 in
    let end = opened-room c.args.kind c.args.size c.args.bytes.now there in
    let small = c.if-bytes-place.false in
    record { fits = omega arith }

pub returns-clause-value : goal.returns-clause-value
unfolding last_place
returns-clause-value c =
    let e = place-by c.args.size c.u16_at-flags.result c.size_if.result c.args.bytes.now c.has_bit-tagged.result c.u16_at-flags.ensures (cc) c.size_if.ensures in
    let opt = read-opt c.args.size c.u16_at-flags.result (c.args.size + c.size_if.result) c.args.bytes.now c.after.result.now e c.u16_at-flags.ensures c.after.ensures in
    let all = some-then _ _ _ (sym opt ∙ sym c.read_opt.ensures ∙ c.in_ok-opt.was) in
    let same : c.in_ok-opt.opt ≡ opt_of c.args.size c.args.bytes.now = ap (λ (x : Opt × ℕ). x.0) all.1 in
    let tag : c.read_tag-tag.result ≡ tag_at c.args.size c.args.bytes.now = c.read_tag-tag.ensures ∙ tag-by c.args.size c.u16_at-flags.result c.args.bytes.now c.has_bit-tagged.result c.u16_at-flags.ensures (cc) in
    let head = rw (c.rtm_flags.ensures, c.tagged_kind.ensures, tag, same) at c.has_head.ensures in
    let room : opt_place c.args.size c.args.bytes.now ≤ length c.args.bytes.now = let within = c.if-bytes-place.false in omega arith in
    let there : Opened c.args.kind c.args.size c.args.bytes.now =
    record { room = room; opts = all.0; fit = ap opt_fits (sym same) ∙ sym c.opt_fits.ensures ∙ c.if-not-opt_fits.false; head = sym head ∙ c.if-not-has_head.false } in
    let size : c.in_ok-opt.opt_size ≡ opt_size (opt_of c.args.size c.args.bytes.now) = ap (λ (x : Opt × ℕ). x.1) all.1 in
    rw (opening-is c.args.kind c.args.size c.args.bytes.now there, c.u32_at.ensures, tag, c.asks_receipt.ensures, same, size, e) refl

pub returns-clause-most : goal.returns-clause-most
unfolding last_place
returns-clause-most c =
    let e = place-by c.args.size c.u16_at-flags.result c.size_if.result c.args.bytes.now c.has_bit-tagged.result c.u16_at-flags.ensures (cc) c.size_if.ensures in
    let opt = read-opt c.args.size c.u16_at-flags.result (c.args.size + c.size_if.result) c.args.bytes.now c.after.result.now e c.u16_at-flags.ensures c.after.ensures in
    let all = some-then _ _ _ (sym opt ∙ sym c.read_opt.ensures ∙ c.in_ok-opt.was) in
    let same : c.in_ok-opt.opt ≡ opt_of c.args.size c.args.bytes.now = ap (λ (x : Opt × ℕ). x.0) all.1 in
    let tag : c.read_tag-tag.result ≡ tag_at c.args.size c.args.bytes.now = c.read_tag-tag.ensures ∙ tag-by c.args.size c.u16_at-flags.result c.args.bytes.now c.has_bit-tagged.result c.u16_at-flags.ensures (cc) in
    let head = rw (c.rtm_flags.ensures, c.tagged_kind.ensures, tag, same) at c.has_head.ensures in
    let room : opt_place c.args.size c.args.bytes.now ≤ length c.args.bytes.now = let within = c.if-bytes-place.false in omega arith in
    let there : Opened c.args.kind c.args.size c.args.bytes.now =
    record { room = room; opts = all.0; fit = ap opt_fits (sym same) ∙ sym c.opt_fits.ensures ∙ c.if-not-opt_fits.false; head = sym head ∙ c.if-not-has_head.false } in
    let size : c.in_ok-opt.opt_size ≡ opt_size (opt_of c.args.size c.args.bytes.now) = ap (λ (x : Opt × ℕ). x.1) all.1 in
    let end = opened-room c.args.kind c.args.size c.args.bytes.now there in
    omega arith
