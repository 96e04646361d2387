use Rattle.std.proofs.Common.{◌≡◌, ◌+◌, length, drop, sym, ap, ◌∙◌, arith}
use Rattle.rdm_pkt.specs.declared.reading.Opening.{Opening}
use Rattle.rdm_pkt.specs.Opened.{last_place}
use Rattle.rdm_pkt.proofs.Openers.{opening-none, opening-some, kind_at}
use Rattle.rdm_pkt.proofs.Forms.{medium-is, medium-takes, is-empty, not-empty, not-above, not-below}
use Rattle.rdm_pkt.proofs.read_forms.read_medium.Goals as goal

pub returns-in_default : goal.returns-in_default
returns-in_default c = sym (medium-takes c.args.bytes.now (λ i. (c.type_inv.bytes i).fits) (λ o some within. opening-none (kind_at 66 c.args.bytes.now) 24 c.args.bytes.now (sym (rw (c.confirmed_kind.ensures.value, c.asks_receipt.ensures) at c.read_opening.ensures.value) ∙ c.in_default.is) o))

pub returns-then-is_empty : goal.returns-then-is_empty
returns-then-is_empty c =
    let found = c.in-Some.ensures in
    let o = opening-some (kind_at 66 c.args.bytes.now) 24 c.args.bytes.now c.in-Some.opening (rw (c.confirmed_kind.ensures.value, c.asks_receipt.ensures) at found.value) in
    let len : length c.after-data.result.now ≡ length (drop (last_place 24 c.args.bytes.now) c.args.bytes.now) =
    ap length c.after-data.ensures ∙ ap (λ (x : Opening). length (drop x.place c.args.bytes.now)) o.1 in
    let none = is-empty (length c.after-data.result.now) c.is_empty.result c.is_empty.ensures c.if-is_empty.true in
    sym (medium-takes c.args.bytes.now (λ i. (c.type_inv.bytes i).fits) (λ _ some within. absurd (omega (arith, len, none))))

pub returns-then-not-ends_by : goal.returns-then-not-ends_by
returns-then-not-ends_by c =
    let found = c.in-Some.ensures in
    let o = opening-some (kind_at 66 c.args.bytes.now) 24 c.args.bytes.now c.in-Some.opening (rw (c.confirmed_kind.ensures.value, c.asks_receipt.ensures) at found.value) in
    let len : length c.after-data.result.now ≡ length (drop (last_place 24 c.args.bytes.now) c.args.bytes.now) =
    ap length c.after-data.ensures ∙ ap (λ (x : Opening). length (drop x.place c.args.bytes.now)) o.1 in
    let late = not-above (c.u64_at-offset.result + length c.after-data.result.now) c.u64_at-msg_length.result c.ends_by.result c.ends_by.ensures c.if-not-ends_by.true in
    sym (medium-takes c.args.bytes.now (λ i. (c.type_inv.bytes i).fits) (λ _ some within. absurd (omega (arith, len, late))))

pub returns : goal.returns
returns c =
    let found = c.in-Some.ensures in
    let o = opening-some (kind_at 66 c.args.bytes.now) 24 c.args.bytes.now c.in-Some.opening (rw (c.confirmed_kind.ensures.value, c.asks_receipt.ensures) at found.value) in
    let len : length c.after-data.result.now ≡ length (drop (last_place 24 c.args.bytes.now) c.args.bytes.now) =
    ap length c.after-data.ensures ∙ ap (λ (x : Opening). length (drop x.place c.args.bytes.now)) o.1 in
    let some = not-empty (length c.after-data.result.now) c.is_empty.result c.is_empty.ensures c.if-is_empty.false in
    let within = not-below (c.u64_at-offset.result + length c.after-data.result.now) c.u64_at-msg_length.result c.ends_by.result c.ends_by.ensures c.if-not-ends_by.false in
    rw (c.packet.ensures, c.in_ok-from_slice.ensures, c.after-data.ensures, o.1, c.u64_at-msg_length.ensures, c.u64_at-offset.ensures)
    (sym (medium-is c.args.bytes.now (λ i. (c.type_inv.bytes i).fits) o.0 (omega (arith, len, some)) (omega (arith, len, within))))
