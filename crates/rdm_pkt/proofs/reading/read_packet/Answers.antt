use Rattle.std.proofs.Common.{◌≡◌, Option, sym, subst, ◌∙◌, arith}
use Rattle.std.specs.Prelude.{IfOk}
use Rattle.rdm_pkt.specs.declared.Packet.{Packet}
use Rattle.rdm_pkt.specs.Reading.{CtsRow, CtsDataRow, EorRow, HandshakeRow, ReceiptRow}
use Rattle.rdm_pkt.proofs.FirstByte.{empty-none, of-row, row-3, row-4, row-7, row-9, row-10, of-eager, of-eager_confirmed, of-medium, of-medium_confirmed, of-long_cts, of-long_cts_confirmed, of-long_read, of-runt, of-low, of-middle, of-upper, of-late, of-high}
use Rattle.rdm_pkt.proofs.reading.read_packet.Goals as goal
use Rattle.rdm_pkt.proofs.reading.read_packet.Goals.{in_default-kind-via-then-kind-lt192+then-kind-lt64, in_default-kind-via-then-kind-lt192+else-kind-lt64+else-kind-lt66+else-kind-lt68+else-kind-lt70+then-kind-lt128, in_default-kind-via-then-kind-lt192+else-kind-lt64+else-kind-lt66+else-kind-lt68+else-kind-lt70+else-kind-lt128+else-kind-lt130, in_default-kind-via-else-kind-lt192+else-kind-lt194+then-kind-lt200, in_default-kind-via-else-kind-lt192+else-kind-lt194+else-kind-lt200+else-kind-lt202+else-kind-lt204+else-kind-lt206}

pub returns-in_default : goal.returns-in_default
returns-in_default c = let first = c.in_default.ensures in sym (empty-none c.args.bytes.now first.value)

pub returns-in-3 : goal.returns-in-3
returns-in-3 c =
    let first = c.in-Some.ensures in
    c.read_cts.ensures ∙ sym (of-row c.args.bytes.now c.in-Some.kind.now CtsRow first.value (row-3 c.in-Some.kind.now c.in-3.is))

pub returns-in-4 : goal.returns-in-4
returns-in-4 c =
    let first = c.in-Some.ensures in
    subst (λ (p : Option Packet). IfOk c.read_cts_data.result (λ r. r ≡ p)) (sym (of-row c.args.bytes.now c.in-Some.kind.now CtsDataRow first.value (row-4 c.in-Some.kind.now c.in-4.is))) c.read_cts_data.ensures

pub returns-in-7 : goal.returns-in-7
returns-in-7 c =
    let first = c.in-Some.ensures in
    c.read_eor.ensures ∙ sym (of-row c.args.bytes.now c.in-Some.kind.now EorRow first.value (row-7 c.in-Some.kind.now c.in-7.is))

pub returns-in-9 : goal.returns-in-9
returns-in-9 c =
    let first = c.in-Some.ensures in
    subst (λ (p : Option Packet). IfOk c.read_handshake.result (λ r. r ≡ p)) (sym (of-row c.args.bytes.now c.in-Some.kind.now HandshakeRow first.value (row-9 c.in-Some.kind.now c.in-9.is))) c.read_handshake.ensures

pub returns-in-10 : goal.returns-in-10
returns-in-10 c =
    let first = c.in-Some.ensures in
    c.read_receipt.ensures ∙ sym (of-row c.args.bytes.now c.in-Some.kind.now ReceiptRow first.value (row-10 c.in-Some.kind.now c.in-10.is))

pub returns-in-64 : goal.returns-in-64
returns-in-64 c =
    let first = c.in-Some.ensures in
    subst (λ (p : Option Packet). IfOk c.read_eager.result (λ r. r ≡ p)) (sym (of-eager c.args.bytes.now c.in-Some.kind.now first.value (omega arith) (omega arith))) c.read_eager.ensures

pub returns-in-200 : goal.returns-in-200
returns-in-200 c =
    let first = c.in-Some.ensures in
    subst (λ (p : Option Packet). IfOk c.read_eager-in-200.result (λ r. r ≡ p)) (sym (of-eager_confirmed c.args.bytes.now c.in-Some.kind.now first.value (omega arith) (omega arith))) c.read_eager-in-200.ensures

pub returns-in-66 : goal.returns-in-66
returns-in-66 c =
    let first = c.in-Some.ensures in
    subst (λ (p : Option Packet). IfOk c.read_medium.result (λ r. r ≡ p)) (sym (of-medium c.args.bytes.now c.in-Some.kind.now first.value (omega arith) (omega arith))) c.read_medium.ensures

pub returns-in-202 : goal.returns-in-202
returns-in-202 c =
    let first = c.in-Some.ensures in
    subst (λ (p : Option Packet). IfOk c.read_medium-in-202.result (λ r. r ≡ p)) (sym (of-medium_confirmed c.args.bytes.now c.in-Some.kind.now first.value (omega arith) (omega arith))) c.read_medium-in-202.ensures

pub returns-in-68 : goal.returns-in-68
returns-in-68 c =
    let first = c.in-Some.ensures in
    subst (λ (p : Option Packet). IfOk c.read_long_cts.result (λ r. r ≡ p)) (sym (of-long_cts c.args.bytes.now c.in-Some.kind.now first.value (omega arith) (omega arith))) c.read_long_cts.ensures

pub returns-in-204 : goal.returns-in-204
returns-in-204 c =
    let first = c.in-Some.ensures in
    subst (λ (p : Option Packet). IfOk c.read_long_cts-in-204.result (λ r. r ≡ p)) (sym (of-long_cts_confirmed c.args.bytes.now c.in-Some.kind.now first.value (omega arith) (omega arith))) c.read_long_cts-in-204.ensures

pub returns-in-128 : goal.returns-in-128
returns-in-128 c =
    let first = c.in-Some.ensures in
    c.read_long_read.ensures ∙ sym (of-long_read c.args.bytes.now c.in-Some.kind.now first.value (omega arith) (omega arith))

pub returns-in-192 : goal.returns-in-192
returns-in-192 c =
    let first = c.in-Some.ensures in
    subst (λ (p : Option Packet). IfOk c.read_runt.result (λ r. r ≡ p)) (sym (of-runt c.args.bytes.now c.in-Some.kind.now first.value (omega arith) (omega arith))) c.read_runt.ensures

pub returns-in_default-kind : goal.returns-in_default-kind
returns-in_default-kind c =
    let first = c.in-Some.ensures in
    elim c.in_default-kind.branch [
      | in_default-kind-via-then-kind-lt192+then-kind-lt64 w ↦ sym (of-low c.args.bytes.now c.in-Some.kind.now first.value (omega arith) (λ e. omega arith) (λ e. omega arith) (λ e. omega arith) (λ e. omega arith) (λ e. omega arith))
      | in_default-kind-via-then-kind-lt192+else-kind-lt64+else-kind-lt66+else-kind-lt68+else-kind-lt70+then-kind-lt128 w ↦ sym (of-middle c.args.bytes.now c.in-Some.kind.now first.value (omega arith) (omega arith))
      | in_default-kind-via-then-kind-lt192+else-kind-lt64+else-kind-lt66+else-kind-lt68+else-kind-lt70+else-kind-lt128+else-kind-lt130 w ↦ sym (of-upper c.args.bytes.now c.in-Some.kind.now first.value (omega arith) (omega arith))
      | in_default-kind-via-else-kind-lt192+else-kind-lt194+then-kind-lt200 w ↦ sym (of-late c.args.bytes.now c.in-Some.kind.now first.value (omega arith) (omega arith))
      | in_default-kind-via-else-kind-lt192+else-kind-lt194+else-kind-lt200+else-kind-lt202+else-kind-lt204+else-kind-lt206 w ↦ sym (of-high c.args.bytes.now c.in-Some.kind.now first.value (omega arith))
    ]
