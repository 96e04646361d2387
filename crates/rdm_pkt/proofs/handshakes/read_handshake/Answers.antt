use Rattle.std.proofs.Common.{◌≡◌, ℕ, ◌≤◌, ◌-◌, List, Option, length, sym, ap, ◌∙◌, subst, arith}
use Rattle.rdm_num.specs.declared.numbers.PortNo.{PortNo}
use Rattle.rdm_num.specs.declared.numbers.Connid.{Connid}
use Rattle.rdm_pkt.specs.Grammar.{sender_opt}
use Rattle.rdm_pkt.proofs.Openers.{true-not-false}
use Rattle.rdm_pkt.proofs.Named.{Named, sender_of}
use Rattle.rdm_pkt.proofs.Shaken.{Shaken, last_of, has_front, header_after, is_raw, handshake-is, handshake-takes, sender-named, no-sender}
use Rattle.rdm_pkt.proofs.handshakes.read_handshake.Goals as goal

pub returns-then-bytes-lt8 : goal.returns-then-bytes-lt8
returns-then-bytes-lt8 c =
    sym (handshake-takes c.args.bytes.now (λ i. (c.type_inv.bytes i).fits) (λ count same some few shaken. let t = c.if-bytes-lt8.true in let end' = shaken.named.end' in absurd (omega arith)))

pub returns-then-nextra_p3-lt4 : goal.returns-then-nextra_p3-lt4
returns-then-nextra_p3-lt4 c =
    sym (handshake-takes c.args.bytes.now (λ i. (c.type_inv.bytes i).fits) (λ count same some few shaken. let t = c.if-nextra_p3-lt4.true in absurd (omega arith)))

pub returns-then-nextra_p3-gt11 : goal.returns-then-nextra_p3-gt11
returns-then-nextra_p3-gt11 c =
    sym (handshake-takes c.args.bytes.now (λ i. (c.type_inv.bytes i).fits) (λ count same some few shaken. let t = c.if-nextra_p3-gt11.true in absurd (omega arith)))

pub returns-then-bytes-count : goal.returns-then-bytes-count
returns-then-bytes-count c =
    sym (handshake-takes c.args.bytes.now (λ i. (c.type_inv.bytes i).fits) (λ count same some few shaken. let t = c.if-bytes-count.true in let end' = shaken.named.end' in absurd (omega arith)))

pub returns-in_default : goal.returns-in_default
returns-in_default c =
    let k : ℕ = c.u32_at-nextra_p3.result - 3 in
    let bytes : List ℕ = c.args.bytes.now in
    sym (handshake-takes bytes (λ i. (c.type_inv.bytes i).fits) (λ count same some few shaken.
    let e : count ≡ k = omega arith in
    no-sender k bytes (sym c.read_sender.ensures ∙ c.in_default.is) (subst (λ (n : ℕ). Named (is_raw bytes) (last_of n) bytes) e shaken.named)))

pub returns-then-not-has_head : goal.returns-then-not-has_head
returns-then-not-has_head c =
    let k : ℕ = c.u32_at-nextra_p3.result - 3 in
    let bytes : List ℕ = c.args.bytes.now in
    let room : last_of k ≤ length bytes = c.if-bytes-count.false in
    let found = sender-named k bytes (c.in-Some.connid, c.in-Some.raw) (λ i. (c.type_inv.bytes i).fits) room (sym c.read_sender.ensures ∙ c.in-Some.is) in
    let opt : sender_opt c.in-Some.connid c.in-Some.raw ≡ header_after k bytes = ap (λ (x : Connid × Option PortNo). sender_opt x.0 x.1) found.1 in
    let test : c.has_head.result ≡ has_front (header_after k bytes) bytes = rw (c.opt_flags.ensures.value, c.sender_opt.ensures, opt) at c.has_head.ensures in
    sym (handshake-takes bytes (λ i. (c.type_inv.bytes i).fits) (λ count same some few shaken.
    let e : count ≡ k = omega arith in
    true-not-false (sym test ∙ c.if-not-has_head.true) (sym (ap (λ (n : ℕ). has_front (header_after n bytes) bytes) e) ∙ shaken.front)))

pub returns : goal.returns
returns c =
    let k : ℕ = c.u32_at-nextra_p3.result - 3 in
    let bytes : List ℕ = c.args.bytes.now in
    let room : last_of k ≤ length bytes = c.if-bytes-count.false in
    let found = sender-named k bytes (c.in-Some.connid, c.in-Some.raw) (λ i. (c.type_inv.bytes i).fits) room (sym c.read_sender.ensures ∙ c.in-Some.is) in
    let opt : sender_opt c.in-Some.connid c.in-Some.raw ≡ header_after k bytes = ap (λ (x : Connid × Option PortNo). sender_opt x.0 x.1) found.1 in
    let test : c.has_head.result ≡ has_front (header_after k bytes) bytes = rw (c.opt_flags.ensures.value, c.sender_opt.ensures, opt) at c.has_head.ensures in
    let some = c.if-nextra_p3-lt4.false in
    let few = c.if-nextra_p3-gt11.false in
    let read = c.u32_at-nextra_p3.ensures in
    let shaken : Shaken k bytes = record { some = omega arith; few = omega arith; number = omega arith; front = sym test ∙ c.if-not-has_head.false; named = found.0 } in
    let connid : c.in-Some.connid ≡ (sender_of (is_raw bytes) (last_of k) bytes).0 = ap (λ (x : Connid × Option PortNo). x.0) found.1 in
    let raw : c.in-Some.raw ≡ (sender_of (is_raw bytes) (last_of k) bytes).1 = ap (λ (x : Connid × Option PortNo). x.1) found.1 in
    rw (c.in_ok-read_words.ensures, connid, raw) (sym (handshake-is bytes (λ i. (c.type_inv.bytes i).fits) k (omega arith) shaken))
