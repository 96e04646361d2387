-- Handshakes are read as they are spelled.
use Rattle.std.proofs.Common.{◌≡◌, ℕ, ◌+◌, ◌-◌, ◌*◌, ◌≤◌, min, false, List, [], ◌∷◌, ◌++◌, length, map, Option, Some, None, refl, sym, subst, append_assoc, append-nil, arith}
use Rattle.std.specs.Prelude.{nat_le, is_some}
use Rattle.std.proofs.lemmas.Bool.{and_parts, leb-true}
use Rattle.std.proofs.Math.Nat.{min-eq_right}
use Rattle.rdm_hdr.specs.declared.Opt.{Opt}
use Rattle.rdm_hdr.specs.Fields.{Field, Number, number_at, has_bit}
use Rattle.rdm_hdr.specs.Headers.{raw_fields, cq_data_fields, connid_fields, opt_fields, opt_flags, opt_at}
use Rattle.rdm_num.specs.declared.numbers.PortNo.{PortNo}
use Rattle.rdm_num.specs.declared.numbers.Connid.{Connid}
use Rattle.rdm_pkt.specs.declared.Packet.TheVariants.{Handshake}
use Rattle.rdm_pkt.specs.Grammar.{head_fields, sender_opt, layout, packet_fits, Spells}
use Rattle.rdm_pkt.specs.Reading.{HandshakeRow, row_of, values_at, sender_by, sender_at, handshake_at, packet_in}
use Rattle.rdm_pkt.proofs.ReadFields.{At, at_number, at_words}
use Rattle.rdm_pkt.proofs.ReadFixed.{at_layout, packet_fit, after_head, read_by}
use Rattle.rdm_pkt.proofs.ReadOpenings.{Flags, opt_back}

-- as many words as there are, where there are no more than 8
word_count : (n m : ℕ) → m ≡ n + 3 → n ≤ 8 → min 8 (m - 3) ≡ n
word_count n m e h = let d : m - 3 ≡ n = omega arith in rw d (min-eq_right h)

-- the flags tell which header names the sender
sender_flags : (connid : Connid) (raw : Option PortNo)
    → Flags (opt_flags (sender_opt connid raw)) false (is_some (sender_opt connid raw).raw) (is_some (sender_opt connid raw).cq_data) (is_some (sender_opt connid raw).connid)
unfolding opt_flags sender_opt has_bit
sender_flags connid None = (refl, refl, refl, refl)
sender_flags connid (Some port) = (refl, refl, refl, refl)

-- the sender is read from its header
sender_back : (place : ℕ) (connid : Connid) (raw : Option PortNo) (bytes : List ℕ) → opt_at place (number_at 2 2 bytes) bytes ≡ sender_opt connid raw
    → At place bytes (opt_fields (sender_opt connid raw)) → sender_at place bytes ≡ (connid, raw)
unfolding sender_at sender_by sender_opt opt_fields raw_fields cq_data_fields connid_fields
sender_back place connid None bytes e a = let r = at_number place 4 connid.0 bytes [] a in rw (e, r.0) refl
sender_back place connid (Some port) bytes e a = rw e refl

-- a handshake is read
pub handshake_is_read : (words : List ℕ) (connid : Connid) (raw : Option PortNo) (bytes : List ℕ) → Spells (Handshake words connid raw) bytes
    → packet_in bytes ≡ Some (Handshake words connid raw)
unfolding layout row_of values_at handshake_at packet_fits
handshake_is_read words connid raw bytes s =
    let opt : Opt = sender_opt connid raw in
    let front : List Field = map (Number 8) words in
    let all : At 0 bytes (head_fields 9 (opt_flags opt) ++ (Number 4 (length words + 3) ∷ (front ++ opt_fields opt))) =
    subst (λ (fs : List Field). At 0 bytes fs) (append_assoc (head_fields 9 (opt_flags opt)) (Number 4 (length words + 3) ∷ front) (opt_fields opt)) (at_layout (Handshake words connid raw) bytes s) in
    let head = after_head 9 (opt_flags opt) bytes (Number 4 (length words + 3) ∷ (front ++ opt_fields opt)) all in
    let a = at_number 4 4 (length words + 3) bytes (front ++ opt_fields opt) head.2 in
    let b = at_words 8 words bytes (opt_fields opt) a.1 in
    let flags : Flags (number_at 2 2 bytes) false (is_some opt.raw) (is_some opt.cq_data) (is_some opt.connid) =
    subst (λ (f : ℕ). Flags f false (is_some opt.raw) (is_some opt.cq_data) (is_some opt.connid)) (sym head.1) (sender_flags connid raw) in
    let o = opt_back (8 + 8 * length words) (number_at 2 2 bytes) false opt bytes [] flags (subst (λ (fs : List Field). At (8 + 8 * length words) bytes fs) (sym (append-nil (opt_fields opt))) b.1) in
    let sender = sender_back (8 + 8 * length words) connid raw bytes o.0 b.1 in
    let fit = and_parts (nat_le 1 (length words)) (nat_le (length words) 8) (packet_fit (Handshake words connid raw) bytes s) in
    let count = word_count (length words) (number_at 4 4 bytes) a.0 (leb-true (length words) 8 fit.1) in
    read_by HandshakeRow 9 (Handshake words connid raw) bytes s head.0 refl (rw (count, b.0, sender) refl)
