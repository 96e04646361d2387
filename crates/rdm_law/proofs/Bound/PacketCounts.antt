-- A send has no more packets than its message has bytes, and one.
use Rattle.std.proofs.Common.{◌≡◌, ℕ, zero, suc, ◌+◌, ◌<◌, ◌≤◌, true, false, cond, List, [], ◌∷◌, length, take, drop, refl, arith, inl, inr, sym, ◌∙◌, ap, subst}
use Rattle.std.specs.Prelude.{nat_le}
use Rattle.std.proofs.lemmas.List.{length-append, length-map, length-take}
use Rattle.rdm_lists.specs.Lists.{Member}
use Rattle.rdm_num.specs.Pieces.{Piece, piece_bytes, cut, pieces}
use Rattle.rdm_num.specs.declared.limits.EpLimits.{EpLimits}
use Rattle.rdm_pkt.specs.declared.Packet.{Packet}
use Rattle.rdm_pkt.specs.declared.Packet.TheVariants.{Rtm, Cts, CtsData, Eor, Handshake, Receipt}
use Rattle.rdm_pkt.specs.declared.Kind.{Kind}
use Rattle.rdm_pkt.specs.declared.Kind.TheVariants.{Eager, Medium, LongCts, LongRead, Runt}
use Rattle.rdm_pkt.specs.Openings.{Message, medium_form, runt_form, no_bytes, rtm, read_rtm, room_in, openings}
use Rattle.rdm_model.specs.Deeds.{Deed}
use Rattle.rdm_model.specs.Beginnings.{Own}
use Rattle.rdm_model.specs.Grants.{data_room}
use Rattle.rdm_model.specs.Sends.{Sent, sends}
use Rattle.rdm_model.specs.Dues.{packet_piece, pieces_in}
use Rattle.rdm_model.specs.Local.{heard_by}
use Rattle.rdm_model.proofs.Cuts.{piece_bytes-append, row_within}
use Rattle.rdm_model.proofs.Opens.{pieces_in-append}
use Rattle.rdm_model.proofs.Dues.{IsData, AllData}
use Rattle.rdm_model.proofs.Pushes.{pushed_of, underway}
use Rattle.rdm_model.proofs.Served.{push_member}
use Rattle.rdm_model.proofs.Sending.{data_push}
use Rattle.rdm_law.proofs.Lives.Lives.{LifeLocal}
use Rattle.rdm_law.proofs.Windows.Allowed.{allowed_within}
use Rattle.rdm_law.proofs.Settled.DuesPushed.{packet_push}
use Rattle.rdm_lists.proofs.Members.{member-append_right}

-- there are no more cuts than fuel, and one
cut_count : (fuel size offset : ℕ) (bytes : List ℕ) → length (cut fuel size offset bytes) ≤ 1 + fuel
unfolding cut
cut_count zero size offset bytes = omega arith
cut_count (suc fuel) size offset bytes =
    let rest = cut_count fuel size (offset + size) (drop size bytes) in
    elim (nat_le (length bytes) size) as (λ t. length (cond t (record { offset = offset; bytes = bytes } ∷ []) (record { offset = offset; bytes = take size bytes } ∷ cut fuel size (offset + size) (drop size bytes))) ≤ 1 + suc fuel) [
      | true ↦ omega arith
      | false ↦ omega arith
    ]

-- a message has no more pieces than bytes, and one
pieces_count : (size : ℕ) (bytes : List ℕ) → length (pieces size bytes) ≤ 1 + length bytes
unfolding pieces
pieces_count size bytes = cut_count (length bytes) size 0 bytes

-- and no more openings
openings_count : (limits : EpLimits) (m : Message) (kind : Kind) → length (openings limits m kind) ≤ 1 + length m.bytes
unfolding openings
openings_count limits m Eager = omega arith
openings_count limits m Medium =
    let size : ℕ = room_in limits (rtm m (medium_form m no_bytes)) in
    let l = length-map (pieces size m.bytes) (λ (x : Piece). rtm m (medium_form m x)) in
    let c = pieces_count size m.bytes in
    omega arith
openings_count limits m LongCts = omega arith
openings_count limits m LongRead = omega arith
openings_count limits m (Runt runt) =
    let size : ℕ = room_in limits (read_rtm m (runt_form m runt no_bytes)) in
    let l = length-map (pieces size (take runt m.bytes)) (λ (x : Piece). read_rtm m (runt_form m runt x)) in
    let c = pieces_count size (take runt m.bytes) in
    let t = length-take runt m.bytes in
    omega arith

-- a long send has one opening
long_count : (limits : EpLimits) (m : Message) (kind : Kind) → kind ≡ LongCts → length (openings limits m kind) ≡ 1
unfolding openings
long_count limits m kind e = rw e refl

-- a packet of granted bytes that has a byte
abbrev HasByte : Packet → Type 0
HasByte (CtsData recv offset connid bytes) = 0 < length bytes
HasByte _ = ⊥

-- one more of them
one_count : (p : Packet) (ps : List Packet) → HasByte p → length ps ≤ piece_bytes (pieces_in ps) → length (p ∷ ps) ≤ piece_bytes (pieces_in (p ∷ ps))
unfolding pieces_in piece_bytes packet_piece
one_count (CtsData recv offset connid bytes) ps h le = omega arith
one_count (Rtm number tag confirm opt form) ps h le = elim h [ ]
one_count (Cts send recv size connid) ps h le = elim h [ ]
one_count (Eor send recv connid) ps h le = elim h [ ]
one_count (Handshake words connid raw) ps h le = elim h [ ]
one_count (Receipt number connid) ps h le = elim h [ ]

-- such packets are no more than their bytes
bytes_count : (ps : List Packet) → ((p : Packet) → Member p ps → HasByte p) → length ps ≤ piece_bytes (pieces_in ps)
unfolding pieces_in piece_bytes
bytes_count [] h = omega arith
bytes_count (p ∷ ps) h =
    let rest = bytes_count ps (λ q m. h q (inr m)) in
    one_count p ps (h p (inl refl)) rest

-- each of them has granted bytes
all_data : (ps : List Packet) (p : Packet) → AllData ps → Member p ps → IsData p
all_data [] p a h = elim h [ ]
all_data (q ∷ ps) p a (inl e) = subst IsData e a.0
all_data (q ∷ ps) p a (inr h) = all_data ps p a.1 h

-- granted bytes that were pushed have a byte
data_byte : (own : Own) (log : List Deed) (s : Sent) (p : Packet) → LifeLocal own log → 0 < data_room own.limits → Member s (sends own (heard_by own.limits.first log) log)
    → Member p (pushed_of own (heard_by own.limits.first log) log s.number) → IsData p → HasByte p
data_byte own log s (CtsData recv offset connid bytes) local room m h d =
    let ms = heard_by own.limits.first log in
    let r = packet_push own ms log s.number (CtsData recv offset connid bytes) h in
    let mem = push_member own ms r.sent (CtsData recv offset connid bytes) r.place log r.pushed in
    let push = data_push own ms r.sent recv offset connid bytes r.place log r.pushed in
    let some = push.has_byte room (allowed_within own log r.sent local mem) in
    let is = push.is in
    let same : bytes ≡ push.bytes = cc in
    (let l = ap length same in omega arith)
data_byte own log s (Rtm number tag confirm opt form) local room m h d = elim d [ ]
data_byte own log s (Cts send recv size connid) local room m h d = elim d [ ]
data_byte own log s (Eor send recv connid) local room m h d = elim d [ ]
data_byte own log s (Handshake words connid raw) local room m h d = elim d [ ]
data_byte own log s (Receipt number connid) local room m h d = elim d [ ]

-- a send has no more packets than its message has bytes, and one
pub packets_counted : (own : Own) (log : List Deed) (s : Sent) → LifeLocal own log → 0 < data_room own.limits → Member s (sends own (heard_by own.limits.first log) log)
    → length (pushed_of own (heard_by own.limits.first log) log s.number) ≤ 1 + length s.message.bytes
packets_counted own log s local room m =
    let ms = heard_by own.limits.first log in
    let pushed = pushed_of own ms log s.number in
    let ops = openings own.limits s.message s.kind in
    let u = underway own ms log s m in
    let all = openings_count own.limits s.message s.kind in
    elim u.how [
      | inl a ↦ (let e = ap length a.1 in let l = length-append pushed a.0 in omega arith)
      | inr a ↦ (
          let e = ap length a.1 in
          let l = length-append ops a.0 in
          let one = long_count own.limits s.message s.kind a.2 in
          let within = row_within s.message.bytes 0 (pieces_in pushed) u.row (omega arith) in
          let parts : piece_bytes (pieces_in pushed) ≡ piece_bytes (pieces_in ops) + piece_bytes (pieces_in a.0) =
          ap (λ (xs : List Packet). piece_bytes (pieces_in xs)) a.1 ∙ ap piece_bytes (pieces_in-append ops a.0) ∙ piece_bytes-append (pieces_in ops) (pieces_in a.0) in
          let c = bytes_count a.0 (λ p h. data_byte own log s p local room m (subst (λ (xs : List Packet). Member p xs) (sym a.1) (member-append_right p ops a.0 h)) (all_data a.0 p a.3 h)) in
          omega arith)
    ]
