-- Where the bytes of the packets stand that open a message, and the packet of a piece, by the message's kind.
use Rattle.std.proofs.Common.{◌≡◌, ℕ, zero, suc, ◌+◌, ◌-◌, ◌*◌, ◌<◌, ◌≤◌, Bool, true, false, if◌then◌else◌, List, [], ◌∷◌, map, length, take, drop, Option, Some, None, refl, arith, sym, ap, ◌∙◌}
use Rattle.std.specs.Prelude.{min, is_some, nat_lt, ◌==◌, ◌||◌, slice_get, option_map}
use Rattle.std.specs.Bool.{then_some}
use Rattle.std.proofs.lemmas.List.{length-take, length-drop, take_all}
use Rattle.std.proofs.lemmas.Option.{slice_get-map}
use Rattle.rdm_num.specs.Pieces.{Piece, pieces}
use Rattle.rdm_num.specs.declared.limits.EpLimits.{EpLimits}
use Rattle.rdm_hdr.specs.Headers.{opt_size}
use Rattle.rdm_hdr.proofs.Opts.{opt_size-parts}
use Rattle.rdm_pkt.specs.declared.Packet.{Packet}
use Rattle.rdm_pkt.specs.declared.Form.{Form}
use Rattle.rdm_pkt.specs.declared.Form.TheVariants as F
use Rattle.rdm_pkt.specs.declared.Kind.TheVariants.{Eager, Medium, LongCts, LongRead, Runt}
use Rattle.rdm_pkt.specs.Heads.{piece_of}
use Rattle.rdm_pkt.specs.Openings.{Message, rtm, read_rtm, medium_form, runt_form, long_cts_form, no_bytes, room_in, openings}
use Rattle.rdm_pkt.proofs.PacketSizes.{rtm-size, form-size, tag-size, last-size}
use Rattle.rdm_tx.specs.declared.spans.Span.{Span}
use Rattle.rdm_tx.specs.Sends.{span_at, span_of, part}
use Rattle.rdm_tx.proofs.Nth.{later, nth_piece, range, front_range, piece_carried, piece_within, range_of_first}

-- the span of an offset and a length
abbrev pub span : (offset len : ℕ) → Span
span offset len = record { offset = offset; length = len }

-- ---- the room beside the headers

-- a header, the tag and the optional headers
abbrev pub room_beside : EpLimits → Message → ℕ → ℕ
room_beside limits m header = limits.mtu - (header + (if is_some m.tag then 8 else 0) + opt_size m.opt)

-- in a segment
pub medium_room : (limits : EpLimits) (m : Message) → room_in limits (rtm m (medium_form m no_bytes)) ≡ room_beside limits m 24
unfolding room_in
medium_room limits m =
    let form : Form = medium_form m no_bytes in
    ap (λ (n : ℕ). limits.mtu - n) (rw (rtm-size m.no m.tag m.confirm m.opt form, form-size form, tag-size m.tag, last-size form) (omega arith))

-- in a first part that asks for grants
long_cts_room : (limits : EpLimits) (m : Message) → room_in limits (rtm m (long_cts_form limits m [])) ≡ room_beside limits m 24
unfolding room_in
long_cts_room limits m =
    let form : Form = long_cts_form limits m [] in
    ap (λ (n : ℕ). limits.mtu - n) (rw (rtm-size m.no m.tag m.confirm m.opt form, form-size form, tag-size m.tag, last-size form) (omega arith))

-- in a segment of the first part ahead of a read
pub runt_room : (limits : EpLimits) (m : Message) (runt : ℕ) → room_in limits (read_rtm m (runt_form m runt no_bytes)) ≡ room_beside limits m (40 + 24 * length m.iov)
unfolding room_in
runt_room limits m runt =
    let form : Form = runt_form m runt no_bytes in
    ap (λ (n : ℕ). limits.mtu - n) (rw (rtm-size m.no m.tag false m.opt form, form-size form, tag-size m.tag, last-size form) (omega arith))

-- what may be there has its size at most
at_most : (there : Bool) (size : ℕ) → (if there then size else 0) ≤ size
at_most true size = omega arith
at_most false size = omega arith

-- an mtu of 256 has room beside the headers
pub some_room : (limits : EpLimits) (m : Message) (header : ℕ) → 256 ≤ limits.mtu → header ≤ 136 → 0 < room_beside limits m header
some_room limits m header h k =
    let e = opt_size-parts m.opt in
    let t = at_most (is_some m.tag) 8 in
    let r = at_most (is_some m.opt.raw) 36 in
    let q = at_most (is_some m.opt.cq_data) 8 in
    let i = at_most (is_some m.opt.connid) 4 in
    omega arith

-- ---- one packet alone

-- its span
pub span_alone : (q : Packet) (n : ℕ) → option_map span_of (slice_get (q ∷ []) n) ≡ then_some (n == 0) (span_of q)
span_alone q zero = refl
span_alone q (suc n) = rw (later n) refl

-- the packet itself, where a span is given
packet_alone : (p q : Packet) (n : ℕ) (s : Span) → Some s ≡ option_map span_of (slice_get (q ∷ []) n) → (s ≡ span_of q → p ≡ q) → Some p ≡ slice_get (q ∷ []) n
packet_alone p q zero s e f = ap Some (f (cc))
packet_alone p q (suc n) s e f = absurd (cc)

-- ---- packets of pieces

-- the span of the packet of a piece
spans_of : (packet : Piece → Packet) (found : Option Piece) → ((p : Piece) → span_of (packet p) ≡ span p.offset (length p.bytes))
    → option_map span_of (option_map packet found) ≡ option_map (λ (p : Piece). span p.offset (length p.bytes)) found
spans_of packet None e = refl
spans_of packet (Some p) e = rw (e p) refl

-- the span of a piece that may be there
span_then : (b : Bool) (size place : ℕ) (bytes : List ℕ)
    → option_map (λ (p : Piece). span p.offset (length p.bytes)) (then_some b (record { offset = place; bytes = take size (drop place bytes) }))
    ≡ then_some b (span place (min size (length bytes - place)))
span_then false size place bytes = refl
span_then true size place bytes = rw (length-take size (drop place bytes), length-drop place bytes) refl

-- the span of the packet of that number
span_mapped : (packet : Piece → Packet) (size n : ℕ) (bytes : List ℕ) → 0 < size → ((p : Piece) → span_of (packet p) ≡ span p.offset (length p.bytes))
    → then_some (n == 0 || nat_lt (n * size) (length bytes)) (span (n * size) (min size (length bytes - n * size))) ≡ option_map span_of (slice_get (map packet (pieces size bytes)) n)
span_mapped packet size n bytes h e =
    rw (slice_get-map packet (pieces size bytes) n, spans_of packet (slice_get (pieces size bytes) n) e, nth_piece size n bytes h)
    (sym (span_then (n == 0 || nat_lt (n * size) (length bytes)) size (n * size) bytes))

-- ---- spans by kind

-- a whole message
pub eager_span : (limits : EpLimits) (m : Message) (n : ℕ) → then_some (n == 0) (span 0 (length m.bytes)) ≡ option_map span_of (slice_get (openings limits m Eager) n)
unfolding openings span_of span_at piece_of
eager_span limits m n = sym (span_alone (rtm m (F.Eager m.bytes)) n)

-- a segment
pub medium_span : (limits : EpLimits) (m : Message) (n room : ℕ) → 0 < room → room ≡ room_beside limits m 24
    → then_some (n == 0 || nat_lt (n * room) (length m.bytes)) (span (n * room) (min room (length m.bytes - n * room))) ≡ option_map span_of (slice_get (openings limits m Medium) n)
unfolding openings span_of span_at piece_of
medium_span limits m n room h r =
    rw (medium_room limits m, ← r) (span_mapped (λ p. rtm m (medium_form m p)) room n m.bytes h (λ p. refl))

-- a first part that asks for grants
pub long_cts_span : (limits : EpLimits) (m : Message) (n room : ℕ) → room ≡ room_beside limits m 24
    → then_some (n == 0) (span 0 (min (length m.bytes) room)) ≡ option_map span_of (slice_get (openings limits m LongCts) n)
unfolding openings span_of span_at piece_of
long_cts_span limits m n room r =
    let l : length (take (room_in limits (rtm m (long_cts_form limits m []))) m.bytes) ≡ min (length m.bytes) room =
    length-take _ m.bytes ∙ rw (long_cts_room limits m, ← r) (omega arith) in
    sym (span_alone (rtm m (long_cts_form limits m (take (room_in limits (rtm m (long_cts_form limits m []))) m.bytes))) n ∙ rw l refl)

-- a read list
pub long_read_span : (limits : EpLimits) (m : Message) (n : ℕ) → then_some (n == 0) (span 0 0) ≡ option_map span_of (slice_get (openings limits m LongRead) n)
unfolding openings span_of span_at piece_of
long_read_span limits m n = sym (span_alone (read_rtm m (F.LongRead (length m.bytes) m.send m.iov)) n)

-- a segment of the first part ahead of a read
pub runt_span : (limits : EpLimits) (m : Message) (runt n room : ℕ) → 0 < room → room ≡ room_beside limits m (40 + 24 * length m.iov)
    → then_some (n == 0 || nat_lt (n * room) (min (length m.bytes) runt)) (span (n * room) (min room (min (length m.bytes) runt - n * room)))
    ≡ option_map span_of (slice_get (openings limits m (Runt runt)) n)
unfolding openings span_of span_at piece_of
runt_span limits m runt n room h r =
    let l : length (take runt m.bytes) ≡ min (length m.bytes) runt = length-take runt m.bytes ∙ omega arith in
    rw (runt_room limits m runt, ← r, ← l) (span_mapped (λ p. read_rtm m (runt_form m runt p)) room n (take runt m.bytes) h (λ p. refl))

-- ---- packets by kind

-- the packet of a piece, where the piece is the part that the span says
pub found_packet : (packet : Piece → Packet) (found : Option Piece) (s : Span) (piece whole : List ℕ) → ((p : Piece) → span_of (packet p) ≡ span p.offset (length p.bytes))
    → ((p : Piece) → found ≡ Some p → p.bytes ≡ range whole p.offset (length p.bytes)) → Some s ≡ option_map span_of (option_map packet found) → piece ≡ part s whole
    → Some (packet (record { offset = s.offset; bytes = piece })) ≡ option_map packet found
found_packet packet None s piece whole f h e b = absurd (cc)
found_packet packet (Some p) s piece whole f h e b =
    let q : s ≡ span_of (packet p) = cc in
    let d : s ≡ span p.offset (length p.bytes) = q ∙ f p in
    let o : s.offset ≡ p.offset = ap (λ (x : Span). x.offset) d in
    let a : piece ≡ p.bytes = b ∙ ap (λ (x : Span). part x whole) d ∙ sym (h p refl) in
    rw (o, a) refl

-- the packet of that number
packet_mapped : (packet : Piece → Packet) (size n : ℕ) (first : List ℕ) (s : Span) (piece whole : List ℕ) → ((p : Piece) → span_of (packet p) ≡ span p.offset (length p.bytes))
    → ((p : Piece) → slice_get (pieces size first) n ≡ Some p → p.bytes ≡ range whole p.offset (length p.bytes))
    → Some s ≡ option_map span_of (slice_get (map packet (pieces size first)) n) → piece ≡ part s whole
    → Some (packet (record { offset = s.offset; bytes = piece })) ≡ slice_get (map packet (pieces size first)) n
packet_mapped packet size n first s piece whole f h e b =
    let m = slice_get-map packet (pieces size first) n in
    rw m (found_packet packet (slice_get (pieces size first) n) s piece whole f h (rw m at e) b)

-- a whole message
pub eager_packet : (limits : EpLimits) (m : Message) (n : ℕ) (s : Span) (piece : List ℕ) → Some s ≡ option_map span_of (slice_get (openings limits m Eager) n) → piece ≡ part s m.bytes
    → Some (rtm m (F.Eager piece)) ≡ slice_get (openings limits m Eager) n
unfolding openings span_of span_at piece_of
eager_packet limits m n s piece e b =
    packet_alone (rtm m (F.Eager piece)) (rtm m (F.Eager m.bytes)) n s e
    (λ d.
    let a : piece ≡ m.bytes = b ∙ ap (λ (x : Span). part x m.bytes) d ∙ take_all (0 + length m.bytes - 0) m.bytes (omega arith) in
    rw a refl)

-- a segment
pub medium_packet : (limits : EpLimits) (m : Message) (n : ℕ) (s : Span) (piece : List ℕ) → 256 ≤ limits.mtu
    → Some s ≡ option_map span_of (slice_get (openings limits m Medium) n) → piece ≡ part s m.bytes
    → Some (rtm m (F.Medium (length m.bytes) s.offset piece)) ≡ slice_get (openings limits m Medium) n
unfolding openings span_of span_at piece_of
medium_packet limits m n s piece h e b =
    let room : 0 < room_in limits (rtm m (medium_form m no_bytes)) = rw (medium_room limits m) (some_room limits m 24 h (omega arith)) in
    packet_mapped (λ p. rtm m (medium_form m p)) _ n m.bytes s piece m.bytes (λ p. refl) (λ p q. piece_carried _ n m.bytes p room q) e b

-- a first part that asks for grants
pub long_cts_packet : (limits : EpLimits) (m : Message) (n : ℕ) (s : Span) (piece : List ℕ) → Some s ≡ option_map span_of (slice_get (openings limits m LongCts) n) → piece ≡ part s m.bytes
    → Some (rtm m (F.LongCts (length m.bytes) m.send limits.credits piece)) ≡ slice_get (openings limits m LongCts) n
unfolding openings span_of span_at piece_of
long_cts_packet limits m n s piece e b =
    let room = room_in limits (rtm m (long_cts_form limits m [])) in
    packet_alone (rtm m (long_cts_form limits m piece)) (rtm m (long_cts_form limits m (take room m.bytes))) n s e
    (λ d.
    let a : piece ≡ take room m.bytes = b ∙ ap (λ (x : Span). part x m.bytes) d ∙ sym (front_range room 0 m.bytes) in
    rw a refl)

-- a read list
pub long_read_packet : (limits : EpLimits) (m : Message) (n : ℕ) (s : Span) → Some s ≡ option_map span_of (slice_get (openings limits m LongRead) n)
    → Some (read_rtm m (F.LongRead (length m.bytes) m.send m.iov)) ≡ slice_get (openings limits m LongRead) n
unfolding openings
long_read_packet limits m n s e =
    packet_alone (read_rtm m (F.LongRead (length m.bytes) m.send m.iov)) (read_rtm m (F.LongRead (length m.bytes) m.send m.iov)) n s e (λ d. refl)

-- a segment of the first part ahead of a read
pub runt_packet : (limits : EpLimits) (m : Message) (runt n : ℕ) (s : Span) (piece : List ℕ) → 256 ≤ limits.mtu → length m.iov ≤ 4
    → Some s ≡ option_map span_of (slice_get (openings limits m (Runt runt)) n) → piece ≡ part s m.bytes
    → Some (read_rtm m (F.Runt (length m.bytes) m.send m.iov runt s.offset piece)) ≡ slice_get (openings limits m (Runt runt)) n
unfolding openings span_of span_at piece_of
runt_packet limits m runt n s piece h i e b =
    let room : 0 < room_in limits (read_rtm m (runt_form m runt no_bytes)) = rw (runt_room limits m runt) (some_room limits m (40 + 24 * length m.iov) h (omega arith)) in
    packet_mapped (λ p. read_rtm m (runt_form m runt p)) _ n (take runt m.bytes) s piece m.bytes (λ p. refl)
    (λ p q. piece_carried _ n (take runt m.bytes) p room q ∙ range_of_first runt p.offset (length p.bytes) m.bytes (piece_within _ n (take runt m.bytes) p room q)) e b
