-- The packets that open a message: each tells its head, and their bytes stand in a row.
use Rattle.std.proofs.Common.{◌≡◌, ℕ, ◌<◌, List, [], ◌∷◌, ◌++◌, length, map, take, Some, refl, arith, inl, inr, sym, ◌∙◌, ap, subst}
use Rattle.std.proofs.lemmas.List.Elements.{filter_map-append}
use Rattle.std.proofs.lemmas.List.{length-map}
use Rattle.rdm_lists.specs.Lists.{Member}
use Rattle.rdm_num.specs.Pieces.{Piece, piece_bytes, pieces}
use Rattle.rdm_num.specs.declared.limits.EpLimits.{EpLimits}
use Rattle.rdm_pkt.specs.declared.Packet.{Packet}
use Rattle.rdm_pkt.specs.declared.Packet.TheVariants.{Rtm}
use Rattle.rdm_pkt.specs.declared.Form.{Form}
use Rattle.rdm_pkt.specs.declared.Form.TheVariants as F
use Rattle.rdm_pkt.specs.declared.Kind.{Kind}
use Rattle.rdm_pkt.specs.declared.Kind.TheVariants.{Eager, Medium, LongCts, LongRead, Runt}
use Rattle.rdm_pkt.specs.Heads.{shape_of, size_of, head_of, piece_of}
use Rattle.rdm_pkt.specs.Openings.{Message, medium_form, runt_form, long_cts_form, no_bytes, read_rtm, says_confirm, rtm, room_in, openings, shape_by, message_head}
use Rattle.rdm_model.specs.Dues.{packet_piece, pieces_in}
use Rattle.rdm_model.proofs.Cuts.{InRow, rest_part, front_part, pieces_in_row, pieces_bytes, pieces_some, row_of_front}
use Rattle.rdm_lists.proofs.Members.{member-map}

-- the pieces of packets in a row
pub pieces_in-append : (ps qs : List Packet) → pieces_in (ps ++ qs) ≡ pieces_in ps ++ pieces_in qs
unfolding pieces_in
pieces_in-append ps qs = filter_map-append packet_piece ps qs

-- the piece of one packet
pub pieces_in_one : (p : Packet) (x : Piece) → packet_piece p ≡ Some x → pieces_in (p ∷ []) ≡ x ∷ []
unfolding pieces_in
pieces_in_one p x h = rw h refl

-- the packet opens the message, and tells its head
pub record Opening (limits : EpLimits) (m : Message) (kind : Kind) (p : Packet) : Type 0 where
  pub form : Form
  pub is : p ≡ Rtm m.no m.tag (says_confirm kind m.confirm) m.opt form
  pub head_is : head_of m.tag (says_confirm kind m.confirm) m.opt form ≡ message_head limits m kind

-- segments, each with its piece
segments_open : (limits : EpLimits) (m : Message) (p : Packet) (ps : List Piece) → Member p (map (λ (x : Piece). rtm m (medium_form m x)) ps) → Opening limits m Medium p
unfolding head_of size_of shape_of message_head shape_by
segments_open limits m p ps h =
    let r = member-map (λ (x : Piece). rtm m (medium_form m x)) p ps h in
    record { form = medium_form m r.0; is = sym r.2; head_is = refl }

-- so do the segments of a first part
runts_open : (limits : EpLimits) (m : Message) (runt : ℕ) (p : Packet) (ps : List Piece) → Member p (map (λ (x : Piece). read_rtm m (runt_form m runt x)) ps) → Opening limits m (Runt runt) p
unfolding head_of size_of shape_of message_head shape_by
runts_open limits m runt p ps h =
    let r = member-map (λ (x : Piece). read_rtm m (runt_form m runt x)) p ps h in
    record { form = runt_form m runt r.0; is = sym r.2; head_is = refl }

-- a single packet that tells the head opens its message
single_open : (limits : EpLimits) (m : Message) (kind : Kind) (form : Form) (p : Packet) → head_of m.tag (says_confirm kind m.confirm) m.opt form ≡ message_head limits m kind → Member p (Rtm m.no m.tag (says_confirm kind m.confirm) m.opt form ∷ []) → Opening limits m kind p
single_open limits m kind form p e (inl a) = record { form = form; is = sym a; head_is = e }
single_open limits m kind form p e (inr a) = elim a [ ]

-- each packet that a send owes from the start opens its message
pub opening_is : (limits : EpLimits) (m : Message) (kind : Kind) (p : Packet) → Member p (openings limits m kind) → Opening limits m kind p
unfolding openings head_of size_of shape_of message_head shape_by
opening_is limits m Eager p h = single_open limits m Eager (F.Eager m.bytes) p refl h
opening_is limits m Medium p h = segments_open limits m p (pieces (room_in limits (rtm m (medium_form m no_bytes))) m.bytes) h
opening_is limits m LongCts p h = single_open limits m LongCts (long_cts_form limits m (take (room_in limits (rtm m (long_cts_form limits m []))) m.bytes)) p refl h
opening_is limits m LongRead p h = single_open limits m LongRead (F.LongRead (length m.bytes) m.send m.iov) p refl h
opening_is limits m (Runt runt) p h = runts_open limits m runt p (pieces (room_in limits (read_rtm m (runt_form m runt no_bytes))) (take runt m.bytes)) h

-- segments have the pieces that they were made of
segment_pieces : (m : Message) (ps : List Piece) → pieces_in (map (λ (x : Piece). rtm m (medium_form m x)) ps) ≡ ps
unfolding pieces_in packet_piece piece_of
segment_pieces m [] = refl
segment_pieces m (p ∷ ps) = ap (λ (xs : List Piece). p ∷ xs) (segment_pieces m ps)

-- and so do segments of a first part
runt_pieces : (m : Message) (runt : ℕ) (ps : List Piece) → pieces_in (map (λ (x : Piece). read_rtm m (runt_form m runt x)) ps) ≡ ps
unfolding pieces_in packet_piece piece_of
runt_pieces m runt [] = refl
runt_pieces m runt (p ∷ ps) = ap (λ (xs : List Piece). p ∷ xs) (runt_pieces m runt ps)

-- the bytes of the openings stand in a row from the start of the message
pub openings_in_row : (limits : EpLimits) (m : Message) (kind : Kind) → InRow m.bytes 0 (pieces_in (openings limits m kind))
unfolding openings pieces_in packet_piece piece_of
openings_in_row limits m Eager = (refl, rest_part m.bytes m.bytes 0 refl, tt)
openings_in_row limits m Medium =
    let size : ℕ = room_in limits (rtm m (medium_form m no_bytes)) in
    subst (λ (xs : List Piece). InRow m.bytes 0 xs) (sym (segment_pieces m (pieces size m.bytes))) (pieces_in_row size m.bytes)
openings_in_row limits m LongCts =
    let size : ℕ = room_in limits (rtm m (long_cts_form limits m [])) in
    (refl, front_part m.bytes (take size m.bytes) size 0 refl, tt)
openings_in_row limits m LongRead = tt
openings_in_row limits m (Runt runt) =
    let size : ℕ = room_in limits (read_rtm m (runt_form m runt no_bytes)) in
    subst (λ (xs : List Piece). InRow m.bytes 0 xs) (sym (runt_pieces m runt (pieces size (take runt m.bytes))))
    (row_of_front runt m.bytes 0 (pieces size (take runt m.bytes)) (pieces_in_row size (take runt m.bytes)))

-- how many bytes the openings have together
unfoldable pub opened_bytes : EpLimits → Message → Kind → ℕ
opened_bytes limits m Eager = length m.bytes
opened_bytes limits m Medium = length m.bytes
opened_bytes limits m LongCts = length (take (room_in limits (rtm m (long_cts_form limits m []))) m.bytes)
opened_bytes limits m LongRead = 0
opened_bytes limits m (Runt runt) = length (take runt m.bytes)

-- the openings of a message have so many bytes
pub openings_bytes : (limits : EpLimits) (m : Message) (kind : Kind) → piece_bytes (pieces_in (openings limits m kind)) ≡ opened_bytes limits m kind
unfolding openings pieces_in packet_piece piece_of piece_bytes opened_bytes
openings_bytes limits m Eager = omega arith
openings_bytes limits m Medium =
    let size : ℕ = room_in limits (rtm m (medium_form m no_bytes)) in
    ap piece_bytes (segment_pieces m (pieces size m.bytes)) ∙ pieces_bytes size m.bytes
openings_bytes limits m LongCts = omega arith
openings_bytes limits m LongRead = refl
openings_bytes limits m (Runt runt) =
    let size : ℕ = room_in limits (read_rtm m (runt_form m runt no_bytes)) in
    ap piece_bytes (runt_pieces m runt (pieces size (take runt m.bytes))) ∙ pieces_bytes size (take runt m.bytes)

-- there is an opening
pub some_opening : (limits : EpLimits) (m : Message) (kind : Kind) → 0 < length (openings limits m kind)
unfolding openings
some_opening limits m Eager = omega arith
some_opening limits m Medium =
    let size : ℕ = room_in limits (rtm m (medium_form m no_bytes)) in
    let l = length-map (pieces size m.bytes) (λ (x : Piece). rtm m (medium_form m x)) in
    let k = pieces_some size m.bytes in
    omega arith
some_opening limits m LongCts = omega arith
some_opening limits m LongRead = omega arith
some_opening limits m (Runt runt) =
    let size : ℕ = room_in limits (read_rtm m (runt_form m runt no_bytes)) in
    let l = length-map (pieces size (take runt m.bytes)) (λ (x : Piece). read_rtm m (runt_form m runt x)) in
    let k = pieces_some size (take runt m.bytes) in
    omega arith
