-- What a packet that is pushed makes of its send.
use Rattle.std.proofs.Common.{◌≡◌, ℕ, zero, suc, ◌+◌, ◌-◌, ◌<◌, ◌≤◌, min, max, Bool, true, false, cond, not, ◌&&◌, List, [], ◌∷◌, ◌++◌, map, length, take, drop, refl, arith, inl, inr, sym, ◌∙◌, ap, ap₂, subst, length-take, length-take-le, length-drop}
use Rattle.std.specs.Prelude.{◌==◌, nat_le, get_or}
use Rattle.std.specs.List.{list_any}
use Rattle.std.proofs.lemmas.Bool.{and_parts, and_from, eqb-true, eq-eqb, leb-true, leb-false, le-leb, or_parts, false_from_ne_true}
use Rattle.std.proofs.lemmas.List.{append-nil, length-append}
use Rattle.rdm_lists.specs.Lists.{Member}
use Rattle.rdm_lists.proofs.Members.{member-append_right, member-map}
use Rattle.rdm_num.specs.Pieces.{Piece, piece_bytes, cut, pieces}
use Rattle.rdm_pkt.specs.declared.Packet.{Packet}
use Rattle.rdm_pkt.specs.declared.Kind.{Kind}
use Rattle.rdm_pkt.specs.declared.Kind.TheVariants.{Eager, Medium, LongCts, LongRead, Runt}
use Rattle.rdm_pkt.specs.Heads.{piece_of}
use Rattle.rdm_pkt.specs.Openings.{Message, rtm, medium_form, no_bytes, room_in, openings}
use Rattle.rdm_num.specs.declared.limits.EpLimits.{EpLimits}
use Rattle.rdm_wire.specs.declared.ReadAsk.{ReadAsk}
use Rattle.rdm_model.specs.Beginnings.{Own}
use Rattle.rdm_model.specs.Currents.{is_forgotten, forgotten_by}
use Rattle.rdm_model.specs.Deeds.{Deed, Pushed}
use Rattle.rdm_model.specs.Dues.{packet_piece, pieces_in, is_read, is_pushed, is_complete, is_over, ends_send, confirms}
use Rattle.rdm_model.specs.Grants.{Grant, grant_bytes, data_room}
use Rattle.rdm_model.specs.Sends.{Sent}
use Rattle.rdm_model.proofs.Cuts.{InRow, row_within, single_bytes}
use Rattle.rdm_model.proofs.Dues.{Underway, NextOf, granted_piece}
use Rattle.rdm_model.proofs.Opens.{pieces_in-append, pieces_in_one}
use Rattle.rdm_model.proofs.Rows.{row_covers, row_covered}
use Rattle.rdm_life.specs.Sending.{opening_bytes, is_sent, pushed, ends_by_push}
use Rattle.rdm_life.proofs.GoesSends.{AllOpened, all_opened, bytes_split}
use Rattle.rdm_life.proofs.SendWords.{kept_by}
use Rattle.rdm_life.proofs.Tests.{same_test}

-- the first cuts have fewer bytes than all, where another one follows
cut_front : (fuel size offset : ℕ) (bytes : List ℕ) (ps : List Piece) (q : Piece) (qs : List Piece) → cut fuel size offset bytes ≡ ps ++ q ∷ qs → 0 < length bytes → piece_bytes ps < length bytes
unfolding cut piece_bytes
cut_front zero size offset bytes [] q qs e lt = lt
cut_front zero size offset bytes (p ∷ ps) q qs e lt = let l = ap length e in let k = length-append ps (q ∷ qs) in absurd (omega arith)
cut_front (suc fuel) size offset bytes [] q qs e lt = lt
cut_front (suc fuel) size offset bytes (p ∷ ps) q qs e lt =
    let first : Piece = record { offset = offset; bytes = take size bytes } in
    (elim (nat_le (length bytes) size) as (λ t. nat_le (length bytes) size ≡ t
    → cond t (record { offset = offset; bytes = bytes } ∷ []) (first ∷ cut fuel size (offset + size) (drop size bytes)) ≡ p ∷ ps ++ q ∷ qs → length p.bytes + piece_bytes ps < length bytes) [
      | true ↦ λ is k. (let l = ap length k in let n = length-append ps (q ∷ qs) in absurd (omega arith))
      | false ↦ λ is k.
          let more = leb-false (length bytes) size is in
          let head : first ≡ p = ap (λ (xs : List Piece). get_or xs 0 p) k in
          let tail : cut fuel size (offset + size) (drop size bytes) ≡ ps ++ q ∷ qs = ap (λ (xs : List Piece). drop 1 xs) k in
          let l : length p.bytes ≡ size = ap (λ (x : Piece). length x.bytes) (sym head) ∙ length-take-le size bytes (omega arith) in
          let d = length-drop size bytes in
          let rest = cut_front fuel size (offset + size) (drop size bytes) ps q qs tail (omega arith) in
          omega arith
    ]) refl e

-- so have the first pieces
pieces_front : (size : ℕ) (bytes : List ℕ) (ps : List Piece) (q : Piece) (qs : List Piece) → pieces size bytes ≡ ps ++ q ∷ qs → 0 < length ps → piece_bytes ps < length bytes
unfolding pieces cut
pieces_front size [] ps q qs e some = let l = ap length e in let k = length-append ps (q ∷ qs) in absurd (omega arith)
pieces_front size (b ∷ bs) ps q qs e some = cut_front (length (b ∷ bs)) size 0 (b ∷ bs) ps q qs e (omega arith)

-- a segment of a piece
abbrev segment : Message → Piece → Packet
segment m x = rtm m (medium_form m x)

-- segments have the pieces that they were made of
segment_pieces : (m : Message) (ps : List Piece) → pieces_in (map (segment m) ps) ≡ ps
unfolding pieces_in packet_piece piece_of
segment_pieces m [] = refl
segment_pieces m (p ∷ ps) = ap (λ (xs : List Piece). p ∷ xs) (segment_pieces m ps)

-- a segment has one
segment_piece : (m : Message) (x : Piece) (rest : List Packet) → pieces_in (segment m x ∷ rest) ≡ x ∷ pieces_in rest
unfolding pieces_in packet_piece piece_of
segment_piece m x rest = refl

-- each of the segments has one
one_piece : (m : Message) (ps : List Piece) (q : Packet) (rest : List Packet) → Member q (map (segment m) ps) → (x : Piece) × (pieces_in (q ∷ rest) ≡ x ∷ pieces_in rest)
one_piece m ps q rest h =
    let r = member-map (segment m) q ps h in
    (r.0, ap (λ (y : Packet). pieces_in (y ∷ rest)) (sym r.2) ∙ segment_piece m r.0 rest)

-- the first segments have fewer bytes than the message, where another one follows
segments_front : (m : Message) (ps : List Piece) (size : ℕ) (qs later : List Packet) (q : Packet) → ps ≡ pieces size m.bytes → map (segment m) ps ≡ qs ++ q ∷ later → 0 < length qs
    → piece_bytes (pieces_in qs) < length m.bytes
segments_front m ps size [] later q is e some = absurd (omega arith)
segments_front m ps size (x ∷ qs) later q is e some =
    let all : List Packet = (x ∷ qs) ++ q ∷ later in
    let mx : Member x (map (segment m) ps) = subst (λ (xs : List Packet). Member x xs) (sym e) (inl refl) in
    let mq : Member q (map (segment m) ps) = subst (λ (xs : List Packet). Member q xs) (sym e) (member-append_right q (x ∷ qs) (q ∷ later) (inl refl)) in
    let one = one_piece m ps x qs mx in
    let next = one_piece m ps q later mq in
    let split : pieces size m.bytes ≡ pieces_in (x ∷ qs) ++ next.0 ∷ pieces_in later =
    sym is ∙ sym (segment_pieces m ps) ∙ ap pieces_in e ∙ pieces_in-append (x ∷ qs) (q ∷ later) ∙ ap (λ (xs : List Piece). pieces_in (x ∷ qs) ++ xs) next.1 in
    let l = ap length one.1 in
    pieces_front size m.bytes (pieces_in (x ∷ qs)) next.0 (pieces_in later) split (omega arith)

-- the first openings of a message that is not read have fewer bytes than it, where another one follows
openings_front : (limits : EpLimits) (m : Message) (kind : Kind) (qs later : List Packet) (q : Packet) → is_read kind ≡ false → openings limits m kind ≡ qs ++ q ∷ later → 0 < length qs
    → piece_bytes (pieces_in qs) < length m.bytes
unfolding openings is_read
openings_front limits m Eager qs later q r e some = let l = ap length e in let k = length-append qs (q ∷ later) in absurd (omega arith)
openings_front limits m Medium qs later q r e some =
    let size = room_in limits (rtm m (medium_form m no_bytes)) in
    segments_front m (pieces size m.bytes) size qs later q refl e some
openings_front limits m LongCts qs later q r e some = let l = ap length e in let k = length-append qs (q ∷ later) in absurd (omega arith)
openings_front limits m LongRead qs later q r e some = cc
openings_front limits m (Runt runt) qs later q r e some = cc

-- a pushed message was pushed to its end
pushed_row : (s : Sent) (ps : List Packet) → InRow s.message.bytes 0 (pieces_in ps) → is_pushed s ps ≡ true → length s.message.bytes ≤ piece_bytes (pieces_in ps)
unfolding is_pushed
pushed_row s [] r h = cc
pushed_row s (p ∷ ps) r h = row_covered s.message.bytes (pieces_in (p ∷ ps)) (length s.message.bytes) r h

-- what was pushed to its end is pushed
pushed_from : (s : Sent) (ps : List Packet) → InRow s.message.bytes 0 (pieces_in ps) → 0 < length ps → length s.message.bytes ≤ piece_bytes (pieces_in ps) → is_pushed s ps ≡ true
unfolding is_pushed
pushed_from s [] r some h = absurd (omega arith)
pushed_from s (p ∷ ps) r some h = row_covers s.message.bytes (pieces_in (p ∷ ps)) (length s.message.bytes) r h

-- once all was opened, the whole message was pushed where its bytes were
sent_opened : (own : Own) (s : Sent) (qs : List Packet) (gs : List Grant) (asks : List ReadAsk) (owes : ℕ) → Underway own s qs → 0 < length qs → AllOpened own s qs
    → is_sent own (kept_by own s qs gs asks owes) ≡ is_pushed s qs
sent_opened own s qs gs asks owes u some all =
    let ops = openings own.limits s.message s.kind in
    let pb = piece_bytes (pieces_in qs) in
    let n = length s.message.bytes in
    let longer = all.longer in
    let bytes = all.bytes in
    same_test (nat_le (length ops) (min (length qs) (length ops)) && max (opening_bytes own s) pb == n) (is_pushed s qs)
    (λ h.
    let e = eqb-true (max (opening_bytes own s) pb) n (and_parts (nat_le (length ops) (min (length qs) (length ops))) (max (opening_bytes own s) pb == n) h).1 in
    pushed_from s qs u.row some (omega arith))
    (λ h.
    let w = pushed_row s qs u.row h in
    let r = row_within s.message.bytes 0 (pieces_in qs) u.row (omega arith) in
    and_from (nat_le (length ops) (min (length qs) (length ops))) (max (opening_bytes own s) pb == n) (le-leb (length ops) (min (length qs) (length ops)) (omega arith))
    (eq-eqb (max (opening_bytes own s) pb) n (omega arith)))

-- where an opening is left, it was not
sent_opening : (own : Own) (s : Sent) (qs later : List Packet) (q : Packet) (gs : List Grant) (asks : List ReadAsk) (owes : ℕ) → is_read s.kind ≡ false → Underway own s qs → 0 < length qs
    → openings own.limits s.message s.kind ≡ qs ++ q ∷ later → is_sent own (kept_by own s qs gs asks owes) ≡ is_pushed s qs
sent_opening own s qs later q gs asks owes r u some e =
    let ops = openings own.limits s.message s.kind in
    let l = ap length e in
    let k = length-append qs (q ∷ later) in
    let less = openings_front own.limits s.message s.kind qs later q r e some in
    let pb = piece_bytes (pieces_in qs) in
    let n = length s.message.bytes in
    false_from_ne_true (nat_le (length ops) (min (length qs) (length ops)) && max (opening_bytes own s) pb == n)
    (λ h.
    let x = leb-true (length ops) (min (length qs) (length ops)) (and_parts (nat_le (length ops) (min (length qs) (length ops))) (max (opening_bytes own s) pb == n) h).0 in
    absurd (omega arith))
    ∙ sym (false_from_ne_true (is_pushed s qs) (λ h. let w = pushed_row s qs u.row h in absurd (omega arith)))

-- by the openings that are left
sent_some : (own : Own) (s : Sent) (qs later : List Packet) (gs : List Grant) (asks : List ReadAsk) (owes : ℕ) → is_read s.kind ≡ false → Underway own s qs → 0 < length qs
    → openings own.limits s.message s.kind ≡ qs ++ later → is_sent own (kept_by own s qs gs asks owes) ≡ is_pushed s qs
sent_some own s qs [] gs asks owes r u some e =
    sent_opened own s qs gs asks owes u some (all_opened own s qs [] (sym (append-nil qs) ∙ sym e ∙ sym (append-nil (openings own.limits s.message s.kind))))
sent_some own s qs (q ∷ later) gs asks owes r u some e = sent_opening own s qs later q gs asks owes r u some e

-- the whole message of a send that is not read was pushed where the definitions say so
sent_is : (own : Own) (s : Sent) (qs : List Packet) (gs : List Grant) (asks : List ReadAsk) (owes : ℕ) → is_read s.kind ≡ false → Underway own s qs → 0 < length qs
    → is_sent own (kept_by own s qs gs asks owes) ≡ is_pushed s qs
sent_is own s qs gs asks owes r u some =
    elim u.how [
      | inl a ↦ sent_some own s qs a.0 gs asks owes r u some a.1
      | inr a ↦ sent_opened own s qs gs asks owes u some (all_opened own s qs a.0 a.1)
    ]

-- by tests of ends, receipts and what was pushed
push_bools : (r c ended confirmed was now : Bool) → cond r ended (cond c confirmed was) ≡ false → cond r ended (cond c confirmed now) ≡ (not r && not c && now)
push_bools true c ended confirmed was now h = h
push_bools false true ended confirmed was now h = h
push_bools false false ended confirmed was now h = refl

-- a send that was not over is over by a push once the whole message was pushed, where neither its receiver ends it nor a receipt
pub over_push : (log : List Deed) (ps qs : List Packet) (s : Sent) → is_over log ps s ≡ false
    → is_over (Pushed ∷ log) qs s ≡ (not (is_read s.kind) && not s.message.confirm && is_pushed s qs)
unfolding is_over is_forgotten is_complete forgotten_by ends_send confirms
over_push log ps qs s h =
    let was = or_parts (is_forgotten log s.to) (is_complete log ps s) h in
    let f = was.0 in
    rw f (push_bools (is_read s.kind) s.message.confirm (list_any (ends_send s.to s.number) log) (list_any (confirms s.to s.message.no.0) log) (is_pushed s ps) (is_pushed s qs) was.1)

-- where the tests are the same of a send that is not read
unread_same : (r c a b : Bool) → (r ≡ false → a ≡ b) → (not r && not c && a) ≡ (not r && not c && b)
unread_same true c a b h = refl
unread_same false c a b h = ap (λ (x : Bool). not c && x) (h refl)

-- so it is in the record
pub ends_is : (own : Own) (log : List Deed) (s : Sent) (ps qs : List Packet) (gs : List Grant) (asks : List ReadAsk) (owes : ℕ) → Underway own s qs → 0 < length qs → is_over log ps s ≡ false
    → ends_by_push own (kept_by own s qs gs asks owes) ≡ is_over (Pushed ∷ log) qs s
ends_is own log s ps qs gs asks owes u some live =
    unread_same (is_read s.kind) s.message.confirm (is_sent own (kept_by own s qs gs asks owes)) (is_pushed s qs) (λ r. sent_is own s qs gs asks owes r u some)
    ∙ sym (over_push log ps qs s live)

-- an opening was pushed
pushed_opening : (own : Own) (s : Sent) (ps later : List Packet) (p : Packet) (gs : List Grant) (asks : List ReadAsk) (owes : ℕ) → openings own.limits s.message s.kind ≡ ps ++ p ∷ later
    → pushed own (kept_by own s ps gs asks owes) ≡ kept_by own s (ps ++ p ∷ []) gs asks owes
unfolding pushed
pushed_opening own s ps later p gs asks owes e =
    let ops = openings own.limits s.message s.kind in
    let k = kept_by own s ps gs asks owes in
    let l = ap length e in
    let n = length-append ps (p ∷ later) in
    let n1 = length-append ps (p ∷ []) in
    let b0 = ap (λ (xs : List Packet). piece_bytes (pieces_in xs)) e ∙ bytes_split ps (p ∷ later) in
    let b1 = bytes_split (p ∷ []) later in
    let b2 = bytes_split ps (p ∷ []) in
    let closed : nat_le (length ops) (min (length ps) (length ops)) ≡ false =
    false_from_ne_true (nat_le (length ops) (min (length ps) (length ops))) (λ h. let x = leb-true (length ops) (min (length ps) (length ops)) h in absurd (omega arith)) in
    let a : min (length ps) (length ops) + 1 ≡ min (length (ps ++ p ∷ [])) (length ops) = omega arith in
    let c : max (opening_bytes own s) (piece_bytes (pieces_in ps)) ≡ max (opening_bytes own s) (piece_bytes (pieces_in (ps ++ p ∷ []))) = omega arith in
    ap (λ (t : Bool). cond t (record k { done = k.done + min (k.allowed - k.done) (data_room own.limits) }) (record k { opened = k.opened + 1 })) closed
    ∙ ap₂ (λ (x y : ℕ). record k { opened = x; done = y }) a c

-- granted bytes were pushed
pushed_granted : (own : Own) (s : Sent) (ps : List Packet) (p : Packet) (gs : List Grant) (asks : List ReadAsk) (owes size : ℕ) → AllOpened own s ps
    → piece_bytes (pieces_in (p ∷ [])) ≡ size → size ≡ min (opening_bytes own s + grant_bytes gs - piece_bytes (pieces_in ps)) (data_room own.limits)
    → pushed own (kept_by own s ps gs asks owes) ≡ kept_by own s (ps ++ p ∷ []) gs asks owes
unfolding pushed
pushed_granted own s ps p gs asks owes size all e f =
    let ops = openings own.limits s.message s.kind in
    let k = kept_by own s ps gs asks owes in
    let longer = all.longer in
    let bytes = all.bytes in
    let n1 = length-append ps (p ∷ []) in
    let b2 = bytes_split ps (p ∷ []) in
    let same : max (opening_bytes own s) (piece_bytes (pieces_in ps)) ≡ piece_bytes (pieces_in ps) = omega arith in
    let given : min (opening_bytes own s + grant_bytes gs - max (opening_bytes own s) (piece_bytes (pieces_in ps))) (data_room own.limits) ≡ size =
    ap (λ (x : ℕ). min (opening_bytes own s + grant_bytes gs - x) (data_room own.limits)) same ∙ sym f in
    let a : min (length ps) (length ops) ≡ min (length (ps ++ p ∷ [])) (length ops) = omega arith in
    let c : max (opening_bytes own s) (piece_bytes (pieces_in ps)) + min (opening_bytes own s + grant_bytes gs - max (opening_bytes own s) (piece_bytes (pieces_in ps))) (data_room own.limits)
    ≡ max (opening_bytes own s) (piece_bytes (pieces_in (ps ++ p ∷ []))) = ap (λ (x : ℕ). max (opening_bytes own s) (piece_bytes (pieces_in ps)) + x) given ∙ omega arith in
    ap (λ (t : Bool). cond t (record k { done = k.done + min (k.allowed - k.done) (data_room own.limits) }) (record k { opened = k.opened + 1 }))
    (le-leb (length ops) (min (length ps) (length ops)) (omega arith))
    ∙ ap₂ (λ (x y : ℕ). record k { opened = x; done = y }) a c

-- a send with its next packet pushed
pub pushed_is : (own : Own) (s : Sent) (ps : List Packet) (p : Packet) (gs : List Grant) (asks : List ReadAsk) (owes : ℕ) → NextOf own gs s ps p
    → opening_bytes own s + grant_bytes gs ≤ length s.message.bytes → pushed own (kept_by own s ps gs asks owes) ≡ kept_by own s (ps ++ p ∷ []) gs asks owes
pushed_is own s ps p gs asks owes (inl a) fits = pushed_opening own s ps a.0 p gs asks owes a.1
pushed_is own s ps p gs asks owes (inr a) fits =
    let g = a.3 in
    let done = piece_bytes (pieces_in ps) in
    let most = min (opening_bytes own s + grant_bytes gs - done) (data_room own.limits) in
    let x : Piece = record { offset = done; bytes = g.bytes } in
    let piece = granted_piece own gs s ps p g in
    let one : piece_bytes (pieces_in (p ∷ [])) ≡ length g.bytes = ap piece_bytes (pieces_in_one p x piece.0) ∙ single_bytes x in
    let t = length-take most (drop done s.message.bytes) in
    let d = length-drop done s.message.bytes in
    let l : length g.bytes ≡ length (take most (drop done s.message.bytes)) = ap length g.bytes_are in
    pushed_granted own s ps p gs asks owes (length g.bytes) (all_opened own s ps a.0 a.1) one (omega arith)
