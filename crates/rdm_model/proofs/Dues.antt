-- What a due item is: a reply, or the next packet of a live send, which is its next opening or the next of its granted bytes.
use Rattle.std.proofs.Common.{◌≡◌, ℕ, ◌+◌, ◌-◌, ◌<◌, min, true, false, cond, List, [], ◌∷◌, ◌++◌, length, take, drop, Option, Some, None, refl, arith, ◌⊎◌, inl, inr, sym, ◌∙◌, ap, subst, append_assoc}
use Rattle.std.specs.Prelude.{slice_get, nat_lt}
use Rattle.std.proofs.lemmas.Bool.{ltb-true}
use Rattle.std.proofs.lemmas.List.{append-nil}
use Rattle.rdm_lists.specs.Lists.{Member, or_else}
use Rattle.rdm_num.specs.Lives.{op_id}
use Rattle.rdm_num.specs.Pieces.{Piece, piece_bytes}
use Rattle.rdm_pkt.specs.declared.Packet.{Packet}
use Rattle.rdm_pkt.specs.declared.Packet.TheVariants.{Rtm, Cts, CtsData, Eor, Handshake, Receipt}
use Rattle.rdm_pkt.specs.declared.Kind.{Kind}
use Rattle.rdm_pkt.specs.declared.Kind.TheVariants.{Eager, Medium, LongCts, LongRead, Runt}
use Rattle.rdm_pkt.specs.Openings.{openings}
use Rattle.rdm_model.specs.Deeds.{Deed}
use Rattle.rdm_model.specs.Beginnings.{Own, Messages}
use Rattle.rdm_model.specs.Sends.{Sent, sends}
use Rattle.rdm_model.specs.Grants.{Grant, grants, grant_bytes, data_room}
use Rattle.rdm_model.specs.Replies.{Reply}
use Rattle.rdm_model.specs.Dues.{Progress, Due, Replies, Sends, packet_piece, pieces_in, data_packet, granted_packet, next_packet, is_over, send_due, next_send, reply_due, next_due, progress, due}
use Rattle.rdm_model.proofs.Cuts.{Part, InRow, row_parts, row_append, front_part}
use Rattle.rdm_model.proofs.Opens.{pieces_in-append, pieces_in_one, openings_in_row}

-- a packet that is next of a live send
pub record SendDue (own : Own) (log : List Deed) (packets : ℕ → List Packet) (sents : List Sent) (t : Due) : Type 0 where
  pub sent : Sent
  pub member : Member sent sents
  pub packet : Packet
  pub is : t ≡ Sends sent packet
  pub live : is_over log (packets sent.number) sent ≡ false
  pub next : next_packet own log sent (packets sent.number) ≡ Some packet

-- the due item is of this send or of the others
send_due_cases : (s : Sent) (o : Option Packet) (others : Option Due) (t : Due) → send_due s o others ≡ Some t
    → ((p : Packet) × (o ≡ Some p) × (t ≡ Sends s p)) ⊎ (others ≡ Some t)
unfolding send_due
send_due_cases s None others t h = inr h
send_due_cases s (Some p) others t h = inl (p, refl, cc)

-- a due item of the other sends is one of all
later_send : (own : Own) (log : List Deed) (packets : ℕ → List Packet) (s : Sent) (ss : List Sent) (t : Due) → SendDue own log packets ss t → SendDue own log packets (s ∷ ss) t
later_send own log packets s ss t r =
    record { sent = r.sent; member = inr r.member; packet = r.packet; is = r.is; live = r.live; next = r.next }

-- the due item of the sends is a packet of one of them
pub next_send_is : (own : Own) (log : List Deed) (packets : ℕ → List Packet) (sents : List Sent) (t : Due) → next_send own log packets sents ≡ Some t
    → SendDue own log packets sents t
unfolding next_send
next_send_is own log packets [] t h = cc
next_send_is own log packets (s ∷ ss) t h =
    (elim (is_over log (packets s.number) s) as (λ b. is_over log (packets s.number) s ≡ b
    → cond b (next_send own log packets ss) (send_due s (next_packet own log s (packets s.number)) (next_send own log packets ss)) ≡ Some t
    → SendDue own log packets (s ∷ ss) t) [
      | true ↦ λ is k. later_send own log packets s ss t (next_send_is own log packets ss t k)
      | false ↦ λ is k. elim (send_due_cases s (next_packet own log s (packets s.number)) (next_send own log packets ss) t k) [
        | inl a ↦ record { sent = s; member = inl refl; packet = a.0; is = a.2; live = is; next = a.1 }
        | inr a ↦ later_send own log packets s ss t (next_send_is own log packets ss t a)
      ]
    ]) refl h

-- the due item is this reply, or of the sends
reply_due_cases : (o : Option Reply) (others : Option Due) (t : Due) → reply_due o others ≡ Some t
    → ((r : Reply) × (o ≡ Some r) × (t ≡ Replies r)) ⊎ ((o ≡ None) × (others ≡ Some t))
unfolding reply_due
reply_due_cases None others t h = inr (refl, h)
reply_due_cases (Some r) others t h = inl (r, refl, cc)

-- a due item is the first reply, or a packet of a live send where no reply is owed
pub next_due_cases : (own : Own) (log : List Deed) (sents : List Sent) (p : Progress) (t : Due) → next_due own log sents p ≡ Some t
    → ((r : Reply) × (slice_get p.replies 0 ≡ Some r) × (t ≡ Replies r)) ⊎ ((slice_get p.replies 0 ≡ None) × SendDue own log p.packets sents t)
unfolding next_due
next_due_cases own log sents p t h =
    elim (reply_due_cases (slice_get p.replies 0) (next_send own log p.packets sents) t h) [
      | inl a ↦ inl a
      | inr a ↦ inr (a.0, next_send_is own log p.packets sents t a.1)
    ]

-- what is next is the first reply, or a packet of a live send
pub due_cases : (own : Own) (ms : Messages) (log : List Deed) (t : Due) → due own ms log ≡ Some t
    → ((r : Reply) × (slice_get (progress own ms log).replies 0 ≡ Some r) × (t ≡ Replies r))
    ⊎ ((slice_get (progress own ms log).replies 0 ≡ None) × SendDue own log (progress own ms log).packets (sends own ms log) t)
unfolding due
due_cases own ms log t h = next_due_cases own log (sends own ms log) (progress own ms log) t h

-- the next granted bytes of a long send
pub record GrantedNext (own : Own) (gs : List Grant) (s : Sent) (pushed : List Packet) (p : Packet) : Type 0 where
  pub long : s.kind ≡ LongCts
  pub grant : Grant
  pub others : List Grant
  pub grants_are : gs ≡ grant ∷ others
  pub bytes : List ℕ
  pub is : p ≡ CtsData (op_id grant.recv) (piece_bytes (pieces_in pushed)) own.life.connid bytes
  pub bytes_are : bytes ≡ take (min (piece_bytes (pieces_in (openings own.limits s.message s.kind)) + grant_bytes gs - piece_bytes (pieces_in pushed)) (data_room own.limits)) (drop (piece_bytes (pieces_in pushed)) s.message.bytes)
  pub below : piece_bytes (pieces_in pushed) < min (piece_bytes (pieces_in (openings own.limits s.message s.kind)) + grant_bytes gs) (length s.message.bytes)

-- granted bytes that are next: the first grant names them
data_is : (own : Own) (s : Sent) (allowed done : ℕ) (gs : List Grant) (p : Packet) → data_packet own s allowed done gs ≡ Some p
    → (g : Grant) × (rest : List Grant) × (gs ≡ g ∷ rest) × (p ≡ CtsData (op_id g.recv) done own.life.connid (take (min (allowed - done) (data_room own.limits)) (drop done s.message.bytes))) × (done < min allowed (length s.message.bytes))
unfolding data_packet
data_is own s allowed done [] p h = cc
data_is own s allowed done (g ∷ gs) p h =
    (elim (nat_lt done (min allowed (length s.message.bytes))) as (λ b. nat_lt done (min allowed (length s.message.bytes)) ≡ b
    → cond b (Some (CtsData (op_id g.recv) done own.life.connid (take (min (allowed - done) (data_room own.limits)) (drop done s.message.bytes)))) None ≡ Some p
    → (x : Grant) × (rest : List Grant) × (g ∷ gs ≡ x ∷ rest) × (p ≡ CtsData (op_id x.recv) done own.life.connid (take (min (allowed - done) (data_room own.limits)) (drop done s.message.bytes))) × (done < min allowed (length s.message.bytes))) [
      | true ↦ λ is k. (g, gs, refl, cc, ltb-true done (min allowed (length s.message.bytes)) is)
      | false ↦ λ is k. cc
    ]) refl h

-- only a long send has granted bytes next
granted_is : (own : Own) (gs : List Grant) (s : Sent) (pushed : List Packet) (kind : Kind) (p : Packet) → s.kind ≡ kind → granted_packet own gs s pushed kind ≡ Some p → GrantedNext own gs s pushed p
unfolding granted_packet
granted_is own gs s pushed LongCts p e h =
    let r = data_is own s (piece_bytes (pieces_in (openings own.limits s.message s.kind)) + grant_bytes gs) (piece_bytes (pieces_in pushed)) gs p h in
    record { long = e; grant = r.0; others = r.1; grants_are = r.2; bytes = _; is = r.3; bytes_are = refl; below = r.4 }
granted_is own gs s pushed Eager p e h = cc
granted_is own gs s pushed Medium p e h = cc
granted_is own gs s pushed LongRead p e h = cc
granted_is own gs s pushed (Runt runt) p e h = cc

-- packets of granted bytes
abbrev pub IsData : Packet → Type 0
IsData (Rtm number tag confirm opt form) = ⊥
IsData (Cts send recv size connid) = ⊥
IsData (CtsData recv offset connid bytes) = Unit {0}
IsData (Eor send recv connid) = ⊥
IsData (Handshake words connid raw) = ⊥
IsData (Receipt number connid) = ⊥

-- all packets have granted bytes
abbrev pub AllData : List Packet → Type 0
AllData [] = Unit {0}
AllData (p ∷ ps) = IsData p × AllData ps

-- one more of them
data_more : (ps : List Packet) (p : Packet) → AllData ps → IsData p → AllData (ps ++ p ∷ [])
data_more [] p a d = (d, tt)
data_more (q ∷ ps) p a d = (a.0, data_more ps p a.1 d)

-- how far a send is: some of its openings were pushed, or all of them and then granted bytes; their bytes stand in a row
pub record Underway (own : Own) (s : Sent) (pushed : List Packet) : Type 0 where
  pub how : ((later : List Packet) × (openings own.limits s.message s.kind ≡ pushed ++ later)) ⊎ ((datas : List Packet) × (pushed ≡ openings own.limits s.message s.kind ++ datas) × (s.kind ≡ LongCts) × AllData datas)
  pub row : InRow s.message.bytes 0 (pieces_in pushed)

-- what the next packet of a send is: the next opening, or granted bytes after all openings
abbrev pub NextOf : Own → List Grant → Sent → List Packet → Packet → Type 0
NextOf own gs s pushed p =
    ((later : List Packet) × (openings own.limits s.message s.kind ≡ pushed ++ p ∷ later))
    ⊎ ((datas : List Packet) × (pushed ≡ openings own.limits s.message s.kind ++ datas) × AllData datas × GrantedNext own gs s pushed p)

-- the element after the first ones
slice_get_after : {A : Type 0} (xs ys : List A) → slice_get (xs ++ ys) (length xs) ≡ slice_get ys 0
slice_get_after [] ys = refl
slice_get_after (x ∷ xs) ys = slice_get_after xs ys

-- there is no element past the end
slice_get_longer : {A : Type 0} (xs ys : List A) → slice_get xs (length (xs ++ ys)) ≡ None
slice_get_longer [] ys = refl
slice_get_longer (x ∷ xs) ys = slice_get_longer xs ys

-- the value is the first one, or the second where there is no first
or_else_at : {A : Type 0} (x y : Option A) (a : A) → or_else x y ≡ Some a → (o : Option A) → x ≡ o → ((b : A) × (o ≡ Some b) × (a ≡ b)) ⊎ ((o ≡ None) × (y ≡ Some a))
unfolding or_else
or_else_at None y a h o e = inr (sym e, h)
or_else_at (Some b) y a h o e = inl (b, sym e, cc)

-- the next packet, where some of the openings were pushed
next_by_openings : (own : Own) (gs : List Grant) (s : Sent) (pushed later : List Packet) (p : Packet) → openings own.limits s.message s.kind ≡ pushed ++ later
    → or_else (slice_get (openings own.limits s.message s.kind) (length pushed)) (granted_packet own gs s pushed s.kind) ≡ Some p → NextOf own gs s pushed p
next_by_openings own gs s pushed [] p e h =
    let at : slice_get (openings own.limits s.message s.kind) (length pushed) ≡ None = ap (λ (xs : List Packet). slice_get xs (length pushed)) e ∙ slice_get_after pushed [] in
    elim (or_else_at (slice_get (openings own.limits s.message s.kind) (length pushed)) (granted_packet own gs s pushed s.kind) p h None at) [
      | inl a ↦ (let x = a.1 in cc)
      | inr a ↦ inr ([], sym (append-nil pushed) ∙ sym e ∙ sym (append-nil (openings own.limits s.message s.kind)), tt, granted_is own gs s pushed s.kind p refl a.1)
    ]
next_by_openings own gs s pushed (q ∷ later) p e h =
    let at : slice_get (openings own.limits s.message s.kind) (length pushed) ≡ Some q = ap (λ (xs : List Packet). slice_get xs (length pushed)) e ∙ slice_get_after pushed (q ∷ later) in
    elim (or_else_at (slice_get (openings own.limits s.message s.kind) (length pushed)) (granted_packet own gs s pushed s.kind) p h (Some q) at) [
      | inl a ↦ (let x = a.1 in let same : q ≡ p = cc in inl (later, e ∙ ap (λ (y : Packet). pushed ++ y ∷ later) same))
      | inr a ↦ (let x = a.0 in cc)
    ]

-- the next packet of a send that is underway
pub next_is : (own : Own) (log : List Deed) (s : Sent) (pushed : List Packet) (p : Packet) → Underway own s pushed → next_packet own log s pushed ≡ Some p
    → NextOf own (grants log s.to s.number) s pushed p
unfolding next_packet
next_is own log s pushed p u h =
    elim u.how [
      | inl a ↦ next_by_openings own (grants log s.to s.number) s pushed a.0 p a.1 h
      | inr a ↦
          let at : slice_get (openings own.limits s.message s.kind) (length pushed) ≡ None = ap (λ (xs : List Packet). slice_get (openings own.limits s.message s.kind) (length xs)) a.1 ∙ slice_get_longer (openings own.limits s.message s.kind) a.0 in
          elim (or_else_at (slice_get (openings own.limits s.message s.kind) (length pushed)) (granted_packet own (grants log s.to s.number) s pushed s.kind) p h None at) [
            | inl b ↦ (let x = b.1 in cc)
            | inr b ↦ inr (a.0, a.1, a.3, granted_is own (grants log s.to s.number) s pushed s.kind p refl b.1)
          ]
    ]

-- the part that the next granted bytes are
pub granted_piece : (own : Own) (gs : List Grant) (s : Sent) (pushed : List Packet) (p : Packet) (g : GrantedNext own gs s pushed p)
    → (packet_piece p ≡ Some (record { offset = piece_bytes (pieces_in pushed); bytes = g.bytes })) × Part (record { offset = piece_bytes (pieces_in pushed); bytes = g.bytes }) s.message.bytes
unfolding packet_piece
granted_piece own gs s pushed p g = (rw g.is refl, front_part s.message.bytes g.bytes _ (piece_bytes (pieces_in pushed)) g.bytes_are)

-- a send with its next packet pushed is underway
pub next_underway : (own : Own) (gs : List Grant) (s : Sent) (pushed : List Packet) (p : Packet) → Underway own s pushed → NextOf own gs s pushed p
    → Underway own s (pushed ++ p ∷ [])
next_underway own gs s pushed p u (inl a) =
    let split : openings own.limits s.message s.kind ≡ (pushed ++ p ∷ []) ++ a.0 = a.1 ∙ sym (append_assoc pushed (p ∷ []) a.0) in
    let all : InRow s.message.bytes 0 (pieces_in (pushed ++ p ∷ []) ++ pieces_in a.0) =
    subst (λ (xs : List Piece). InRow s.message.bytes 0 xs) (ap pieces_in split ∙ pieces_in-append (pushed ++ p ∷ []) a.0) (openings_in_row own.limits s.message s.kind) in
    record { how = inl (a.0, split); row = (row_parts s.message.bytes 0 (pieces_in (pushed ++ p ∷ [])) (pieces_in a.0) all).0 }
next_underway own gs s pushed p u (inr a) =
    let g = granted_piece own gs s pushed p a.3 in
    let more : pieces_in (pushed ++ p ∷ []) ≡ pieces_in pushed ++ record { offset = piece_bytes (pieces_in pushed); bytes = a.3.bytes } ∷ [] =
    pieces_in-append pushed (p ∷ []) ∙ ap (λ (xs : List Piece). pieces_in pushed ++ xs) (pieces_in_one p _ g.0) in
    record {
      how = inr (a.0 ++ p ∷ [], ap (λ (xs : List Packet). xs ++ p ∷ []) a.1 ∙ append_assoc (openings own.limits s.message s.kind) a.0 (p ∷ []), a.3.long, data_more a.0 p a.2 (subst IsData (sym a.3.is) tt));
      row = subst (λ (xs : List Piece). InRow s.message.bytes 0 xs) (sym more)
          (row_append s.message.bytes 0 (pieces_in pushed) (record { offset = piece_bytes (pieces_in pushed); bytes = a.3.bytes } ∷ []) u.row (omega arith, g.1, tt));
    }

-- the piece of the next packet begins where those before it end
pub next_piece : (own : Own) (gs : List Grant) (s : Sent) (pushed : List Packet) (p : Packet) (x : Piece) → Underway own s pushed → NextOf own gs s pushed p → packet_piece p ≡ Some x
    → (x.offset ≡ piece_bytes (pieces_in pushed)) × Part x s.message.bytes
next_piece own gs s pushed p x u n h =
    let after = next_underway own gs s pushed p u n in
    let more : pieces_in (pushed ++ p ∷ []) ≡ pieces_in pushed ++ x ∷ [] = pieces_in-append pushed (p ∷ []) ∙ ap (λ (xs : List Piece). pieces_in pushed ++ xs) (pieces_in_one p x h) in
    let all : InRow s.message.bytes 0 (pieces_in pushed ++ x ∷ []) = subst (λ (xs : List Piece). InRow s.message.bytes 0 xs) more after.row in
    let last = (row_parts s.message.bytes 0 (pieces_in pushed) (x ∷ []) all).1 in
    let o = last.0 in
    (omega arith, last.1)

-- a send of which nothing was pushed is underway
pub none_underway : (own : Own) (s : Sent) → Underway own s []
unfolding pieces_in
none_underway own s = record { how = inl (openings own.limits s.message s.kind, refl); row = tt }
