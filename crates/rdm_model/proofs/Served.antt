-- The push of each packet of a send: it has a place of its own among the packets of its send, and bytes of its own.
use Rattle.std.proofs.Common.{◌≡◌, ℕ, ◌+◌, ◌<◌, ◌≤◌, true, false, List, [], ◌∷◌, ◌++◌, length, Some, None, refl, arith, ◌⊎◌, inl, inr, sym, ◌∙◌, ap, subst}
use Rattle.std.specs.Prelude.{slice_get}
use Rattle.std.proofs.lemmas.List.{append-nil}
use Rattle.std.proofs.lemmas.Option.{slice_get_within}
use Rattle.rdm_lists.specs.Lists.{Member}
use Rattle.rdm_num.specs.Pieces.{Piece, piece_bytes, overlaps}
use Rattle.rdm_pkt.specs.declared.Packet.{Packet}
use Rattle.rdm_model.specs.Deeds.{Deed, Pushed}
use Rattle.rdm_model.specs.Beginnings.{Own, Messages}
use Rattle.rdm_model.specs.Sends.{Sent, sends}
use Rattle.rdm_model.specs.Grants.{grants}
use Rattle.rdm_model.specs.Dues.{Due, Sends, packet_piece, pieces_in, is_over, next_packet, progress, due}
use Rattle.rdm_model.proofs.Cuts.{Part, piece_bytes-append, single_bytes}
use Rattle.rdm_model.proofs.Rows.{apart, apart_after}
use Rattle.rdm_model.proofs.Opens.{pieces_in-append, pieces_in_one}
use Rattle.rdm_model.proofs.Dues.{due_cases, next_is, next_piece}
use Rattle.rdm_model.proofs.Pushes.{pushed_of, PushesOf, pushed_step, pushed_here, member_later, underway}
use Rattle.rdm_lists.proofs.Places.{slice_get-append, slice_get_seam}

-- that due item was pushed, after so many deeds, by an account of the messages
abbrev pub PushedAt : Own → Messages → Due → ℕ → List Deed → Type 0
PushedAt own ms t k [] = ⊥
PushedAt own ms t k (d ∷ before) = ((d ≡ Pushed) × (due own ms before ≡ Some t) × (k ≡ length before)) ⊎ PushedAt own ms t k before

-- a packet of a live send is next
pub record NextSend (own : Own) (ms : Messages) (log : List Deed) (s : Sent) (p : Packet) : Type 0 where
  pub member : Member s (sends own ms log)
  pub live : is_over log (pushed_of own ms log s.number) s ≡ false
  pub next : next_packet own log s (pushed_of own ms log s.number) ≡ Some p
  pub no_reply : slice_get (progress own ms log).replies 0 ≡ None

-- a due item that is a packet of a send
pub next_send_due : (own : Own) (ms : Messages) (log : List Deed) (s : Sent) (p : Packet) → due own ms log ≡ Some (Sends s p) → NextSend own ms log s p
next_send_due own ms log s p h =
    elim (due_cases own ms log (Sends s p) h) [
      | inl a ↦ (let x = a.2 in cc)
      | inr a ↦ (
          let is = a.1.is in
          let e : a.1.sent ≡ s = cc in
          let f : a.1.packet ≡ p = cc in
          record {
            member = subst (λ (x : Sent). Member x (sends own ms log)) e a.1.member;
            live = subst (λ (x : Sent). is_over log (pushed_of own ms log x.number) x ≡ false) e a.1.live;
            next = subst (λ (x : Sent). next_packet own log x (pushed_of own ms log x.number) ≡ Some p) e (a.1.next ∙ ap Some f);
            no_reply = a.0;
          })
    ]

-- after a push of a send, its packet stands last
pub pushed_last : (own : Own) (ms : Messages) (before : List Deed) (s : Sent) (p : Packet) → due own ms before ≡ Some (Sends s p)
    → pushed_of own ms (Pushed ∷ before) s.number ≡ pushed_of own ms before s.number ++ p ∷ []
pushed_last own ms before s p h =
    elim (due_cases own ms before (Sends s p) h) [
      | inl a ↦ (let x = a.2 in cc)
      | inr a ↦ (
          let is = a.1.is in
          let e : a.1.sent ≡ s = cc in
          let f : a.1.packet ≡ p = cc in
          let t : PushesOf own ms Pushed before = record { by = refl; served = Sends s p; now = h; of = a.1 } in
          subst (λ (x : Sent). pushed_of own ms (Pushed ∷ before) x.number ≡ pushed_of own ms before x.number ++ p ∷ []) e
          (pushed_here own ms before t ∙ ap (λ (x : Packet). pushed_of own ms before a.1.sent.number ++ x ∷ []) f))
    ]

-- what was pushed stays first
pub pushed_longer : (own : Own) (ms : Messages) (d : Deed) (before : List Deed) (n : ℕ) → (more : List Packet) × (pushed_of own ms (d ∷ before) n ≡ pushed_of own ms before n ++ more)
pushed_longer own ms d before n =
    elim (pushed_step own ms d before n) [
      | inl a ↦ ([], a ∙ sym (append-nil (pushed_of own ms before n)))
      | inr a ↦ (a.0.of.packet ∷ [], a.2)
    ]

-- a send whose packet was pushed was made
pub push_member : (own : Own) (ms : Messages) (s : Sent) (p : Packet) (k : ℕ) (log : List Deed) → PushedAt own ms (Sends s p) k log → Member s (sends own ms log)
push_member own ms s p k [] h = elim h [ ]
push_member own ms s p k (d ∷ before) (inl a) = member_later own ms d before s (next_send_due own ms before s p a.1).member
push_member own ms s p k (d ∷ before) (inr a) = member_later own ms d before s (push_member own ms s p k before a)

-- that push was of the packet at that place of its send
abbrev pub ServedAt : Own → Messages → Sent → Packet → ℕ → ℕ → List Deed → Type 0
ServedAt own ms s p i k [] = ⊥
ServedAt own ms s p i k (d ∷ before) =
    ((d ≡ Pushed) × (due own ms before ≡ Some (Sends s p)) × (k ≡ length before) × (i ≡ length (pushed_of own ms before s.number))) ⊎ ServedAt own ms s p i k before

-- each push of a send has a place among its packets
pub served_at : (own : Own) (ms : Messages) (s : Sent) (p : Packet) (k : ℕ) (log : List Deed) → PushedAt own ms (Sends s p) k log → (i : ℕ) × ServedAt own ms s p i k log
served_at own ms s p k [] h = elim h [ ]
served_at own ms s p k (d ∷ before) (inl a) = (length (pushed_of own ms before s.number), inl (a.0, a.1, a.2, refl))
served_at own ms s p k (d ∷ before) (inr a) = let r = served_at own ms s p k before a in (r.0, inr r.1)

-- the packet of a push stands at its place
pub served_stands : (own : Own) (ms : Messages) (s : Sent) (p : Packet) (i k : ℕ) (log : List Deed) → ServedAt own ms s p i k log → slice_get (pushed_of own ms log s.number) i ≡ Some p
served_stands own ms s p i k [] h = elim h [ ]
served_stands own ms s p i k (d ∷ before) (inl a) =
    let last : pushed_of own ms (d ∷ before) s.number ≡ pushed_of own ms before s.number ++ p ∷ [] = subst (λ (x : Deed). pushed_of own ms (x ∷ before) s.number ≡ pushed_of own ms before s.number ++ p ∷ []) (sym a.0) (pushed_last own ms before s p a.1) in
    ap (λ (xs : List Packet). slice_get xs i) last ∙ ap (λ (j : ℕ). slice_get (pushed_of own ms before s.number ++ p ∷ []) j) a.3 ∙ slice_get_seam (pushed_of own ms before s.number) p []
served_stands own ms s p i k (d ∷ before) (inr a) =
    let was = served_stands own ms s p i k before a in
    let more = pushed_longer own ms d before s.number in
    ap (λ (xs : List Packet). slice_get xs i) more.1 ∙ slice_get-append (pushed_of own ms before s.number) more.0 i p was

-- places that were served are below the count
served_below : (own : Own) (ms : Messages) (s : Sent) (p : Packet) (i k : ℕ) (log : List Deed) → ServedAt own ms s p i k log → i < length (pushed_of own ms log s.number)
served_below own ms s p i k log h = slice_get_within (pushed_of own ms log s.number) i p (served_stands own ms s p i k log h)

-- a place of a send has one push
pub served_once : (own : Own) (ms : Messages) (s t : Sent) (p q : Packet) (i k l : ℕ) (log : List Deed) → s.number ≡ t.number → ServedAt own ms s p i k log → ServedAt own ms t q i l log → k ≡ l
served_once own ms s t p q i k l [] e h j = elim h [ ]
served_once own ms s t p q i k l (d ∷ before) e (inl a) (inl b) = let x = a.2 in let y = b.2 in cc
served_once own ms s t p q i k l (d ∷ before) e (inl a) (inr b) =
    let x = a.3 in
    let y = served_below own ms t q i l before b in
    let z : length (pushed_of own ms before s.number) ≡ length (pushed_of own ms before t.number) = ap (λ (n : ℕ). length (pushed_of own ms before n)) e in
    absurd (omega arith)
served_once own ms s t p q i k l (d ∷ before) e (inr a) (inl b) =
    let x = b.3 in
    let y = served_below own ms s p i k before a in
    let z : length (pushed_of own ms before s.number) ≡ length (pushed_of own ms before t.number) = ap (λ (n : ℕ). length (pushed_of own ms before n)) e in
    absurd (omega arith)
served_once own ms s t p q i k l (d ∷ before) e (inr a) (inr b) = served_once own ms s t p q i k l before e a b

-- the piece of a push is a part of its message
pub push_part : (own : Own) (ms : Messages) (s : Sent) (p : Packet) (x : Piece) (k : ℕ) (log : List Deed) → PushedAt own ms (Sends s p) k log → packet_piece p ≡ Some x → Part x s.message.bytes
push_part own ms s p x k [] h c = elim h [ ]
push_part own ms s p x k (d ∷ before) (inl a) c =
    let n = next_send_due own ms before s p a.1 in
    let u = underway own ms before s n.member in
    (next_piece own (grants before s.to s.number) s (pushed_of own ms before s.number) p x u (next_is own before s (pushed_of own ms before s.number) p u n.next) c).1
push_part own ms s p x k (d ∷ before) (inr a) c = push_part own ms s p x k before a c

-- how many bytes of a send were pushed
abbrev pub done_bytes : Own → Messages → List Deed → ℕ → ℕ
done_bytes own ms log n = piece_bytes (pieces_in (pushed_of own ms log n))

-- no fewer bytes were pushed later
done_rises : (own : Own) (ms : Messages) (d : Deed) (before : List Deed) (n : ℕ) → done_bytes own ms before n ≤ done_bytes own ms (d ∷ before) n
done_rises own ms d before n =
    let more = pushed_longer own ms d before n in
    let e : done_bytes own ms (d ∷ before) n ≡ piece_bytes (pieces_in (pushed_of own ms before n)) + piece_bytes (pieces_in more.0) =
    ap (λ (xs : List Packet). piece_bytes (pieces_in xs)) more.1 ∙ ap piece_bytes (pieces_in-append (pushed_of own ms before n) more.0) ∙ piece_bytes-append (pieces_in (pushed_of own ms before n)) (pieces_in more.0) in
    omega arith

-- the piece of a push ends within what was pushed
pub push_done : (own : Own) (ms : Messages) (s : Sent) (p : Packet) (x : Piece) (k : ℕ) (log : List Deed) → PushedAt own ms (Sends s p) k log → packet_piece p ≡ Some x
    → x.offset + length x.bytes ≤ done_bytes own ms log s.number
push_done own ms s p x k [] h c = elim h [ ]
push_done own ms s p x k (d ∷ before) (inl a) c =
    let n = next_send_due own ms before s p a.1 in
    let u = underway own ms before s n.member in
    let o = (next_piece own (grants before s.to s.number) s (pushed_of own ms before s.number) p x u (next_is own before s (pushed_of own ms before s.number) p u n.next) c).0 in
    let last : pushed_of own ms (d ∷ before) s.number ≡ pushed_of own ms before s.number ++ p ∷ [] = subst (λ (y : Deed). pushed_of own ms (y ∷ before) s.number ≡ pushed_of own ms before s.number ++ p ∷ []) (sym a.0) (pushed_last own ms before s p a.1) in
    let e : done_bytes own ms (d ∷ before) s.number ≡ piece_bytes (pieces_in (pushed_of own ms before s.number)) + piece_bytes (x ∷ []) =
    ap (λ (xs : List Packet). piece_bytes (pieces_in xs)) last ∙ ap piece_bytes (pieces_in-append (pushed_of own ms before s.number) (p ∷ []))
    ∙ piece_bytes-append (pieces_in (pushed_of own ms before s.number)) (pieces_in (p ∷ [])) ∙ ap (λ (xs : List Piece). piece_bytes (pieces_in (pushed_of own ms before s.number)) + piece_bytes xs) (pieces_in_one p x c) in
    let one : piece_bytes (x ∷ []) ≡ length x.bytes = single_bytes x in
    omega arith
push_done own ms s p x k (d ∷ before) (inr a) c =
    let l = push_done own ms s p x k before a c in
    let r = done_rises own ms d before s.number in
    omega arith

-- the newest push of a send begins where the others end
push_from : (own : Own) (ms : Messages) (before : List Deed) (s : Sent) (p : Packet) (x : Piece) → due own ms before ≡ Some (Sends s p) → packet_piece p ≡ Some x
    → x.offset ≡ done_bytes own ms before s.number
push_from own ms before s p x h c =
    let n = next_send_due own ms before s p h in
    let u = underway own ms before s n.member in
    (next_piece own (grants before s.to s.number) s (pushed_of own ms before s.number) p x u (next_is own before s (pushed_of own ms before s.number) p u n.next) c).0

-- pushes of one send whose bytes share a place are one
pub push_once : (own : Own) (ms : Messages) (s t : Sent) (p q : Packet) (x y : Piece) (k l : ℕ) (log : List Deed) → s.number ≡ t.number
    → PushedAt own ms (Sends s p) k log → PushedAt own ms (Sends t q) l log → packet_piece p ≡ Some x → packet_piece q ≡ Some y
    → overlaps x.offset (length x.bytes) y.offset (length y.bytes) ≡ true → k ≡ l
push_once own ms s t p q x y k l [] e h j c f o = elim h [ ]
push_once own ms s t p q x y k l (d ∷ before) e (inl a) (inl b) c f o = let u = a.2 in let v = b.2 in cc
push_once own ms s t p q x y k l (d ∷ before) e (inl a) (inr b) c f o =
    let from = push_from own ms before s p x a.1 c in
    let done = push_done own ms t q y l before b f in
    let z : done_bytes own ms before s.number ≡ done_bytes own ms before t.number = ap (λ (n : ℕ). done_bytes own ms before n) e in
    let not = apart_after x.offset (length x.bytes) y.offset (length y.bytes) (omega arith) in
    cc
push_once own ms s t p q x y k l (d ∷ before) e (inr a) (inl b) c f o =
    let from = push_from own ms before t q y b.1 f in
    let done = push_done own ms s p x k before a c in
    let z : done_bytes own ms before s.number ≡ done_bytes own ms before t.number = ap (λ (n : ℕ). done_bytes own ms before n) e in
    let not = apart x.offset (length x.bytes) y.offset (length y.bytes) (omega arith) in
    cc
push_once own ms s t p q x y k l (d ∷ before) e (inr a) (inr b) c f o = push_once own ms s t p q x y k l before e a b c f o
