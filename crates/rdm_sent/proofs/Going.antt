-- What goes out of a live send is what goes out of the record's.
use Rattle.std.proofs.Common.{◌≡◌, ℕ, ◌+◌, ◌-◌, ◌<◌, Bool, true, false, List, [], ◌∷◌, length, take, drop, Option, Some, None, refl, sym, ap, subst, ◌∙◌, arith, if◌then◌else◌}
use Rattle.std.specs.Prelude.{nat_lt, nat_le, min, not, ◌&&◌, ◌==◌, is_some, IsSome, option_map, slice_get}
use Rattle.std.proofs.lemmas.Bool.{eq-eqb, ltb-true, true≢false}
use Rattle.rdm_lists.specs.Lists.{or_else}
use Rattle.rdm_num.specs.Lives.{op_id}
use Rattle.rdm_num.specs.declared.numbers.Life.{Life}
use Rattle.rdm_num.specs.declared.completion.Completion.TheVariants.{Send}
use Rattle.rdm_pkt.specs.declared.Kind.{Kind}
use Rattle.rdm_pkt.specs.declared.Kind.TheVariants.{Eager, Medium, LongCts, LongRead, Runt}
use Rattle.rdm_pkt.specs.declared.Packet.{Packet}
use Rattle.rdm_pkt.specs.declared.Packet.TheVariants.{CtsData}
use Rattle.rdm_pkt.specs.Openings.{openings}
use Rattle.rdm_model.specs.Beginnings.{Own}
use Rattle.rdm_model.specs.Deeds.{Spelled}
use Rattle.rdm_model.specs.Dues.{is_read}
use Rattle.rdm_model.specs.Grants.{data_room}
use Rattle.rdm_model.specs.Going.{Goes}
use Rattle.rdm_model.specs.Replies.{Reply}
use Rattle.rdm_model.specs.Sends.{Sent}
use Rattle.rdm_model.specs.Targets.{is_long}
use Rattle.rdm_tx.specs.Granting as G
use Rattle.rdm_tx.specs.Granting.{Granting, span_next, next_length, packet_with}
use Rattle.rdm_tx.specs.Sends.{packet_after, span_of}
use Rattle.rdm_tx.specs.declared.spans.Span.{Span}
use Rattle.rdm_life.specs.Kept.{LiveSend}
use Rattle.rdm_life.specs.Sending as life
use Rattle.rdm_life.specs.Sending.{data_next, granted_next, packet_next, goes_out, first_of, item_of_found, item_of_send, pushed, after_packet, completion_of_send}
use Rattle.rdm_sends.specs.declared.protocol.Protocol.{Protocol}
use Rattle.rdm_sends.specs.declared.protocol.Protocol.TheVariants.{Whole, Granted, Read}
use Rattle.rdm_sends.specs.Sending.{SendingView}
use Rattle.rdm_sends.specs.Pushing as sends
use Rattle.rdm_sends.specs.Pushing.{granted_span, granted_by, pushed_by, is_sent_by, IsPushed, EndsByPush}
use Rattle.rdm_sent.specs.Shows.{IsSend, IsProtocol, granting_of}
use Rattle.rdm_sent.specs.Laws.{NextIsKept, GoesOut, PushesAsKept}
use Rattle.rdm_sent.proofs.Openers.{openings_same, read_not_long}

-- ---- the next packet

-- no granted bytes of what is not granted
not_granted : (own : Own) (s : LiveSend) (k : Kind) → is_long k ≡ false → granted_next own s k ≡ None
unfolding granted_next is_long
not_granted own s Eager h = refl
not_granted own s Medium h = refl
not_granted own s LongCts h = cc
not_granted own s LongRead h = refl
not_granted own s (Runt n) h = refl

-- the granted bytes of what was granted so
data_by : (own : Own) (s : LiveSend) (o : Option ℕ) (g : Granting) (b : Bool) → g ≡ record (granting_of s) { granted_by = o } → nat_lt s.done s.allowed ≡ b
    → granted_by own.life.connid s.sent.message.bytes (Granted g) (span_next own.limits g) ≡ data_next own s o
unfolding granted_by data_next
data_by own s None g false e t = rw (e, t) refl
data_by own s None g true e t = rw (e, t) refl
data_by own s (Some recv) g false e t = rw (e, t) refl
data_by own s (Some recv) g true e t =
    let n : ℕ = min (s.allowed - s.done) (data_room own.limits) in
    let size : s.done + n - s.done ≡ n = omega arith in
    rw (e, t) (ap (λ (k : ℕ). Some (CtsData (op_id recv) s.done own.life.connid (take k (drop s.done s.sent.message.bytes)))) size)

-- so it is by each protocol
granted_same : (own : Own) (p : Protocol) (s : LiveSend) → IsProtocol p s → granted_by own.life.connid s.sent.message.bytes p (granted_span own.limits p) ≡ granted_next own s s.sent.kind
unfolding granted_span granted_by granted_next
granted_same own Whole s i = sym (not_granted own s s.sent.kind i.1)
granted_same own (Granted g) s i = data_by own s s.granted_by g (nat_lt s.done s.allowed) i.1 refl ∙ sym (ap (granted_next own s) i.0)
granted_same own (Read a) s i = sym (not_granted own s s.sent.kind (read_not_long s.sent.kind i.0))

-- the next opening
opening_same : (own : Own) (x : SendingView) (s : LiveSend) → IsSend x s
    → packet_after own.limits x.message s.sent.message.bytes x.given ≡ slice_get (openings own.limits s.sent.message s.sent.kind) s.opened
opening_same own x s i =
    ap (λ (ps : List Packet). slice_get ps x.given) (openings_same own.limits x.message s.sent i.message)
    ∙ ap (slice_get (openings own.limits s.sent.message s.sent.kind)) i.given

-- the next packet
pub packet_same : (own : Own) (x : SendingView) (s : LiveSend) → IsSend x s → sends.packet_next own.life.connid own.limits x s.sent.message.bytes ≡ packet_next own s
unfolding packet_next
packet_same own x s i =
    ap (λ (p : Option Packet). or_else p (granted_by own.life.connid s.sent.message.bytes x.protocol (granted_span own.limits x.protocol))) (opening_same own x s i)
    ∙ ap (or_else (slice_get (openings own.limits s.sent.message s.sent.kind) s.opened)) (granted_same own x.protocol s i.protocol)

-- granted bytes are in a packet
granted_by_some : (own : Own) (s : LiveSend) (o : Option ℕ) (g : Granting) (b : Bool) → g ≡ record (granting_of s) { granted_by = o } → nat_lt s.done s.allowed ≡ b
    → (s.done < s.allowed → IsSome o) → is_some (span_next own.limits g) ≡ is_some (granted_by own.life.connid s.sent.message.bytes (Granted g) (span_next own.limits g))
unfolding granted_by
granted_by_some own s o g false e t some = rw (e, t) refl
granted_by_some own s None g true e t some = absurd (true≢false (sym (some (ltb-true s.done s.allowed t))))
granted_by_some own s (Some recv) g true e t some = rw (e, t) refl

granted_some : (own : Own) (p : Protocol) (s : LiveSend) → IsProtocol p s
    → is_some (granted_span own.limits p) ≡ is_some (granted_by own.life.connid s.sent.message.bytes p (granted_span own.limits p))
unfolding granted_span granted_by
granted_some own Whole s i = refl
granted_some own (Granted g) s i = granted_by_some own s s.granted_by g (nat_lt s.done s.allowed) i.1 refl i.2
granted_some own (Read a) s i = refl

-- there is a first packet, or a second one
either_some : (p : Option Packet) (g : Option Span) (q : Option Packet) → is_some g ≡ is_some q → is_some (or_else (option_map span_of p) g) ≡ is_some (or_else p q)
unfolding or_else
either_some None g q h = h
either_some (Some p) g q h = refl

pub next_is_kept : NextIsKept
next_is_kept own x s next i h =
    let bytes : List ℕ = s.sent.message.bytes in
    let same = packet_same own x s i in
    let there = either_some (packet_after own.limits x.message bytes x.given) (granted_span own.limits x.protocol) (granted_by own.life.connid bytes x.protocol (granted_span own.limits x.protocol)) (granted_some own x.protocol s i.protocol) in
    (same, h bytes (sym i.total) ∙ there ∙ ap (λ (o : Option Packet). is_some o) same)

pub goes_out_as_kept : GoesOut
unfolding goes_out first_of item_of_found item_of_send
goes_out_as_kept v x s piece p none found i fits next =
    let is : Some p ≡ packet_next v.own s = next s.sent.message.bytes (sym i.total) fits ∙ packet_same v.own x s i in
    let out : goes_out v ≡ item_of_send v.own s (Some p) =
    ap (λ (r : Option Reply). first_of r (item_of_found v.own (life.send_next v))) none
    ∙ ap (item_of_found v.own) found
    ∙ ap (item_of_send v.own s) (sym is)
    in
    ap life.going_to out ∙ ap (λ (to : Life). Some (Goes to (Spelled p))) (sym i.to)

-- ---- a push

-- an opening more changes nothing of what came for it
opened_more : (p : Protocol) (s : LiveSend) → IsProtocol p s → IsProtocol p (record s { opened = s.opened + 1 })
opened_more Whole s i = i
opened_more (Granted g) s i = i
opened_more (Read a) s i = (i.0, record { from = i.1.from; iov = i.1.iov; long = i.1.long; asked = i.1.asked; owes = i.1.owes })

-- how far granted bytes have come with one packet more
abbrev done_more : Own → LiveSend → ℕ
done_more own s = s.done + min (s.allowed - s.done) (data_room own.limits)

-- and what came for it then
granted_more : (own : Own) (p : Protocol) (s : LiveSend) → IsProtocol p s → IsProtocol (pushed_by own.limits p) (record s { done = done_more own s })
unfolding pushed_by
granted_more own Whole s i = (i.0, i.1, omega (arith, i.2, i.3), omega (arith, i.2, i.3))
granted_more own (Granted g) s i = (i.0, ap (G.pushed own.limits) i.1, λ less. i.2 (omega arith))
granted_more own (Read a) s i = (i.0, record { from = i.1.from; iov = i.1.iov; long = i.1.long; asked = i.1.asked; owes = i.1.owes })

-- one packet more, by whether every opening was pushed
pushed_case : (own : Own) (x : SendingView) (s : LiveSend) → IsSend x s → (b : Bool)
    → IsSend (if b then record x { protocol = pushed_by own.limits x.protocol } else record x { given = x.given + 1 }) (if b then record s { done = done_more own s } else record s { opened = s.opened + 1 })
pushed_case own x s i true = record { to = i.to; message = i.message; parts = i.parts; total = i.total; ranges = i.ranges; given = i.given; protocol = granted_more own x.protocol s i.protocol }
pushed_case own x s i false = record { to = i.to; message = i.message; parts = i.parts; total = i.total; ranges = i.ranges; given = ap (λ n. n + 1) i.given; protocol = opened_more x.protocol s i.protocol }

-- every opening was pushed where the record says so
opened_same : (own : Own) (x : SendingView) (s : LiveSend) → IsSend x s → sends.is_opened own.limits x s.sent.message.bytes ≡ life.is_opened own s
opened_same own x s i =
    ap (λ (ps : List Packet). nat_le (length ps) x.given) (openings_same own.limits x.message s.sent i.message)
    ∙ ap (nat_le (length (openings own.limits s.sent.message s.sent.kind))) i.given

-- one packet more
pushes_shows : (own : Own) (x y : SendingView) (s : LiveSend) → IsSend x s → IsPushed own.limits x y → IsSend y (pushed own s)
unfolding pushed
pushes_shows own x y s i h =
    let is = h s.sent.message.bytes (sym i.total) ∙ ap (λ (b : Bool). if b then record x { protocol = pushed_by own.limits x.protocol } else record x { given = x.given + 1 }) (opened_same own x s i) in
    subst (λ (z : SendingView). IsSend z (pushed own s)) (sym is) (pushed_case own x s i (life.is_opened own s))

-- it is the same send
sent_same : (own : Own) (s : LiveSend) → (pushed own s).sent ≡ s.sent
unfolding pushed
sent_same own s = by_case (life.is_opened own s) where
  by_case : (b : Bool) → (if b then record s { done = done_more own s } else record s { opened = s.opened + 1 }).sent ≡ s.sent
  by_case true = refl
  by_case false = refl

-- all bytes were pushed that were granted, of what isn't read
sent_by : (p : Protocol) (s : LiveSend) → IsProtocol p s → is_read s.sent.kind ≡ false → is_sent_by p ≡ (s.done == length s.sent.message.bytes)
unfolding is_sent_by
sent_by Whole s i r = sym (eq-eqb s.done (length s.sent.message.bytes) i.2)
sent_by (Granted g) s i r = ap (λ (h : Granting). h.done == h.total) i.1
sent_by (Read a) s i r = absurd (true≢false (sym i.0 ∙ r))

-- the whole message was pushed where the record says so
pub sent_whole : (own : Own) (x : SendingView) (s : LiveSend) → IsSend x s → is_read s.sent.kind ≡ false → sends.is_sent own.limits x s.sent.message.bytes ≡ life.is_sent own s
sent_whole own x s i r =
    ap (λ (b : Bool). b && is_sent_by x.protocol) (opened_same own x s i) ∙ ap (λ (b : Bool). life.is_opened own s && b) (sent_by x.protocol s i.protocol r)

-- a push ends what is not read
abbrev ends : (read confirm sent : Bool) → Bool
ends read confirm sent = not read && not confirm && sent

ends_by : (read confirm a b : Bool) → (read ≡ false → a ≡ b) → ends read confirm a ≡ ends read confirm b
ends_by true confirm a b h = refl
ends_by false confirm a b h = ap (ends false confirm) (h refl)

ends_same : (own : Own) (x : SendingView) (s : LiveSend) → IsSend x s → sends.ends_by_push own.limits x s.sent.message.bytes ≡ life.ends_by_push own s
ends_same own x s i =
    let sent : Bool = sends.is_sent own.limits x s.sent.message.bytes in
    ap (λ (k : Kind). ends (is_read k) x.message.confirm sent) i.message.kind
    ∙ ap (λ (c : Bool). ends (is_read s.sent.kind) c sent) i.message.confirm
    ∙ ends_by (is_read s.sent.kind) s.sent.message.confirm sent (life.is_sent own s) (sent_whole own x s i)

pub pushes_as_kept : PushesAsKept
unfolding after_packet completion_of_send
pushes_as_kept own x y s over i h e =
    let t : LiveSend = pushed own s in
    let shows = pushes_shows own x y s i h in
    let is : over ≡ life.ends_by_push own t = e t.sent.message.bytes (sym shows.total) ∙ ends_same own y t shows in
    let number : y.message.send_id.0 ≡ s.sent.number = shows.message.number ∙ ap (λ (z : Sent). z.number) (sent_same own s) in (
      shows,
      sym (ap (λ (b : Bool). if b then [] else t ∷ []) is),
      sym (ap (λ (b : Bool). if b then Send (record { 0 = y.message.send_id.0 }) false ∷ [] else []) is
          ∙ ap (λ (n : ℕ). if life.ends_by_push own t then Send (record { 0 = n }) false ∷ [] else []) number),
    )
