-- What the packets come to that a send makes one by one.
use Rattle.std.proofs.Common.{◌≡◌, ℕ, zero, suc, ◌+◌, ◌-◌, ◌*◌, ◌<◌, ◌≤◌, true, List, [], ◌∷◌, map, length, take, drop, Option, Some, None, refl, arith, sym, ap, ◌∙◌}
use Rattle.std.specs.Prelude.{min, nat_lt, ◌==◌, ◌||◌, slice_get, option_map}
use Rattle.rdm_num.specs.declared.limits.EpLimits.{EpLimits}
use Rattle.rdm_pkt.specs.declared.Packet.{Packet}
use Rattle.rdm_pkt.specs.declared.Form.TheVariants as F
use Rattle.rdm_pkt.specs.declared.Kind.{Kind}
use Rattle.rdm_pkt.specs.declared.Kind.TheVariants.{Eager, Medium, LongCts, LongRead, Runt}
use Rattle.rdm_pkt.specs.Heads.{piece_of}
use Rattle.rdm_pkt.specs.Openings as Openings
use Rattle.rdm_pkt.specs.Openings.{rtm, read_rtm, medium_form, runt_form, long_cts_form, no_bytes, room_in, openings}
use Rattle.rdm_num.specs.Pieces.{Piece, pieces}
use Rattle.rdm_hdr.proofs.Opts.{some-then}
use Rattle.std.specs.Bool.{then_some}
use Rattle.std.proofs.Math.Nat.{suc-mul, zero-mul}
use Rattle.std.proofs.lemmas.Bool.Decides.{nat_tests}
use Rattle.std.proofs.lemmas.List.{take_all}
use Rattle.std.proofs.lemmas.Option.{slice_get-map}
use Rattle.rdm_tx.specs.declared.message.Message.{Message}
use Rattle.rdm_tx.specs.declared.spans.Span.{Span}
use Rattle.rdm_tx.specs.Sends.{opened, packet_after, span_at, span_of, part}
use Rattle.rdm_tx.specs.Laws.{AreSteps, StepsGiveOpenings, SpansFollow, carried, PacketsCarryParts}
use Rattle.rdm_tx.proofs.Nth.{range, front_range, piece_carried, piece_within, range_of_first}
use Rattle.rdm_tx.proofs.Numbered.{span, room_beside, medium_room, runt_room, some_room, eager_span, medium_span, long_cts_span, long_read_span, runt_span}

-- an item that stands at a place is the first of those from there on
drop_at : {A : Type 0} (xs : List A) (n : ℕ) (x : A) → slice_get xs n ≡ Some x → drop n xs ≡ x ∷ drop (n + 1) xs
drop_at [] n x e = absurd (cc)
drop_at (y ∷ ys) zero x e = cc
drop_at (y ∷ ys) (suc n) x e =
    let a : suc n + 1 ≡ suc (n + 1) = omega arith in
    rw a (drop_at ys n x e)

-- nothing stands from a place on where no item stands
drop_past : {A : Type 0} (xs : List A) (n : ℕ) → slice_get xs n ≡ None → drop n xs ≡ []
drop_past [] zero e = refl
drop_past [] (suc n) e = refl
drop_past (y ∷ ys) zero e = absurd (cc)
drop_past (y ∷ ys) (suc n) e = drop_past ys n e

-- where a span isn't, no packet is
no_packet : (found : Option Packet) → option_map span_of found ≡ None → found ≡ None
no_packet None e = refl
no_packet (Some p) e = absurd (cc)

-- packets from the n-th on are the rest of those that open the message
steps_from : (limits : EpLimits) (m : Message) (bytes : List ℕ) (n : ℕ) (packets : List Packet) → AreSteps limits m bytes n packets
    → packets ≡ drop n (openings limits (opened m bytes) m.kind)
steps_from limits m bytes n [] h = sym (drop_past (openings limits (opened m bytes) m.kind) n (no_packet (packet_after limits m bytes n) h))
steps_from limits m bytes n (p ∷ ps) ((s, e, w), rest) =
    let here : Some p ≡ packet_after limits m bytes n = w bytes refl (rw e refl) in
    ap (λ (l : List Packet). p ∷ l) (steps_from limits m bytes (n + 1) ps rest) ∙ sym (drop_at (openings limits (opened m bytes) m.kind) n p (sym here))

pub steps_give_openings : StepsGiveOpenings
steps_give_openings = λ limits m bytes packets h. steps_from limits m bytes 0 packets h

-- ---- spans

-- a packet that stands alone has no next one
no_second : (n : ℕ) (x t : Span) → then_some (n + 1 == 0) x ≡ Some t → ⊥
no_second n x t e =
    let b = (some-then (n + 1 == 0) x t e).0 in
    grind (arith, nat_tests)

-- the bytes below a multiple that is followed by a whole size
full_size : (n size len : ℕ) → (n + 1 == 0 || nat_lt ((n + 1) * size) len) ≡ true → (n + 1) * size ≡ n * size + min size (len - n * size)
full_size n size len t =
    let a : n + 1 ≡ suc n = omega arith in
    let m : (n + 1) * size ≡ n * size + size = rw a (suc-mul n size) in
    let l : (n + 1) * size < len = grind (arith, nat_tests) in
    omega arith

-- pieces follow each other
pieces_follow : (size n len : ℕ) (s t : Span) → then_some (n == 0 || nat_lt (n * size) len) (span (n * size) (min size (len - n * size))) ≡ Some s
    → then_some (n + 1 == 0 || nat_lt ((n + 1) * size) len) (span ((n + 1) * size) (min size (len - (n + 1) * size))) ≡ Some t
    → t.offset ≡ s.offset + s.length
pieces_follow size n len s t e f =
    let a = some-then _ _ _ e in
    let b = some-then _ _ _ f in
    rw (a.1, b.1) (full_size n size len b.0)

-- the spans of a message of that kind
spans_follow : (limits : EpLimits) (m : Openings.Message) (kind : Kind) → 256 ≤ limits.mtu → length m.iov ≤ 4
    → ((s : Span) × (option_map span_of (slice_get (openings limits m kind) 0) ≡ Some s) × (s.offset ≡ 0))
    × ((n : ℕ) (s t : Span) → option_map span_of (slice_get (openings limits m kind) n) ≡ Some s → option_map span_of (slice_get (openings limits m kind) (n + 1)) ≡ Some t → t.offset ≡ s.offset + s.length)
spans_follow limits m Eager h i =
    ((span 0 (length m.bytes), sym (eager_span limits m 0), refl), (λ n s t e f. absurd (no_second n _ t (eager_span limits m (n + 1) ∙ f))))
spans_follow limits m Medium h i =
    let room = room_beside limits m 24 in
    let r : 0 < room = some_room limits m 24 h (omega arith) in (
      (span (0 * room) (min room (length m.bytes - 0 * room)), sym (medium_span limits m 0 room r refl), zero-mul room),
      (λ n s t e f. pieces_follow room n (length m.bytes) s t (medium_span limits m n room r refl ∙ e) (medium_span limits m (n + 1) room r refl ∙ f)),
    )
spans_follow limits m LongCts h i =
    let room = room_beside limits m 24 in
    ((span 0 (min (length m.bytes) room), sym (long_cts_span limits m 0 room refl), refl), (λ n s t e f. absurd (no_second n _ t (long_cts_span limits m (n + 1) room refl ∙ f))))
spans_follow limits m LongRead h i =
    ((span 0 0, sym (long_read_span limits m 0), refl), (λ n s t e f. absurd (no_second n _ t (long_read_span limits m (n + 1) ∙ f))))
spans_follow limits m (Runt runt) h i =
    let room = room_beside limits m (40 + 24 * length m.iov) in
    let len = min (length m.bytes) runt in
    let r : 0 < room = some_room limits m (40 + 24 * length m.iov) h (omega arith) in (
      (span (0 * room) (min room (len - 0 * room)), sym (runt_span limits m runt 0 room r refl), zero-mul room),
      (λ n s t e f. pieces_follow room n len s t (runt_span limits m runt n room r refl ∙ e) (runt_span limits m runt (n + 1) room r refl ∙ f)),
    )

pub spans_law : SpansFollow
spans_law = λ limits m bytes (h, i). spans_follow limits (opened m bytes) m.kind h i

-- ---- bytes

-- the packet that stands alone
alone_is : (q p : Packet) (n : ℕ) → slice_get (q ∷ []) n ≡ Some p → q ≡ p
alone_is q p zero e = cc
alone_is q p (suc n) e = absurd (cc)

-- the packet of a piece carries its bytes, which stand at its span
found_carries : (packet : Piece → Packet) (found : Option Piece) (p : Packet) (whole : List ℕ) → ((q : Piece) → span_of (packet q) ≡ span q.offset (length q.bytes)) → ((q : Piece) → carried (packet q) ≡ q.bytes)
    → ((q : Piece) → found ≡ Some q → q.bytes ≡ range whole q.offset (length q.bytes)) → option_map packet found ≡ Some p
    → carried p ≡ part (span_of p) whole
found_carries packet None p whole f g h e = absurd (cc)
found_carries packet (Some q) p whole f g h e =
    let a : p ≡ packet q = cc in
    rw (a, f q, g q) (h q refl)

-- the packet of that number does so
mapped_carries : (packet : Piece → Packet) (size n : ℕ) (first : List ℕ) (p : Packet) (whole : List ℕ) → ((q : Piece) → span_of (packet q) ≡ span q.offset (length q.bytes)) → ((q : Piece) → carried (packet q) ≡ q.bytes)
    → ((q : Piece) → slice_get (pieces size first) n ≡ Some q → q.bytes ≡ range whole q.offset (length q.bytes)) → slice_get (map packet (pieces size first)) n ≡ Some p
    → carried p ≡ part (span_of p) whole
mapped_carries packet size n first p whole f g h e =
    found_carries packet (slice_get (pieces size first) n) p whole f g h (sym (slice_get-map packet (pieces size first) n) ∙ e)

-- the packets of a message of that kind
packets_carry : (limits : EpLimits) (m : Openings.Message) (kind : Kind) (n : ℕ) (p : Packet) → 256 ≤ limits.mtu → length m.iov ≤ 4 → slice_get (openings limits m kind) n ≡ Some p
    → carried p ≡ part (span_of p) m.bytes
unfolding openings carried span_of span_at piece_of
packets_carry limits m Eager n p h i e =
    rw (← alone_is (rtm m (F.Eager m.bytes)) p n e) (sym (take_all (0 + length m.bytes - 0) m.bytes (omega arith)))
packets_carry limits m Medium n p h i e =
    let room : 0 < room_in limits (rtm m (medium_form m no_bytes)) = rw (medium_room limits m) (some_room limits m 24 h (omega arith)) in
    mapped_carries (λ q. rtm m (medium_form m q)) _ n m.bytes p m.bytes (λ q. refl) (λ q. refl) (λ q w. piece_carried _ n m.bytes q room w) e
packets_carry limits m LongCts n p h i e =
    let room = room_in limits (rtm m (long_cts_form limits m [])) in
    rw (← alone_is (rtm m (long_cts_form limits m (take room m.bytes))) p n e) (front_range room 0 m.bytes)
packets_carry limits m LongRead n p h i e = rw (← alone_is (read_rtm m (F.LongRead (length m.bytes) m.send m.iov)) p n e) refl
packets_carry limits m (Runt runt) n p h i e =
    let room : 0 < room_in limits (read_rtm m (runt_form m runt no_bytes)) = rw (runt_room limits m runt) (some_room limits m (40 + 24 * length m.iov) h (omega arith)) in
    mapped_carries (λ q. read_rtm m (runt_form m runt q)) _ n (take runt m.bytes) p m.bytes (λ q. refl) (λ q. refl)
    (λ q w. piece_carried _ n (take runt m.bytes) q room w ∙ range_of_first runt q.offset (length q.bytes) m.bytes (piece_within _ n (take runt m.bytes) q room w)) e

pub packets_carry_parts : PacketsCarryParts
packets_carry_parts = λ limits m bytes n p (h, i) e. packets_carry limits (opened m bytes) m.kind n p h i e
