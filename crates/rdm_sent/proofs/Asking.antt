-- Asks for bytes of a live send are asks of the record's, and so are its answers.
use Rattle.std.proofs.Common.{◌≡◌, ℕ, ◌+◌, ◌-◌, ◌<◌, ◌≤◌, ◌⊎◌, inl, inr, true, false, List, [], ◌∷◌, length, get_or, take, drop, Some, sym, ap, ◌∙◌, arith}
use Rattle.std.specs.Prelude.{nat_lt, nat_le, not, ◌&&◌, ◌||◌}
use Rattle.std.proofs.lemmas.Bool.{true≢false, and_parts, and_from, and_right, or_cases, not-true, not-false, lt-ltb, le-ltb, le-leb, lt-leb, ltb-true, leb-true}
use Rattle.rdm_lists.specs.Lists.{each_below}
use Rattle.rdm_lists.proofs.Below.{each_below_at, each_below_from}
use Rattle.rdm_lists.proofs.Bools.{or_true}
use Rattle.rdm_lists.proofs.Sums.{sum_total}
use Rattle.rdm_num.specs.declared.lists.IovEntry.{IovEntry}
use Rattle.rdm_num.specs.declared.parts.Span.{Span as Range}
use Rattle.rdm_wire.specs.declared.ReadAsk.{ReadAsk}
use Rattle.rdm_gaps.specs.Places.{AreMissing, with_range}
use Rattle.rdm_gaps.proofs.Covered.{all_at}
use Rattle.rdm_mr.proofs.Overlays.{by_range}
use Rattle.rdm_land.proofs.SetRanges.{length-set, set_in, set_out, all_from_each}
use Rattle.rdm_model.specs.Deeds.{Gives}
use Rattle.rdm_model.specs.Dues.{is_read}
use Rattle.rdm_model.specs.Replies.{given_of}
use Rattle.rdm_model.specs.Sends.{Sent}
use Rattle.rdm_model.specs.Targets.{read_from, is_in_entry, is_in_iov}
use Rattle.rdm_law.proofs.Fits.Spans.{read_list_total}
use Rattle.rdm_law.proofs.Replies.Asks.{iov_bytes}
use Rattle.rdm_tx.specs.Asks as A
use Rattle.rdm_tx.specs.Asks.{Asks, MayAsk}
use Rattle.rdm_life.proofs.Tests.{or_none}
use Rattle.rdm_life.specs.Kept.{LiveSend}
use Rattle.rdm_life.specs.Facts.{may_be_asked_by}
use Rattle.rdm_life.specs.Sending as life
use Rattle.rdm_life.specs.Sending.{is_asked}
use Rattle.rdm_sends.specs.declared.protocol.Protocol.{Protocol}
use Rattle.rdm_sends.specs.declared.protocol.Protocol.TheVariants.{Whole, Granted, Read}
use Rattle.rdm_sends.specs.Coming.{TakesAsk, OwesAnswer, asks_changed}
use Rattle.rdm_sent.specs.Shows.{IsProtocol, IsOfRanges, AreAsks}
use Rattle.rdm_sent.specs.Laws.{MayBeAsked, RoomIsKept, AsksAsKept, GivesAsKept, AnswersAsKept}
use Rattle.rdm_sent.proofs.Openers.{long_not_read}

-- ---- where an ask may be

-- what lies in a range ends before it does
entry_ends : (a : ReadAsk) (begin : ℕ) (e : IovEntry) → is_in_entry a begin e ≡ true → a.at + a.length ≤ begin + e.length
unfolding is_in_entry
entry_ends a begin e h = leb-true (a.at + a.length) (begin + e.length) (and_parts _ _ (and_parts _ _ (and_parts _ _ h).0).0).1

-- what lies in a read list ends before its ranges do
lies_within : (a : ReadAsk) (begin : ℕ) (es : List IovEntry) → is_in_iov a begin es ≡ true → a.at + a.length ≤ begin + iov_bytes es
unfolding is_in_iov iov_bytes
lies_within a begin [] h = cc
lies_within a begin (e ∷ es) h =
    elim (or_cases (is_in_entry a begin e) (is_in_iov a (begin + e.length) es) h) [
      | inl here ↦ let ends = entry_ends a begin e here in omega arith
      | inr later ↦ let rest = lies_within a (begin + e.length) es later in omega arith
    ]

-- and so in the message
ask_within : (a : ReadAsk) (s : Sent) → IsOfRanges s → is_in_iov a 0 s.message.iov ≡ true → a.at + a.length ≤ length s.message.bytes
ask_within a s r h =
    let within = lies_within a 0 s.message.iov h in
    let all : iov_bytes s.message.iov ≡ length s.message.bytes =
    ap iov_bytes r.iov ∙ read_list_total s.req.parts ∙ sym (sum_total (λ (p : Range). p.len) s.req.parts) ∙ sym r.long
    in
    omega arith

-- the record's places and those that are missing
module _ (a : Asks) (s : LiveSend) (i : AreAsks a s) (ask : ReadAsk) (from : a.from ≤ ask.at) (fits : ask.at - a.from + ask.length ≤ length a.unasked.places) where
  -- the record's test of a place of the ask
  place_is : (k : ℕ) → k < ask.length → s.was_asked (ask.at + k) ≡ not (get_or a.unasked.places (ask.at - a.from + k) false)
  place_is k lt =
      let at : ask.at + k ≡ a.from + (ask.at - a.from + k) = omega arith in
      ap s.was_asked at ∙ i.asked (ask.at - a.from + k) (omega arith)

  -- none of them was asked for
  none_asked : AreMissing (ask.at - a.from) ask.length a.unasked.places → each_below (λ k. not (s.was_asked (ask.at + k))) ask.length ≡ true
  none_asked m =
      each_below_from (λ k. not (s.was_asked (ask.at + k))) ask.length (λ k lt.
      ap (λ b. not b) (place_is k lt ∙ ap (λ b. not b) (all_at true false (ask.at - a.from) ask.length (ask.at - a.from + k) a.unasked.places m (omega arith) (omega arith))))

  -- all of them are missing
  all_missing : each_below (λ k. not (s.was_asked (ask.at + k))) ask.length ≡ true → AreMissing (ask.at - a.from) ask.length a.unasked.places
  all_missing e =
      all_from_each true (ask.at - a.from) ask.length a.unasked.places fits (λ k p q.
      let j : ℕ = k - (ask.at - a.from) in
      let at : ask.at - a.from + j ≡ k = omega arith in
      let free : not (s.was_asked (ask.at + j)) ≡ true = each_below_at (λ k. not (s.was_asked (ask.at + k))) ask.length j e (omega arith) in
      let is : not (not (get_or a.unasked.places (ask.at - a.from + j) false)) ≡ true = ap (λ b. not b) (sym (place_is j (omega arith))) ∙ free in
      sym (ap (λ n. get_or a.unasked.places n false) at) ∙ not-false (get_or a.unasked.places (ask.at - a.from + j) false) (not-true (not (get_or a.unasked.places (ask.at - a.from + j) false)) is))

-- the parts of the record's test
may_parts : (ask : ReadAsk) (s : LiveSend) → may_be_asked_by ask s ≡ true
    → (is_read s.sent.kind ≡ true) × (0 < ask.length) × (read_from s.sent.kind ≤ ask.at) × (each_below (λ k. not (s.was_asked (ask.at + k))) ask.length ≡ true) × (is_in_iov ask 0 s.sent.message.iov ≡ true)
unfolding may_be_asked_by
may_parts ask s h =
    let e = and_parts _ (is_in_iov ask 0 s.sent.message.iov) h in
    let d = and_parts _ (each_below (λ k. not (s.was_asked (ask.at + k))) ask.length) e.0 in
    let c = and_parts _ (nat_le (read_from s.sent.kind) ask.at) d.0 in
    let b = and_parts (is_read s.sent.kind) (nat_lt 0 ask.length) c.0 in
    (b.0, ltb-true 0 ask.length b.1, leb-true (read_from s.sent.kind) ask.at c.1, d.1, e.1)

-- and the test from them
may_from : (ask : ReadAsk) (s : LiveSend) → is_read s.sent.kind ≡ true → 0 < ask.length → read_from s.sent.kind ≤ ask.at
    → each_below (λ k. not (s.was_asked (ask.at + k))) ask.length ≡ true → is_in_iov ask 0 s.sent.message.iov ≡ true → may_be_asked_by ask s ≡ true
unfolding may_be_asked_by
may_from ask s read some from free lies =
    and_from _ _ (and_from _ _ (and_from _ _ (and_from _ _ read (lt-ltb 0 ask.length some)) (le-leb (read_from s.sent.kind) ask.at from)) free) lies

-- it may be asked for what the record's may
asked_if : (p : Protocol) (s : LiveSend) (ask : ReadAsk) → IsProtocol p s → TakesAsk ask p → may_be_asked_by ask s ≡ true
asked_if Whole s ask i t = absurd t
asked_if (Granted g) s ask i t = absurd t
asked_if (Read a) s ask i t =
    let f = i.1.from in
    may_from ask s i.0 t.0 (omega (arith, t.1)) (none_asked a s i.1 ask t.1 t.2.0 t.2) (ap (is_in_iov ask 0) (sym i.1.iov) ∙ t.3)

asked_only : (p : Protocol) (s : LiveSend) (ask : ReadAsk) → IsProtocol p s → IsOfRanges s.sent → may_be_asked_by ask s ≡ true → TakesAsk ask p
asked_only Whole s ask i r t = absurd (true≢false (sym (may_parts ask s t).0 ∙ i.0))
asked_only (Granted g) s ask i r t = absurd (true≢false (sym (may_parts ask s t).0 ∙ ap is_read i.0 ∙ long_not_read))
asked_only (Read a) s ask i r t =
    let m = may_parts ask s t in
    let f = i.1.from in
    let l = i.1.long in
    let from : a.from ≤ ask.at = omega (arith, m.2) in
    let within = ask_within ask s.sent r m.4 in
    let fits : ask.at - a.from + ask.length ≤ length a.unasked.places = omega arith in
    (m.1, from, all_missing a s i.1 ask from fits m.3, ap (is_in_iov ask 0) i.1.iov ∙ m.4)

pub may_be_asked : MayBeAsked
may_be_asked x s ask i = (asked_if x.protocol s ask i.protocol, asked_only x.protocol s ask i.protocol i.ranges)

-- ---- an ask, and room for one

-- room, by its protocol
room_by : (p : Protocol) (s : LiveSend) → IsProtocol p s → IsProtocol (asks_changed A.with_room p) s
unfolding asks_changed
room_by Whole s i = i
room_by (Granted g) s i = i
room_by (Read a) s i = (i.0, record { from = i.1.from; iov = i.1.iov; long = i.1.long; asked = i.1.asked; owes = i.1.owes })

pub room_is_kept : RoomIsKept
room_is_kept x s i = record { to = i.to; message = i.message; parts = i.parts; total = i.total; ranges = i.ranges; given = i.given; protocol = room_by x.protocol s i.protocol }

-- a place was asked for
asks_place : (ask : ReadAsk) (place : ℕ) → ask.at ≤ place → place < ask.at + ask.length → is_asked ask place ≡ true
unfolding is_asked
asks_place ask place p q = and_from _ _ (le-leb ask.at place p) (lt-ltb place (ask.at + ask.length) q)

-- and another was not
spares_place : (ask : ReadAsk) (place : ℕ) → (place < ask.at) ⊎ (ask.at + ask.length ≤ place) → is_asked ask place ≡ false
unfolding is_asked
spares_place ask place (inl p) = ap (λ b. b && nat_lt place (ask.at + ask.length)) (lt-leb ask.at place p)
spares_place ask place (inr q) = and_right (nat_le ask.at place) _ (le-ltb place (ask.at + ask.length) q)

-- the places that were asked for once these are too
asked_more : (a : Asks) (s : LiveSend) (ask : ReadAsk) → AreAsks a s → MayAsk a ask → (k : ℕ) → k < length a.unasked.places
    → (s.was_asked (a.from + k) || is_asked ask (a.from + k)) ≡ not (get_or (with_range false (ask.at - a.from) ask.length a.unasked.places) k false)
asked_more a s ask i m k lt =
    let off : ℕ = ask.at - a.from in
    let from : a.from ≤ ask.at = m.1 in
    by_range off ask.length k
    (λ p q.
    ap (λ b. s.was_asked (a.from + k) || b) (asks_place ask (a.from + k) (omega arith) (omega arith))
    ∙ or_true (s.was_asked (a.from + k))
    ∙ sym (ap (λ b. not b) (set_in false off ask.length a.unasked.places m.2.0 k p q)))
    (λ o.
    ap (λ b. s.was_asked (a.from + k) || b) (spares_place ask (a.from + k) (aside from o))
    ∙ or_none (s.was_asked (a.from + k)) ∙ i.asked k lt
    ∙ sym (ap (λ b. not b) (set_out false off ask.length a.unasked.places m.2.0 k o)))
  where
    aside : a.from ≤ ask.at → (k < ask.at - a.from) ⊎ (ask.at - a.from + ask.length ≤ k) → (a.from + k < ask.at) ⊎ (ask.at + ask.length ≤ a.from + k)
    aside from (inl p) = inl (omega arith)
    aside from (inr q) = inr (omega arith)

-- an ask, by its protocol
ask_by : (p : Protocol) (s : LiveSend) (ask : ReadAsk) → IsProtocol p s → TakesAsk ask p → IsProtocol (asks_changed (λ a. A.with_reserved_ask a ask) p) (life.with_ask ask s)
unfolding asks_changed
ask_by Whole s ask i t = absurd t
ask_by (Granted g) s ask i t = absurd t
ask_by (Read a) s ask i t =
    let size : length (with_range false (ask.at - a.from) ask.length a.unasked.places) ≡ length a.unasked.places = length-set false (ask.at - a.from) ask.length a.unasked.places t.2.0 in
    let long = i.1.long in (
      i.0,
      record {
        from = i.1.from;
        iov = i.1.iov;
        long = omega arith;
        asked = λ k lt. asked_more a s ask i.1 t k (omega arith);
        owes = ap (λ n. n + 1) i.1.owes;
      },
    )

pub asks_as_kept : AsksAsKept
asks_as_kept x s ask i t = record { to = i.to; message = i.message; parts = i.parts; total = i.total; ranges = i.ranges; given = i.given; protocol = ask_by x.protocol s ask i.protocol t }

-- ---- answers

pub gives_as_kept : GivesAsKept
unfolding given_of
gives_as_kept x s from ask i =
    let size : ask.at + ask.length - ask.at ≡ ask.length = omega arith in
    ap (λ (n : ℕ). (record { to = from; item = Gives (record { recv_id = ask.recv_id; at = ask.at; bytes = take n (drop ask.at s.sent.message.bytes) }); gives = Some s.sent.number }) ∷ []) (sym size)
    ∙ ap (λ (n : ℕ). (record { to = from; item = Gives (record { recv_id = ask.recv_id; at = ask.at; bytes = take (ask.at + ask.length - ask.at) (drop ask.at s.sent.message.bytes) }); gives = Some n }) ∷ []) (sym i.message.number)

-- an answer, by its protocol
answer_by : (p : Protocol) (s : LiveSend) → IsProtocol p s → OwesAnswer p → (0 < s.owes) × IsProtocol (asks_changed A.with_answer p) (life.with_answer s)
unfolding asks_changed
answer_by Whole s i t = absurd t
answer_by (Granted g) s i t = absurd t
answer_by (Read a) s i t =
    let owes = i.1.owes in
    (omega (arith, t), (i.0, record { from = i.1.from; iov = i.1.iov; long = i.1.long; asked = i.1.asked; owes = ap (λ n. n - 1) owes }))

pub answers_as_kept : AnswersAsKept
answers_as_kept x s i t =
    let a = answer_by x.protocol s i.protocol t in
    (a.0, record { to = i.to; message = i.message; parts = i.parts; total = i.total; ranges = i.ranges; given = i.given; protocol = a.1 })
