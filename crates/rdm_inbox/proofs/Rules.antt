-- What a step of an inbox needs and tells, at the pass of a sender or a reader.
use Rattle.std.proofs.Common.{◌≡◌, ℕ, ◌<◌, List, [], ◌∷◌, ◌++◌, length, sym, refl, ap, ◌∙◌, arith, Result, Ok, Err, MatchResult, Option, Some, None, MatchOption}
use Rattle.atomic_table.specs.Seated.{TableId}
use Rattle.crossbeam_queue.specs.Fifo.{Pushes, Pops, Forks, Merges, Held}
use Rattle.rdm_wire.specs.declared.Datagram.{Datagram}
use Rattle.rdm_inbox.specs.declared.post.ReaderPost.{ReaderPost}
use Rattle.rdm_inbox.specs.declared.post.Post.{Post}
use Rattle.rdm_inbox.specs.declared.post.Post.TheVariants.{Sender, Reader, Nobody}
use Rattle.rdm_inbox.specs.Senders.{from_port, list_at, joined}
use Rattle.rdm_inbox.specs.Letters.{Letters, with_put, with_full_for, with_taken_out, with_empty, after_full, after_empty, without_last, last_sender, taken_in, settled, IsLeft, MayHoldFor, DoesSend, DoesTake, DoesPut, DoesTakeOut, IsWhole, IsFirst}
use Rattle.rdm_inbox.specs.Passes.{ReadState, sender_of, reader_of, IsSender, IsReader}
use Rattle.rdm_inbox.proofs.Flights.{length-joined}
use Rattle.rdm_inbox.proofs.Steps.{sends, takes, leaves, joins}
use Rattle.rdm_inbox.proofs.Wholes.{puts, takes_out, settles, taken_and_left}

pub sends_as : (n pass : ℕ) (v : Post) (d : Datagram) → IsSender v → d.src.0 ≡ (sender_of v).from → d.dst.0 ≡ (sender_of v).port → Pushes Letters n pass v d (DoesSend v d)
sends_as n pass (Sender s) d is src dst = sends n pass s d src dst
sends_as n pass (Reader r) d is src dst = absurd (cc)
sends_as n pass Nobody d is src dst = absurd (cc)

pub takes_as : (pass : ℕ) (v : Post) → IsReader v → Pops Letters pass v (DoesTake v)
takes_as pass (Sender s) is = absurd (cc)
takes_as pass (Reader r) is = takes pass r
takes_as pass Nobody is = absurd (cc)

pub puts_as : (n pass : ℕ) (v : Post) (d : Datagram) → IsReader v → IsWhole (reader_of v) → d.src.0 < (reader_of v).ports → d.dst.0 ≡ (reader_of v).port → (reader_of v).size ≡ n → Pushes Letters n pass v d (DoesPut v d)
puts_as n pass (Sender s) d is whole src dst size = absurd (cc)
puts_as n pass (Reader r) d is whole src dst size = puts n pass r d src dst whole.0 whole.1 size
puts_as n pass Nobody d is whole src dst size = absurd (cc)

pub takes_out_as : (pass : ℕ) (v : Post) → IsReader v → IsWhole (reader_of v) → Pops Letters pass v (DoesTakeOut v)
takes_out_as pass (Sender s) is whole = absurd (cc)
takes_out_as pass (Reader r) is whole = takes_out pass r whole.0 whole.1
takes_out_as pass Nobody is whole = absurd (cc)

pub leaves_as : (pass : ℕ) (v : Post) → IsReader v → 0 < length (reader_of v).known → Forks Letters pass v (without_last v) (last_sender v)
leaves_as pass (Sender s) is has = absurd (cc)
leaves_as pass (Reader r) is has = leaves pass r has
leaves_as pass Nobody is has = absurd (cc)

pub joins_as : (pass : ℕ) (v : Post) (other : ℕ) (u : Post) → IsReader v → IsSender u → (sender_of u).from ≡ length (reader_of v).known → Merges Letters pass v other u (taken_in v u) Nobody
joins_as pass (Reader r) other (Sender s) is its next = joins pass r other s next
joins_as pass (Reader r) other (Reader t) is its next = absurd (cc)
joins_as pass (Reader r) other Nobody is its next = absurd (cc)
joins_as pass (Sender s) other u is its next = absurd (cc)
joins_as pass Nobody other u is its next = absurd (cc)

pub settles_as : (pass : ℕ) (v : Post) → IsReader v → length (reader_of v).known ≡ (reader_of v).ports → Forks Letters pass v (settled v) Nobody
settles_as pass (Sender s) is whole = absurd (cc)
settles_as pass (Reader r) is whole = settles pass r whole
settles_as pass Nobody is whole = absurd (cc)

-- a reader's pass, as contracts see it
abbrev seen : TableId → Post → ReadState
seen t v = record { table = t; post = reader_of v }

same_seen : (t t' : TableId) (w : Post) (r : ReaderPost) → t' ≡ t → w ≡ Reader r → seen t' w ≡ record { table = t; post = r }
same_seen t t' w r e is = cc (ap reader_of is)

-- as many were in flight as the moment of the call showed
held_count : (r : ReaderPost) (n : ℕ) → IsWhole r → Held n (MayHoldFor r) → length (joined r.known) ≡ n
held_count r n whole held = length-joined r.port r.ports held.0 r.known held.2.0 whole.0 (λ p lt. ap (λ l. from_port p (l ++ held.0)) (sym whole.1) ∙ held.2.1 p (let e = whole.0 in omega arith)) ∙ held.1

none_joined : (l : List Datagram) → length l ≡ 0 → l ≡ []
none_joined [] e = refl
none_joined (d ∷ l) e = absurd (omega arith)

-- what a push by a pass that has all senders tells
pub put_answer : (n : ℕ) (t t' : TableId) (v w : Post) (d : Datagram) (result : Result (Unit {0}) Datagram) → t' ≡ t → IsReader v → IsWhole (reader_of v) → (reader_of v).size ≡ n
    → MatchResult result (λ _. DoesPut v d w) (λ back. (back ≡ d) × (w ≡ after_full v) × Held n (IsLeft v))
    → MatchResult result (λ _. (seen t' w ≡ record { table = t; post = with_put (reader_of v) d }) × (length (joined (reader_of v).known) < n))
    (λ back. (back ≡ d) × (seen t' w ≡ record { table = t; post = with_full_for (reader_of v) }) × (length (joined (reader_of v).known) ≡ n))
put_answer n t t' (Reader r) w d (Ok x) e is whole size told = (same_seen t t' w (with_put r d) e told.0, let few = told.1 in omega arith)
put_answer n t t' (Reader r) w d (Err back) e is whole size told = (told.0, same_seen t t' w (with_full_for r) e told.1, held_count r n whole told.2)
put_answer n t t' (Sender s) w d result e is whole size told = absurd (cc)
put_answer n t t' Nobody w d result e is whole size told = absurd (cc)

-- what a pop by it tells
pub take_out_answer : (t t' : TableId) (v w : Post) (result : Option Datagram) → t' ≡ t → IsReader v → IsWhole (reader_of v)
    → MatchOption result ((w ≡ after_empty v) × Held 0 (IsLeft v)) (λ d. DoesTakeOut v d w)
    → MatchOption result ((seen t' w ≡ record { table = t; post = with_empty (reader_of v) }) × (joined (reader_of v).known ≡ []))
    (λ d. (seen t' w ≡ record { table = t; post = with_taken_out (reader_of v) d }) × IsFirst (reader_of v) d)
take_out_answer t t' (Reader r) w None e is whole told = (same_seen t t' w (with_empty r) e told.0, none_joined (joined r.known) (held_count r 0 whole told.1))
take_out_answer t t' (Reader r) w (Some d) e is whole told = (same_seen t t' w (with_taken_out r d) e told.0, told.1)
take_out_answer t t' (Sender s) w result e is whole told = absurd (cc)
take_out_answer t t' Nobody w result e is whole told = absurd (cc)

-- what settling leaves
pub settle_answer : (v w : Post) (items : List Datagram) → IsReader v → length (reader_of v).known ≡ (reader_of v).ports → IsLeft v items → w ≡ settled v
    → (p : ℕ) → p < (reader_of v).ports → from_port p (reader_of v).taken ++ list_at (reader_of w).known p ≡ list_at (reader_of v).known p
settle_answer (Reader r) w items is whole left told p lt = ap (λ u. from_port p r.taken ++ list_at (reader_of u).known p) told ∙ taken_and_left r items left p (omega arith)
settle_answer (Sender s) w items is whole left told p lt = absurd (cc)
settle_answer Nobody w items is whole left told p lt = absurd (cc)
