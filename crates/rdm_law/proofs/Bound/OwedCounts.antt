-- What a life owes: a greeting to each life that it took something from, what its pairs owe, and an answer to each ask.
use Rattle.std.proofs.Common.{◌≡◌, ℕ, zero, suc, ◌+◌, ◌-◌, ◌≤◌, min, max, Bool, true, false, cond, List, [], ◌∷◌, ◌++◌, length, Option, Some, None, refl, arith, ◌∙◌, ap}
use Rattle.std.specs.Prelude.{◌==◌}
use Rattle.std.specs.List.{flat_map}
use Rattle.std.proofs.lemmas.Bool.{eqb-false}
use Rattle.std.proofs.lemmas.List.{length-append, length-map}
use Rattle.rdm_lists.specs.Lists.{Member}
use Rattle.rdm_num.specs.declared.numbers.Life.{Life}
use Rattle.rdm_num.specs.declared.numbers.OpId.{OpId}
use Rattle.rdm_num.specs.declared.lists.IovEntry.{IovEntry}
use Rattle.rdm_num.specs.declared.limits.EpLimits.{EpLimits}
use Rattle.rdm_num.specs.declared.head.Head.{Head}
use Rattle.rdm_num.specs.declared.head.Shape.{Shape}
use Rattle.rdm_pkt.specs.declared.Kind.{Kind}
use Rattle.rdm_pkt.specs.declared.Kind.TheVariants.{Eager, Medium, LongCts, LongRead, Runt}
use Rattle.rdm_pkt.specs.Openings.{Message, shape_by}
use Rattle.rdm_match.specs.Matcher.{Pair, is_pair}
use Rattle.rdm_wire.specs.declared.ReadAsk.{ReadAsk}
use Rattle.rdm_model.specs.declared.job.Job.{Job}
use Rattle.rdm_model.specs.declared.entry.Entry.{Entry}
use Rattle.rdm_model.specs.Deeds.{Deed, Did, PushedNote, Pushed, TookNote, Took, Polled, Nothing, Spelled, Asks, Gives, Garbled, deed_count}
use Rattle.rdm_model.specs.Beginnings.{Own, Heads, Messages, own_of}
use Rattle.rdm_model.specs.Matches.{pairs}
use Rattle.rdm_model.specs.Reads.{ask_room, asks_in, asks_from}
use Rattle.rdm_model.specs.Replies.{reply, handshake_by, asks_for, pair_items, pair_replies, given_of, given_by, replies_by}
use Rattle.rdm_model.specs.Sends.{Sent, sends}
use Rattle.rdm_model.specs.Lawful.{life_deeds}
use Rattle.rdm_model.proofs.Matches.{pairs_extend, member_is_pair}
use Rattle.rdm_law.proofs.Accounts.Wired.{Played}
use Rattle.rdm_law.proofs.Accounts.Known.{account}
use Rattle.rdm_law.proofs.Accounts.Named.{pairs_of, pair_known, head_length, head_shape}
use Rattle.rdm_law.proofs.Replies.Asks.{iov_bytes}
use Rattle.rdm_law.proofs.Classes.ClassKeys.{sent_size}
use Rattle.rdm_law.proofs.Replies.Owed.{shape_in, recv_in}
use Rattle.rdm_law.proofs.Replies.Queue.{owed}
use Rattle.rdm_law.proofs.Bound.Totals.{asks_taken_by}
use Rattle.rdm_law.proofs.Bound.SeenLives.{seen_new, seen_lives, greeted}
use Rattle.rdm_law.proofs.Bound.PairCounts.{item_count, pair_bound}
use Rattle.rdm_lists.proofs.Sums.{total, total-append, total_le, total_plus}

-- a list of lists in a row is as long as they are together
flat_length : {A B : Type 0} (f : A → List B) (xs : List A) → length (flat_map f xs) ≡ total (λ x. length (f x)) xs
unfolding total
flat_length f [] = refl
flat_length f (x ∷ xs) = let l = length-append (f x) (flat_map f xs) in let r = flat_length f xs in omega arith

-- one ask has one answer at most
given_one : (from : Life) (a : ReadAsk) (o : Option Sent) → length (given_of from a o) ≤ 1
unfolding given_of
given_one from a None = omega arith
given_one from a (Some s) = omega arith

-- an ask is answered once
given_count : (sents : List Sent) (d : Deed) → length (given_by sents d) ≤ asks_taken_by d
unfolding given_by asks_taken_by
given_count sents (Took from (Asks ask)) = given_one from ask _
given_count sents (Took from (Spelled p)) = omega arith
given_count sents (Took from (Gives g)) = omega arith
given_count sents (Took from Garbled) = omega arith
given_count sents (Did instr) = omega arith
given_count sents PushedNote = omega arith
given_count sents Pushed = omega arith
given_count sents (TookNote from note) = omega arith
given_count sents Polled = omega arith
given_count sents Nothing = omega arith

-- what a deed makes owed
replies_count : (own : Own) (heads : Heads) (sents : List Sent) (d : Deed) (before : List Deed)
    → length (replies_by own heads sents d before) ≤ length (seen_new own before d) + total (λ p. length (pair_items own heads d before p)) (pairs own.limits.first heads (d ∷ before)) + asks_taken_by d
unfolding replies_by pair_replies
replies_count own heads sents d before =
    let ps = pairs own.limits.first heads (d ∷ before) in
    let shakes = handshake_by own before d in
    let mine = flat_map (pair_replies own heads d before) ps in
    let l1 = length-append (shakes ++ mine) (given_by sents d) in
    let l2 = length-append shakes mine in
    let g = greeted own before d in
    let f = flat_length (pair_replies own heads d before) ps in
    let k = total_le (λ p. length (pair_replies own heads d before p)) (λ p. length (pair_items own heads d before p)) ps (λ p m. let e = length-map (pair_items own heads d before p) (reply p.message.life) in omega arith) in
    let a = given_count sents d in
    omega arith

-- a pair that is there owes what a deed makes it owe
item_step : (own : Own) (heads : Heads) (d : Deed) (before : List Deed) (p : Pair) → Member p (pairs own.limits.first heads (d ∷ before))
    → item_count own heads p before + length (pair_items own heads d before p) ≤ item_count own heads p (d ∷ before)
unfolding item_count
item_step own heads d before p m =
    let is = member_is_pair (pairs own.limits.first heads (d ∷ before)) p m in
    let e : cond (is_pair (pairs own.limits.first heads (d ∷ before)) p.recv.id.0 p.message.life p.message.no.0) (length (pair_items own heads d before p)) 0 ≡ length (pair_items own heads d before p) =
    ap (λ (b : Bool). cond b (length (pair_items own heads d before p)) 0) is in
    omega arith

-- and so do all pairs together
pairs_step : (own : Own) (heads : Heads) (d : Deed) (before : List Deed)
    → total (λ p. item_count own heads p before) (pairs own.limits.first heads before) + total (λ p. length (pair_items own heads d before p)) (pairs own.limits.first heads (d ∷ before))
    ≤ total (λ p. item_count own heads p (d ∷ before)) (pairs own.limits.first heads (d ∷ before))
pairs_step own heads d before =
    let ps = pairs own.limits.first heads (d ∷ before) in
    let more = pairs_extend own.limits.first heads d before in
    let wider : total (λ p. item_count own heads p before) ps ≡ total (λ p. item_count own heads p before) (pairs own.limits.first heads before) + total (λ p. item_count own heads p before) more.0 =
    ap (λ (xs : List Pair). total (λ p. item_count own heads p before) xs) more.1 ∙ total-append (λ p. item_count own heads p before) (pairs own.limits.first heads before) more.0 in
    let plus = total_plus (λ p. item_count own heads p before) (λ p. length (pair_items own heads d before p)) ps in
    let le = total_le (λ p. item_count own heads p before + length (pair_items own heads d before p)) (λ p. item_count own heads p (d ∷ before)) ps (λ p m. item_step own heads d before p m) in
    omega arith

-- what is owed: a greeting to each life, what pairs owe, an answer to each ask
owed_by : (own : Own) (ms : Messages) (log : List Deed)
    → length (owed own ms log) ≤ length (seen_lives own log) + total (λ p. item_count own ms.head p log) (pairs own.limits.first ms.head log) + deed_count asks_taken_by log
unfolding owed seen_lives deed_count
owed_by own ms [] = omega arith
owed_by own ms (d ∷ before) =
    let old = owed_by own ms before in
    let l = length-append (owed own ms before) (replies_by own ms.head (sends own ms before) d before) in
    let r = replies_count own ms.head (sends own ms before) d before in
    let s = length-append (seen_lives own before) (seen_new own before d) in
    let p = pairs_step own ms.head d before in
    omega arith

-- a part with a byte leaves less
some_left : (left n : ℕ) → (left ≡ 0 → ⊥) → n ≤ left - min left ask_room → suc n ≤ left
some_left zero n h le = absurd (h refl)
some_left (suc left) n h le = omega arith

-- asks of a range are no more than its bytes
asks_in_count : (fuel : ℕ) (send recv : OpId) (e : IovEntry) (into at left : ℕ) → length (asks_in fuel send recv e into at left) ≤ left
unfolding asks_in
asks_in_count zero send recv e into at left = omega arith
asks_in_count (suc fuel) send recv e into at left =
    let len : ℕ = min left ask_room in
    let rest = asks_in_count fuel send recv e (into + len) (at + len) (left - len) in
    let one : ReadAsk = record { send_id = send; recv_id = recv; key = e.key; offset = e.offset + into; length = len; at = at } in
    (elim (left == 0) as (λ b. (left == 0) ≡ b → length (cond b [] (one ∷ asks_in fuel send recv e (into + len) (at + len) (left - len))) ≤ left) [
      | true ↦ λ is. omega arith
      | false ↦ λ is. some_left left (length (asks_in fuel send recv e (into + len) (at + len) (left - len))) (eqb-false left 0 is) rest
    ]) refl

-- asks of a read list are no more than its bytes
asks_count : (send recv : OpId) (iov : List IovEntry) (begin from : ℕ) → length (asks_from send recv iov begin from) ≤ iov_bytes iov
unfolding asks_from iov_bytes
asks_count send recv [] begin from = omega arith
asks_count send recv (e ∷ es) begin from =
    let start : ℕ = max begin from in
    let here = asks_in_count (begin + e.length - start) send recv e (start - begin) start (begin + e.length - start) in
    let rest = asks_count send recv es (begin + e.length) from in
    let l = length-append (asks_in (begin + e.length - start) send recv e (start - begin) start (begin + e.length - start)) (asks_from send recv es (begin + e.length) from) in
    omega arith

-- and so are those of any message
asks_of_shape : (limits : EpLimits) (m : Message) (kind : Kind) (recv : OpId) → length (asks_for (shape_by limits m kind) recv) ≤ iov_bytes m.iov
unfolding asks_for shape_by
asks_of_shape limits m LongRead recv = asks_count m.send recv m.iov 0 0
asks_of_shape limits m (Runt runt) recv = asks_count m.send recv m.iov 0 runt
asks_of_shape limits m Eager recv = omega arith
asks_of_shape limits m Medium recv = omega arith
asks_of_shape limits m LongCts recv = omega arith

-- the asks of a pair are no more than its message has bytes
asks_bound : (job : Job) (history : List Entry) (l : Life) (p : Pair) → Played job history → Member p (pairs_of job history l)
    → length (asks_for (shape_in (account job history l).head p) (recv_in p)) ≤ ((account job history l).head p.message.life p.message.no.0).length
asks_bound job history l p played m =
    let k = pair_known job history l p played m in
    let s : Sent = k.known.sent in
    let shape : shape_in (account job history l).head p ≡ shape_by job.limits s.message s.kind = ap (λ (h : Head). h.shape) k.head_is ∙ head_shape job.limits s.message s.kind in
    let size : ((account job history l).head p.message.life p.message.no.0).length ≡ length s.message.bytes = ap (λ (h : Head). h.length) k.head_is ∙ head_length job.limits s.message s.kind in
    let iov = sent_size job history p.message.life s played k.known.member in
    let e = ap (λ (h : Shape). length (asks_for h (recv_in p))) shape in
    let a = asks_of_shape job.limits s.message s.kind (recv_in p) in
    omega arith

-- a life owes no more than the lives that it took something from, the bytes of its matched messages and one each, and the asks that it took
pub owed_counted : (job : Job) (history : List Entry) (l : Life) → Played job history
    → length (owed (own_of job l) (account job history l) (life_deeds job history l)) ≤ length (seen_lives (own_of job l) (life_deeds job history l))
    + total (λ p. 1 + ((account job history l).head p.message.life p.message.no.0).length) (pairs_of job history l) + deed_count asks_taken_by (life_deeds job history l)
owed_counted job history l played =
    let own = own_of job l in
    let ms = account job history l in
    let log = life_deeds job history l in
    let o = owed_by own ms log in
    let t = total_le (λ p. item_count own ms.head p log) (λ p. 1 + (ms.head p.message.life p.message.no.0).length) (pairs_of job history l) (λ p m. pair_bound own ms.head p log (asks_bound job history l p played m)) in
    omega arith
