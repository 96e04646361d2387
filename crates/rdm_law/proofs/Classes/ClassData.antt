-- Granted bytes and read bytes that arrive are for a live receive that takes them: no NoOp.
use Rattle.std.proofs.Common.{◌≡◌, ℕ, ◌<◌, Bool, true, false, List, length, take, drop, Option, Some, refl, arith, sym, ◌∙◌, ap}
use Rattle.std.specs.Prelude.{is_some}
use Rattle.std.proofs.lemmas.Bool.{and_parts, and_right, leb-true, not_from_true, false_from_ne_true}
use Rattle.std.proofs.lemmas.List.{length-take, length-drop}
use Rattle.rdm_lists.specs.Lists.{Member}
use Rattle.rdm_num.specs.Pieces.{Piece, byte_at, covers}
use Rattle.rdm_num.specs.declared.numbers.Life.{Life}
use Rattle.rdm_num.specs.declared.numbers.OpId.{OpId}
use Rattle.rdm_num.specs.declared.numbers.Connid.{Connid}
use Rattle.rdm_num.specs.declared.limits.EpLimits.{EpLimits}
use Rattle.rdm_num.specs.declared.head.Head.{Head}
use Rattle.rdm_num.specs.declared.head.Shape.{Shape}
use Rattle.rdm_pkt.specs.declared.Packet.TheVariants.{CtsData}
use Rattle.rdm_pkt.specs.declared.Kind.{Kind}
use Rattle.rdm_pkt.specs.declared.Kind.TheVariants.{Eager, Medium, LongCts, LongRead, Runt}
use Rattle.rdm_pkt.specs.Openings.{Message, message_head, shape_by}
use Rattle.rdm_match.specs.Matcher.{Pair, is_pair}
use Rattle.rdm_wire.specs.declared.Datagram.{Datagram}
use Rattle.rdm_wire.specs.declared.ReadData.{ReadData}
use Rattle.rdm_model.specs.declared.job.Job.{Job}
use Rattle.rdm_model.specs.declared.entry.Entry.{Entry}
use Rattle.rdm_model.specs.Deeds.{Deed, Item, Spelled, Gives}
use Rattle.rdm_model.specs.Beginnings.{own_of}
use Rattle.rdm_model.specs.Jobs.{is_fair, law_ops, limits_fit, is_within}
use Rattle.rdm_model.specs.Parts.{piece_by, carried_pieces, has_landed}
use Rattle.rdm_model.specs.Receives.{is_filled}
use Rattle.rdm_model.specs.Grants.{data_room}
use Rattle.rdm_model.specs.Sends.{Sent}
use Rattle.rdm_model.specs.Targets.{live_pair, is_long_shape, is_read_shape, has_shape}
use Rattle.rdm_model.specs.ClassFacts.{class_facts}
use Rattle.rdm_model.specs.Classes.{is_no_op}
use Rattle.rdm_model.specs.Dues.{is_read}
use Rattle.rdm_model.specs.Currents.{is_forgotten}
use Rattle.rdm_model.specs.Lawful.{life_deeds}
use Rattle.rdm_model.proofs.Matches.{pair_passes}
use Rattle.rdm_law.proofs.Accounts.Wired.{own_life}
use Rattle.rdm_law.proofs.Accounts.Known.{account, known_one}
use Rattle.rdm_law.proofs.Accounts.Named.{pairs_of, head_length, head_shape}
use Rattle.rdm_law.proofs.Accounts.Chains.{data_went, data_known, given_went, given_known}
use Rattle.rdm_law.proofs.Accounts.Pieces.{PieceOf, item_piece}
use Rattle.rdm_law.proofs.Accounts.Whole.{byte_of_piece}
use Rattle.rdm_law.proofs.Ends.Live.{live_unless, live_pair_from}
use Rattle.rdm_law.proofs.Accounts.Arrives.{Arrives, arriving_scene}
use Rattle.rdm_law.proofs.Classes.Fresh.{in_range, taken_before, piece_once, piece_within, came_before}
use Rattle.rdm_law.proofs.Classes.ClassOverlap.{HeadKnown, data_brings, given_brings}
use Rattle.rdm_law.proofs.Classes.ClassKeys.{not_forgotten_here, sent_size}
use Rattle.rdm_law.proofs.Windows.Allowed.{allowed_within}
use Rattle.rdm_lists.proofs.Options.{some_of}
use Rattle.rdm_lists.proofs.Below.{each_below_at}

-- a message of which bytes arrive has not come whole
pub not_landed : (job : Job) (history : List Entry) (to from : Life) (n : ℕ) (x : Piece) (item : Item) (d : Datagram) → (a : Arrives job history to from item d)
    → PieceOf job history to from n x a.taken.place → HeadKnown job history to from n → 0 < length x.bytes
    → has_landed (own_of job to).limits.first (account job history to).head (life_deeds job history to) from n ≡ false
unfolding has_landed covers
not_landed job history to from n x item d a p k some =
    let ps = carried_pieces (own_of job to).limits.first (account job history to).head (life_deeds job history to) from n in
    let same : p.known.sent ≡ k.known.sent = known_one job history to from n p.known k.known in
    let size : ((account job history to).head from n).length ≡ length k.known.sent.message.bytes = ap (λ (h : Head). h.length) k.head_is ∙ head_length job.limits k.known.sent.message k.known.sent.kind in
    let within = piece_within job history to from n x a.taken.place a.played p in
    let e : length p.known.sent.message.bytes ≡ length k.known.sent.message.bytes = ap (λ (s : Sent). length s.message.bytes) same in
    false_from_ne_true (covers ps ((account job history to).head from n).length) (λ h.
    let there = each_below_at (λ place. is_some (byte_at ps place)) ((account job history to).head from n).length x.offset h (omega arith) in
    let b = some_of (byte_at ps x.offset) there in
    let q = byte_of_piece ps x.offset b.0 b.1 in
    let c = came_before job history to from n q.0 a.played q.1 in
    absurd (taken_before job history to from item c.item d a c.taken
    (piece_once job history to from n q.0 x c.taken.taken.place a.taken.place x.offset a.played c.piece p (in_range q.0 x.offset b.0 q.2) (omega arith, omega arith))))

-- the receive for which bytes arrive is live
pub live_for : (job : Job) (history : List Entry) (to from : Life) (p : Pair) (recv : ℕ) (x : Piece) (item : Item) (d : Datagram) (ports : ℕ) (port_log : List Deed) → (a : Arrives job history to from item d)
    → Member p (pairs_of job history to) → p.recv.id.0 ≡ recv → p.message.life ≡ from
    → ((n : ℕ) → is_pair (pairs_of job history to) recv from n ≡ true → piece_by (pairs_of job history to) from n item ≡ Some x)
    → HeadKnown job history to from p.message.no.0 → 0 < length x.bytes
    → live_pair (arriving_scene job history to ports port_log) from recv ≡ Some p
unfolding is_filled
live_for job history to from p recv x item d ports port_log a m r l brings k some =
    let is = pair_passes (pairs_of job history to) p recv from p.message.no.0 m r l refl in
    let piece = item_piece job history to from p.message.no.0 x item d a.played a.taken (brings p.message.no.0 is) in
    let landed = not_landed job history to from p.message.no.0 x item d a piece k some in
    let first = (own_of job to).limits.first in
    let heads = (account job history to).head in
    let log = life_deeds job history to in
    let filled : is_filled first heads log p ≡ false =
    and_right (is_pair (pairs_of job history to) p.recv.id.0 p.message.life p.message.no.0) (has_landed first heads log p.message.life p.message.no.0)
    (ap (λ (y : Life). has_landed first heads log y p.message.no.0) l ∙ landed) in
    let kept = ap (λ (y : Life). is_forgotten log y) l ∙ not_forgotten_here job history to from item d a in
    let live = live_unless (own_of job to) log p (own_life job history a.played to) m filled kept in
    ap (λ (y : Life). live_pair (arriving_scene job history to ports port_log) y recv) (sym l)
    ∙ ap (λ (n : ℕ). live_pair (arriving_scene job history to ports port_log) p.message.life n) (sym r)
    ∙ live_pair_from (arriving_scene job history to ports port_log) p m live

-- the shape of a pair's message passes the test that its protocol does
shape_at : (job : Job) (history : List Entry) (to : Life) (ports : ℕ) (port_log : List Deed) (test : Shape → Bool) (p : Pair) (m : Message) (kind : Kind) (o : Option Pair) → o ≡ Some p
    → (account job history to).head p.message.life p.message.no.0 ≡ message_head job.limits m kind → test (shape_by job.limits m kind) ≡ true
    → has_shape (arriving_scene job history to ports port_log) test o ≡ true
unfolding has_shape
shape_at job history to ports port_log test p m kind o e h t =
    ap (has_shape (arriving_scene job history to ports port_log) test) e ∙ ap (λ (y : Head). test y.shape) h ∙ ap test (head_shape job.limits m kind) ∙ t

-- a granted message is long
long_shape : (limits : EpLimits) (m : Message) (kind : Kind) → kind ≡ LongCts → is_long_shape (shape_by limits m kind) ≡ true
unfolding is_long_shape shape_by
long_shape limits m kind e = rw e refl

-- a read message is read
read_shape : (limits : EpLimits) (m : Message) (kind : Kind) → is_read kind ≡ true → is_read_shape (shape_by limits m kind) ≡ true
unfolding is_read_shape shape_by is_read
read_shape limits m LongRead h = refl
read_shape limits m (Runt runt) h = refl
read_shape limits m Eager h = cc
read_shape limits m Medium h = cc
read_shape limits m LongCts h = cc

-- packets of granted bytes have room in a fair job
pub fair_room : (job : Job) → is_fair law_ops job ≡ true → 0 < data_room job.limits
unfolding is_fair limits_fit is_within data_room
fair_room job h = let low = leb-true 256 job.limits.mtu (and_parts _ _ (and_parts _ _ (and_parts _ _ (and_parts _ _ (and_parts _ _ (and_parts _ _ (and_parts _ _ (and_parts _ _ (and_parts _ _ (and_parts _ _ (and_parts _ _ (and_parts _ _ (and_parts _ _ (and_parts _ _ (and_parts _ _ h).0).0).0).0).0).0).0).0).0).0).0).0).0).0).0 in omega arith

-- the sender's headers leave room
own_room : (job : Job) (l : Life) → data_room (own_of job l).limits ≡ data_room job.limits
unfolding own_of data_room
own_room job l = refl

-- granted bytes that arrive are for a live receive
pub data_op_free : (job : Job) (history : List Entry) (to from : Life) (recv : OpId) (offset : ℕ) (connid : Connid) (bytes : List ℕ) (d : Datagram)
    → Arrives job history to from (Spelled (CtsData recv offset connid bytes)) d → (ports : ℕ) (port_log : List Deed)
    → is_no_op (class_facts (arriving_scene job history to ports port_log)) from (Spelled (CtsData recv offset connid bytes)) ≡ false
unfolding is_no_op
data_op_free job history to from recv offset connid bytes d a ports port_log =
    let own = own_of job from in
    let log = life_deeds job history from in
    let w = data_went job history to from recv offset connid bytes d a.taken in
    let g = data_known job history to from recv offset connid bytes a.taken.place a.played w in
    let room : 0 < data_room own.limits = (let e = own_room job from in let f = fair_room job a.played.fair in omega arith) in
    let fit = allowed_within own log w.sent (own_life job history a.played from) w.member in
    let has : 0 < length w.push.bytes = w.push.has_byte room fit in
    let is = w.push.is in
    let same : bytes ≡ w.push.bytes = cc in
    let some : 0 < length bytes = (let e = ap length same in omega arith) in
    let s : Sent = w.sent in
    let k : HeadKnown job history to from g.pair.message.no.0 = record {
      known = g.known;
      head_is = ap (λ (y : Life). (account job history to).head y g.pair.message.no.0) (sym g.life_is) ∙ g.head_is ∙ ap (λ (y : Sent). message_head job.limits y.message y.kind) (sym g.sent_is);
    } in
    let live = live_for job history to from g.pair recv.0 (record { offset = offset; bytes = bytes }) (Spelled (CtsData recv offset connid bytes)) d ports port_log a g.member g.recv_is g.life_is
    (data_brings (pairs_of job history to) from recv offset connid bytes) k some in
    not_from_true (has_shape (arriving_scene job history to ports port_log) is_long_shape (live_pair (arriving_scene job history to ports port_log) from recv.0))
    (shape_at job history to ports port_log is_long_shape g.pair s.message s.kind (live_pair (arriving_scene job history to ports port_log) from recv.0) live g.head_is (long_shape job.limits s.message s.kind g.long))

-- read bytes that arrive are for a live receive
pub given_op_free : (job : Job) (history : List Entry) (to from : Life) (g : ReadData) (d : Datagram)
    → Arrives job history to from (Gives g) d → (ports : ℕ) (port_log : List Deed)
    → is_no_op (class_facts (arriving_scene job history to ports port_log)) from (Gives g) ≡ false
unfolding is_no_op
given_op_free job history to from g d a ports port_log =
    let w = given_went job history to from g d a.taken in
    let k = given_known job history to from g a.taken.place a.played w in
    let s : Sent = w.of.sent in
    let recv : k.pair.recv.id.0 ≡ g.recv_id.0 = k.recv_is ∙ ap (λ (y : ReadData). y.recv_id.0) (sym w.of.is) in
    let size = sent_size job history from s a.played w.of.member in
    let l : length g.bytes ≡ length (take w.of.ask.length (drop w.of.ask.at s.message.bytes)) = ap (λ (y : ReadData). length y.bytes) w.of.is in
    let t = length-take w.of.ask.length (drop w.of.ask.at s.message.bytes) in
    let u = length-drop w.of.ask.at s.message.bytes in
    let to' = k.ask_of.to in
    let one = k.ask_of.has_byte in
    let some : 0 < length g.bytes = omega arith in
    let h : HeadKnown job history to from k.pair.message.no.0 = record {
      known = k.known;
      head_is = ap (λ (y : Life). (account job history to).head y k.pair.message.no.0) (sym k.life_is) ∙ k.head_is ∙ ap (λ (y : Sent). message_head job.limits y.message y.kind) (sym k.sent_is);
    } in
    let live = live_for job history to from k.pair g.recv_id.0 (record { offset = g.at; bytes = g.bytes }) (Gives g) d ports port_log a k.member recv k.life_is (given_brings (pairs_of job history to) from g) h some in
    not_from_true (has_shape (arriving_scene job history to ports port_log) is_read_shape (live_pair (arriving_scene job history to ports port_log) from g.recv_id.0))
    (shape_at job history to ports port_log is_read_shape k.pair s.message s.kind (live_pair (arriving_scene job history to ports port_log) from g.recv_id.0) live k.head_is (read_shape job.limits s.message s.kind k.ask_of.read))
