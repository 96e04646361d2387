-- A new send is the one that the record has last.
use Rattle.std.proofs.Common.{◌≡◌, ℕ, ◌+◌, ◌-◌, ◌≤◌, Bool, true, false, List, [], length, map, Option, None, refl, sym, ap, subst, ◌∙◌, arith}
use Rattle.std.specs.Prelude.{nat_le, min, not, is_some}
use Rattle.std.proofs.lemmas.Bool.{true≢false, le-leb}
use Rattle.std.proofs.lemmas.List.{length-map, length-take, length-replicate, get_or-replicate}
use Rattle.std.proofs.lemmas.List.Concat.{length-flat_map}
use Rattle.rdm_lists.specs.Lists.{below}
use Rattle.rdm_lists.proofs.Below.{length-below}
use Rattle.rdm_lists.proofs.Sums.{sum_total, total_same}
use Rattle.rdm_num.specs.Pieces.{piece_bytes}
use Rattle.rdm_num.specs.declared.limits.EpLimits.{EpLimits}
use Rattle.rdm_num.specs.declared.numbers.Life.{Life}
use Rattle.rdm_num.specs.declared.parts.Span.{Span as Range}
use Rattle.rdm_num.specs.declared.request.SendReq.{SendReq}
use Rattle.rdm_pkt.specs.declared.Form.TheVariants as F
use Rattle.rdm_pkt.specs.declared.Kind.{Kind}
use Rattle.rdm_pkt.specs.declared.Kind.TheVariants.{Eager, Medium, LongCts, LongRead, Runt}
use Rattle.rdm_pkt.specs.declared.Packet.{Packet}
use Rattle.rdm_pkt.specs.declared.Packet.TheVariants.{Rtm}
use Rattle.rdm_pkt.specs.Choice.{choose, eager_room}
use Rattle.rdm_pkt.specs.Openings.{openings, room_in, rtm, long_cts_form}
use Rattle.rdm_model.specs.Beginnings.{Own}
use Rattle.rdm_model.specs.Dues.{is_read, pieces_in}
use Rattle.rdm_model.specs.Sends.{Sent, new_sent, read_list, wants_raw}
use Rattle.rdm_model.specs.Targets.{is_long, read_from}
use Rattle.rdm_model.proofs.Opens.{openings_bytes, opened_bytes}
use Rattle.rdm_law.proofs.Fits.Spans.{read_list_total}
use Rattle.rdm_law.proofs.Replies.Asks.{iov_bytes}
use Rattle.rdm_tx.specs.declared.message.Message.{Message}
use Rattle.rdm_tx.specs.Asks.{all_unasked}
use Rattle.rdm_life.specs.Kept.{Kept}
use Rattle.rdm_life.specs.Memory.{byte_home, bytes_home}
use Rattle.rdm_life.specs.Sending.{begun, opening_bytes, sent_in, send_to}
use Rattle.rdm_sends.specs.Beginning.{new_sending, new_message, protocol_of, first_part}
use Rattle.rdm_sends.specs.Sending.{range_bytes}
use Rattle.rdm_sends.proofs.Begins.{chosen_from}
use Rattle.rdm_sent.specs.Shows.{IsMessage, IsProtocol, AreAsks, IsSend}
use Rattle.rdm_sent.specs.Laws.{BeginsAsKept, sender, place_in}
use Rattle.rdm_sent.proofs.Openers.{some_is, eager_not_read}

-- the bytes of ranges are as many as these have
home_bytes : (v : Kept) (parts : List Range) → length (bytes_home v parts) ≡ range_bytes parts
unfolding bytes_home
home_bytes v parts =
    let f : Range → List ℕ = λ r. map (λ k. byte_home v r.region.0 (r.at + k)) (below r.len) in
    length-flat_map f parts
    ∙ sum_total (λ (r : Range). length (f r)) parts
    ∙ total_same (λ (r : Range). length (f r)) (λ (r : Range). r.len) parts (λ r m. length-map (below r.len) (λ k. byte_home v r.region.0 (r.at + k)) ∙ length-below r.len)
    ∙ sym (sum_total (λ (r : Range). r.len) parts)

-- without a range that has bytes there are none
no_bytes : (parts : List Range) → read_list parts ≡ [] → range_bytes parts ≡ 0
unfolding iov_bytes
no_bytes parts e = sum_total (λ (r : Range). r.len) parts ∙ sym (read_list_total parts) ∙ ap iov_bytes e

-- and those go in one packet
none_eager : (n : ℕ) (tagged cq_data raw : Bool) (own : ℕ) (known : Option ℕ) (limits : EpLimits) → n ≡ 0 → choose n tagged cq_data raw own known limits ≡ Eager
unfolding choose
none_eager n tagged cq_data raw own known limits e =
    let t : nat_le n (eager_room tagged cq_data raw limits) ≡ true = le-leb n (eager_room tagged cq_data raw limits) (omega arith) in
    rw t refl

-- how many bytes open it
opens : (own : Own) (s : Sent) (k : Kind) → s.kind ≡ k → opening_bytes own s ≡ opened_bytes own.limits s.message k
opens own s k e = ap (λ (j : Kind). piece_bytes (pieces_in (openings own.limits s.message j))) e ∙ openings_bytes own.limits s.message k

-- and how many open one that is granted
opens_long : (own : Own) (m : Message) (s : Sent) → IsMessage m s → s.kind ≡ LongCts → first_part own.limits m (length s.message.bytes) ≡ opening_bytes own s
unfolding opened_bytes
opens_long own m s i k =
    let n : ℕ = length s.message.bytes in
    let p : Packet = rtm s.message (long_cts_form own.limits s.message []) in
    let same : Rtm m.no m.tag m.confirm m.opt (F.LongCts n m.send_id own.limits.credits []) ≡ p = cc (i.no, i.tag, i.confirm, i.opt, i.send_id) in
    let l = length-take (room_in own.limits p) s.message.bytes in
    let o = opens own s LongCts k in
    ap (λ (q : Packet). min n (room_in own.limits q)) same ∙ omega arith

-- the list of one that is read has a range
listed : (m : Message) (s : Sent) → IsMessage m s → is_read s.kind ≡ true → m.iov ≡ s.message.iov
listed m s i r = i.iov ∙ some_is s.message.iov (λ none. true≢false (sym r ∙ ap is_read (i.whole none) ∙ eager_not_read))

-- nothing was asked for
unasked : (own : Own) (m : Message) (s : Sent) (from : ℕ) → from ≡ read_from s.kind → m.iov ≡ s.message.iov → from ≤ length s.message.bytes
    → AreAsks (all_unasked from (length s.message.bytes) m.iov) (begun own s)
unasked own m s from f i r =
    let n : ℕ = length s.message.bytes - from in
    let l = length-replicate n true in
    record {
      from = f;
      iov = i;
      long = omega arith;
      asked = λ k lt. sym (ap (λ b. not b) (get_or-replicate n k true false (omega arith)));
      owes = refl;
    }

-- before anything came
begun_by : (own : Own) (m : Message) (s : Sent) (k : Kind) → IsMessage m s → s.kind ≡ k → read_from k ≤ length s.message.bytes
    → IsProtocol (protocol_of own.limits m (length s.message.bytes) k) (begun own s)
unfolding protocol_of opened_bytes is_read is_long read_from
begun_by own m s Eager i e r = (ap is_read e, ap is_long e, opens own s Eager e, refl)
begun_by own m s Medium i e r = (ap is_read e, ap is_long e, opens own s Medium e, refl)
begun_by own m s LongCts i e r =
    (e, ap (λ (n : ℕ). record { total = length s.message.bytes; done = n; allowed = n; granted_by = None }) (opens_long own m s i e), λ less. absurd (omega arith))
begun_by own m s LongRead i e r = (ap is_read e, unasked own m s 0 (sym (ap read_from e)) (listed m s i (ap is_read e)) r)
begun_by own m s (Runt n) i e r = (ap is_read e, unasked own m s n (sym (ap read_from e)) (listed m s i (ap is_read e)) r)

-- a new send
new_shows : (v : Kept) (req : SendReq) (to : Life) → IsSend (new_sending (sender v.own) (place_in v to) req) (begun v.own (sent_in v req to))
unfolding new_sent
new_shows v req to =
    let s : Sent = sent_in v req to in
    let known : Option ℕ = (v.peers to).known in
    let m : Message = new_message (sender v.own) (place_in v to) req (range_bytes req.parts) in
    let long = home_bytes v req.parts in
    let kind_of : ℕ → Kind = λ n. choose n (is_some req.tag) (is_some req.cq_data) (wants_raw known) v.own.features known v.own.limits in
    let i : IsMessage m s = record {
      no = refl;
      tag = refl;
      confirm = refl;
      opt = refl;
      send_id = refl;
      number = refl;
      iov = refl;
      whole = λ none. none_eager (length s.message.bytes) _ _ _ _ _ _ (long ∙ no_bytes req.parts none);
      kind = ap kind_of (sym long);
    } in
    let p = begun_by v.own m s s.kind i refl (chosen_from _ _ _ _ _ _ _) in
    let q = subst (λ (k : Kind). IsProtocol (protocol_of v.own.limits m (length s.message.bytes) k) (begun v.own s)) (sym i.kind) p in
    record {
      to = refl;
      message = i;
      parts = refl;
      total = sym long;
      ranges = record { iov = refl; long = long };
      given = refl;
      protocol = subst (λ (n : ℕ). IsProtocol (protocol_of v.own.limits m n m.kind) (begun v.own s)) long q;
    }

pub begins_as_kept : BeginsAsKept
unfolding send_to
begins_as_kept v req to here = (begun v.own (sent_in v req to), ap (λ (o : Option Life). (send_to req o v).sends) here, new_shows v req to)
