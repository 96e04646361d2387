-- Each accepted send has its numbers in their ranges, and its bytes are bytes.
use Rattle.std.proofs.Common.{◌≡◌, ℕ, zero, suc, ◌+◌, ◌<◌, ◌≤◌, Bool, true, ltb-true, List, [], ◌∷◌, map, length, get_or, drop, option_to_list, is_some, Option, Some, None, refl, arith, inl, inr, sym, ap, subst, length-append, length-take, length-drop}
use Rattle.std.proofs.lemmas.Bool.{and_parts}
use Rattle.std.proofs.lemmas.List.{length-map}
use Rattle.rdm_lists.specs.Lists.{Member}
use Rattle.rdm_num.specs.Lives.{op_id}
use Rattle.rdm_num.specs.declared.numbers.Life.{Life}
use Rattle.rdm_num.specs.declared.parts.Span.{Span}
use Rattle.rdm_num.specs.declared.request.SendReq.{SendReq}
use Rattle.rdm_pkt.specs.Choice.{choose}
use Rattle.rdm_model.specs.declared.job.Instr.TheVariants.{Send, Recv}
use Rattle.rdm_model.specs.Deeds.{Deed, Did, deed_count}
use Rattle.rdm_model.specs.Currents.{current}
use Rattle.rdm_model.specs.Beginnings.{Own, Messages}
use Rattle.rdm_model.specs.Jobs.{instr_fits, range_fits, option_fits, len_max}
use Rattle.rdm_model.specs.Matches.{Receive, receives, received_by, with_received}
use Rattle.rdm_model.specs.Regions.{regions}
use Rattle.rdm_model.specs.Sends.{Sent, sends_to, new_sent, read_list, bytes_of, known_word, wants_raw, opt_for, sends}
use Rattle.rdm_model.proofs.Numbers.{NewSent, sends_keep}
use Rattle.rdm_law.proofs.Fits.Fitting.{AreBytes}
use Rattle.rdm_law.proofs.Fits.SmallBytes.{bytes_front, bytes_rest}
use Rattle.rdm_law.proofs.Fits.RegionsFit.{MessagesFit, AllAreBytes, DidFits, AllDidFit, regions_fit, RangeFits, AllRangesFit}
use Rattle.rdm_law.proofs.Fits.Spans.{SpanFits, IsInside, PartsFit, parts_are, span_total, spans_bytes, spans_size}
use Rattle.rdm_law.proofs.Fits.RegionSizes.{region_size, size_bound}
use Rattle.rdm_law.proofs.Fits.AnswersFit.{sent_life, sent_lives, lives_of_sends, sends_to_count, NumberFits, AllNumbersFit}

-- 1 for an instruction that did
unfoldable pub done_by : Deed → ℕ
done_by (Did instr) = 1
done_by _ = 0

-- how many instructions did
abbrev pub did_count : List Deed → ℕ
did_count log = deed_count done_by log

-- an option has one value at most
pub option_length : {A : Type 0} (o : Option A) → length (option_to_list o) ≤ 1
option_length None = omega arith
option_length (Some x) = omega arith

-- a deed sends once at most, if it is an instruction that did
lives_by_deed : (before : List Deed) (d : Deed) → length (sent_life before d) ≤ done_by d
unfolding sent_life done_by
lives_by_deed before (Did (Send req)) = option_length (current before req.to.0)
lives_by_deed before _ = omega arith

-- no more lives are sent to than instructions did
sent_lives_count : (log : List Deed) → length (sent_lives log) ≤ did_count log
unfolding sent_lives deed_count
sent_lives_count [] = omega arith
sent_lives_count (d ∷ before) =
    let a = length-append (sent_lives before) (sent_life before d) in
    let b = sent_lives_count before in
    let c = lives_by_deed before d in
    omega arith

-- no more sends than instructions that did
pub sends_count : (own : Own) (ms : Messages) (log : List Deed) → length (sends own ms log) ≤ did_count log
sends_count own ms log =
    let a : length (map (λ (s : Sent). s.to) (sends own ms log)) ≡ length (sends own ms log) = length-map (sends own ms log) (λ (s : Sent). s.to) in
    let b : length (map (λ (s : Sent). s.to) (sends own ms log)) ≡ length (sent_lives log) = ap length (lives_of_sends own ms log) in
    let c = sent_lives_count log in
    omega arith

-- a deed accepts one receive at most, if it is an instruction that did
received_count : (rs : List Receive) (before : List Deed) (d : Deed) → length (received_by rs before d) ≤ done_by d
unfolding received_by done_by
received_count rs before (Did (Recv req)) = omega arith
received_count rs before _ = omega arith

-- no more receives than instructions that did
pub receives_count : (log : List Deed) → length (receives log) ≤ did_count log
unfolding receives with_received deed_count
receives_count [] = omega arith
receives_count (d ∷ before) =
    let a = length-append (receives before) (received_by (receives before) before d) in
    let b = receives_count before in
    let c = received_count (receives before) before d in
    omega arith

-- what a send has: numbers in their ranges, headers and a protocol of its life's, and its range's bytes
pub record SentFits (own : Own) (s : Sent) : Type 0 where
  pub number : s.number < 4294967296
  pub no : s.message.no.0 < 4294967296
  pub send_is : s.message.send ≡ op_id s.number
  pub tag_is : s.message.tag ≡ s.req.tag
  pub tag : option_fits s.req.tag ≡ true
  pub cq_data : option_fits s.req.cq_data ≡ true
  pub raw : Bool
  pub known : Option ℕ
  pub opt_is : s.message.opt ≡ opt_for own.life raw s.req.cq_data
  pub kind_is : s.kind ≡ choose (length s.message.bytes) (is_some s.req.tag) (is_some s.req.cq_data) raw own.features known own.limits
  pub iov_is : s.message.iov ≡ read_list s.req.parts
  pub bytes : AreBytes s.message.bytes
  pub size : length s.message.bytes ≡ span_total s.req.parts
  pub top : span_total s.req.parts ≤ len_max
  pub few : length s.req.parts ≤ 4
  pub spans : (p : Span) → Member p s.req.parts → SpanFits p

-- the request has its numbers in their ranges
pub record RequestFits (req : SendReq) : Type 0 where
  pub parts : PartsFit req.parts
  pub tag : option_fits req.tag ≡ true
  pub cq_data : option_fits req.cq_data ≡ true

-- a send that is fair has its numbers in their ranges
request_fits : (ports : ℕ) (req : SendReq) → instr_fits ports (Send req) ≡ true → RequestFits req
unfolding instr_fits
request_fits ports req h =
    let a = and_parts _ _ h in
    let b = and_parts _ _ a.0 in
    let c = and_parts _ _ b.0 in
    record { parts = parts_are req.parts c.1; tag = b.1; cq_data = a.1 }

-- a new send of such a request fits
made_fits : (own : Own) (before : List Deed) (count messages : ℕ) (req : SendReq) (to : Life) (bytes : List ℕ) → count < 4294967296
    → own.limits.first + messages < 4294967296 → RequestFits req → AreBytes bytes → length bytes ≡ span_total req.parts
    → ((p : Span) → Member p req.parts → SpanFits p)
    → SentFits own (new_sent own (known_word before to) count messages req to bytes)
unfolding new_sent
made_fits own before count messages req to bytes below within fit bs size spans = record {
  number = below;
  no = within;
  send_is = refl;
  tag_is = refl;
  tag = fit.tag;
  cq_data = fit.cq_data;
  raw = wants_raw (known_word before to);
  known = known_word before to;
  opt_is = refl;
  kind_is = refl;
  iov_is = refl;
  bytes = bs;
  size = size;
  top = fit.parts.top;
  few = fit.parts.few;
  spans = spans;
}

-- each deed of a life fits: what did, what was taken, the ranges and the numbers
pub record DeedsFit (ports first : ℕ) (log : List Deed) : Type 0 where
  pub did : AllDidFit ports log
  pub ranges : AllRangesFit log
  pub numbers : AllNumbersFit first log
  pub count : did_count log < 4294967296

-- so it was before the newest deed
pub deeds_fit_before : (ports first : ℕ) (d : Deed) (before : List Deed) → DeedsFit ports first (d ∷ before) → DeedsFit ports first before
unfolding deed_count
deeds_fit_before ports first d before fit = record { did = fit.did.0; ranges = fit.ranges.0; numbers = fit.numbers.0; count = (let c = fit.count in omega arith) }

-- the send that a deed makes fits
new_fits : (ports : ℕ) (own : Own) (ms : Messages) (d : Deed) (before : List Deed) (s : Sent) → MessagesFit ms → DeedsFit ports own.limits.first (d ∷ before)
    → NewSent own ms before (sends own ms before) d s → SentFits own s
new_fits ports own ms d before s h fit n =
    let was = deeds_fit_before ports own.limits.first d before fit in
    let P : Deed → Type 0 = λ x. DidFits ports x × RangeFits before x × NumberFits own.limits.first before x in
    let now : P (Did (Send n.req)) = subst P n.by (fit.did.1, fit.ranges.1, fit.numbers.1) in
    let rs = regions own.limits.first ms before in
    let inside : (p : Span) → Member p n.req.parts → IsInside rs p = λ p m.
    (let a = now.1 p m in let b = region_size own.limits.first ms before p.region.0 was.ranges in omega arith) in
    let bytes = bytes_of rs n.req.parts in
    let within : own.limits.first + length (sends_to (sends own ms before) n.to) < 4294967296 =
    (let a = now.2 n.to n.current in let b = sends_to_count own ms before n.to in omega arith) in
    let below : length (sends own ms before) < 4294967296 = (let a = sends_count own ms before in let b = was.count in omega arith) in
    let fair = request_fits ports n.req now.0 in
    let spans : (p : Span) → Member p n.req.parts → SpanFits p = λ p m.
    ((let a = now.1 p m in let b = size_bound ports before p.region.0 was.did in omega arith), fair.parts.keys p m) in
    subst (SentFits own) (sym n.is)
    (made_fits own before (length (sends own ms before)) (length (sends_to (sends own ms before) n.to)) n.req n.to bytes below within fair
    (spans_bytes rs n.req.parts (regions_fit ports own.limits.first ms before h was.did)) (spans_size rs n.req.parts inside) spans)

-- each send fits, by any account of messages of bytes
pub sent_fits : (ports : ℕ) (own : Own) (ms : Messages) (log : List Deed) → MessagesFit ms → DeedsFit ports own.limits.first log
    → (s : Sent) → Member s (sends own ms log) → SentFits own s
unfolding sends
sent_fits ports own ms [] h fit s m = elim m [ ]
sent_fits ports own ms (d ∷ before) h fit s m =
    sends_keep own ms d before (λ xs x. SentFits own x)
    (λ x k. sent_fits ports own ms before h (deeds_fit_before ports own.limits.first d before fit) x k)
    (λ x t k n was. was)
    (λ t n. new_fits ports own ms d before t h fit n)
    s m
