-- A life sends and receives no more often than it did instructions, and no more bytes than these ask for.
use Rattle.std.proofs.Common.{ℕ, ◌+◌, ◌≤◌, List, [], ◌∷◌, length, drop, get_or, Option, Some, None, arith, length-append, length-take}
use Rattle.rdm_num.specs.declared.numbers.Life.{Life}
use Rattle.rdm_num.specs.declared.request.SendReq.{SendReq}
use Rattle.rdm_model.specs.declared.job.Instr.TheVariants.{Send, Recv}
use Rattle.rdm_model.specs.Jobs.{sent_length}
use Rattle.rdm_model.specs.Deeds.{Deed, Did}
use Rattle.rdm_model.specs.Beginnings.{Own, Messages}
use Rattle.rdm_model.specs.Currents.{current}
use Rattle.rdm_model.specs.Regions.{regions}
use Rattle.rdm_model.specs.Matches.{Receive, receives, received_by, with_received}
use Rattle.rdm_model.specs.Sends.{Sent, sends, sent_by, sent_to_current, bytes_of, new_sent, with_sent}
use Rattle.rdm_law.proofs.Fits.Spans.{spans_few, spans_total}
use Rattle.rdm_law.proofs.Bound.LifeCounts.{deed_weight}
use Rattle.rdm_law.proofs.Bound.NoteCounts.{one}
use Rattle.rdm_lists.proofs.Sums.{total, total-append}

-- how many bytes a send has
abbrev pub sent_bytes : Sent → ℕ
sent_bytes s = length s.message.bytes

-- one send at most
one_sent : (own : Own) (before : List Deed) (sents : List Sent) (req : SendReq) (o : Option Life) (bytes : List ℕ) → length (sent_to_current own before sents req o bytes) ≤ 1
unfolding sent_to_current
one_sent own before sents req None bytes = omega arith
one_sent own before sents req (Some to) bytes = omega arith

-- of no more bytes than its ranges
sent_few : (own : Own) (before : List Deed) (sents : List Sent) (req : SendReq) (o : Option Life) (bytes : List ℕ) → length bytes ≤ sent_length (Send req)
    → total sent_bytes (sent_to_current own before sents req o bytes) ≤ sent_length (Send req)
unfolding total sent_to_current new_sent
sent_few own before sents req None bytes le = omega arith
sent_few own before sents req (Some to) bytes le = omega arith

-- a deed sends or receives once at most
newest_few : (own : Own) (ms : Messages) (before : List Deed) (sents : List Sent) (rs : List Receive) (d : Deed)
    → length (sent_by own ms before sents d) + length (received_by rs before d) ≤ deed_weight one d
unfolding deed_weight sent_by received_by
newest_few own ms before sents rs (Did (Send req)) =
    let a = one_sent own before sents req (current before req.to.0) (bytes_of (regions own.limits.first ms before) req.parts) in omega arith
newest_few own ms before sents rs (Did (Recv req)) = omega arith
newest_few own ms before sents rs _ = omega arith

-- and sends no more bytes than its instruction asks for
newest_bytes : (own : Own) (ms : Messages) (before : List Deed) (sents : List Sent) (d : Deed) → total sent_bytes (sent_by own ms before sents d) ≤ deed_weight sent_length d
unfolding deed_weight sent_length total sent_by
newest_bytes own ms before sents (Did (Send req)) =
    let rs = regions own.limits.first ms before in
    sent_few own before sents req (current before req.to.0) (bytes_of rs req.parts) (let a = spans_few rs req.parts in let b = spans_total req.parts in omega arith)
newest_bytes own ms before sents _ = omega arith

-- sends and receives are no more than instructions
pub sends_few : (own : Own) (ms : Messages) (log : List Deed) → length (sends own ms log) + length (receives log) ≤ total (deed_weight one) log
unfolding sends receives total with_sent with_received
sends_few own ms [] = omega arith
sends_few own ms (d ∷ before) =
    let r = sends_few own ms before in
    let a = newest_few own ms before (sends own ms before) (receives before) d in
    let b = length-append (sends own ms before) (sent_by own ms before (sends own ms before) d) in
    let c = length-append (receives before) (received_by (receives before) before d) in
    omega arith

-- the bytes of sends are no more than asked for
pub sends_bytes : (own : Own) (ms : Messages) (log : List Deed) → total sent_bytes (sends own ms log) ≤ total (deed_weight sent_length) log
unfolding sends total with_sent
sends_bytes own ms [] = omega arith
sends_bytes own ms (d ∷ before) =
    let r = sends_bytes own ms before in
    let a = newest_bytes own ms before (sends own ms before) d in
    let b = total-append sent_bytes (sends own ms before) (sent_by own ms before (sends own ms before) d) in
    omega arith
