-- A send has as many bytes as were asked for, and its read list has them all.
use Rattle.std.proofs.Common.{◌≡◌, ℕ, ◌+◌, ◌≤◌, List, [], ◌∷◌, length, get_or, arith, sym, ◌∙◌, subst}
use Rattle.rdm_lists.specs.Lists.{Member}
use Rattle.rdm_num.specs.declared.numbers.Life.{Life}
use Rattle.rdm_num.specs.declared.parts.Span.{Span}
use Rattle.rdm_num.specs.declared.request.SendReq.{SendReq}
use Rattle.rdm_model.specs.declared.job.Instr.TheVariants.{Send}
use Rattle.rdm_model.specs.Deeds.{Deed, Did}
use Rattle.rdm_model.specs.Beginnings.{Own, Messages}
use Rattle.rdm_model.specs.Regions.{regions}
use Rattle.rdm_model.specs.Sends.{Sent, sends, sends_to, bytes_of, new_sent, known_word}
use Rattle.rdm_model.proofs.Numbers.{NewSent, sends_keep}
use Rattle.rdm_law.proofs.Replies.Asks.{iov_bytes}
use Rattle.rdm_law.proofs.Fits.Spans.{IsInside, span_total, spans_size, read_list_total}
use Rattle.rdm_law.proofs.Fits.RegionSizes.{region_size}
use Rattle.rdm_law.proofs.Fits.RegionsFit.{RangeFits, AllRangesFit}

-- the send has as many bytes as its read list
abbrev pub IsSized : Sent → Type 0
IsSized s = iov_bytes s.message.iov ≡ length s.message.bytes

-- a send of so many bytes has them in its read list
made_sized : (own : Own) (before : List Deed) (count messages : ℕ) (req : SendReq) (to : Life) (bytes : List ℕ) → length bytes ≡ span_total req.parts
    → IsSized (new_sent own (known_word before to) count messages req to bytes)
unfolding new_sent iov_bytes
made_sized own before count messages req to bytes e = read_list_total req.parts ∙ sym e

-- a new send does, whose ranges lie in their regions
new_sized : (own : Own) (ms : Messages) (d : Deed) (before : List Deed) (s : Sent) → AllRangesFit (d ∷ before) → NewSent own ms before (sends own ms before) d s → IsSized s
new_sized own ms d before s fit n =
    let P : Deed → Type 0 = λ x. RangeFits before x in
    let now : P (Did (Send n.req)) = subst P n.by fit.1 in
    let rs = regions own.limits.first ms before in
    let inside : (p : Span) → Member p n.req.parts → IsInside rs p = λ p m. (let a = now p m in let b = region_size own.limits.first ms before p.region.0 fit.0 in omega arith) in
    subst IsSized (sym n.is)
    (made_sized own before (length (sends own ms before)) (length (sends_to (sends own ms before) n.to)) n.req n.to (bytes_of rs n.req.parts)
    (spans_size rs n.req.parts inside))

-- each send has as many bytes as its read list
pub sent_sized : (own : Own) (ms : Messages) (log : List Deed) → AllRangesFit log → (s : Sent) → Member s (sends own ms log) → IsSized s
unfolding sends
sent_sized own ms [] fit s m = elim m [ ]
sent_sized own ms (d ∷ before) fit s m =
    sends_keep own ms d before (λ xs x. IsSized x) (λ x k. sent_sized own ms before fit.0 x k) (λ x t k n was. was) (λ t n. new_sized own ms d before t fit n) s m
