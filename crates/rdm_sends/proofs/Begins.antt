-- The first part of a message, and the read list of ranges.
use Rattle.std.proofs.Common.{◌≡◌, ℕ, ◌+◌, ◌-◌, ◌≤◌, ◌<◌, Bool, true, false, List, [], ◌∷◌, ◌++◌, length, map, take, replicate, Option, Some, None, arith, sym, ap, ◌∙◌}
use Rattle.std.specs.Prelude.{◌&&◌, min, filter, nat_lt, nat_le, option_map, slice_get, if◌then◌else◌}
use Rattle.std.specs.Bool.{then_some}
use Rattle.std.proofs.lemmas.List.{length-replicate, length-take}
use Rattle.rdm_num.specs.declared.limits.EpLimits.{EpLimits}
use Rattle.rdm_num.specs.declared.lists.IovEntry.{IovEntry}
use Rattle.rdm_num.specs.declared.parts.Span.{Span as Range}
use Rattle.rdm_pkt.specs.declared.Packet.TheVariants.{Rtm}
use Rattle.rdm_pkt.specs.declared.Kind.TheVariants.{Eager, Medium, LongCts, LongRead, Runt}
use Rattle.rdm_pkt.specs.declared.Form.TheVariants as F
use Rattle.rdm_pkt.specs.Openings.{openings, room_in}
use Rattle.rdm_pkt.specs.Heads.{piece_of}
use Rattle.rdm_model.specs.Sends.{entry_of, read_list}
use Rattle.rdm_tx.specs.declared.message.Message.{Message}
use Rattle.rdm_tx.specs.declared.spans.Span.{Span}
use Rattle.rdm_tx.specs.Sends.{opened, span_at, span_of, IsSpanAfter}
use Rattle.rdm_pkt.specs.Choice.{choose, eager_room, both_have, read_feature, runt_feature}
use Rattle.rdm_model.specs.Targets.{read_from}
use Rattle.std.proofs.lemmas.List.{map-append, take_more}
use Rattle.std.proofs.lemmas.List.Elements.{filter-append}
use Rattle.std.proofs.Common.{get_or}
use Rattle.std.proofs.Math.Seq.{take-length}
use Rattle.std.proofs.lemmas.Bool.{lt-ltb}
use Rattle.rdm_sends.specs.Beginning.{first_part, span_length, some_range}

-- the first packet of a message that is granted has its first part
first_span : (limits : EpLimits) (m : Message) (bytes : List ℕ) → span_length (option_map span_of (slice_get (openings limits (opened m bytes) LongCts) 0)) ≡ first_part limits m (length bytes)
unfolding openings span_of span_at piece_of span_length
first_span limits m bytes =
    length-take (room_in limits (Rtm m.no m.tag m.confirm m.opt (F.LongCts (length bytes) m.send_id limits.credits []))) bytes ∙ omega arith

pub first_is : (limits : EpLimits) (m : Message) (total : ℕ) (span : Option Span) → m.kind ≡ LongCts → IsSpanAfter limits m total 0 span → span_length span ≡ first_part limits m total
first_is limits m total span k h =
    let bytes : List ℕ = replicate total 0 in
    let l : length bytes ≡ total = length-replicate total 0 in
    let e : span ≡ option_map span_of (slice_get (openings limits (opened m bytes) LongCts) 0) = rw k at (h bytes l) in
    ap span_length e ∙ first_span limits m bytes ∙ ap (λ (n : ℕ). first_part limits m n) l

-- the read list of ranges one after another
list_append : (xs ys : List Range) → read_list (xs ++ ys) ≡ read_list xs ++ read_list ys
unfolding read_list
list_append xs ys =
    ap (map entry_of) (filter-append (λ (r : Range). nat_lt 0 r.len) xs ys)
    ∙ map-append entry_of (filter (λ (r : Range). nat_lt 0 r.len) xs) (filter (λ (r : Range). nat_lt 0 r.len) ys)

-- the read list with the next range
pub list_more : (xs : List Range) (i : ℕ) (d : Range) → i < length xs → read_list (take (i + 1) xs) ≡ read_list (take i xs) ++ read_list (get_or xs i d ∷ [])
list_more xs i d h = ap read_list (take_more xs i d h) ∙ list_append (take i xs) (get_or xs i d ∷ [])

-- a kind that is chosen so has no longer first part than that
from_within : (a b c d : Bool) (m n : ℕ) → m ≤ n → read_from (if a then Eager else if b then (if c then Runt m else LongRead) else if d then Medium else LongCts) ≤ n
unfolding read_from
from_within true b c d m n h = omega arith
from_within false true true d m n h = h
from_within false true false d m n h = omega arith
from_within false false c true m n h = omega arith
from_within false false c false m n h = omega arith

-- a message is not read from past its end
pub chosen_from : (n : ℕ) (tagged cq_data raw : Bool) (own : ℕ) (known : Option ℕ) (limits : EpLimits) → read_from (choose n tagged cq_data raw own known limits) ≤ n
unfolding choose
chosen_from n tagged cq_data raw own known limits = from_within (nat_le n (eager_room tagged cq_data raw limits)) (both_have read_feature own known && nat_le limits.read_limit n)
    (nat_lt 0 limits.runt && both_have runt_feature own known) (nat_le n limits.medium) (min limits.runt (n - 1)) n (omega arith)

-- a list that has a range
there : (e : IovEntry) (es : List IovEntry) → then_some (nat_lt 0 (length (e ∷ es))) (e ∷ es) ≡ Some (e ∷ es)
there e es =
    let t : nat_lt 0 (length (e ∷ es)) ≡ true = lt-ltb 0 (length (e ∷ es)) (omega arith) in
    ap (λ (b : Bool). then_some b (e ∷ es)) t

-- the ranges of a list that is there
pub listed_some : (es r : List IovEntry) → Some r ≡ then_some (nat_lt 0 (length es)) es → r ≡ some_range es
unfolding some_range
listed_some [] r h = cc
listed_some (e ∷ es) r h = cc (there e es)

-- an empty range where none is
pub listed_none : (es none one r : List IovEntry) → None ≡ then_some (nat_lt 0 (length es)) es → none ≡ [] → one ≡ none ++ (record { offset = 0; length = 0; key = 0 }) ∷ [] → Some r ≡ then_some (nat_lt 0 (length one)) one → r ≡ some_range es
unfolding some_range
listed_none [] none one r h n o s =
    let z : IovEntry = record { offset = 0; length = 0; key = 0 } in
    let a : one ≡ z ∷ [] = o ∙ ap (λ (ks : List IovEntry). ks ++ z ∷ []) n in
    listed_some one r s ∙ ap some_range a
listed_none (e ∷ es) none one r h n o s = cc (there e es)

-- the read list once the next range was added
pub list_step : (xs : List Range) (i : ℕ) (d : Range) (es new : List IovEntry) → i < length xs → es ≡ read_list (take i xs) → new ≡ es ++ read_list (get_or xs i d ∷ []) → new ≡ read_list (take (i + 1) xs)
list_step xs i d es new h e n = n ∙ ap (λ (ks : List IovEntry). ks ++ read_list (get_or xs i d ∷ [])) e ∙ sym (list_more xs i d h)

-- that of all ranges
pub list_whole : (xs ys : List Range) (i : ℕ) (es r : List IovEntry) → length xs ≤ i → i ≤ length xs → es ≡ read_list (take i xs) → xs ≡ ys → r ≡ some_range es → r ≡ some_range (read_list ys)
list_whole xs ys i es r lo hi e q n =
    let k : i ≡ length xs = omega arith in
    let w : take i xs ≡ ys = ap (λ (j : ℕ). take j xs) k ∙ take-length xs ∙ q in
    n ∙ ap some_range (e ∙ ap read_list w)
