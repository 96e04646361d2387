-- By two accounts that agree on what was heard, the same messages meet the same receives, and the same bytes came.
use Rattle.std.proofs.Common.{◌≡◌, ℕ, true, subst, List, [], ◌∷◌, map, Some, refl, ap}
use Rattle.rdm_lists.specs.Lists.{Member}
use Rattle.rdm_num.specs.declared.numbers.Life.{Life}
use Rattle.rdm_num.specs.declared.head.Head.{Head}
use Rattle.rdm_match.specs.Matcher.{is_pair, Matching}
use Rattle.rdm_model.specs.declared.job.Instr.TheVariants.{Recv, Cancel as CancelOp, Insert}
use Rattle.rdm_model.specs.Deeds.{Deed, Did, Took}
use Rattle.rdm_model.specs.Beginnings.{Heads}
use Rattle.rdm_model.specs.Heard.{heard_head, entering}
use Rattle.rdm_model.specs.Matches.{matching, pairs, events_by, arrival}
use Rattle.rdm_model.specs.Parts.{carried_pieces}
use Rattle.rdm_model.proofs.Matches.{is_pair_member, heard_still, entered_heard, entering_parts, pair_heard}
use Rattle.rdm_lists.proofs.Same.{map_same}

-- the heads agree on each message that was heard of
abbrev pub HeadsAgree : Heads → Heads → List Deed → Type 0
HeadsAgree hs ks log = (source : Life) (n : ℕ) (h : Head) → heard_head log source n ≡ Some h → hs source n ≡ ks source n

-- and so they did before a deed
pub heads_before : (hs ks : Heads) (d : Deed) (before : List Deed) → HeadsAgree hs ks (d ∷ before) → HeadsAgree hs ks before
heads_before hs ks d before a source n h is = a source n h (heard_still d before source n h is)

-- a message that enters by a deed was heard of after it
entering_heard : (first : ℕ) (d : Deed) (before : List Deed) (source : Life) (n : ℕ) → Member n (entering first d before source)
    → (h : Head) × (heard_head (d ∷ before) source n ≡ Some h)
entering_heard first d before source n m = entered_heard first (d ∷ before) source n (entering_parts first d before source n m).0

-- the message of a pair that a test found was heard of
pub is_pair_heard : (first : ℕ) (heads : Heads) (log : List Deed) (recv : ℕ) (source : Life) (n : ℕ) → is_pair (pairs first heads log) recv source n ≡ true
    → (h : Head) × (heard_head log source n ≡ Some h)
is_pair_heard first heads log recv source n h =
    let r = is_pair_member (pairs first heads log) recv source n h in
    subst (λ (m : ℕ). (x : Head) × (heard_head log source m ≡ Some x)) r.4
    (subst (λ (l : Life). (x : Head) × (heard_head log l r.0.message.no.0 ≡ Some x)) r.3 (pair_heard first heads log r.0 r.1))

-- the same messages arrive, with the same tags
arrivals_same : (first : ℕ) (hs ks : Heads) (d : Deed) (before : List Deed) (source : Life) → HeadsAgree hs ks (d ∷ before)
    → map (arrival hs source) (entering first d before source) ≡ map (arrival ks source) (entering first d before source)
arrivals_same first hs ks d before source a =
    map_same (arrival hs source) (arrival ks source) (entering first d before source)
    (λ n m. let h = entering_heard first d before source n m in let e = a source n h.0 h.1 in rw e refl)

-- the same events come to the matcher
pub events_same : (first : ℕ) (hs ks : Heads) (before : List Deed) (d : Deed) → HeadsAgree hs ks (d ∷ before)
    → events_by first hs before d ≡ events_by first ks before d
unfolding events_by
events_same first hs ks before (Did (Recv req)) a = refl
events_same first hs ks before (Did (CancelOp recv)) a = refl
events_same first hs ks before (Did (Insert life)) a = refl
events_same first hs ks before (Took from item) a = arrivals_same first hs ks (Took from item) before from a
events_same first hs ks before _ a = refl

-- the matcher's lists are the same
pub matching_same : (first : ℕ) (hs ks : Heads) (log : List Deed) → HeadsAgree hs ks log → matching first hs log ≡ matching first ks log
unfolding matching
matching_same first hs ks [] a = refl
matching_same first hs ks (d ∷ before) a =
    let earlier = matching_same first hs ks before (heads_before hs ks d before a) in
    let newest = events_same first hs ks before d a in
    rw (earlier, newest)

-- so are the pairs
pub pairs_same : (first : ℕ) (hs ks : Heads) (log : List Deed) → HeadsAgree hs ks log → pairs first hs log ≡ pairs first ks log
pairs_same first hs ks log a = ap (λ (m : Matching). m.pairs) (matching_same first hs ks log a)

-- the same bytes of each message came
pub carried_pieces_same : (first : ℕ) (hs ks : Heads) (log : List Deed) (source : Life) (n : ℕ) → HeadsAgree hs ks log
    → carried_pieces first hs log source n ≡ carried_pieces first ks log source n
unfolding carried_pieces
carried_pieces_same first hs ks [] source n a = refl
carried_pieces_same first hs ks (d ∷ before) source n a =
    let earlier = carried_pieces_same first hs ks before source n (heads_before hs ks d before a) in
    let m = pairs_same first hs ks before (heads_before hs ks d before a) in
    rw (earlier, m)
