-- Of eager deeds: a receive ends when it meets its message, or when it is taken back.
use Rattle.std.proofs.Common.{◌≡◌, ℕ, ◌<◌, Bool, true, false, not, List, [], ◌∷◌, ◌++◌, map, length, refl, arith, inl, inr, ap, ◌∙◌, sym, subst, length-append}
use Rattle.std.proofs.Math.Bool.{and-false}
use Rattle.std.specs.Prelude.{◌&&◌, filter, find}
use Rattle.std.proofs.lemmas.Bool.{and_from, and_left, eqb-true}
use Rattle.std.proofs.lemmas.List.{append-nil}
use Rattle.std.proofs.lemmas.List.Elements.{filter-append}
use Rattle.rdm_lists.specs.Lists.{Member}
use Rattle.rdm_num.specs.declared.numbers.RecvNo.{RecvNo}
use Rattle.rdm_match.specs.Matcher.{Pair, is_pair, is_recv}
use Rattle.rdm_model.specs.declared.job.Instr.TheVariants.{Cancel}
use Rattle.rdm_model.specs.Deeds.{Deed, Did}
use Rattle.rdm_model.specs.Beginnings.{Own}
use Rattle.rdm_model.specs.Matches.{pairs, receives, with_received, received_by}
use Rattle.rdm_model.specs.Parts.{has_landed}
use Rattle.rdm_model.specs.Receives.{RecvEnd, Filled, Withdrawn, ended_recv, is_filled, filled_by, withdrawn_by, recv_ends_by, with_recv_ends, recv_ends}
use Rattle.rdm_model.specs.Local.{heads_by}
use Rattle.rdm_ep.specs.Eager.{IsEager}
use Rattle.rdm_model.proofs.Matches.{member_is_pair, pair_heard}
use Rattle.rdm_model.proofs.SameReceives.{is_filled_same, recv_ends_same}
use Rattle.rdm_model.proofs.Grows.{heads_grow}
use Rattle.rdm_ep.proofs.Currents.{forgotten_none}
use Rattle.rdm_ep.proofs.Accounts.{heard_landed}
use Rattle.rdm_ep.proofs.Pairs.{own_matching, event_of, met_by, met_by_all, new_pairs, pairs_step, ids_below, more_receives, new_unpaired}
use Rattle.rdm_lists.proofs.Members.{member-append_right, member-append_cases, member-map, find_member}
use Rattle.rdm_lists.proofs.Options.{some_of}
use Rattle.rdm_lists.proofs.Filters.{filter_all, filter_nothing}

-- each pair is filled
pub pair_filled : (own : Own) (log : List Deed) (p : Pair) → IsEager own log → Member p (own_matching own log).pairs
    → is_filled own.limits.first (heads_by log) log p ≡ true
unfolding is_filled
pair_filled own log p h m =
    let first = own.limits.first in
    let heads = heads_by log in
    let x = pair_heard first heads log p m in
    and_from (is_pair (pairs first heads log) p.recv.id.0 p.message.life p.message.no.0) (has_landed first heads log p.message.life p.message.no.0)
    (member_is_pair (pairs first heads log) p m) (heard_landed own log p.message.life p.message.no.0 x.0 h x.1)

-- a new pair was not filled before
new_unfilled : (own : Own) (d : Deed) (before : List Deed) (q : Pair) → IsEager own (d ∷ before) → Member q (new_pairs own before d)
    → is_filled own.limits.first (heads_by before) before q ≡ false
unfolding is_filled
new_unfilled own d before q h m =
    and_left (is_pair (own_matching own before).pairs q.recv.id.0 q.message.life q.message.no.0)
    (has_landed own.limits.first (heads_by before) before q.message.life q.message.no.0) (new_unpaired own d before q h m)

-- the pairs that an eager deed fills are those that it makes
pub filled_step : (own : Own) (d : Deed) (before : List Deed) → IsEager own (d ∷ before)
    → filled_by own.limits.first (heads_by (d ∷ before)) d before ≡ new_pairs own before d
unfolding filled_by
filled_step own d before h =
    let first = own.limits.first in
    let heads = heads_by (d ∷ before) in
    let olds = (own_matching own before).pairs in
    let news = new_pairs own before d in
    let t : Pair → Bool = λ p. is_filled first heads (d ∷ before) p && not (is_filled first heads before p) in
    let step = pairs_step own d before h in
    let same : (p : Pair) → is_filled first (heads_by before) before p ≡ is_filled first heads before p = λ p. is_filled_same first (heads_by before) heads before p (heads_grow d before) in
    let old : filter t olds ≡ [] =
    filter_nothing t olds (λ p m.
    let was : is_filled first heads before p ≡ true = sym (same p) ∙ pair_filled own before p h.0 m in
    rw was (and-false (is_filled first heads (d ∷ before) p))) in
    let new : filter t news ≡ news =
    filter_all t news (λ q m.
    let is : is_filled first heads (d ∷ before) q ≡ true =
    pair_filled own (d ∷ before) q h (subst (λ (ps : List Pair). Member q ps) (sym step) (member-append_right q olds news m)) in
    let not_before : is_filled first heads before q ≡ false = sym (same q) ∙ new_unfilled own d before q h m in
    rw (is, not_before) refl) in
    ap (λ (ps : List Pair). filter t ps) step ∙ filter-append t olds news ∙ (rw (old, new) refl)

-- the receives that end by an eager deed: one that is taken back, or those of the pairs that it makes
abbrev pub ends_of : Own → List Deed → Deed → List RecvEnd
ends_of own before (Did (Cancel recv)) = Withdrawn recv.0 ∷ []
ends_of own before d = map Filled (new_pairs own before d)

-- no pair is made where a receive is taken back
pub cancel_pairs : (own : Own) (before : List Deed) (recv : RecvNo) → new_pairs own before (Did (Cancel recv)) ≡ []
unfolding event_of met_by_all met_by
cancel_pairs own before recv = refl

-- of the pairs that an eager deed makes, of a receive that is taken back, and of no forgotten life
ends_by : (own : Own) (d : Deed) (before : List Deed) (ends : List RecvEnd) → IsEager own (d ∷ before)
    → recv_ends_by own.limits.first (heads_by (d ∷ before)) d before ends ≡ map Filled (new_pairs own before d) ++ withdrawn_by d
unfolding recv_ends_by
ends_by own d before ends h =
    let f = filled_step own d before h in
    let n = forgotten_none own before d h.1 in
    rw (f, n) (append-nil (map Filled (new_pairs own before d) ++ withdrawn_by d))

-- these are the receives that it ends
ends_told : (own : Own) (d : Deed) (before : List Deed) → map Filled (new_pairs own before d) ++ withdrawn_by d ≡ ends_of own before d
unfolding withdrawn_by
ends_told own (Did (Cancel recv)) before = let e = cancel_pairs own before recv in rw e refl
ends_told own d before = append-nil (map Filled (new_pairs own before d))

-- the receives that end by an eager deed
pub ends_step : (own : Own) (d : Deed) (before : List Deed) (ends : List RecvEnd) → IsEager own (d ∷ before)
    → recv_ends_by own.limits.first (heads_by (d ∷ before)) d before ends ≡ ends_of own before d
ends_step own d before ends h = ends_by own d before ends h ∙ ends_told own d before

-- the receives that ended, by what the deeds themselves tell
abbrev pub own_ends : Own → List Deed → List RecvEnd
own_ends own log = recv_ends own.limits.first (heads_by log) log

-- the receives that ended after an eager deed
pub ends_more : (own : Own) (d : Deed) (before : List Deed) → IsEager own (d ∷ before) → own_ends own (d ∷ before) ≡ own_ends own before ++ ends_of own before d
unfolding recv_ends with_recv_ends
ends_more own d before h =
    let first = own.limits.first in
    let heads = heads_by (d ∷ before) in
    let same : recv_ends first heads before ≡ own_ends own before = sym (recv_ends_same first (heads_by before) heads before (heads_grow d before)) in
    ap (λ (es : List RecvEnd). es ++ recv_ends_by first heads d before (recv_ends first heads before)) same
    ∙ ap (λ (es : List RecvEnd). own_ends own before ++ es) (ends_step own d before (recv_ends first heads before) h)

-- a receive that ended has a number below the count of receives
abbrev pub EndedBelow : ℕ → List RecvEnd → Type 0
EndedBelow count ends = (e : RecvEnd) → Member e ends → ended_recv e < count

-- so does one that an eager deed ends
new_below : (own : Own) (d : Deed) (before : List Deed) → IsEager own (d ∷ before) → EndedBelow (length (receives (d ∷ before))) (ends_of own before d)
unfolding receives with_received received_by is_recv ended_recv
new_below own (Did (Cancel recv)) before h e (inl is) =
    let r = some_of (find (is_recv recv.0) (own_matching own before).posted) h.1 in
    let m = find_member (is_recv recv.0) r.0 (own_matching own before).posted r.1 in
    let f = (ids_below own before h.0).waiting r.0 m.0 in
    let n = eqb-true r.0.id.0 recv.0 m.1 in
    let l = length-append (receives before) [] in
    let k : recv.0 < length (receives before ++ []) = omega arith in
    subst (λ (x : RecvEnd). ended_recv x < length (receives before ++ [])) is k
new_below own (Did (Cancel recv)) before h e (inr never) = elim never [ ]
new_below own d before h e m =
    let r = member-map Filled e (new_pairs own before d) m in
    let p = (ids_below own (d ∷ before) h).paired r.0
    (subst (λ (ps : List Pair). Member r.0 ps) (sym (pairs_step own d before h)) (member-append_right r.0 (own_matching own before).pairs (new_pairs own before d) r.1)) in
    subst (λ (x : RecvEnd). ended_recv x < length (receives (d ∷ before))) r.2 p

-- each receive that ended has a number below the count of receives
pub ended_below : (own : Own) (log : List Deed) → IsEager own log → EndedBelow (length (receives log)) (own_ends own log)
unfolding recv_ends
ended_below own [] h = λ e m. elim m [ ]
ended_below own (d ∷ before) h = λ e m.
    elim (member-append_cases e (own_ends own before) (ends_of own before d) (subst (λ (es : List RecvEnd). Member e es) (ends_more own d before h) m)) [
      | inl k ↦ (let f = ended_below own before h.0 e k in let g = more_receives d before in omega arith)
      | inr k ↦ new_below own d before h e k
    ]
