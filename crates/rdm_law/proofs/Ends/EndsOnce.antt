-- Each receive of a life ends once.
use Rattle.std.proofs.Common.{◌≡◌, ℕ, Bool, true, false, ◌&&◌, not, List, [], ◌∷◌, ◌++◌, map, Option, Some, None, refl, arith, inl, inr, sym, ◌∙◌, ap, subst}
use Rattle.std.specs.Prelude.{◌==◌, filter, find, flat_map, option_to_list}
use Rattle.std.specs.List.{list_any}
use Rattle.std.proofs.lemmas.Bool.{eqb-true, eq-eqb, and_parts, and_from, or_cases, not-true, false_from_ne_true}
use Rattle.std.proofs.lemmas.List.{append-nil, map-append}
use Rattle.rdm_lists.specs.Lists.{Member}
use Rattle.rdm_num.specs.Lives.{same_life, is_life}
use Rattle.rdm_num.specs.Pieces.{Piece, covers}
use Rattle.rdm_num.specs.declared.numbers.Life.{Life}
use Rattle.rdm_num.specs.declared.numbers.RecvNo.{RecvNo}
use Rattle.rdm_match.specs.declared.PostedRecv.{PostedRecv}
use Rattle.rdm_match.specs.Matcher.{Forget, Pair, Matching, after, run, is_pair, is_recv}
use Rattle.rdm_model.specs.declared.job.Instr.TheVariants.{Insert, Recv, Cancel}
use Rattle.rdm_model.specs.Deeds.{Deed, Did, Took}
use Rattle.rdm_model.specs.Beginnings.{Own, Heads}
use Rattle.rdm_model.specs.Currents.{forgotten_by, is_forgotten}
use Rattle.rdm_model.specs.Local.{heard_by}
use Rattle.rdm_model.specs.Matches.{Receive, receives, events_by, matching, pairs}
use Rattle.rdm_model.specs.Parts.{carried_by, carried_pieces, has_landed}
use Rattle.rdm_model.specs.Receives.{RecvEnd, Filled, Gone, ended_recv, has_ended, is_filled, filled_by, concerns, gone_with, withdrawn_by, recv_ends_by, with_recv_ends, recv_ends}
use Rattle.rdm_model.proofs.Matches.{pair_still, member_is_pair}
use Rattle.rdm_model.proofs.SameReceives.{recv_ends_same}
use Rattle.rdm_model.proofs.Grows.{agree_grows}
use Rattle.rdm_law.proofs.Lives.Lives.{LifeLocal, LifeStep, life_scene}
use Rattle.rdm_law.proofs.Matching.Numbered.{matching_numbered}
use Rattle.rdm_law.proofs.Matching.Others.{NumbersApart}
use Rattle.rdm_law.proofs.Matching.Accepts.{absent_still}
use Rattle.rdm_law.proofs.Matching.Received.{posted_accepted, receive_stands, receive_once, receives_more}
use Rattle.rdm_law.proofs.Matching.Forgotten.{forgotten_rests, old_pair, took_kept}
use Rattle.rdm_law.proofs.Ends.ApartEnds.{apart_append, filled_apart, flat_apart}
use Rattle.rdm_law.proofs.Ends.Ends.{ended_cases, concerns_still, withdrawn_from}
use Rattle.rdm_law.proofs.Ends.EndsCounted.{forgotten_most}
use Rattle.rdm_law.proofs.Ends.Live.{absent_at, concerned, did_posted, posted_recv, earlier_matching, withdrawn_absent}
use Rattle.rdm_lists.proofs.Filters.{filter_nothing}
use Rattle.rdm_lists.proofs.Members.{member-append_cases, member-filter, member-map, member-flat_map, find_member, list_any_member, member_list_any}
use Rattle.rdm_num.proofs.Lives.{same_life-true}

-- a deed that takes nothing and posts nothing
abbrev IsStill : Deed → Type 0
IsStill (Took from item) = ⊥
IsStill (Did (Recv req)) = ⊥
IsStill _ = Unit {0}

-- forgetting makes no pair
forget_pairs : (ls : List Life) (m : Matching) → (run m (map Forget ls)).pairs ≡ m.pairs
unfolding run after
forget_pairs [] m = refl
forget_pairs (l ∷ ls) m = forget_pairs ls (after m (Forget l))

-- so such a deed makes none
still_pairs : (first : ℕ) (heads : Heads) (d : Deed) (before : List Deed) → IsStill d → pairs first heads (d ∷ before) ≡ pairs first heads before
unfolding matching events_by run after
still_pairs first heads (Took from item) before s = absurd s
still_pairs first heads (Did (Recv req)) before s = absurd s
still_pairs first heads (Did (Cancel recv)) before s = refl
still_pairs first heads (Did (Insert l)) before s = forget_pairs (forgotten_by before (Did (Insert l))) (matching first heads before)
still_pairs first heads _ before s = refl

-- and brings no bytes
still_carries : (ps : List Pair) (source : Life) (n : ℕ) (d : Deed) → IsStill d → carried_by ps source n d ≡ None
unfolding carried_by
still_carries ps source n (Took from item) s = absurd s
still_carries ps source n _ s = refl

-- no bytes of a life come by a deed that takes nothing of it
no_more : (first : ℕ) (heads : Heads) (d : Deed) (before : List Deed) (source : Life) (n : ℕ) → carried_by (pairs first heads before) source n d ≡ None
    → carried_pieces first heads (d ∷ before) source n ≡ carried_pieces first heads before source n
unfolding carried_pieces
no_more first heads d before source n h =
    ap (λ (o : Option Piece). carried_pieces first heads before source n ++ option_to_list o) h ∙ append-nil (carried_pieces first heads before source n)

-- a pair that was made before, and of whose message nothing comes, is filled no more than before
filled_before : (first : ℕ) (heads : Heads) (d : Deed) (before : List Deed) (p : Pair) → Member p (pairs first heads before)
    → carried_by (pairs first heads before) p.message.life p.message.no.0 d ≡ None → is_filled first heads (d ∷ before) p ≡ true → is_filled first heads before p ≡ true
unfolding is_filled has_landed
filled_before first heads d before p m none h =
    let size = (heads p.message.life p.message.no.0).length in
    let landed = (and_parts (is_pair (pairs first heads (d ∷ before)) p.recv.id.0 p.message.life p.message.no.0) (covers (carried_pieces first heads (d ∷ before) p.message.life p.message.no.0) size) h).1 in
    and_from (is_pair (pairs first heads before) p.recv.id.0 p.message.life p.message.no.0) (covers (carried_pieces first heads before p.message.life p.message.no.0) size)
    (member_is_pair (pairs first heads before) p m)
    (subst (λ (ps : List Piece). covers ps size ≡ true) (no_more first heads d before p.message.life p.message.no.0 none) landed)

-- a pair that a deed fills was not filled
newly_filled : (first : ℕ) (heads : Heads) (d : Deed) (before : List Deed) (p : Pair) → Member p (filled_by first heads d before)
    → Member p (pairs first heads (d ∷ before)) × (is_filled first heads (d ∷ before) p ≡ true) × (is_filled first heads before p ≡ false)
unfolding filled_by
newly_filled first heads d before p h =
    let m = member-filter (λ p. is_filled first heads (d ∷ before) p && not (is_filled first heads before p)) p (pairs first heads (d ∷ before)) h in
    let a = and_parts (is_filled first heads (d ∷ before) p) (not (is_filled first heads before p)) m.1 in
    (m.0, a.0, not-true (is_filled first heads before p) a.1)

-- such a deed fills nothing
still_fills : (first : ℕ) (heads : Heads) (d : Deed) (before : List Deed) → IsStill d → filled_by first heads d before ≡ []
unfolding filled_by
still_fills first heads d before s =
    filter_nothing (λ p. is_filled first heads (d ∷ before) p && not (is_filled first heads before p)) (pairs first heads (d ∷ before))
    (λ p m. false_from_ne_true _ (λ h.
    let a = and_parts (is_filled first heads (d ∷ before) p) (not (is_filled first heads before p)) h in
    let n = not-true (is_filled first heads before p) a.1 in
    let was : Member p (pairs first heads before) = subst (λ (ps : List Pair). Member p ps) (still_pairs first heads d before s) m in
    let f = filled_before first heads d before p was (still_carries (pairs first heads before) p.message.life p.message.no.0 d s) a.0 in
    cc))

-- what ends by a deed that fills nothing
none_filled : (first : ℕ) (heads : Heads) (d : Deed) (before : List Deed) (ends : List RecvEnd) → IsStill d
    → NumbersApart (map ended_recv (withdrawn_by d ++ flat_map (gone_with first heads before ends) (forgotten_by before d)))
    → NumbersApart (map ended_recv (recv_ends_by first heads d before ends))
unfolding recv_ends_by
none_filled first heads d before ends s a =
    let gone = flat_map (gone_with first heads before ends) (forgotten_by before d) in
    subst (λ (ps : List Pair). NumbersApart (map ended_recv (map Filled ps ++ withdrawn_by d ++ gone))) (sym (still_fills first heads d before s)) a

-- what ends by a deed that only fills
only_filled : (first : ℕ) (heads : Heads) (d : Deed) (before : List Deed) → NumbersApart (map ended_recv (map Filled (filled_by first heads d before) ++ [] ++ []))
unfolding filled_by
only_filled first heads d before =
    let t : Pair → Bool = λ p. is_filled first heads (d ∷ before) p && not (is_filled first heads before p) in
    let fs = map Filled (filter t (pairs first heads (d ∷ before))) in
    subst (λ (es : List RecvEnd). NumbersApart (map ended_recv es)) (sym (append-nil fs) ∙ sym (append-nil (fs ++ [])))
    (filled_apart t (pairs first heads (d ∷ before)) (matching_numbered first heads (d ∷ before)).pairs_apart)

-- the receives that end by one deed have numbers of their own
new_apart : (first : ℕ) (heads : Heads) (d : Deed) (before : List Deed) (ends : List RecvEnd) → NumbersApart (map ended_recv (recv_ends_by first heads d before ends))
unfolding recv_ends_by withdrawn_by forgotten_by ended_recv
new_apart first heads (Took from item) before ends = only_filled first heads (Took from item) before
new_apart first heads (Did (Recv req)) before ends = only_filled first heads (Did (Recv req)) before
new_apart first heads (Did (Cancel recv)) before ends = none_filled first heads (Did (Cancel recv)) before ends tt (tt, tt)
new_apart first heads (Did (Insert l)) before ends =
    none_filled first heads (Did (Insert l)) before ends tt
    (flat_apart first heads before ends (forgotten_by before (Did (Insert l))) (let m = forgotten_most before (Did (Insert l)) in omega arith))
new_apart first heads d before ends = none_filled first heads d before ends tt tt

-- a receive that goes with a life had not ended
gone_fresh : (first : ℕ) (heads : Heads) (before : List Deed) (ends : List RecvEnd) (l : Life) (e : RecvEnd) → Member e (gone_with first heads before ends l) → has_ended ends (ended_recv e) ≡ false
unfolding gone_with ended_recv
gone_fresh first heads before ends l e h =
    let t : Receive → Bool = λ (r : Receive). concerns (pairs first heads before) l r && not (has_ended ends r.number) in
    let m = member-map (λ (r : Receive). Gone r.number) e (filter t (receives before)) h in
    let f = member-filter t m.0 (receives before) m.1 in
    let n = not-true (has_ended ends m.0.number) (and_parts (concerns (pairs first heads before) l m.0) (not (has_ended ends m.0.number)) f.1).1 in
    subst (λ (x : RecvEnd). has_ended ends (ended_recv x) ≡ false) m.2 n

-- nothing that a deed takes is of a life that was forgotten
forgotten_carries : (own : Own) (ps : List Pair) (d : Deed) (before : List Deed) (source : Life) (n : ℕ) → LifeLocal own (d ∷ before) → is_forgotten before source ≡ true → carried_by ps source n d ≡ None
unfolding carried_by
forgotten_carries own ps (Took from item) before source n local forgotten =
    let other : same_life from source ≡ false = false_from_ne_true (same_life from source) (λ t. took_kept own before from source item local forgotten (same_life-true from source t)) in
    rw other refl
forgotten_carries own ps _ before source n local forgotten = refl

-- a receive that a deed fills had not ended
filled_fresh : (own : Own) (d : Deed) (before : List Deed) (p : Pair) → LifeLocal own (d ∷ before) → Member p (filled_by own.limits.first (heard_by own.limits.first (d ∷ before)).head d before)
    → has_ended (recv_ends own.limits.first (heard_by own.limits.first (d ∷ before)).head before) p.recv.id.0 ≡ true → ⊥
filled_fresh own d before p local h ended =
    let first = own.limits.first in
    let heads = (heard_by first (d ∷ before)).head in
    let f = newly_filled first heads d before p h in
    let not_before = f.2 in
    elim (ended_cases first heads before p.recv.id.0 ended) [
      | inl a ↦ (
          let same : a.pair ≡ p = (matching_numbered first heads (d ∷ before)).once a.pair p (pair_still first heads d before a.pair a.member) f.0 a.recv_is in
          let t : is_filled first heads before p ≡ true = subst (λ (x : Pair). is_filled first heads before x ≡ true) same a.filled in
          cc)
      | inr a ↦ elim a [
        | inl w ↦
            let r = withdrawn_absent own before w.0 local.0 w.1 in
            let b = absent_at w.0.0 (matching first (heard_by first before).head before) (matching first heads before) (earlier_matching first d before) r.0 in
            (absent_still first heads d before w.0.0 r.1 b).not_paired p f.0 (sym w.2)
        | inr g ↦ (
            let c = concerned first heads (d ∷ before) p g.life g.recv f.0 (receives_more d before g.recv g.accepted) g.recv_is (concerns_still first heads d before g.life g.recv g.concerns') in
            let forgotten : is_forgotten before p.message.life ≡ true = subst (λ (x : Life). is_forgotten before x ≡ true) (sym c) g.forgotten in
            let old = old_pair own first heads d before p local forgotten f.0 in
            let t = filled_before first heads d before p old (forgotten_carries own (pairs first heads before) d before p.message.life p.message.no.0 local forgotten) f.1 in
            cc)
      ]
    ]

-- a receive that waits and concerns a life names it: it is in no pair
waiting_names : (first : ℕ) (heads : Heads) (before : List Deed) (w : PostedRecv) (l : Life) (r : Receive) → Member w (matching first heads before).posted → Member r (receives before)
    → r.number ≡ w.id.0 → concerns (pairs first heads before) l r ≡ true → is_life w.from l ≡ true
unfolding concerns is_recv
waiting_names first heads before w l r h accepted number c =
    let t : Pair → Bool = λ (q : Pair). q.recv.id.0 == r.number && same_life q.message.life l in
    elim (or_cases (is_life r.posted.from l) (list_any t (pairs first heads before)) c) [
      | inl a ↦
          let mine = (posted_accepted first heads before).waiting w h in
          let s = (receive_stands before mine.recv mine.accepted).1 in
          let n : mine.recv.number ≡ w.id.0 = sym s ∙ ap (λ (x : PostedRecv). x.id.0) mine.posted_is in
          let same = receive_once before r mine.recv accepted mine.accepted (number ∙ sym n) in
          subst (λ (x : PostedRecv). is_life x.from l ≡ true) (ap (λ (x : Receive). x.posted) same ∙ mine.posted_is) a
      | inr a ↦
          let q = list_any_member t (pairs first heads before) a in
          let b = and_parts (q.0.recv.id.0 == r.number) (same_life q.0.message.life l) q.2 in
          absurd ((matching_numbered first heads before).gone q.0 w q.1 h (eqb-true q.0.recv.id.0 r.number b.0 ∙ number))
    ]

-- a receive that is taken back had not ended
withdrawn_fresh : (own : Own) (recv : RecvNo) (before : List Deed) → LifeLocal own (Did (Cancel recv) ∷ before)
    → has_ended (recv_ends own.limits.first (heard_by own.limits.first (Did (Cancel recv) ∷ before)).head before) recv.0 ≡ true → ⊥
unfolding is_recv
withdrawn_fresh own recv before local ended =
    let first = own.limits.first in
    let d : Deed = Did (Cancel recv) in
    let heads = (heard_by first (d ∷ before)).head in
    let step : LifeStep own before (Did (Cancel recv)) = local.1 in
    let s = life_scene step.0 own step.1 before in
    let p = posted_recv s recv.0 (did_posted s recv step.2 step.3) in
    let f : find (is_recv recv.0) (matching first heads before).posted ≡ Some p.0 = subst (λ (x : Matching). find (is_recv recv.0) x.posted ≡ Some p.0) (earlier_matching first d before) p.1 in
    let m = find_member (is_recv recv.0) p.0 (matching first heads before).posted f in
    let id : p.0.id.0 ≡ recv.0 = eqb-true p.0.id.0 recv.0 m.1 in
    elim (ended_cases first heads before recv.0 ended) [
      | inl a ↦ (matching_numbered first heads before).gone a.pair p.0 a.member m.0 (a.recv_is ∙ sym id)
      | inr a ↦ elim a [
        | inl w ↦
            let r = withdrawn_absent own before w.0 local.0 w.1 in
            let b = absent_at w.0.0 (matching first (heard_by first before).head before) (matching first heads before) (earlier_matching first d before) r.0 in
            b.not_posted p.0 m.0 (id ∙ sym w.2)
        | inr g ↦
            let names = waiting_names first heads before p.0 g.life g.recv m.0 g.accepted (g.recv_is ∙ sym id) g.concerns' in
            (forgotten_rests own first heads before g.life local.0 g.forgotten).posted p.0 m.0 names
      ]
    ]

-- the receives that end by a deed had not ended
new_fresh : (own : Own) (d : Deed) (before : List Deed) (e : RecvEnd) → LifeLocal own (d ∷ before)
    → Member e (recv_ends_by own.limits.first (heard_by own.limits.first (d ∷ before)).head d before (recv_ends own.limits.first (heard_by own.limits.first (d ∷ before)).head before))
    → has_ended (recv_ends own.limits.first (heard_by own.limits.first (d ∷ before)).head before) (ended_recv e) ≡ true → ⊥
unfolding recv_ends_by ended_recv
new_fresh own d before e local h ended =
    let first = own.limits.first in
    let heads = (heard_by first (d ∷ before)).head in
    let ends = recv_ends first heads before in
    elim (member-append_cases e (map Filled (filled_by first heads d before) ++ withdrawn_by d) (flat_map (gone_with first heads before ends) (forgotten_by before d)) h) [
      | inl a ↦ elim (member-append_cases e (map Filled (filled_by first heads d before)) (withdrawn_by d) a) [
        | inl b ↦
            let m = member-map Filled e (filled_by first heads d before) b in
            filled_fresh own d before m.0 local m.1 (subst (λ (x : RecvEnd). has_ended ends (ended_recv x) ≡ true) (sym m.2) ended)
        | inr b ↦
            let w = withdrawn_from d e b in
            let P : Deed → Type 0 = λ x. LifeLocal own (x ∷ before) → has_ended (recv_ends first (heard_by first (x ∷ before)).head before) w.0.0 ≡ true → ⊥ in
            subst P (sym w.1) (withdrawn_fresh own w.0 before) local (subst (λ (x : RecvEnd). has_ended ends (ended_recv x) ≡ true) w.2 ended)
      ]
      | inr a ↦ (
          let m = member-flat_map (gone_with first heads before ends) e (forgotten_by before d) a in
          let n = gone_fresh first heads before ends m.0 e m.2 in
          cc)
    ]

-- a number of the ends has ended
number_ended : (es : List RecvEnd) (n : ℕ) → Member n (map ended_recv es) → has_ended es n ≡ true
unfolding has_ended
number_ended es n h = let m = member-map ended_recv n es h in member_list_any (λ e. ended_recv e == n) m.0 es m.1 (eq-eqb (ended_recv m.0) n m.2)

-- each receive of a life ends once
pub ends_once : (own : Own) (log : List Deed) → LifeLocal own log → NumbersApart (map ended_recv (recv_ends own.limits.first (heard_by own.limits.first log).head log))
unfolding recv_ends with_recv_ends
ends_once own [] local = tt
ends_once own (d ∷ before) local =
    let first = own.limits.first in
    let heads = (heard_by first (d ∷ before)).head in
    let ends = recv_ends first heads before in
    let new = recv_ends_by first heads d before ends in
    let same = recv_ends_same first (heard_by first before).head heads before (agree_grows first d before).heads in
    let earlier : NumbersApart (map ended_recv ends) = subst (λ (es : List RecvEnd). NumbersApart (map ended_recv es)) same (ends_once own before local.0) in
    subst NumbersApart (sym (map-append ended_recv ends new))
    (apart_append (map ended_recv ends) (map ended_recv new) earlier (new_apart first heads d before ends)
    (λ k j m n is. (
    let e = member-map ended_recv j new n in
    let t = number_ended ends k m in
    new_fresh own d before e.0 local e.1 (subst (λ (x : ℕ). has_ended ends x ≡ true) (sym is ∙ sym e.2) t))))
