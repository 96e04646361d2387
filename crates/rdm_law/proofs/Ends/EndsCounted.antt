-- A life has two completions of each receive at most, by their number, and one of each send.
use Rattle.std.proofs.Common.{◌≡◌, ℕ, ◌+◌, ◌*◌, ◌≤◌, Bool, true, false, cond, ◌&&◌, not, List, [], ◌∷◌, ◌++◌, map, length, Option, Some, None, refl, arith, inl, inr, sym, ◌∙◌, ap, subst}
use Rattle.std.specs.Prelude.{◌==◌, filter, find, flat_map}
use Rattle.std.proofs.lemmas.Bool.{eq-eqb, and_parts, not-true}
use Rattle.std.proofs.lemmas.List.{length-append, length-map}
use Rattle.rdm_lists.specs.Lists.{Member}
use Rattle.rdm_num.specs.Lives.{same_life}
use Rattle.rdm_num.specs.declared.numbers.Life.{Life}
use Rattle.rdm_match.specs.Matcher.{Pair, Matching, is_recv}
use Rattle.rdm_model.specs.declared.job.Instr.TheVariants.{Insert, Cancel as CancelOp}
use Rattle.rdm_model.specs.Deeds.{Deed, Did}
use Rattle.rdm_model.specs.Beginnings.{Own, Heads}
use Rattle.rdm_model.specs.Currents.{current, other_life, forgotten_by}
use Rattle.rdm_model.specs.Local.{heard_by}
use Rattle.rdm_model.specs.Matches.{Receive, receives, received_by, with_received, matching, pairs}
use Rattle.rdm_model.specs.Receives.{RecvEnd, Filled, Gone, ended_recv, has_ended, is_filled, filled_by, concerns, gone_with, withdrawn_by, recv_ends_by, with_recv_ends, recv_ends}
use Rattle.rdm_model.specs.Sends.{sends}
use Rattle.rdm_model.specs.Completions.{completions}
use Rattle.rdm_model.proofs.Matches.{pairs_extend}
use Rattle.rdm_model.proofs.SameMatches.{HeadsAgree, matching_same}
use Rattle.rdm_model.proofs.SameReceives.{is_filled_same, recv_ends_same, filled_still}
use Rattle.rdm_model.proofs.Grows.{agree_grows}
use Rattle.rdm_law.proofs.Lives.Lives.{LifeLocal, LifeStep, life_scene}
use Rattle.rdm_law.proofs.Ends.Live.{did_posted, posted_recv, earlier_matching}
use Rattle.rdm_law.proofs.Ends.CompletionsCounted.{completions_ended}
use Rattle.rdm_law.proofs.Matching.MatcherSizes.{split, deed_size, size}
use Rattle.rdm_lists.proofs.Members.{member-append_left, member-append_right, filter-member, map-member, list_any_member, member_list_any}
use Rattle.rdm_lists.proofs.Same.{filter_same}
use Rattle.rdm_lists.proofs.Filters.{filter_length, filter_more}

-- an insert forgets one life at most
other_most : (life : Life) (o : Option Life) → length (other_life life o) ≤ 1
unfolding other_life
other_most life None = omega arith
other_most life (Some old) = elim (same_life old life) as (λ b. length (cond b [] (old ∷ [])) ≤ 1) [ true ↦ omega arith | false ↦ omega arith ]

-- so a deed forgets one life at most
pub forgotten_most : (before : List Deed) (d : Deed) → length (forgotten_by before d) ≤ 1
unfolding forgotten_by
forgotten_most before (Did (Insert life)) = other_most life (current before life.port.0)
forgotten_most before _ = omega arith

-- what one element at most brings
flat_one : {A B : Type 0} (f : A → List B) (xs : List A) (e n : ℕ) → length xs ≤ 1 → e ≤ n → ((x : A) → Member x xs → length (f x) + e ≤ n) → length (flat_map f xs) + e ≤ n
flat_one f [] e n l z h = omega arith
flat_one f (x ∷ []) e n l z h = let a = length-append (f x) (flat_map f []) in let b = h x (inl refl) in omega arith
flat_one f (x ∷ (y ∷ ys)) e n l z h = absurd (omega arith)

-- a receive that ended has ended
ended_more : (es fs : List RecvEnd) (n : ℕ) → has_ended es n ≡ true → has_ended (es ++ fs) n ≡ true
unfolding has_ended
ended_more es fs n h =
    let m = list_any_member (λ e. ended_recv e == n) es h in
    member_list_any (λ e. ended_recv e == n) m.0 (es ++ fs) (member-append_left m.0 es fs m.1) m.2

-- a receive that is gone has ended
ended_member : (es : List RecvEnd) (n : ℕ) → Member (Gone n) es → has_ended es n ≡ true
unfolding has_ended ended_recv
ended_member es n h = member_list_any (λ e. ended_recv e == n) (Gone n) es h (eq-eqb n n refl)

-- what one element brings is brought
flat_member : {A B : Type 0} (f : A → List B) (x : A) (y : B) (xs : List A) → Member x xs → Member y (f x) → Member y (flat_map f xs)
flat_member f x y [] h k = elim h [ ]
flat_member {A} {B} f x y (z ∷ zs) (inl is) k = member-append_left y (f z) (flat_map f zs) (subst (λ (t : A). Member y (f t)) (sym is) k)
flat_member f x y (z ∷ zs) (inr h) k = member-append_right y (f z) (flat_map f zs) (flat_member f x y zs h k)

-- how many receives ended
ended_receives : (first : ℕ) → Heads → List Deed → ℕ
ended_receives first heads log = length (filter (λ (r : Receive). has_ended (recv_ends first heads log) r.number) (receives log))

-- a receive that goes with a life had not ended
gone_life : (first : ℕ) (heads : Heads) (d : Deed) (before : List Deed) (l : Life) → Member l (forgotten_by before d) → (p q : Receive → Bool)
    → ((r : Receive) → has_ended (recv_ends first heads before ++ recv_ends_by first heads d before (recv_ends first heads before)) r.number ≡ p r)
    → ((r : Receive) → has_ended (recv_ends first heads before) r.number ≡ q r)
    → ((r : Receive) → q r ≡ true → p r ≡ true)
    → length (gone_with first heads before (recv_ends first heads before) l) + length (filter q (receives before)) ≤ length (filter p (receives before))
unfolding gone_with recv_ends_by
gone_life first heads d before l m p q is_p is_q qp =
    let ends = recv_ends first heads before in
    let rs = receives before in
    let a : Receive → Bool = λ r. concerns (pairs first heads before) l r && not (has_ended ends r.number) in
    let old = map Filled (filled_by first heads d before) ++ withdrawn_by d in
    let goes = flat_map (gone_with first heads before ends) (forgotten_by before d) in
    let c = length-map (filter a rs) (λ (r : Receive). Gone r.number) in
    let s = split a p q rs (λ r k h. (
      sym (is_p r) ∙ ended_member (ends ++ (old ++ goes)) r.number (member-append_right (Gone r.number) ends (old ++ goes) (member-append_right (Gone r.number) old goes
          (flat_member (gone_with first heads before ends) l (Gone r.number) (forgotten_by before d) m (map-member (λ (r : Receive). Gone r.number) r (filter a rs) (filter-member a r rs k h))))),
      sym (is_q r) ∙ not-true (has_ended ends r.number) (and_parts (concerns (pairs first heads before) l r) (not (has_ended ends r.number)) h).1,
    )) qp in
    omega arith

-- a receive that is gone had not ended
gone_count : (first : ℕ) (heads : Heads) (d : Deed) (before : List Deed)
    → length (flat_map (gone_with first heads before (recv_ends first heads before)) (forgotten_by before d)) + ended_receives first heads before ≤ ended_receives first heads (d ∷ before)
unfolding ended_receives recv_ends with_recv_ends receives with_received
gone_count first heads d before =
    let ends = recv_ends first heads before in
    let new = recv_ends_by first heads d before ends in
    let rs = receives before in
    let gone = gone_with first heads before ends in
    let q : Receive → Bool = λ r. has_ended ends r.number in
    let p : Receive → Bool = λ r. has_ended (ends ++ new) r.number in
    let more = filter_more p rs (received_by rs before d) in
    let qp : (r : Receive) → q r ≡ true → p r ≡ true = λ r h. ended_more ends new r.number h in
    let none = split (λ (r : Receive). false) p q rs (λ r m h. cc) qp in
    flat_one gone (forgotten_by before d) (length (filter q rs)) (length (filter p (rs ++ received_by rs before d))) (forgotten_most before d) (omega arith)
    (λ l m. (let g = gone_life first heads d before l m p q (λ r. refl) (λ r. refl) qp in omega arith))

-- each pair is filled once
filled_count : (first : ℕ) (heads : Heads) (d : Deed) (before : List Deed)
    → length (filled_by first heads d before) + length (filter (is_filled first heads before) (pairs first heads before))
    ≤ length (filter (is_filled first heads (d ∷ before)) (pairs first heads (d ∷ before)))
unfolding filled_by
filled_count first heads d before =
    let x = pairs_extend first heads d before in
    let q : Pair → Bool = λ y. is_filled first heads before y in
    let p : Pair → Bool = λ y. is_filled first heads (d ∷ before) y in
    let s = split (λ (y : Pair). p y && not (q y)) p q (pairs first heads (d ∷ before)) (λ y m h. (let a = and_parts (p y) (not (q y)) h in (a.0, not-true (q y) a.1)))
    (λ y h. filled_still first heads d before y h) in
    let m = filter_more q (pairs first heads before) x.0 in
    let e = ap (λ (ps : List Pair). length (filter q ps)) x.1 in
    omega arith

-- the ends that a deed adds
new_count : (first : ℕ) (heads : Heads) (d : Deed) (before : List Deed)
    → length (recv_ends first heads (d ∷ before))
    ≡ length (recv_ends first heads before) + length (filled_by first heads d before) + length (withdrawn_by d) + length (flat_map (gone_with first heads before (recv_ends first heads before)) (forgotten_by before d))
unfolding recv_ends with_recv_ends recv_ends_by
new_count first heads d before =
    let ends = recv_ends first heads before in
    let f = filled_by first heads d before in
    let goes = flat_map (gone_with first heads before ends) (forgotten_by before d) in
    let a = length-append ends ((map Filled f ++ withdrawn_by d) ++ goes) in
    let b = length-append (map Filled f ++ withdrawn_by d) goes in
    let c = length-append (map Filled f) (withdrawn_by d) in
    let e = length-map f Filled in
    omega arith

-- receives that ended are of pairs that are filled, were withdrawn from those that were posted, or were gone once
record Counts (first : ℕ) (heads : Heads) (log : List Deed) : Type 0 where
  pub withdrawn : ℕ
  pub ended : length (recv_ends first heads log) ≤ length (filter (is_filled first heads log) (pairs first heads log)) + withdrawn + ended_receives first heads log
  pub kept : size (matching first heads log) + withdrawn ≤ length (receives log)

-- the same by accounts that agree
counts_same : (first : ℕ) (hs ks : Heads) (log : List Deed) → HeadsAgree hs ks log → Counts first hs log → Counts first ks log
unfolding ended_receives
counts_same first hs ks log a c =
    let r = recv_ends_same first hs ks log a in
    let m = matching_same first hs ks log a in
    let x = ap (λ (es : List RecvEnd). length es) r in
    let y = ap (λ (es : List RecvEnd). length (filter (λ (r : Receive). has_ended es r.number) (receives log))) r in
    let z = ap (λ (ps : List Pair). length ps) (filter_same (is_filled first hs log) (is_filled first ks log) (pairs first hs log) (λ p. is_filled_same first hs ks log p a)) in
    let u = ap (λ (k : Matching). length (filter (is_filled first ks log) k.pairs)) m in
    let v = ap (λ (k : Matching). size k) m in
    let e = c.ended in
    let k = c.kept in
    record { withdrawn = c.withdrawn; ended = omega arith; kept = omega arith }

-- before anything
counts_none : (first : ℕ) (heads : Heads) → Counts first heads []
unfolding recv_ends matching receives
counts_none first heads = record { withdrawn = 0; ended = omega arith; kept = omega arith }

-- so it is after each deed
counts : (own : Own) (log : List Deed) → LifeLocal own log → Counts own.limits.first (heard_by own.limits.first log).head log
counts own [] local = counts_none own.limits.first (heard_by own.limits.first []).head
counts own (d ∷ before) local =
    let first = own.limits.first in
    let heads = (heard_by first (d ∷ before)).head in
    let ih = counts_same first (heard_by first before).head heads before (agree_grows first d before).heads (counts own before local.0) in
    let g = gone_count first heads d before in
    let f = filled_count first heads d before in
    let n = new_count first heads d before in
    let s = deed_size first heads d before (λ recv is. (
    let step : LifeStep own before (Did (CancelOp recv)) = subst (λ (x : Deed). LifeStep own before x) is local.1 in
    let s = life_scene step.0 own step.1 before in
    let p = posted_recv s recv.0 (did_posted s recv step.2 step.3) in
    (p.0, subst (λ (x : Matching). find (is_recv recv.0) x.posted ≡ Some p.0) (earlier_matching first d before) p.1))) in
    let e = ih.ended in
    let k = ih.kept in
    record { withdrawn = ih.withdrawn + length (withdrawn_by d); ended = omega arith; kept = omega arith }

-- a life's receives end twice at most, by their number
pub ends_counted : (own : Own) (log : List Deed) → LifeLocal own log → length (recv_ends own.limits.first (heard_by own.limits.first log).head log) ≤ 2 * length (receives log)
unfolding ended_receives
ends_counted own log local =
    let first = own.limits.first in
    let heads = (heard_by first log).head in
    let c = counts own log local in
    let a = filter_length (is_filled first heads log) (pairs first heads log) in
    let b = filter_length (λ (r : Receive). has_ended (recv_ends first heads log) r.number) (receives log) in
    let e = c.ended in
    let k = c.kept in
    omega arith

-- a life has no more completions than its sends and twice its receives
pub completions_counted : (own : Own) (log : List Deed) → LifeLocal own log
    → length (completions own (heard_by own.limits.first log) log) ≤ length (sends own (heard_by own.limits.first log) log) + 2 * length (receives log)
completions_counted own log local =
    let e = ends_counted own log local in
    let c = completions_ended own (heard_by own.limits.first log) log in
    omega arith
