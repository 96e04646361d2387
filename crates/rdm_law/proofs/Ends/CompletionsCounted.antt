-- Each send and each receive completes once at most.
use Rattle.std.proofs.Common.{◌≡◌, ◌+◌, ◌≤◌, Bool, true, false, cond, not, List, [], ◌∷◌, ◌++◌, map, length, Option, Some, None, refl, arith, inl, inr, sym, ap, subst}
use Rattle.std.specs.Prelude.{◌==◌, ◌||◌, filter, option_to_list}
use Rattle.std.specs.List.{list_any}
use Rattle.std.proofs.lemmas.Bool.{or_left, or_right, or_cases, eq-eqb, not-true}
use Rattle.std.proofs.lemmas.List.{length-append, length-map}
use Rattle.std.proofs.lemmas.List.Elements.{filter-append}
use Rattle.std.proofs.lemmas.List.Filters.{length-filter_both}
use Rattle.rdm_lists.specs.Lists.{Member}
use Rattle.rdm_num.specs.Lives.{same_life}
use Rattle.rdm_num.specs.Pieces.{covers}
use Rattle.rdm_num.specs.declared.completion.Completion.TheVariants.{Recv as RecvCompletion}
use Rattle.rdm_pkt.specs.declared.Packet.{Packet}
use Rattle.rdm_model.specs.Deeds.{Deed}
use Rattle.rdm_model.specs.Beginnings.{Own, Messages}
use Rattle.rdm_model.specs.Currents.{is_forgotten, forgotten_by}
use Rattle.rdm_model.specs.Matches.{Receive, receives}
use Rattle.rdm_model.specs.Receives.{RecvEnd, ended_recv, recv_ends, recv_ends_by, with_recv_ends, receive_numbered}
use Rattle.rdm_model.specs.Sends.{Sent, sends}
use Rattle.rdm_model.specs.Dues.{progress, pieces_in, is_read, is_pushed, is_complete, is_over, ends_send, confirms, live_of, live_sends}
use Rattle.rdm_model.specs.Completions.{outcome, recv_completion, recv_completions, ended_sends, send_completion, completions_by, completions}
use Rattle.rdm_model.proofs.SameReceives.{covers_more}
use Rattle.rdm_model.proofs.Numbers.{sends_step}
use Rattle.rdm_model.proofs.Opens.{pieces_in-append}
use Rattle.rdm_model.proofs.Pushes.{pushed_of}
use Rattle.rdm_model.proofs.Served.{pushed_longer}
use Rattle.rdm_law.proofs.Ends.Overs.{CompleteBy, complete_by, over_from, pushed_still}
use Rattle.rdm_lists.proofs.Members.{filter-member, member_list_any}
use Rattle.rdm_lists.proofs.Filters.{filter_length}

-- a filter of a list that passes more has no fewer elements
weaker : {A : Type 0} (p q r : A → Bool) (xs : List A) → ((x : A) → Member x xs → p x ≡ true → (q x ≡ true) × (r x ≡ true)) → length (filter p xs) ≤ length (filter q (filter r xs))
weaker p q r [] h = omega arith
weaker {A} p q r (x ∷ xs) h =
    let e = weaker p q r xs (λ y m. h y (inr m)) in
    (elim (p x) as (λ b. p x ≡ b → length (cond b (x ∷ filter p xs) (filter p xs)) ≤ length (filter q (cond (r x) (x ∷ filter r xs) (filter r xs)))) [
      | true ↦ λ t.
          let k = h x (inl refl) t in
          subst (λ b. length (x ∷ filter p xs) ≤ length (filter q (cond b (x ∷ filter r xs) (filter r xs)))) (sym k.1)
          (subst (λ b. length (x ∷ filter p xs) ≤ length (cond b (x ∷ filter q (filter r xs)) (filter q (filter r xs)))) (sym k.0) (omega arith))
      | false ↦ λ t.
          elim (r x) as (λ b. length (filter p xs) ≤ length (filter q (cond b (x ∷ filter r xs) (filter r xs)))) [
            | false ↦ e
            | true ↦ elim (q x) as (λ b. length (filter p xs) ≤ length (cond b (x ∷ filter q (filter r xs)) (filter q (filter r xs)))) [ true ↦ omega arith | false ↦ e ]
          ]
    ]) refl

-- what completes a send stays
by_still : (own : Own) (ms : Messages) (d : Deed) (before : List Deed) (s : Sent) → CompleteBy before (pushed_of own ms before s.number) s
    → CompleteBy (d ∷ before) (pushed_of own ms (d ∷ before) s.number) s
by_still own ms d before s (inl a) = inl (a.0, or_right (ends_send s.to s.number d) (list_any (ends_send s.to s.number) before) a.1)
by_still own ms d before s (inr (inl a)) = inr (inl (a.0, a.1, or_right (confirms s.to s.message.no.0 d) (list_any (confirms s.to s.message.no.0) before) a.2))
by_still own ms d before s (inr (inr a)) =
    let more = pushed_longer own ms d before s.number in
    inr (inr (a.0, a.1, subst (λ x. is_pushed s x ≡ true) (sym more.1) (pushed_still s (pushed_of own ms before s.number) more.0 a.2)))

-- a send that is over stays so
over_still : (own : Own) (ms : Messages) (d : Deed) (before : List Deed) (s : Sent) → is_over before (pushed_of own ms before s.number) s ≡ true
    → is_over (d ∷ before) (pushed_of own ms (d ∷ before) s.number) s ≡ true
unfolding is_over is_forgotten
over_still own ms d before s h =
    let now = pushed_of own ms (d ∷ before) s.number in
    elim (or_cases (is_forgotten before s.to) (is_complete before (pushed_of own ms before s.number) s) h) [
      | inl f ↦ or_left (is_forgotten before s.to || list_any (same_life s.to) (forgotten_by before d)) (is_complete (d ∷ before) now s)
          (or_left (is_forgotten before s.to) (list_any (same_life s.to) (forgotten_by before d)) f)
      | inr k ↦ over_from (d ∷ before) now s (by_still own ms d before s (complete_by before (pushed_of own ms before s.number) s k))
    ]

not_live : (b c : Bool) → (c ≡ true → b ≡ true) → not b ≡ true → not c ≡ true
not_live b true h n = (let e = h refl in let f = not-true b n in cc)
not_live b false h n = refl

-- those that were live and are not any more, and those that are, were live
ended_count : (own : Own) (ms : Messages) (d : Deed) (before : List Deed)
    → length (filter (λ (s : Sent). not (is_over (d ∷ before) (pushed_of own ms (d ∷ before) s.number) s)) (sends own ms before)) + length (ended_sends own ms d before (progress own ms before))
    ≤ length (live_sends own ms before)
unfolding ended_sends live_sends live_of progress
ended_count own ms d before =
    let sents = sends own ms before in
    let live : Sent → Bool = λ s. not (is_over before (pushed_of own ms before s.number) s) in
    let live' : Sent → Bool = λ s. not (is_over (d ∷ before) (pushed_of own ms (d ∷ before) s.number) s) in
    let over' : Sent → Bool = λ s. is_over (d ∷ before) (pushed_of own ms (d ∷ before) s.number) s in
    let w = weaker live' live' live sents (λ s m t. (
      t,
      not_live (over' s) (is_over before (pushed_of own ms before s.number) s) (over_still own ms d before s) t,
    )) in
    let b = length-filter_both over' live' (λ x. refl) (filter live sents) in
    omega arith

-- a deed makes each of its new sends live at most
live_count : (own : Own) (ms : Messages) (d : Deed) (before : List Deed)
    → length (live_sends own ms (d ∷ before)) + length (ended_sends own ms d before (progress own ms before)) + length (sends own ms before)
    ≤ length (live_sends own ms before) + length (sends own ms (d ∷ before))
unfolding live_sends live_of
live_count own ms d before =
    let live' : Sent → Bool = λ s. not (is_over (d ∷ before) (pushed_of own ms (d ∷ before) s.number) s) in
    let e = ended_count own ms d before in
    elim (sends_step own ms d before) [
      | inl same ↦ (let x = ap (λ (ss : List Sent). length (filter live' ss)) same in let y = ap length same in omega arith)
      | inr new ↦ (
          let x = ap (λ (ss : List Sent). length (filter live' ss)) new.2 in
          let z = ap length (filter-append live' (sends own ms before) (new.0 ∷ [])) in
          let l = length-append (filter live' (sends own ms before)) (filter live' (new.0 ∷ [])) in
          let f = filter_length live' (new.0 ∷ []) in
          let y = ap length new.2 in
          let m = length-append (sends own ms before) (new.0 ∷ []) in
          omega arith)
    ]

option_count : {A B : Type 0} (f : A → B) (o : Option A) → length (map f (option_to_list o)) ≤ 1
option_count f None = omega arith
option_count f (Some x) = omega arith

-- each receive that ends completes once at most
ends_count : (ms : Messages) (rs : List Receive) (es : List RecvEnd) → length (recv_completions ms rs es) ≤ length es
unfolding recv_completions recv_completion
ends_count ms rs [] = omega arith
ends_count ms rs (e ∷ es) =
    let l = length-append (recv_completion ms rs e) (recv_completions ms rs es) in
    let o = option_count (λ (r : Receive). RecvCompletion (record { 0 = r.number }) (outcome ms e r)) (receive_numbered rs (ended_recv e)) in
    let r = ends_count ms rs es in
    omega arith

-- before anything no send is live
filter_none : (own : Own) (ms : Messages) → length (completions own ms []) + length (live_sends own ms []) ≤ length (sends own ms []) + length (recv_ends own.limits.first ms.head [])
unfolding completions live_sends live_of sends recv_ends
filter_none own ms = omega arith

-- completions are of sends that are not live any more and of receives that ended
pub completions_ended : (own : Own) (ms : Messages) (log : List Deed)
    → length (completions own ms log) + length (live_sends own ms log) ≤ length (sends own ms log) + length (recv_ends own.limits.first ms.head log)
unfolding completions completions_by recv_ends with_recv_ends
completions_ended own ms [] = filter_none own ms
completions_ended own ms (d ∷ before) =
    let first = own.limits.first in
    let ih = completions_ended own ms before in
    let live = live_count own ms d before in
    let ends = recv_ends first ms.head before in
    let new = recv_ends_by first ms.head d before ends in
    let rc = recv_completions ms (receives (d ∷ before)) new in
    let sc = map (send_completion (d ∷ before)) (ended_sends own ms d before (progress own ms before)) in
    let a = length-append (completions own ms before) (rc ++ sc) in
    let b = length-append rc sc in
    let c = length-map (ended_sends own ms d before (progress own ms before)) (send_completion (d ∷ before)) in
    let e = ends_count ms (receives (d ∷ before)) new in
    let f = length-append ends new in
    omega arith
