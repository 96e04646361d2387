-- What is completed after deeds that make no pair and bring no bytes, and forget nobody.
use Rattle.std.proofs.Common.{◌≡◌, ℕ, zero, suc, ◌+◌, Bool, true, false, cond, ◌&&◌, not, List, [], ◌∷◌, ◌++◌, map, drop, Option, Some, None, refl, arith, inl, inr, sym, ◌∙◌, ap, subst}
use Rattle.std.specs.Prelude.{◌==◌, filter, find, option_to_list, slice_get}
use Rattle.std.proofs.Math.Bool.{and-false}
use Rattle.std.proofs.lemmas.Bool.{eqb-true, ne_eqb}
use Rattle.std.proofs.lemmas.List.{append-nil, map-append}
use Rattle.rdm_lists.specs.Lists.{Member}
use Rattle.rdm_num.specs.declared.numbers.Life.{Life}
use Rattle.rdm_num.specs.declared.numbers.RecvNo.{RecvNo}
use Rattle.rdm_num.specs.declared.request.SendReq.{SendReq}
use Rattle.rdm_num.specs.declared.completion.Completion.{Completion}
use Rattle.rdm_num.specs.declared.completion.Completion.TheVariants.{Recv as RecvDone}
use Rattle.rdm_num.specs.declared.completion.Outcome.TheVariants.{Cancelled}
use Rattle.rdm_pkt.specs.declared.Packet.TheVariants.{Rtm, Cts, CtsData, Eor, Handshake, Receipt}
use Rattle.rdm_model.specs.declared.job.Instr.TheVariants.{Insert, Recv, Cancel, Send, Reg}
use Rattle.rdm_model.specs.Deeds.{Deed, Did, PushedNote, Pushed, TookNote, Took, Polled, Nothing, Item, Spelled, Asks, Gives, Garbled, deed_count}
use Rattle.rdm_model.specs.Beginnings.{Own}
use Rattle.rdm_model.specs.Currents.{forgotten_by}
use Rattle.rdm_model.specs.Matches.{Receive, receives, with_received, received_by}
use Rattle.rdm_model.specs.Receives.{RecvEnd, Withdrawn, ended_recv, has_ended, withdrawn_by, recv_ends_by, with_recv_ends, recv_ends, live_receives, receive_numbered}
use Rattle.rdm_model.specs.Completions.{outcome, recv_completion, recv_completions, send_completion, polls_by, poll_count}
use Rattle.rdm_model.proofs.SameReceives.{recv_ends_same}
use Rattle.rdm_model.proofs.Grows.{agree_grows}
use Rattle.rdm_law.proofs.Lives.Lives.{LifeLocal}
use Rattle.rdm_law.proofs.Matching.Others.{NumbersApart, lacks_number}
use Rattle.rdm_law.proofs.Matching.Received.{receive_at}
use Rattle.rdm_law.proofs.Ends.EndsOnce.{ends_once}
use Rattle.rdm_life.specs.Kept.{Kept, LiveSend, LiveReceive, is_send, is_receive}
use Rattle.rdm_life.specs.Keeps.{told, own_live_receives, kept_send, kept_receive, Keeps, KeepsReceives}
use Rattle.rdm_life.specs.Lives.{greet, with_source}
use Rattle.rdm_life.specs.Receiving.{after_cancel}
use Rattle.rdm_life.specs.Sending.{send_to, after_grant, after_ask, end_sends, is_send_of}
use Rattle.rdm_life.specs.Handling.{after_item, after_take, after_instr, after_poll, after}
use Rattle.rdm_life.proofs.SendLists.{filter_kept}
use Rattle.rdm_life.proofs.Idle.{IsIdle, IsIdleItem, idle_fills}
use Rattle.rdm_life.proofs.Completing.{own_completions, new_received, new_over, completed, unpolled, EndsNone, over_none, kept_done, map_twice, kept_ends, end_ends, receipt_ends}
use Rattle.rdm_lists.proofs.Filters.{filter_nothing, filter_both, list_any_none}
use Rattle.rdm_lists.proofs.Members.{member-append_right, map-member}
use Rattle.rdm_lists.proofs.Places.{member_at}
use Rattle.rdm_lists.proofs.Same.{filter_where}
use Rattle.rdm_life.proofs.EndSteps.{own_ends, new_ends}

-- what is kept of what was not polled, after a deed
abbrev pub KeepsDone : Own → Deed → List Deed → List Completion → Type 0
KeepsDone own d log kept = kept ≡ drop (poll_count (d ∷ log)) (own_completions own (d ∷ log))

-- a deed that fills nothing, takes nothing back and forgets nobody ends no receive
no_ends : (own : Own) (d : Deed) (log : List Deed) → IsIdle d → withdrawn_by d ≡ [] → forgotten_by log d ≡ [] → new_ends own d log ≡ []
unfolding recv_ends_by
no_ends own d log i w f = let n = idle_fills own.limits.first (told own (d ∷ log)).head d log i in rw (n, w, f) refl

-- so it completes none
no_received : (own : Own) (d : Deed) (log : List Deed) → IsIdle d → withdrawn_by d ≡ [] → forgotten_by log d ≡ [] → new_received own d log ≡ []
unfolding recv_completions
no_received own d log i w f = ap (recv_completions (told own (d ∷ log)) (receives (d ∷ log))) (no_ends own d log i w f)

-- the completions after it are those of sends
pub only_sends : (own : Own) (d : Deed) (log : List Deed) (new : List Completion) → IsIdle d → withdrawn_by d ≡ [] → forgotten_by log d ≡ []
    → new ≡ map (send_completion (d ∷ log)) (new_over own d log) → own_completions own (d ∷ log) ≡ own_completions own log ++ new
only_sends own d log new i w f e =
    completed own d log
    ∙ ap (λ (xs : List Completion). own_completions own log ++ (xs ++ map (send_completion (d ∷ log)) (new_over own d log))) (no_received own d log i w f)
    ∙ ap (λ (xs : List Completion). own_completions own log ++ xs) (sym e)

-- where no send is over either, all stays
pub done_still : (own : Own) (d : Deed) (log : List Deed) (v : Kept) → IsIdle d → EndsNone d → withdrawn_by d ≡ [] → forgotten_by log d ≡ [] → polls_by d ≡ 0
    → LifeLocal own (d ∷ log) → Keeps own log v → KeepsDone own d log v.completions
done_still own d log v i e w f none local k =
    sym (append-nil v.completions)
    ∙ unpolled own d log v.completions [] local.0 none k.owed.completions_are
    (only_sends own d log [] i w f (sym (ap (map (send_completion (d ∷ log))) (over_none own d log e))))

-- after an end or a receipt, which completes the sends that pass
done_ends : (own : Own) (from : Life) (item : Item) (log : List Deed) (v : Kept) (test : LiveSend → Bool) → IsIdleItem item → LifeLocal own (Took from item ∷ log) → Keeps own log v
    → map kept_done (filter test v.sends) ≡ map (send_completion (Took from item ∷ log)) (new_over own (Took from item) log)
    → KeepsDone own (Took from item) log (v.completions ++ map kept_done (filter test v.sends))
unfolding withdrawn_by forgotten_by polls_by
done_ends own from item log v test i local k over =
    unpolled own (Took from item) log v.completions (map kept_done (filter test v.sends)) local.0 refl k.owed.completions_are
    (only_sends own (Took from item) log (map kept_done (filter test v.sends)) i refl refl over)

-- after what is taken that brings no bytes
done_item : (own : Own) (log : List Deed) (v : Kept) (from : Life) (item : Item) → IsIdleItem item → LifeLocal own (Took from item ∷ log) → Keeps own log v
    → KeepsDone own (Took from item) log (after_take from item v).completions
unfolding after_item greet with_source after_grant end_sends after_ask withdrawn_by forgotten_by polls_by kept_send
done_item own log v from (Spelled (Rtm number tag confirm opt form)) i local k = absurd i
done_item own log v from (Spelled (CtsData recv offset connid bytes)) i local k = absurd i
done_item own log v from (Gives g) i local k = absurd i
done_item own log v from (Spelled (Eor send recv connid)) i local k =
    let d : Deed = Took from (Spelled (Eor send recv connid)) in
    done_ends own from (Spelled (Eor send recv connid)) log v (is_send send.0) tt local k
    (kept_ends own d log v (is_send send.0) (λ e. cc) refl k.sends (λ s m. end_ends own log from send recv connid s local m))
done_item own log v from (Spelled (Receipt number connid)) i local k =
    let d : Deed = Took from (Spelled (Receipt number connid)) in
    done_ends own from (Spelled (Receipt number connid)) log v (is_send_of from number.0) tt local k
    (kept_ends own d log v (is_send_of from number.0) (λ e. cc) refl k.sends (λ s m. receipt_ends own log from number connid s local m))
done_item own log v from (Asks ask) i local k = done_still own (Took from (Asks ask)) log v tt tt refl refl refl local k
done_item own log v from (Spelled (Cts send recv size connid)) i local k = done_still own (Took from (Spelled (Cts send recv size connid))) log v tt tt refl refl refl local k
done_item own log v from (Spelled (Handshake words connid raw)) i local k = done_still own (Took from (Spelled (Handshake words connid raw))) log v tt tt refl refl refl local k
done_item own log v from Garbled i local k = done_still own (Took from Garbled) log v tt tt refl refl refl local k

-- ---- a receive that is taken back

-- of receives that are numbered in a row one at most has a number
one_in_row : (n base : ℕ) (xs : List Receive) → ((k : ℕ) (r : Receive) → slice_get xs k ≡ Some r → r.number ≡ base + k)
    → filter (λ (r : Receive). r.number == n) xs ≡ option_to_list (find (λ (r : Receive). r.number == n) xs)
one_in_row n base [] numbered = refl
one_in_row n base (x ∷ xs) numbered =
    let mine : x.number ≡ base + 0 = numbered 0 x refl in
    let later : (k : ℕ) (r : Receive) → slice_get xs k ≡ Some r → r.number ≡ base + suc k = λ k r e. numbered (suc k) r e in
    let t : Receive → Bool = λ r. r.number == n in
    (elim (x.number == n) as (λ b. (x.number == n) ≡ b → cond b (x ∷ filter t xs) (filter t xs) ≡ option_to_list (cond b (Some x) (find t xs))) [
      | true ↦ λ e. (
          let is = eqb-true x.number n e in
          let none = filter_nothing t xs (λ y m. (let at = member_at y xs m in let is' = later at.0 y at.1 in ne_eqb y.number n (λ same. omega arith))) in
          rw none refl)
      | false ↦ λ e. one_in_row n (base + 1) xs (λ k r at. (let is = later k r at in omega arith))
    ]) refl

-- so it is of accepted receives
pub one_numbered : (log : List Deed) (n : ℕ) → filter (λ (r : Receive). r.number == n) (receives log) ≡ option_to_list (receive_numbered (receives log) n)
unfolding receive_numbered
one_numbered log n = one_in_row n 0 (receives log) (λ k r at. (let a = receive_at log k r at in let b = a.0 in omega arith))

-- the last of numbers apart is none before
last_apart : (ks : List ℕ) (k j : ℕ) → NumbersApart (ks ++ k ∷ []) → Member j ks → j ≡ k → ⊥
last_apart [] k j a m e = elim m [ ]
last_apart (i ∷ ks) k j a (inl is) e = lacks_number i k (ks ++ k ∷ []) a.0 (member-append_right k ks (k ∷ []) (inl refl)) (sym (is ∙ e))
last_apart (i ∷ ks) k j a (inr m) e = last_apart ks k j a.1 m e

-- so the last receive that ended had not ended before
last_fresh : (es : List RecvEnd) (e : RecvEnd) → NumbersApart (map ended_recv (es ++ e ∷ [])) → has_ended es (ended_recv e) ≡ false
unfolding has_ended
last_fresh es e apart =
    let a : NumbersApart (map ended_recv es ++ ended_recv e ∷ []) = subst NumbersApart (map-append ended_recv es (e ∷ [])) apart in
    list_any_none (λ x. ended_recv x == ended_recv e) es
    (λ x m. ne_eqb (ended_recv x) (ended_recv e) (λ is. last_apart (map ended_recv es) (ended_recv e) (ended_recv x) a (map-member ended_recv x es m) is))

-- the ends by a receive that is taken back
cancel_ends : (own : Own) (recv : RecvNo) (log : List Deed) (ends : List RecvEnd)
    → recv_ends_by own.limits.first (told own (Did (Cancel recv) ∷ log)).head (Did (Cancel recv)) log ends ≡ Withdrawn recv.0 ∷ []
unfolding recv_ends_by withdrawn_by forgotten_by
cancel_ends own recv log ends =
    let n = idle_fills own.limits.first (told own (Did (Cancel recv) ∷ log)).head (Did (Cancel recv)) log tt in
    rw n refl

-- it had not ended
cancel_fresh : (own : Own) (recv : RecvNo) (log : List Deed) → LifeLocal own (Did (Cancel recv) ∷ log) → has_ended (own_ends own log) recv.0 ≡ false
unfolding recv_ends with_recv_ends ended_recv
cancel_fresh own recv log local =
    let first = own.limits.first in
    let d : Deed = Did (Cancel recv) in
    let heads = (told own (d ∷ log)).head in
    let same = recv_ends_same first (told own log).head heads log (agree_grows first d log).heads in
    let all : recv_ends first heads (d ∷ log) ≡ own_ends own log ++ Withdrawn recv.0 ∷ [] =
    ap (λ (es : List RecvEnd). recv_ends first heads log ++ es) (cancel_ends own recv log (recv_ends first heads log)) ∙ ap (λ (es : List RecvEnd). es ++ Withdrawn recv.0 ∷ []) (sym same) in
    last_fresh (own_ends own log) (Withdrawn recv.0) (subst (λ (es : List RecvEnd). NumbersApart (map ended_recv es)) all (ends_once own (d ∷ log) local))

-- a live receive that had not ended is the accepted one of its number
live_numbered : (own : Own) (log : List Deed) (n : ℕ) → has_ended (own_ends own log) n ≡ false
    → filter (λ (r : Receive). r.number == n) (own_live_receives own log) ≡ option_to_list (receive_numbered (receives log) n)
unfolding live_receives
live_numbered own log n fresh =
    let p : Receive → Bool = λ r. r.number == n in
    let q : Receive → Bool = λ r. not (has_ended (own_ends own log) r.number) in
    sym (filter_both q p (receives log))
    ∙ filter_where (λ r. q r && p r) p (receives log)
    (λ r m. (elim (r.number == n) as (λ b. (r.number == n) ≡ b → (q r && b) ≡ b) [
      | false ↦ λ e. and-false (q r)
      | true ↦ λ e. (
          let no : has_ended (own_ends own log) r.number ≡ false = ap (has_ended (own_ends own log)) (eqb-true r.number n e) ∙ fresh in
          rw no refl)
    ]) refl)
    ∙ one_numbered log n

-- the completion of a receive that is taken back
abbrev back_of : Receive → Completion
back_of r = RecvDone (record { 0 = r.number }) Cancelled

-- what it completes
cancel_received : (own : Own) (recv : RecvNo) (log : List Deed)
    → new_received own (Did (Cancel recv)) log ≡ map back_of (option_to_list (receive_numbered (receives log) recv.0))
unfolding recv_completions recv_completion outcome ended_recv receives with_received received_by
cancel_received own recv log =
    let d : Deed = Did (Cancel recv) in
    ap (recv_completions (told own (d ∷ log)) (receives (d ∷ log))) (cancel_ends own recv log (own_ends own log))
    ∙ append-nil (map back_of (option_to_list (receive_numbered (receives log ++ []) recv.0)))
    ∙ ap (λ (rs : List Receive). map back_of (option_to_list (receive_numbered rs recv.0))) (append-nil (receives log))

-- the same of what is kept
cancel_kept : (own : Own) (recv : RecvNo) (log : List Deed) (v : Kept) → LifeLocal own (Did (Cancel recv) ∷ log) → KeepsReceives own log v
    → map (λ (r : LiveReceive). RecvDone (record { 0 = r.receive.number }) Cancelled) (filter (is_receive recv.0) v.receives) ≡ new_received own (Did (Cancel recv)) log
unfolding kept_receive
cancel_kept own recv log v local k =
    let done : LiveReceive → Completion = λ r. RecvDone (record { 0 = r.receive.number }) Cancelled in
    let p : Receive → Bool = λ r. r.number == recv.0 in
    ap (λ (rs : List LiveReceive). map done (filter (is_receive recv.0) rs)) k.receives_are
    ∙ ap (map done) (filter_kept (is_receive recv.0) (kept_receive own log) (kept_receive own log) p (own_live_receives own log) (λ x m. refl) (λ x m e. refl))
    ∙ map_twice done (kept_receive own log) (filter p (own_live_receives own log))
    ∙ ap (map back_of) (live_numbered own log recv.0 (cancel_fresh own recv log local))
    ∙ sym (cancel_received own recv log)

-- what is completed after it
done_cancel : (own : Own) (recv : RecvNo) (log : List Deed) (v : Kept) → LifeLocal own (Did (Cancel recv) ∷ log) → Keeps own log v
    → KeepsDone own (Did (Cancel recv)) log (after_cancel recv.0 v).completions
unfolding after_cancel polls_by
done_cancel own recv log v local k =
    let d : Deed = Did (Cancel recv) in
    let new = map (λ (r : LiveReceive). RecvDone (record { 0 = r.receive.number }) Cancelled) (filter (is_receive recv.0) v.receives) in
    let more : own_completions own (d ∷ log) ≡ own_completions own log ++ new =
    completed own d log
    ∙ ap (λ xs. own_completions own log ++ (new_received own d log ++ map (send_completion (d ∷ log)) xs)) (over_none own d log tt)
    ∙ ap (λ (xs : List Completion). own_completions own log ++ xs) (append-nil (new_received own d log) ∙ sym (cancel_kept own recv log v local k.receives)) in
    unpolled own d log v.completions new local.0 refl k.owed.completions_are more

-- ---- what is polled

-- without one more
drop_more : {A : Type 0} (k : ℕ) (xs : List A) → drop 1 (drop k xs) ≡ drop (k + 1) xs
drop_more zero xs = refl
drop_more {A} (suc k) [] = let s : suc k + 1 ≡ suc (k + 1) = omega arith in rw s refl
drop_more (suc k) (x ∷ xs) = let s : suc k + 1 ≡ suc (k + 1) = omega arith in rw s (drop_more k xs)

-- after the first completion was polled
done_polled : (own : Own) (log : List Deed) (v : Kept) → Keeps own log v → KeepsDone own Polled log (after_poll v).completions
unfolding poll_count deed_count polls_by withdrawn_by forgotten_by
done_polled own log v k =
    ap (drop 1) k.owed.completions_are
    ∙ drop_more (deed_count polls_by log) (own_completions own log)
    ∙ ap (drop (deed_count polls_by log + 1))
    (sym (only_sends own Polled log [] tt refl refl (sym (ap (map (send_completion (Polled ∷ log))) (over_none own Polled log tt))) ∙ append-nil (own_completions own log)))

-- ---- each deed

-- an instruction that sends completes nothing
sent_done : (req : SendReq) (o : Option Life) (v : Kept) → (send_to req o v).completions ≡ v.completions
unfolding send_to
sent_done req None v = refl
sent_done req (Some to) v = refl

-- a deed of which this file tells: it makes no pair, brings no bytes, pushes nothing and inserts no life
abbrev pub IsPlain : Deed → Type 0
IsPlain Pushed = ⊥
IsPlain (Did (Insert life)) = ⊥
IsPlain d = IsIdle d

-- what is completed after it
pub done_plain : (own : Own) (d : Deed) (log : List Deed) (v : Kept) → IsPlain d → LifeLocal own (d ∷ log) → Keeps own log v → KeepsDone own d log (after d v).completions
unfolding after after_instr withdrawn_by forgotten_by polls_by
done_plain own Pushed log v i local k = absurd i
done_plain own (Did (Insert life)) log v i local k = absurd i
done_plain own (Did (Recv req)) log v i local k = absurd i
done_plain own (Took from item) log v i local k = done_item own log v from item i local k
done_plain own (Did (Cancel recv)) log v i local k = done_cancel own recv log v local k
done_plain own (Did (Send req)) log v i local k = sent_done req (v.current req.to.0) v ∙ done_still own (Did (Send req)) log v tt tt refl refl refl local k
done_plain own (Did (Reg content)) log v i local k = done_still own (Did (Reg content)) log v tt tt refl refl refl local k
done_plain own (Did instr) log v i local k = done_still own (Did instr) log v tt tt refl refl refl local k
done_plain own PushedNote log v i local k = done_still own PushedNote log v tt tt refl refl refl local k
done_plain own (TookNote from note) log v i local k = done_still own (TookNote from note) log v tt tt refl refl refl local k
done_plain own Polled log v i local k = done_polled own log v k
done_plain own Nothing log v i local k = done_still own Nothing log v tt tt refl refl refl local k
