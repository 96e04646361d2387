-- What a deed completes: receives that end by it, and then sends that are over by it.
use Rattle.std.proofs.Common.{◌≡◌, ◌+◌, Bool, true, false, cond, ◌&&◌, not, List, [], ◌∷◌, ◌++◌, map, drop, Option, Some, None, refl, arith, sym, ◌∙◌, ap, subst}
use Rattle.std.specs.Prelude.{◌==◌, filter}
use Rattle.std.proofs.lemmas.Bool.{and_parts, and_from, eqb-true, eq-eqb, not-true, or_parts, false_from_ne_true}
use Rattle.std.proofs.lemmas.List.{drop-append-le}
use Rattle.rdm_lists.specs.Lists.{Member}
use Rattle.rdm_num.specs.Lives.{same_life}
use Rattle.rdm_num.specs.declared.numbers.Life.{Life}
use Rattle.rdm_num.specs.declared.numbers.OpId.{OpId}
use Rattle.rdm_num.specs.declared.numbers.MsgNo.{MsgNo}
use Rattle.rdm_num.specs.declared.numbers.Connid.{Connid}
use Rattle.rdm_num.specs.declared.completion.Completion.{Completion}
use Rattle.rdm_num.specs.declared.completion.Completion.TheVariants.{Send}
use Rattle.rdm_num.proofs.Lives.{same_life-true, same_life-refl}
use Rattle.rdm_pkt.specs.declared.Packet.TheVariants.{Eor, Receipt}
use Rattle.rdm_model.specs.declared.job.Instr.TheVariants.{Insert}
use Rattle.rdm_model.specs.Deeds.{Deed, Did, Pushed, Took, Spelled, deed_count}
use Rattle.rdm_model.specs.Beginnings.{Own}
use Rattle.rdm_model.specs.Currents.{forgotten_by, is_forgotten}
use Rattle.rdm_model.specs.Matches.{receives}
use Rattle.rdm_model.specs.Receives.{RecvEnd, recv_ends_by}
use Rattle.rdm_model.specs.Sends.{Sent}
use Rattle.rdm_model.specs.Targets.{live_send, live_message, is_read_send, is_confirmed_send}
use Rattle.rdm_model.specs.Classes.{is_no_op}
use Rattle.rdm_model.specs.Dues.{ends_send, confirms, is_read, is_complete, is_over, live_sends, progress}
use Rattle.rdm_model.specs.Completions.{recv_completions, ended_sends, send_completion, completions_by, completions, polls_by, poll_count}
use Rattle.rdm_model.proofs.Numbers.{sends_one}
use Rattle.rdm_model.proofs.SameReceives.{recv_ends_same}
use Rattle.rdm_model.proofs.SameDues.{live_sends_same}
use Rattle.rdm_model.proofs.SameCompletions.{completions_same}
use Rattle.rdm_model.proofs.Grows.{agree_grows}
use Rattle.rdm_law.proofs.Lives.Lives.{LifeLocal, LifeStep, life_scene}
use Rattle.rdm_law.proofs.Accounts.Known.{message_is_one}
use Rattle.rdm_law.proofs.Bound.NoteCounts.{polls_counted}
use Rattle.rdm_law.proofs.Classes.Classed.{taken_parts}
use Rattle.rdm_law.proofs.Ends.LiveSends.{live_parts}
use Rattle.rdm_life.specs.Kept.{Kept, LiveSend}
use Rattle.rdm_life.specs.Keeps.{told, own_progress, kept_send, KeepsSends}
use Rattle.rdm_life.proofs.OwnSends.{own_live, own_over}
use Rattle.rdm_life.proofs.SendLists.{filter_kept}
use Rattle.rdm_life.proofs.SendWords.{ends_by, over_now}
use Rattle.rdm_lists.proofs.Filters.{filter_nothing}
use Rattle.rdm_lists.proofs.Members.{find_member, member-filter}
use Rattle.rdm_lists.proofs.Same.{filter_where, map_same}
use Rattle.rdm_life.proofs.EndSteps.{new_ends}

-- the completions of a life
abbrev pub own_completions : Own → List Deed → List Completion
own_completions own log = completions own (told own log) log

-- their completions
abbrev pub new_received : Own → Deed → List Deed → List Completion
new_received own d log = recv_completions (told own (d ∷ log)) (receives (d ∷ log)) (new_ends own d log)

-- the sends that were live and are over after a deed
abbrev pub new_over : Own → Deed → List Deed → List Sent
new_over own d log = filter (own_over own (d ∷ log)) (own_live own log)

-- the completions after a deed
pub completed : (own : Own) (d : Deed) (log : List Deed)
    → own_completions own (d ∷ log) ≡ own_completions own log ++ (new_received own d log ++ map (send_completion (d ∷ log)) (new_over own d log))
unfolding completions completions_by ended_sends live_sends progress
completed own d log =
    let first = own.limits.first in
    let was = told own log in
    let now = told own (d ∷ log) in
    let a = agree_grows first d log in
    sym (ap (λ (xs : List Completion). xs ++ completions_by own now d log) (completions_same own was now log a))
    ∙ ap (λ (es : List RecvEnd). own_completions own log ++ (recv_completions now (receives (d ∷ log)) (recv_ends_by first now.head d log es)
    ++ map (send_completion (d ∷ log)) (ended_sends own now d log (progress own now log)))) (sym (recv_ends_same first was.head now.head log a.heads))
    ∙ ap (λ (ss : List Sent). own_completions own log ++ (new_received own d log ++ map (send_completion (d ∷ log)) (filter (own_over own (d ∷ log)) ss)))
    (sym (live_sends_same own was now log a))

-- what was not polled after a deed that polls nothing
pub unpolled : (own : Own) (d : Deed) (log : List Deed) (kept new : List Completion) → LifeLocal own log → polls_by d ≡ 0
    → kept ≡ drop (poll_count log) (own_completions own log) → own_completions own (d ∷ log) ≡ own_completions own log ++ new
    → kept ++ new ≡ drop (poll_count (d ∷ log)) (own_completions own (d ∷ log))
unfolding poll_count deed_count
unpolled own d log kept new local none are more =
    let same : deed_count polls_by log + polls_by d ≡ deed_count polls_by log = omega arith in
    ap (λ (xs : List Completion). xs ++ new) are
    ∙ sym (drop-append-le (deed_count polls_by log) (own_completions own log) new (polls_counted own log local))
    ∙ ap (drop (deed_count polls_by log)) (sym more)
    ∙ ap (λ k. drop k (own_completions own (d ∷ log))) (sym same)

-- ---- sends that are over

-- a live send is not over
pub live_still : (own : Own) (log : List Deed) (s : Sent) → Member s (own_live own log) → own_over own log s ≡ false
live_still own log s m = not-true (own_over own log s) (live_parts own (told own log) log s m).1

-- its life was not forgotten
pub live_known : (own : Own) (log : List Deed) (s : Sent) → Member s (own_live own log) → is_forgotten log s.to ≡ false
unfolding is_over
live_known own log s m =
    (or_parts (is_forgotten log s.to) (is_complete log ((own_progress own log).packets s.number) s) (live_still own log s m)).0

-- a deed that ends no send: it pushes nothing, forgets nobody, and takes no end and no receipt
abbrev pub EndsNone : Deed → Type 0
EndsNone Pushed = ⊥
EndsNone (Did (Insert life)) = ⊥
EndsNone (Took from (Spelled (Eor send recv connid))) = ⊥
EndsNone (Took from (Spelled (Receipt number connid))) = ⊥
EndsNone _ = Unit {0}

-- neither way
pub neither : (b c : Bool) → cond b false (cond c false false) ≡ false
neither true c = refl
neither false true = refl
neither false false = refl

-- no send is over by it
none_ends : (log : List Deed) (d : Deed) (s : Sent) → EndsNone d → ends_by log d s ≡ false
unfolding ends_by ends_send confirms forgotten_by
none_ends log Pushed s e = absurd e
none_ends log (Did (Insert life)) s e = absurd e
none_ends log (Took from (Spelled (Eor send recv connid))) s e = absurd e
none_ends log (Took from (Spelled (Receipt number connid))) s e = absurd e
none_ends log _ s e = neither (is_read s.kind) s.message.confirm

-- so none is newly over
pub over_none : (own : Own) (d : Deed) (log : List Deed) → EndsNone d → new_over own d log ≡ []
over_none own d log e =
    filter_nothing (own_over own (d ∷ log)) (own_live own log)
    (λ s m. over_now own d log s (λ is. subst EndsNone is e) (live_still own log s m) ∙ none_ends log d s e)

-- the completion of a send that is over, and not gone
abbrev pub done_of : Sent → Completion
done_of s = Send (record { 0 = s.number }) false

-- the same of what is kept
abbrev pub kept_done : LiveSend → Completion
kept_done s = Send (record { 0 = s.sent.number }) false

-- a map of a map
pub map_twice : {A B C : Type 0} (f : B → C) (g : A → B) (xs : List A) → map f (map g xs) ≡ map (λ x. f (g x)) xs
map_twice f g [] = refl
map_twice f g (x ∷ xs) = ap (λ ys. f (g x) ∷ ys) (map_twice f g xs)

-- the completions of the kept sends that pass
kept_over : (own : Own) (log : List Deed) (v : Kept) (test : LiveSend → Bool) → KeepsSends own log v
    → map kept_done (filter test v.sends) ≡ map done_of (filter (λ (s : Sent). test (kept_send own log s)) (own_live own log))
unfolding kept_send
kept_over own log v test k =
    let q : Sent → Bool = λ s. test (kept_send own log s) in
    ap (λ (ss : List LiveSend). map kept_done (filter test ss)) k.sends_are
    ∙ ap (map kept_done) (filter_kept test (kept_send own log) (kept_send own log) q (own_live own log) (λ x m. refl) (λ x m e. refl))
    ∙ map_twice kept_done (kept_send own log) (filter q (own_live own log))

-- the sends that are over by a deed that pushes nothing and forgets nobody are not gone
pub over_where : (own : Own) (d : Deed) (log : List Deed) (t : Sent → Bool) → (d ≡ Pushed → ⊥) → forgotten_by log d ≡ []
    → ((s : Sent) → Member s (own_live own log) → t s ≡ ends_by log d s)
    → map (send_completion (d ∷ log)) (new_over own d log) ≡ map done_of (filter t (own_live own log))
unfolding send_completion is_forgotten
over_where own d log t not' none same =
    let live = own_live own log in
    ap (map (send_completion (d ∷ log))) (filter_where (own_over own (d ∷ log)) t live (λ s m. over_now own d log s not' (live_still own log s m) ∙ sym (same s m)))
    ∙ map_same (send_completion (d ∷ log)) done_of (filter t live)
    (λ s m. (let f = live_known own log s (member-filter t s live m).0 in rw (none, f) refl))

-- what is kept of the sends that pass completes as the sends that are over do
pub kept_ends : (own : Own) (d : Deed) (log : List Deed) (v : Kept) (test : LiveSend → Bool) → (d ≡ Pushed → ⊥) → forgotten_by log d ≡ [] → KeepsSends own log v
    → ((s : Sent) → Member s (own_live own log) → test (kept_send own log s) ≡ ends_by log d s)
    → map kept_done (filter test v.sends) ≡ map (send_completion (d ∷ log)) (new_over own d log)
kept_ends own d log v test not' none k same =
    kept_over own log v test k ∙ sym (over_where own d log (λ (s : Sent). test (kept_send own log s)) not' none same)

-- what is denied falsely is so
pub unnot : (b : Bool) → not b ≡ false → b ≡ true
unnot true h = refl
unnot false h = cc

-- ---- ends

-- a send that is read is there
read_some : (o : Option Sent) → is_read_send o ≡ true → (t : Sent) × (o ≡ Some t) × (is_read t.kind ≡ true)
unfolding is_read_send
read_some None h = cc
read_some (Some t) h = (t, refl, h)

-- nothing ends by another number
other_number : (r a b c : Bool) → b ≡ false → false ≡ cond r (a && b) (cond c false false)
other_number true true b c h = sym h
other_number true false b c h = refl
other_number false a b true h = refl
other_number false a b false h = refl

-- the send that an end names is the one that is over by it
pub end_ends : (own : Own) (log : List Deed) (from : Life) (send recv : OpId) (connid : Connid) (s : Sent) → LifeLocal own (Took from (Spelled (Eor send recv connid)) ∷ log)
    → Member s (own_live own log) → (s.number == send.0) ≡ ends_by log (Took from (Spelled (Eor send recv connid))) s
unfolding ends_by ends_send confirms forgotten_by is_no_op live_send
end_ends own log from send recv connid s local m =
    let step : LifeStep own log (Took from (Spelled (Eor send recv connid))) = local.1 in
    let sc = life_scene step.0 own step.1 log in
    let op = (taken_parts sc from own.life.connid (Spelled (Eor send recv connid)) step.2).has_op in
    let r = read_some (live_send sc from send.0) (unnot (is_read_send (live_send sc from send.0)) op) in
    let named : Sent → Bool = λ x. same_life x.to from && x.number == send.0 in
    let found = find_member named r.0 (own_live own log) r.1 in
    let parts = and_parts (same_life r.0.to from) (r.0.number == send.0) found.1 in
    let n = eqb-true r.0.number send.0 parts.1 in
    (elim (s.number == send.0) as (λ b. (s.number == send.0) ≡ b → b ≡ cond (is_read s.kind) (same_life from s.to && send.0 == s.number) (cond s.message.confirm false false)) [
      | true ↦ λ e. (
          let k = eqb-true s.number send.0 e in
          let one : r.0 ≡ s = sends_one own (told own log) log r.0 s (live_parts own (told own log) log r.0 found.0).0 (live_parts own (told own log) log s m).0 (n ∙ sym k) in
          let read : is_read s.kind ≡ true = subst (λ (x : Sent). is_read x.kind ≡ true) one r.2 in
          let to : s.to ≡ from = subst (λ (x : Sent). x.to ≡ from) one (same_life-true r.0.to from parts.0) in
          let life' : same_life from s.to ≡ true = ap (λ (l : Life). same_life from l) to ∙ same_life-refl from in
          let number' : (send.0 == s.number) ≡ true = eq-eqb send.0 s.number (sym k) in
          rw (read, life', number') refl)
      | false ↦ λ e. other_number (is_read s.kind) (same_life from s.to) (send.0 == s.number) s.message.confirm
          (false_from_ne_true (send.0 == s.number) (λ t. (let u = eq-eqb s.number send.0 (sym (eqb-true send.0 s.number t)) in cc)))
    ]) refl

-- ---- receipts

-- a send that a receipt completes is there
confirmed_some : (o : Option Sent) → is_confirmed_send o ≡ true → (t : Sent) × (o ≡ Some t) × (t.message.confirm ≡ true) × (is_read t.kind ≡ false)
unfolding is_confirmed_send
confirmed_some None h = cc
confirmed_some (Some t) h =
    let p = and_parts t.message.confirm (not (is_read t.kind)) h in
    (t, refl, p.0, not-true (is_read t.kind) p.1)

-- nothing ends by another receipt
other_receipt : (r c b : Bool) → b ≡ false → false ≡ cond r false (cond c b false)
other_receipt true c b h = refl
other_receipt false true b h = sym h
other_receipt false false b h = refl

-- the send that a receipt names is the one that is over by it
pub receipt_ends : (own : Own) (log : List Deed) (from : Life) (number : MsgNo) (connid : Connid) (s : Sent) → LifeLocal own (Took from (Spelled (Receipt number connid)) ∷ log)
    → Member s (own_live own log) → (same_life s.to from && s.message.no.0 == number.0) ≡ ends_by log (Took from (Spelled (Receipt number connid))) s
unfolding ends_by ends_send confirms forgotten_by is_no_op live_message
receipt_ends own log from number connid s local m =
    let step : LifeStep own log (Took from (Spelled (Receipt number connid))) = local.1 in
    let sc = life_scene step.0 own step.1 log in
    let op = (taken_parts sc from own.life.connid (Spelled (Receipt number connid)) step.2).has_op in
    let r = confirmed_some (live_message sc from number.0) (unnot (is_confirmed_send (live_message sc from number.0)) op) in
    let named : Sent → Bool = λ x. same_life x.to from && x.message.no.0 == number.0 in
    let found = find_member named r.0 (own_live own log) r.1 in
    let parts = and_parts (same_life r.0.to from) (r.0.message.no.0 == number.0) found.1 in
    let to' = same_life-true r.0.to from parts.0 in
    let n = eqb-true r.0.message.no.0 number.0 parts.1 in
    (elim (same_life s.to from && s.message.no.0 == number.0) as (λ b. (same_life s.to from && s.message.no.0 == number.0) ≡ b
    → b ≡ cond (is_read s.kind) false (cond s.message.confirm (same_life from s.to && number.0 == s.message.no.0) false)) [
      | true ↦ λ e. (
          let q = and_parts (same_life s.to from) (s.message.no.0 == number.0) e in
          let to = same_life-true s.to from q.0 in
          let k = eqb-true s.message.no.0 number.0 q.1 in
          let one : r.0 ≡ s = message_is_one own (told own log) log r.0 s (live_parts own (told own log) log r.0 found.0).0 (live_parts own (told own log) log s m).0 (to' ∙ sym to) (n ∙ sym k) in
          let confirm : s.message.confirm ≡ true = subst (λ (x : Sent). x.message.confirm ≡ true) one r.2 in
          let unread : is_read s.kind ≡ false = subst (λ (x : Sent). is_read x.kind ≡ false) one r.3 in
          let life' : same_life from s.to ≡ true = ap (λ (l : Life). same_life from l) to ∙ same_life-refl from in
          let number' : (number.0 == s.message.no.0) ≡ true = eq-eqb number.0 s.message.no.0 (sym k) in
          rw (confirm, unread, life', number') refl)
      | false ↦ λ e. other_receipt (is_read s.kind) s.message.confirm (same_life from s.to && number.0 == s.message.no.0)
          (false_from_ne_true (same_life from s.to && number.0 == s.message.no.0) (λ t. (
          let q = and_parts (same_life from s.to) (number.0 == s.message.no.0) t in
          let to = same_life-true from s.to q.0 in
          let k = eqb-true number.0 s.message.no.0 q.1 in
          let a : same_life s.to from ≡ true = ap (λ (l : Life). same_life l from) (sym to) ∙ same_life-refl from in
          let u = and_from (same_life s.to from) (s.message.no.0 == number.0) a (eq-eqb s.message.no.0 number.0 (sym k)) in
          cc)))
    ]) refl
