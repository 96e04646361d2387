-- An end or a receipt that is taken ends its send.
use Rattle.std.proofs.Common.{◌≡◌, Bool, true, false, cond, not, ◌&&◌, List, [], ◌∷◌, map, refl, sym, ◌∙◌, ap, subst}
use Rattle.std.specs.Prelude.{◌==◌, nat_eq, filter}
use Rattle.std.proofs.lemmas.Bool.{and_parts, and_from, eqb-true, eq-eqb}
use Rattle.rdm_lists.specs.Lists.{Member}
use Rattle.rdm_num.specs.Lives.{same_life}
use Rattle.rdm_num.specs.declared.numbers.Life.{Life}
use Rattle.rdm_num.specs.declared.numbers.OpId.{OpId}
use Rattle.rdm_num.specs.declared.numbers.MsgNo.{MsgNo}
use Rattle.rdm_num.specs.declared.numbers.Connid.{Connid}
use Rattle.rdm_num.proofs.Lives.{same_life-true, same_life-refl}
use Rattle.rdm_pkt.specs.declared.Packet.TheVariants.{Eor, Receipt}
use Rattle.rdm_model.specs.Beginnings.{Own}
use Rattle.rdm_model.specs.Currents.{forgotten_by}
use Rattle.rdm_model.specs.Deeds.{Deed, Took, Spelled}
use Rattle.rdm_model.specs.Dues.{is_read, ends_send, confirms}
use Rattle.rdm_model.specs.Grants.{grants_by}
use Rattle.rdm_model.specs.Reads.{asked_by}
use Rattle.rdm_model.specs.Replies.{given_by, without_forgotten}
use Rattle.rdm_model.specs.Sends.{Sent, sent_by}
use Rattle.rdm_law.proofs.Lives.Lives.{LifeStep}
use Rattle.rdm_law.proofs.Replies.Queue.{popped}
use Rattle.rdm_life.specs.Handling.{after, after_item}
use Rattle.rdm_life.specs.Kept.{Kept, LiveSend, is_send}
use Rattle.rdm_life.specs.Keeps.{own_progress, kept_send, KeepsSends}
use Rattle.rdm_life.specs.Lives.{greet, with_source}
use Rattle.rdm_life.specs.Sending.{end_sends, is_send_of}
use Rattle.rdm_life.proofs.OwnSends.{own_live, own_over, new_sends}
use Rattle.rdm_life.proofs.SendLists.{filter_kept}
use Rattle.rdm_life.proofs.SendsQuiet.{live_was, live_left, owed_still, count_nothing}
use Rattle.rdm_life.proofs.SendTargets.{end_target, receipt_target, target_one, message_one}
use Rattle.rdm_life.proofs.SendWords.{answer_count, kept_still, ends_by, over_now}
use Rattle.rdm_life.proofs.Tests.{same_test}

-- the sends that pass a test are over
abbrev Ends : Own → Deed → List Deed → (LiveSend → Bool) → Type 0
Ends own d log test = (s : Sent) → Member s (own_live own log) → test (kept_send own log s) ≡ own_over own (d ∷ log) s

-- where those are over that pass, and the others stay as they were
ended_sends : (own : Own) (d : Deed) (log : List Deed) (v : Kept) (test : LiveSend → Bool) → new_sends own log d ≡ [] → Ends own d log test
    → ((s : Sent) → kept_send own (d ∷ log) s ≡ kept_send own log s) → (after d v).sends ≡ filter (λ (s : LiveSend). not (test s)) v.sends
    → KeepsSends own log v → KeepsSends own (d ∷ log) (after d v)
ended_sends own d log v test none ends same left k =
    record {
      sends_are =
          left ∙ ap (filter (λ (s : LiveSend). not (test s))) k.sends_are
          ∙ filter_kept (λ (s : LiveSend). not (test s)) (kept_send own log) (kept_send own (d ∷ log)) (λ s. not (own_over own (d ∷ log) s)) (own_live own log)
          (λ s m. ap not (ends s m)) (λ s m h. same s)
          ∙ ap (map (kept_send own (d ∷ log))) (sym (live_left own d log none));
    }

-- ---- ends

-- only a read send ends so
end_read : (r c e : Bool) → cond r e (cond c false false) ≡ true → e ≡ true
end_read true c e h = h
end_read false true e h = cc
end_read false false e h = cc

-- a send is over by its end
end_ends : (own : Own) (log : List Deed) (from : Life) (send recv : OpId) (connid : Connid) → LifeStep own log (Took from (Spelled (Eor send recv connid)))
    → Ends own (Took from (Spelled (Eor send recv connid))) log (is_send send.0)
unfolding ends_by forgotten_by ends_send confirms kept_send
end_ends own log from send recv connid step s m =
    let d = Took from (Spelled (Eor send recv connid)) in
    let over : own_over own (d ∷ log) s ≡ cond (is_read s.kind) (same_life from s.to && send.0 == s.number) (cond s.message.confirm false false) =
    over_now own d log s (λ e. cc) (live_was own log s m) in
    let t = end_target own log from send recv connid step in
    same_test (s.number == send.0) (own_over own (d ∷ log) s)
    (λ h.
    let e = eqb-true s.number send.0 h in
    let one = target_one own log from send.0 t.target s m e in
    let read : is_read s.kind ≡ true = subst (λ (x : Sent). is_read x.kind ≡ true) one t.read in
    let to : s.to ≡ from = subst (λ (x : Sent). x.to ≡ from) one t.target.to_is in
    over ∙ rw read (and_from (same_life from s.to) (nat_eq send.0 s.number) (ap (same_life from) to ∙ same_life-refl from) (eq-eqb send.0 s.number (sym e))))
    (λ h.
    let p = end_read (is_read s.kind) s.message.confirm (same_life from s.to && send.0 == s.number) (sym over ∙ h) in
    eq-eqb s.number send.0 (sym (eqb-true send.0 s.number (and_parts (same_life from s.to) (nat_eq send.0 s.number) p).1)))

-- an end changes no send that is left
end_kept : (own : Own) (log : List Deed) (from : Life) (send recv : OpId) (connid : Connid) (s : Sent)
    → kept_send own (Took from (Spelled (Eor send recv connid)) ∷ log) s ≡ kept_send own log s
unfolding grants_by asked_by given_by popped forgotten_by
end_kept own log from send recv connid s =
    let d = Took from (Spelled (Eor send recv connid)) in
    let rs = (own_progress own log).replies in
    kept_still own d log s (λ e. cc) refl refl
    (count_nothing s [] (answer_count s (without_forgotten log d (popped d rs))) refl ∙ ap (answer_count s) (owed_still log d rs refl refl))

-- what is left by an end
end_left : (from : Life) (send recv : OpId) (connid : Connid) (v : Kept)
    → (after (Took from (Spelled (Eor send recv connid))) v).sends ≡ filter (λ (s : LiveSend). not (is_send send.0 s)) v.sends
unfolding after after_item end_sends greet with_source
end_left from send recv connid v = refl

-- after an end
pub end_sends_kept : (own : Own) (log : List Deed) (v : Kept) (from : Life) (send recv : OpId) (connid : Connid) → LifeStep own log (Took from (Spelled (Eor send recv connid)))
    → KeepsSends own log v → KeepsSends own (Took from (Spelled (Eor send recv connid)) ∷ log) (after (Took from (Spelled (Eor send recv connid))) v)
unfolding sent_by
end_sends_kept own log v from send recv connid step k =
    ended_sends own (Took from (Spelled (Eor send recv connid))) log v (is_send send.0) refl (end_ends own log from send recv connid step)
    (end_kept own log from send recv connid) (end_left from send recv connid v) k

-- ---- receipts

-- only a confirmed send ends so
receipt_confirms : (r c e : Bool) → cond r false (cond c e false) ≡ true → e ≡ true
receipt_confirms true c e h = cc
receipt_confirms false true e h = h
receipt_confirms false false e h = cc

-- a send is over by its receipt
receipt_ends : (own : Own) (log : List Deed) (from : Life) (number : MsgNo) (connid : Connid) → LifeStep own log (Took from (Spelled (Receipt number connid)))
    → Ends own (Took from (Spelled (Receipt number connid))) log (is_send_of from number.0)
unfolding ends_by forgotten_by ends_send confirms kept_send
receipt_ends own log from number connid step s m =
    let d = Took from (Spelled (Receipt number connid)) in
    let over : own_over own (d ∷ log) s ≡ cond (is_read s.kind) false (cond s.message.confirm (same_life from s.to && number.0 == s.message.no.0) false) =
    over_now own d log s (λ e. cc) (live_was own log s m) in
    let t = receipt_target own log from number connid step in
    same_test (same_life s.to from && s.message.no.0 == number.0) (own_over own (d ∷ log) s)
    (λ h.
    let p = and_parts (same_life s.to from) (nat_eq s.message.no.0 number.0) h in
    let to = same_life-true s.to from p.0 in
    let e = eqb-true s.message.no.0 number.0 p.1 in
    let one = message_one own log from number.0 t s m to e in
    let unread : is_read s.kind ≡ false = subst (λ (x : Sent). is_read x.kind ≡ false) one t.unread in
    let confirm : s.message.confirm ≡ true = subst (λ (x : Sent). x.message.confirm ≡ true) one t.confirm in
    over ∙ rw (unread, confirm) (and_from (same_life from s.to) (nat_eq number.0 s.message.no.0) (ap (same_life from) to ∙ same_life-refl from) (eq-eqb number.0 s.message.no.0 (sym e))))
    (λ h.
    let q = receipt_confirms (is_read s.kind) s.message.confirm (same_life from s.to && number.0 == s.message.no.0) (sym over ∙ h) in
    let p = and_parts (same_life from s.to) (nat_eq number.0 s.message.no.0) q in
    let to = same_life-true from s.to p.0 in
    and_from (same_life s.to from) (nat_eq s.message.no.0 number.0) (ap (λ (l : Life). same_life l from) (sym to) ∙ same_life-refl from)
    (eq-eqb s.message.no.0 number.0 (sym (eqb-true number.0 s.message.no.0 p.1))))

-- a receipt changes no send that is left
receipt_kept : (own : Own) (log : List Deed) (from : Life) (number : MsgNo) (connid : Connid) (s : Sent)
    → kept_send own (Took from (Spelled (Receipt number connid)) ∷ log) s ≡ kept_send own log s
unfolding grants_by asked_by given_by popped forgotten_by
receipt_kept own log from number connid s =
    let d = Took from (Spelled (Receipt number connid)) in
    let rs = (own_progress own log).replies in
    kept_still own d log s (λ e. cc) refl refl
    (count_nothing s [] (answer_count s (without_forgotten log d (popped d rs))) refl ∙ ap (answer_count s) (owed_still log d rs refl refl))

-- what is left by a receipt
receipt_left : (from : Life) (number : MsgNo) (connid : Connid) (v : Kept)
    → (after (Took from (Spelled (Receipt number connid))) v).sends ≡ filter (λ (s : LiveSend). not (is_send_of from number.0 s)) v.sends
unfolding after after_item end_sends greet with_source
receipt_left from number connid v = refl

-- after a receipt
pub receipt_sends_kept : (own : Own) (log : List Deed) (v : Kept) (from : Life) (number : MsgNo) (connid : Connid) → LifeStep own log (Took from (Spelled (Receipt number connid)))
    → KeepsSends own log v → KeepsSends own (Took from (Spelled (Receipt number connid)) ∷ log) (after (Took from (Spelled (Receipt number connid))) v)
unfolding sent_by
receipt_sends_kept own log v from number connid step k =
    ended_sends own (Took from (Spelled (Receipt number connid))) log v (is_send_of from number.0) refl (receipt_ends own log from number connid step)
    (receipt_kept own log from number connid) (receipt_left from number connid v) k
