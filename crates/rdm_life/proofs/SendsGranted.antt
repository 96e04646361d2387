-- A grant or an ask that is taken changes its send.
use Rattle.std.proofs.Common.{◌≡◌, ℕ, ◌+◌, Bool, true, false, cond, ◌&&◌, List, [], ◌∷◌, ◌++◌, map, Option, Some, refl, arith, inl, inr, sym, ◌∙◌, ap, ap₂, subst}
use Rattle.std.specs.Prelude.{◌==◌, ◌||◌, nat_eq, option_map, slice_get}
use Rattle.std.specs.List.{list_any}
use Rattle.std.proofs.Math.Path.{fun_ext}
use Rattle.std.proofs.lemmas.Bool.{and_from, and_right, eq-eqb, ne_eqb, cases_eq}
use Rattle.std.proofs.lemmas.List.{append-nil}
use Rattle.std.proofs.lemmas.List.Sums.{sum_by-append}
use Rattle.rdm_lists.specs.Lists.{Member, or_else}
use Rattle.rdm_num.specs.Lives.{same_life}
use Rattle.rdm_num.specs.declared.numbers.Life.{Life}
use Rattle.rdm_num.specs.declared.numbers.OpId.{OpId}
use Rattle.rdm_num.specs.declared.numbers.Connid.{Connid}
use Rattle.rdm_num.proofs.Lives.{same_life-refl}
use Rattle.rdm_pkt.specs.declared.Packet.{Packet}
use Rattle.rdm_pkt.specs.declared.Packet.TheVariants.{Cts}
use Rattle.rdm_wire.specs.declared.ReadAsk.{ReadAsk}
use Rattle.rdm_model.specs.Beginnings.{Own}
use Rattle.rdm_model.specs.ClassFacts.{is_number}
use Rattle.rdm_model.specs.Currents.{forgotten_by}
use Rattle.rdm_model.specs.Deeds.{Deed, Took, Spelled, Asks}
use Rattle.rdm_model.specs.Dues.{is_read, ends_send, confirms}
use Rattle.rdm_model.specs.Grants.{Grant, grants, grants_by, grant_bytes}
use Rattle.rdm_model.specs.Reads.{asks_of, asked_by}
use Rattle.rdm_model.specs.Replies.{Reply, given_of, given_by, without_forgotten}
use Rattle.rdm_model.specs.Sends.{Sent, sent_by}
use Rattle.rdm_law.proofs.Lives.Lives.{LifeStep}
use Rattle.rdm_law.proofs.Replies.Queue.{popped}
use Rattle.rdm_life.specs.Handling.{after, after_item}
use Rattle.rdm_life.specs.Kept.{Kept, LiveSend, is_send, change_where}
use Rattle.rdm_life.specs.Keeps.{own_sends, own_progress, kept_send, KeepsSends}
use Rattle.rdm_life.specs.Lives.{greet, with_source}
use Rattle.rdm_life.specs.Sending.{opening_bytes, after_grant, after_ask, with_grant, with_ask, is_asked}
use Rattle.rdm_life.proofs.OwnSends.{own_live, own_over, own_packets, new_sends}
use Rattle.rdm_life.proofs.SendLists.{none_either, any-append, change_kept}
use Rattle.rdm_life.proofs.SendsQuiet.{live_was, live_same, owed_still, count_nothing}
use Rattle.rdm_life.proofs.SendTargets.{Target, grant_target, ask_target, target_one, target_found}
use Rattle.rdm_life.proofs.SendWords.{answers, answer_count, kept_by, kept_by_same, kept_is, kept_next, kept_still, packets_still, ends_by, over_now}
use Rattle.rdm_life.proofs.Tests.{or_none}

-- where a deed makes and ends no send, and changes those that pass
changed_sends : (own : Own) (d : Deed) (log : List Deed) (v : Kept) (test : LiveSend → Bool) (change : LiveSend → LiveSend) → new_sends own log d ≡ []
    → ((s : Sent) → Member s (own_live own log) → own_over own (d ∷ log) s ≡ false)
    → ((s : Sent) → Member s (own_live own log) → cond (test (kept_send own log s)) (change (kept_send own log s)) (kept_send own log s) ≡ kept_send own (d ∷ log) s)
    → (after d v).sends ≡ change_where test change v.sends → KeepsSends own log v → KeepsSends own (d ∷ log) (after d v)
changed_sends own d log v test change none live changes left k =
    record {
      sends_are =
          left ∙ ap (change_where test change) k.sends_are ∙ change_kept test change (kept_send own log) (kept_send own (d ∷ log)) (own_live own log) changes
          ∙ ap (map (kept_send own (d ∷ log))) (sym (live_same own d log none live));
    }

-- ---- grants

-- the first of two lists
first_append : (gs : List Grant) (g : Grant)
    → option_map (λ (x : Grant). x.recv) (slice_get (gs ++ g ∷ []) 0) ≡ or_else (option_map (λ (x : Grant). x.recv) (slice_get gs 0)) (Some g.recv)
unfolding or_else
first_append [] g = refl
first_append (x ∷ gs) g = refl

-- one grant more
grant_more : (gs : List Grant) (g : Grant) → grant_bytes (gs ++ g ∷ []) ≡ grant_bytes gs + g.size
unfolding grant_bytes
grant_more gs g = let e = sum_by-append (λ (x : Grant). x.size) gs (g ∷ []) in omega arith

-- a send with one grant more
with_grant_is : (own : Own) (s : Sent) (ps : List Packet) (gs : List Grant) (asks : List ReadAsk) (owes recv size : ℕ)
    → with_grant recv size (kept_by own s ps gs asks owes) ≡ kept_by own s ps (gs ++ record { recv = recv; size = size } ∷ []) asks owes
with_grant_is own s ps gs asks owes recv size =
    let g : Grant = record { recv = recv; size = size } in
    let more = grant_more gs g in
    let a : opening_bytes own s + grant_bytes gs + size ≡ opening_bytes own s + grant_bytes (gs ++ g ∷ []) = omega arith in
    ap₂ (λ (x : ℕ) (y : Option ℕ). record (kept_by own s ps gs asks owes) { allowed = x; granted_by = y }) a (sym (first_append gs g))

-- what is kept of the send that is granted
granted_kept : (own : Own) (log : List Deed) (from : Life) (send recv : OpId) (size : ℕ) (connid : Connid) (s : Sent) → s.to ≡ from → s.number ≡ send.0
    → with_grant recv.0 size (kept_send own log s) ≡ kept_send own (Took from (Spelled (Cts send recv size connid)) ∷ log) s
unfolding grants_by asked_by given_by popped forgotten_by
granted_kept own log from send recv size connid s to e =
    let d = Took from (Spelled (Cts send recv size connid)) in
    let rs = (own_progress own log).replies in
    let gs = grants log s.to s.number in
    let asks = asks_of log s.to s.number in
    let ps = own_packets own log s.number in
    let g : Grant = record { recv = recv.0; size = size } in
    let here : (same_life from s.to && send.0 == s.number) ≡ true =
    and_from (same_life from s.to) (nat_eq send.0 s.number) (ap (same_life from) to ∙ same_life-refl from) (eq-eqb send.0 s.number (sym e)) in
    ap (with_grant recv.0 size) (kept_is own log s)
    ∙ with_grant_is own s ps gs asks (answer_count s rs) recv.0 size
    ∙ sym (
    kept_next own d log s
    ∙ kept_by_same own s (own_packets own (d ∷ log) s.number) ps (gs ++ cond (same_life from s.to && send.0 == s.number) (g ∷ []) []) (gs ++ g ∷ []) (asks ++ []) asks _ _
    (packets_still own d log s.number (λ x. cc))
    (ap (λ (b : Bool). gs ++ cond b (g ∷ []) []) here)
    (append-nil asks)
    (count_nothing s [] (answer_count s (without_forgotten log d (popped d rs))) refl ∙ ap (answer_count s) (owed_still log d rs refl refl)))

-- what is kept of another send
ungranted_kept : (own : Own) (log : List Deed) (from : Life) (send recv : OpId) (size : ℕ) (connid : Connid) (s : Sent) → (s.number ≡ send.0 → ⊥)
    → kept_send own log s ≡ kept_send own (Took from (Spelled (Cts send recv size connid)) ∷ log) s
unfolding grants_by asked_by given_by popped forgotten_by
ungranted_kept own log from send recv size connid s other =
    let d = Took from (Spelled (Cts send recv size connid)) in
    let rs = (own_progress own log).replies in
    let g : Grant = record { recv = recv.0; size = size } in
    let none : (same_life from s.to && send.0 == s.number) ≡ false = and_right (same_life from s.to) (nat_eq send.0 s.number) (ne_eqb send.0 s.number (λ x. other (sym x))) in
    sym (kept_still own d log s (λ x. cc) (ap (λ (b : Bool). cond b (g ∷ []) []) none) refl
    (count_nothing s [] (answer_count s (without_forgotten log d (popped d rs))) refl ∙ ap (answer_count s) (owed_still log d rs refl refl)))

-- a grant changes its send, and no other
grant_changes : (own : Own) (log : List Deed) (from : Life) (send recv : OpId) (size : ℕ) (connid : Connid) → LifeStep own log (Took from (Spelled (Cts send recv size connid)))
    → (s : Sent) → Member s (own_live own log)
    → cond (is_send send.0 (kept_send own log s)) (with_grant recv.0 size (kept_send own log s)) (kept_send own log s) ≡ kept_send own (Took from (Spelled (Cts send recv size connid)) ∷ log) s
unfolding kept_send
grant_changes own log from send recv size connid step s m =
    let was = kept_send own log s in
    elim (cases_eq s.number send.0) [
      | inl e ↦
          let t = grant_target own log from send recv size connid step in
          let to : s.to ≡ from = subst (λ (x : Sent). x.to ≡ from) (target_one own log from send.0 t s m e) t.to_is in
          ap (λ (b : Bool). cond b (with_grant recv.0 size was) was) (eq-eqb s.number send.0 e) ∙ granted_kept own log from send recv size connid s to e
      | inr e ↦ ap (λ (b : Bool). cond b (with_grant recv.0 size was) was) (ne_eqb s.number send.0 e) ∙ ungranted_kept own log from send recv size connid s e
    ]

-- a grant ends no send
grant_over : (own : Own) (log : List Deed) (from : Life) (send recv : OpId) (size : ℕ) (connid : Connid) (s : Sent) → Member s (own_live own log)
    → own_over own (Took from (Spelled (Cts send recv size connid)) ∷ log) s ≡ false
unfolding ends_by forgotten_by ends_send confirms
grant_over own log from send recv size connid s m =
    over_now own (Took from (Spelled (Cts send recv size connid))) log s (λ e. cc) (live_was own log s m) ∙ none_either (is_read s.kind) s.message.confirm

-- what is left by a grant
grant_left : (from : Life) (send recv : OpId) (size : ℕ) (connid : Connid) (v : Kept)
    → (after (Took from (Spelled (Cts send recv size connid))) v).sends ≡ change_where (is_send send.0) (with_grant recv.0 size) v.sends
unfolding after after_item after_grant greet with_source
grant_left from send recv size connid v = refl

-- after a grant
pub grant_sends_kept : (own : Own) (log : List Deed) (v : Kept) (from : Life) (send recv : OpId) (size : ℕ) (connid : Connid)
    → LifeStep own log (Took from (Spelled (Cts send recv size connid)))
    → KeepsSends own log v → KeepsSends own (Took from (Spelled (Cts send recv size connid)) ∷ log) (after (Took from (Spelled (Cts send recv size connid))) v)
unfolding sent_by
grant_sends_kept own log v from send recv size connid step k =
    changed_sends own (Took from (Spelled (Cts send recv size connid))) log v (is_send send.0) (with_grant recv.0 size) refl
    (grant_over own log from send recv size connid) (grant_changes own log from send recv size connid step) (grant_left from send recv size connid v) k

-- ---- asks

-- a send with one ask more
with_ask_is : (own : Own) (s : Sent) (ps : List Packet) (gs : List Grant) (asks : List ReadAsk) (owes : ℕ) (ask : ReadAsk)
    → with_ask ask (kept_by own s ps gs asks owes) ≡ kept_by own s ps gs (asks ++ ask ∷ []) (owes + 1)
with_ask_is own s ps gs asks owes ask =
    ap (λ (f : ℕ → Bool). record (kept_by own s ps gs asks (owes + 1)) { was_asked = f })
    (fun_ext (λ place.
    sym (any-append (λ (a : ReadAsk). is_asked a place) asks (ask ∷ [])
    ∙ ap (λ (b : Bool). list_any (λ (a : ReadAsk). is_asked a place) asks || b) (or_none (is_asked ask place)))))

-- the answer to an ask of that send
abbrev answer_to : Life → ReadAsk → Sent → List Reply
answer_to from ask t = given_of from ask (Some t)

-- it is one of the send that is asked
answer_one : (from : Life) (ask : ReadAsk) (s : Sent) → s.to ≡ from → answer_count s (answer_to from ask s) ≡ 1
unfolding answer_count answers given_of is_number
answer_one from ask s to =
    let passes : (same_life from s.to && s.number == s.number) ≡ true =
    and_from (same_life from s.to) (nat_eq s.number s.number) (ap (same_life from) to ∙ same_life-refl from) (eq-eqb s.number s.number refl) in
    rw passes refl

-- it is none of another send
answer_none : (from : Life) (ask : ReadAsk) (s t : Sent) → (t.number ≡ s.number → ⊥) → answer_count s (answer_to from ask t) ≡ 0
unfolding answer_count answers given_of is_number
answer_none from ask s t other =
    let fails : (same_life from s.to && t.number == s.number) ≡ false = and_right (same_life from s.to) (nat_eq t.number s.number) (ne_eqb t.number s.number other) in
    rw fails refl

-- what is given for an ask
given_is : (own : Own) (log : List Deed) (from : Life) (ask : ReadAsk) (t : Target own log from ask.send_id.0) → given_by (own_sends own log) (Took from (Asks ask)) ≡ answer_to from ask t.sent
unfolding given_by
given_is own log from ask t = ap (given_of from ask) (target_found own log from ask.send_id.0 t)

-- what is kept of the send that is asked
asked_kept : (own : Own) (log : List Deed) (from : Life) (ask : ReadAsk) (t : Target own log from ask.send_id.0) (s : Sent) → t.sent ≡ s
    → with_ask ask (kept_send own log s) ≡ kept_send own (Took from (Asks ask) ∷ log) s
unfolding grants_by asked_by popped forgotten_by
asked_kept own log from ask t s one =
    let d = Took from (Asks ask) in
    let rs = (own_progress own log).replies in
    let gs = grants log s.to s.number in
    let asks = asks_of log s.to s.number in
    let ps = own_packets own log s.number in
    let to : s.to ≡ from = subst (λ (x : Sent). x.to ≡ from) one t.to_is in
    let e : s.number ≡ ask.send_id.0 = subst (λ (x : Sent). x.number ≡ ask.send_id.0) one t.number_is in
    let here : (same_life from s.to && ask.send_id.0 == s.number) ≡ true =
    and_from (same_life from s.to) (nat_eq ask.send_id.0 s.number) (ap (same_life from) to ∙ same_life-refl from) (eq-eqb ask.send_id.0 s.number (sym e)) in
    let given : answer_count s (given_by (own_sends own log) d) ≡ 1 =
    ap (answer_count s) (given_is own log from ask t) ∙ ap (λ (x : Sent). answer_count s (answer_to from ask x)) one ∙ answer_one from ask s to in
    let owed : answer_count s (without_forgotten log d (popped d rs)) ≡ answer_count s rs = ap (answer_count s) (owed_still log d rs refl refl) in
    ap (with_ask ask) (kept_is own log s)
    ∙ with_ask_is own s ps gs asks (answer_count s rs) ask
    ∙ sym (
    kept_next own d log s
    ∙ kept_by_same own s (own_packets own (d ∷ log) s.number) ps (gs ++ []) gs (asks ++ cond (same_life from s.to && ask.send_id.0 == s.number) (ask ∷ []) []) (asks ++ ask ∷ []) _ _
    (packets_still own d log s.number (λ x. cc))
    (append-nil gs)
    (ap (λ (b : Bool). asks ++ cond b (ask ∷ []) []) here)
    (ap₂ (λ (x y : ℕ). x + y) owed given))

-- what is kept of another send
unasked_kept : (own : Own) (log : List Deed) (from : Life) (ask : ReadAsk) (t : Target own log from ask.send_id.0) (s : Sent) → (s.number ≡ ask.send_id.0 → ⊥)
    → kept_send own log s ≡ kept_send own (Took from (Asks ask) ∷ log) s
unfolding grants_by asked_by popped forgotten_by
unasked_kept own log from ask t s other =
    let d = Took from (Asks ask) in
    let rs = (own_progress own log).replies in
    let none : (same_life from s.to && ask.send_id.0 == s.number) ≡ false =
    and_right (same_life from s.to) (nat_eq ask.send_id.0 s.number) (ne_eqb ask.send_id.0 s.number (λ x. other (sym x))) in
    let given : answer_count s (given_by (own_sends own log) d) ≡ 0 =
    ap (answer_count s) (given_is own log from ask t) ∙ answer_none from ask s t.sent (λ x. other (sym x ∙ t.number_is)) in
    let owed : answer_count s (without_forgotten log d (popped d rs)) ≡ answer_count s rs = ap (answer_count s) (owed_still log d rs refl refl) in
    sym (kept_still own d log s (λ x. cc) refl (ap (λ (b : Bool). cond b (ask ∷ []) []) none) (omega arith))

-- an ask changes its send, and no other
ask_changes : (own : Own) (log : List Deed) (from : Life) (ask : ReadAsk) → LifeStep own log (Took from (Asks ask)) → (s : Sent) → Member s (own_live own log)
    → cond (is_send ask.send_id.0 (kept_send own log s)) (with_ask ask (kept_send own log s)) (kept_send own log s) ≡ kept_send own (Took from (Asks ask) ∷ log) s
unfolding kept_send
ask_changes own log from ask step s m =
    let was = kept_send own log s in
    let t = ask_target own log from ask step in
    elim (cases_eq s.number ask.send_id.0) [
      | inl e ↦ ap (λ (b : Bool). cond b (with_ask ask was) was) (eq-eqb s.number ask.send_id.0 e)
          ∙ asked_kept own log from ask t s (target_one own log from ask.send_id.0 t s m e)
      | inr e ↦ ap (λ (b : Bool). cond b (with_ask ask was) was) (ne_eqb s.number ask.send_id.0 e) ∙ unasked_kept own log from ask t s e
    ]

-- an ask ends no send
ask_over : (own : Own) (log : List Deed) (from : Life) (ask : ReadAsk) (s : Sent) → Member s (own_live own log) → own_over own (Took from (Asks ask) ∷ log) s ≡ false
unfolding ends_by forgotten_by ends_send confirms
ask_over own log from ask s m = over_now own (Took from (Asks ask)) log s (λ e. cc) (live_was own log s m) ∙ none_either (is_read s.kind) s.message.confirm

-- what is left by an ask
ask_left : (from : Life) (ask : ReadAsk) (v : Kept) → (after (Took from (Asks ask)) v).sends ≡ change_where (is_send ask.send_id.0) (with_ask ask) v.sends
unfolding after after_item after_ask greet with_source
ask_left from ask v = refl

-- after an ask
pub ask_sends_kept : (own : Own) (log : List Deed) (v : Kept) (from : Life) (ask : ReadAsk) → LifeStep own log (Took from (Asks ask))
    → KeepsSends own log v → KeepsSends own (Took from (Asks ask) ∷ log) (after (Took from (Asks ask)) v)
unfolding sent_by
ask_sends_kept own log v from ask step k =
    changed_sends own (Took from (Asks ask)) log v (is_send ask.send_id.0) (with_ask ask) refl (ask_over own log from ask) (ask_changes own log from ask step) (ask_left from ask v) k
