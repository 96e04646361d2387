-- How a port ends, by what it keeps.
use Rattle.std.proofs.Common.{◌≡◌, ◌<◌, ℕ, zero, suc, Bool, true, false, cond, List, [], ◌∷◌, length, Option, Some, None, refl, ap, ◌∙◌, sym, subst, arith, ◌⊎◌, inl, inr}
use Rattle.std.specs.Prelude.{not, ◌||◌, ◌&&◌, nat_lt, nat_le, is_some, is_none, slice_get}
use Rattle.std.proofs.lemmas.Bool.{leb-true, leb-false}
use Rattle.std.proofs.lemmas.Option.{slice_get_past}
use Rattle.rdm_model.specs.declared.job.Job.{Job}
use Rattle.rdm_model.specs.declared.job.Rank.{Rank}
use Rattle.rdm_model.specs.declared.job.Instr.{Instr}
use Rattle.rdm_model.specs.declared.job.Instr.TheVariants.{OpenLife, Insert, Reg, Send, Recv, Cancel, Note, Await, Wait, CloseLife}
use Rattle.rdm_model.specs.declared.answer.Next.{Next}
use Rattle.rdm_model.specs.declared.answer.Next.TheVariants.{Did, Refused, NotYet, Ended, Worn, Memory}
use Rattle.rdm_model.specs.declared.answer.DidWhat.TheVariants.{Plain, Region}
use Rattle.rdm_model.specs.declared.answer.Why.TheVariants.{NotPosted}
use Rattle.rdm_model.specs.declared.answer.Yet.TheVariants as Yet
use Rattle.rdm_model.specs.declared.report.End.{End}
use Rattle.rdm_model.specs.Reports.{end_of}
use Rattle.rdm_model.specs.Steps.{count, nexts_by}
use Rattle.rdm_model.specs.Answers.{is_entry}
use Rattle.rdm_model.specs.Settled.{answer_or_worn, left_answer, left_at}
use Rattle.rdm_ep.specs.declared.answer.SendAnswer.{SendAnswer}
use Rattle.rdm_ep.specs.declared.answer.SendAnswer.TheVariants as SendA
use Rattle.rdm_ep.specs.declared.answer.RecvAnswer.{RecvAnswer}
use Rattle.rdm_ep.specs.declared.answer.RecvAnswer.TheVariants as RecvA
use Rattle.rdm_ep.specs.View.{EndpointView, current_in}
use Rattle.rdm_ep.specs.Sending as Ep
use Rattle.rdm_ep.specs.Receiving as Er
use Rattle.rdm_ep.specs.Cancelling as Ec
use Rattle.rdm_ep.specs.Answers.{next_of_send, next_of_recv}
use Rattle.rdm_port.specs.Views.{PortView, IsPortOf, scene_at}
use Rattle.rdm_port.specs.Kept.{Kept, IsKept, is_opened, is_told, is_new_life}
use Rattle.rdm_port.specs.Machine.{with_endpoint, is_built_send, greets_inserted, insert_answer_in, machine_answer, unless_worn, left_answer_in, machine_next}
use Rattle.rdm_port.specs.Nexts.{EndsAs}
use Rattle.rdm_port.proofs.NextAgrees.{answer_agrees}
use Rattle.rdm_port.proofs.NextDoes.{answer_by, worn_by, memory_stays}

-- an instruction that is left has not ended
abbrev pub GoesOn : Next → Type 0
GoesOn answer = answer ≡ Ended → ⊥

-- one of two answers that go on does so
either_on : (b : Bool) (x y : Next) → GoesOn x → GoesOn y → GoesOn (cond b x y)
either_on true x y f g = f
either_on false x y f g = g

-- what needs an endpoint goes on
endpoint_on : (o : Option EndpointView) (answer : EndpointView → Next) → ((e : EndpointView) → GoesOn (answer e)) → GoesOn (with_endpoint o answer)
endpoint_on None answer f = λ h. cc
endpoint_on (Some e) answer f = f e

-- a send goes on
send_on : (a : SendAnswer) → GoesOn (next_of_send a)
unfolding next_of_send
send_on (SendA.Did send msg) = λ h. cc
send_on (SendA.Refused why) = λ h. cc
send_on (SendA.Again pool) = λ h. cc
send_on SendA.NotYet = λ h. cc
send_on SendA.Memory = λ h. cc

-- a receive goes on
recv_on : (a : RecvAnswer) → GoesOn (next_of_recv a)
unfolding next_of_recv
recv_on (RecvA.Did recv) = λ h. cc
recv_on (RecvA.Refused why) = λ h. cc
recv_on (RecvA.Again pool) = λ h. cc
recv_on RecvA.Memory = λ h. cc

-- an instruction goes on
machine_on : (v : PortView) (k : Kept) (instr : Instr) → GoesOn (machine_answer v k instr)
unfolding machine_answer insert_answer_in
machine_on v k (OpenLife connid) = either_on (is_some k.endpoint || not (is_new_life k.opened v connid)) Memory (Did Plain) (λ h. cc) (λ h. cc)
machine_on v k (Insert l) =
    endpoint_on k.endpoint (insert_answer_in k l)
    (λ e. either_on (not (is_opened k.opened l)) (NotYet Yet.Opened) _ (λ h. cc) (either_on (Ep.supersedes l (current_in e l.port.0) || greets_inserted e) Memory (Did Plain) (λ h. cc) (λ h. cc)))
machine_on v k (Reg content) = endpoint_on k.endpoint (λ e. Did (Region (record { 0 = length e.regions }))) (λ e h. cc)
machine_on v k (Send req) =
    endpoint_on k.endpoint (λ e. cond (is_built_send v req) (next_of_send (Ep.send_answer e req)) Memory)
    (λ e. either_on (is_built_send v req) (next_of_send (Ep.send_answer e req)) Memory (send_on (Ep.send_answer e req)) (λ h. cc))
machine_on v k (Recv req) = endpoint_on k.endpoint (λ e. next_of_recv (Er.recv_answer e req)) (λ e. recv_on (Er.recv_answer e req))
machine_on v k (Cancel recv) =
    endpoint_on k.endpoint (λ e. cond (Ec.waits_for_message e recv.0) (Did Plain) (Refused NotPosted))
    (λ e. either_on (Ec.waits_for_message e recv.0) (Did Plain) (Refused NotPosted) (λ h. cc) (λ h. cc))
machine_on v k (Note to what) = λ h. cc
machine_on v k (Await from what) = either_on (is_told k.told from.0 what) (Did Plain) (NotYet Yet.Await) (λ h. cc) (λ h. cc)
machine_on v k (Wait count) =
    endpoint_on k.endpoint (λ e. cond (nat_lt e.polled count) (NotYet (Yet.Wait e.polled count)) (Did Plain))
    (λ e. either_on (nat_lt e.polled count) (NotYet (Yet.Wait e.polled count)) (Did Plain) (λ h. cc) (λ h. cc))
machine_on v k CloseLife = λ h. cc

-- so it does at the end of the clock
worn_on : (k : Kept) (x : Next) → GoesOn x → GoesOn (unless_worn k x)
unfolding unless_worn
worn_on k x f = either_on (is_entry x && nat_le 9223372036854775807 k.clock) Worn x (λ h. cc) f

-- what is left of the program, where an instruction is
some_left : (job : Job) (v : PortView) (k : Kept) (instr : Instr) (answer : Next) → IsPortOf job v → IsKept v k → slice_get v.rank.ops k.done ≡ Some instr
    → answer ≡ unless_worn k (machine_answer v k instr) → (answer ≡ Memory → ⊥) → left_at job v.number (scene_at job v) v.log ≡ Some answer
unfolding left_answer
some_left job v k instr answer p h q a built =
    elim (answer_agrees job v k instr p h) [
      | inl m ↦ absurd (built (a ∙ ap (unless_worn k) m ∙ memory_stays k))
      | inr e ↦ answer_by job v k (Some instr) p h q ∙ ap Some (ap (answer_or_worn job v.log) e ∙ worn_by job v k (machine_answer v k instr) p h ∙ sym a)
    ]

-- where the code says that the program has ended, no instruction is left
ended_by : (job : Job) (v : PortView) (k : Kept) (o : Option Instr) → IsPortOf job v → IsKept v k → slice_get v.rank.ops k.done ≡ o → Ended ≡ left_answer_in v k o
    → left_at job v.number (scene_at job v) v.log ≡ None
unfolding left_answer left_answer_in
ended_by job v k None p h q e = answer_by job v k None p h q
ended_by job v k (Some instr) p h q e = absurd (worn_on k (machine_answer v k instr) (machine_on v k instr) (sym e))

-- where it says otherwise, and wants no memory, that is the answer of the instruction that is left
left_by : (job : Job) (v : PortView) (k : Kept) (o : Option Instr) (answer : Next) → IsPortOf job v → IsKept v k → slice_get v.rank.ops k.done ≡ o
    → answer ≡ left_answer_in v k o → (answer ≡ Memory → ⊥) → GoesOn answer → left_at job v.number (scene_at job v) v.log ≡ Some answer
unfolding left_answer_in
left_by job v k None answer p h q a built on = absurd (on a)
left_by job v k (Some instr) answer p h q a built on = some_left job v k instr answer p h q a built

-- nothing is left where the code says so
pub ends_none : (job : Job) (v : PortView) (k : Kept) (answer : Next) → IsPortOf job v → IsKept v k → (answer ≡ Memory) ⊎ (answer ≡ machine_next v k) → answer ≡ Ended
    → left_at job v.number (scene_at job v) v.log ≡ None
ends_none job v k answer p h (inl m) e = cc
ends_none job v k answer p h (inr a) e = ended_by job v k (slice_get v.rank.ops k.done) p h refl (sym e ∙ a)

-- what is left is what the code says, where it wants no memory
pub ends_some : (job : Job) (v : PortView) (k : Kept) (answer : Next) → IsPortOf job v → IsKept v k → (answer ≡ Memory) ⊎ (answer ≡ machine_next v k)
    → (answer ≡ Memory → ⊥) → GoesOn answer → left_at job v.number (scene_at job v) v.log ≡ Some answer
ends_some job v k answer p h (inl m) built on = absurd (built m)
ends_some job v k answer p h (inr a) built on = left_by job v k (slice_get v.rank.ops k.done) answer p h refl a built on

-- an end of the port
abbrev pub ending_with : (done all : ℕ) → Option Next → (to_other from_other waiting : ℕ) → End
ending_with done all left to_other from_other waiting =
    record { done = done; all = all; left = left; to_other = to_other; from_other = from_other; waiting = waiting }

-- the end is as the definitions say, where what is left is so
end_is : (job : Job) (v : PortView) (k : Kept) (left : Option Next) → IsPortOf job v → IsKept v k → left_at job v.number (scene_at job v) v.log ≡ left
    → ending_with k.done (length v.rank.ops) left k.to_other k.from_other (length v.stash)
    ≡ end_of job v.number v.log (left_at job v.number (scene_at job v) v.log) (length v.stash)
unfolding end_of
end_is job v k left p h e =
    let d = h.done in
    let t = h.to_other in
    let f = h.from_other in
    let r = ap (λ (x : Rank). length x.ops) p.rank_is in
    rw (d, t, f, r, e) refl

-- a port ends as it stands
pub ends_as : (v w : PortView) (k s : Kept) (read : List Instr) (left : Option Next) (waiting : ℕ) → w ≡ v → s ≡ k → read ≡ w.rank.ops → waiting ≡ length w.stash → IsKept w k
    → ((job : Job) → IsPortOf job w → left_at job w.number (scene_at job w) w.log ≡ left)
    → EndsAs v (ending_with s.done (length read) left s.to_other s.from_other waiting)
ends_as v w k s read left waiting view e r n h is =
    subst (λ (x : PortView). EndsAs x (ending_with s.done (length read) left s.to_other s.from_other waiting)) view
    (λ job p.
    ap (λ (x : Kept). ending_with x.done (length read) left x.to_other x.from_other waiting) e
    ∙ ap (λ (x : List Instr). ending_with k.done (length x) left k.to_other k.from_other waiting) r
    ∙ ap (ending_with k.done (length w.rank.ops) left k.to_other k.from_other) n ∙ end_is job w k left p h (is job p))

-- a place within a list has an element
place_within : {A : Type 0} (xs : List A) (n : ℕ) → n < length xs → is_none (slice_get xs n) ≡ false
place_within [] n h = absurd (omega arith)
place_within (x ∷ xs) zero h = refl
place_within (x ∷ xs) (suc n) h = place_within xs n (omega arith)

-- a place past a list has none
place_past : {A : Type 0} (xs : List A) (n : ℕ) → nat_le (length xs) n ≡ is_none (slice_get xs n)
place_past xs n =
    (elim (nat_le (length xs) n) as (λ b. nat_le (length xs) n ≡ b → b ≡ is_none (slice_get xs n)) [
      | true ↦ λ e. let none = slice_get_past xs n (leb-true (length xs) n e) in rw none refl
      | false ↦ λ e. sym (place_within xs n (leb-false (length xs) n e))
    ]) refl

-- no instruction is left where as many were done as there are
pub over_is : (v w : PortView) (k s : Kept) (read : List Instr) → w ≡ v → s ≡ k → read ≡ w.rank.ops → IsKept w k
    → nat_le (length read) s.done ≡ is_none (slice_get v.rank.ops (count nexts_by v.log))
over_is v w k s read view e r h =
    ap (λ (x : Kept). nat_le (length read) x.done) e ∙ ap (λ (xs : List Instr). nat_le (length xs) k.done) r ∙ place_past w.rank.ops k.done
    ∙ ap (λ (n : ℕ). is_none (slice_get w.rank.ops n)) h.done ∙ ap (λ (x : PortView). is_none (slice_get x.rank.ops (count nexts_by x.log))) view
