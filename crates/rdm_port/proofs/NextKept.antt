-- After an entry of an instruction, a port keeps what its log says.
use Rattle.std.proofs.Common.{◌≡◌, Bool, true, false, cond, ◌∷◌, Option, Some, refl, ap, ◌∙◌, sym, ◌⊎◌, inl, inr}
use Rattle.std.specs.Prelude.{◌&&◌, nat_le, slice_get}
use Rattle.rdm_model.specs.declared.job.Instr.{Instr}
use Rattle.rdm_model.specs.declared.job.Instr.TheVariants.{OpenLife, Insert, Reg, Send, Recv, Cancel, Note, Await, Wait, CloseLife}
use Rattle.rdm_model.specs.declared.answer.Next.{Next}
use Rattle.rdm_model.specs.declared.answer.Next.TheVariants.{Did as DidAnswer, Refused, Worn, Memory}
use Rattle.rdm_model.specs.declared.answer.DidWhat.{DidWhat}
use Rattle.rdm_model.specs.Deeds.{Did, Nothing, deed_by_next}
use Rattle.rdm_model.specs.Answers.{is_entry}
use Rattle.rdm_port.specs.Views.{PortView}
use Rattle.rdm_port.specs.Kept.{Kept, IsKept, deeds_of, with_log}
use Rattle.rdm_port.specs.Machine.{machine_answer, after_did, after_entry, unless_worn, next_counted, next_entry}
use Rattle.rdm_port.specs.Nexts.{DoesNext}
use Rattle.rdm_port.proofs.NextDeeds.{KeepsDeeds, CountsSame, kept_by}
use Rattle.rdm_port.proofs.NextCases.{insert_kept, reg_kept, send_kept, recv_kept, cancel_kept, note_kept, await_kept, wait_kept, nothing_kept}
use Rattle.rdm_port.proofs.NextOpens.{open_kept}
use Rattle.rdm_port.proofs.NextDoes.{next_enters}

-- an instruction that did changes no count
pub did_counts : (v : PortView) (k : Kept) (instr : Instr) → CountsSame k (after_did v instr k)
unfolding after_did
did_counts v k (OpenLife connid) = record { done = refl; clock = refl; pushed = refl; to_other = refl; from_other = refl }
did_counts v k (Insert l) = record { done = refl; clock = refl; pushed = refl; to_other = refl; from_other = refl }
did_counts v k (Reg content) = record { done = refl; clock = refl; pushed = refl; to_other = refl; from_other = refl }
did_counts v k (Send req) = record { done = refl; clock = refl; pushed = refl; to_other = refl; from_other = refl }
did_counts v k (Recv req) = record { done = refl; clock = refl; pushed = refl; to_other = refl; from_other = refl }
did_counts v k (Cancel recv) = record { done = refl; clock = refl; pushed = refl; to_other = refl; from_other = refl }
did_counts v k (Note to what) = record { done = refl; clock = refl; pushed = refl; to_other = refl; from_other = refl }
did_counts v k _ = record { done = refl; clock = refl; pushed = refl; to_other = refl; from_other = refl }

-- after an instruction that did, a port keeps what its deeds say
did_kept : (v : PortView) (k : Kept) (instr : Instr) (what : DidWhat) → IsKept v k → machine_answer v k instr ≡ DidAnswer what
    → KeepsDeeds v (Did instr ∷ deeds_of v) (after_did v instr k)
unfolding after_did machine_answer
did_kept v k (OpenLife connid) what h a = open_kept v k connid what h a
did_kept v k (Insert l) what h a = insert_kept v k l what h a
did_kept v k (Reg content) what h a = reg_kept v k content what h a
did_kept v k (Send req) what h a = send_kept v k req what h a
did_kept v k (Recv req) what h a = recv_kept v k req what h a
did_kept v k (Cancel recv) what h a = cancel_kept v k recv what h a
did_kept v k (Note to word) what h a = note_kept v k to word h
did_kept v k (Await from word) what h a = await_kept v k from word h
did_kept v k (Wait count) what h a = wait_kept v k count h
did_kept v k CloseLife what h a = cc

-- an entry did not yield to the end of the clock
not_worn : (b : Bool) (x : Next) → is_entry (cond b Worn x) ≡ true → cond b Worn x ≡ x
unfolding is_entry
not_worn true x h = cc
not_worn false x h = refl

-- an answer that is an entry is that of the machine
entry_is : (v : PortView) (k : Kept) (instr : Instr) (answer : Next) → (answer ≡ Memory) ⊎ (answer ≡ unless_worn k (machine_answer v k instr)) → is_entry answer ≡ true
    → machine_answer v k instr ≡ answer
unfolding unless_worn is_entry
entry_is v k instr answer (inl m) e = cc (ap is_entry m)
entry_is v k instr answer (inr a) e =
    let x = machine_answer v k instr in
    let worn = is_entry x && nat_le 9223372036854775807 k.clock in
    sym (a ∙ not_worn worn x (sym (ap is_entry a) ∙ e))

-- after an entry, a port keeps what its log says, by its answer
entry_kept : (v : PortView) (k : Kept) (instr : Instr) (answer : Next) → IsKept v k → slice_get v.rank.ops k.done ≡ Some instr → machine_answer v k instr ≡ answer
    → is_entry answer ≡ true → IsKept (with_log v (next_entry v k instr answer ∷ v.log)) (next_counted (after_entry v instr answer k))
unfolding after_entry deed_by_next is_entry
entry_kept v k instr (DidAnswer what) h q a e =
    kept_by v k (after_did v instr k) instr (DidAnswer what) (Did instr) h (ap (λ (o : Option Instr). deed_by_next o (DidAnswer what)) q) (did_counts v k instr) (did_kept v k instr what h a)
entry_kept v k instr (Refused why) h q a e =
    kept_by v k k instr (Refused why) Nothing h (ap (λ (o : Option Instr). deed_by_next o (Refused why)) q)
    (record { done = refl; clock = refl; pushed = refl; to_other = refl; from_other = refl }) (nothing_kept v k h)
entry_kept v k instr answer h q a e = cc

-- after an instruction that did or was refused, a port keeps what its log says, and its answer is the next one
pub next_goes : (v : PortView) (k : Kept) (instr : Instr) (answer : Next) → IsKept v k → slice_get v.rank.ops k.done ≡ Some instr
    → (answer ≡ Memory) ⊎ (answer ≡ unless_worn k (machine_answer v k instr)) → is_entry answer ≡ true
    → IsKept (with_log v (next_entry v k instr answer ∷ v.log)) (next_counted (after_entry v instr answer k)) × DoesNext v (with_log v (next_entry v k instr answer ∷ v.log)) answer
next_goes v k instr answer h q a e = (entry_kept v k instr answer h q (entry_is v k instr answer a e) e, next_enters v k instr answer h q a e)
