-- The answer of the next instruction, and the port after it, are as the definitions say.
use Rattle.std.proofs.Common.{◌≡◌, ℕ, ◌+◌, Bool, true, false, cond, ◌∷◌, Option, Some, None, refl, ap, ◌∙◌, sym, ◌⊎◌, inl, inr}
use Rattle.std.specs.Prelude.{◌&&◌, slice_get, unwrap_or}
use Rattle.rdm_model.specs.declared.job.Job.{Job}
use Rattle.rdm_model.specs.declared.job.Instr.{Instr}
use Rattle.rdm_model.specs.declared.answer.Next.{Next}
use Rattle.rdm_model.specs.declared.answer.Next.TheVariants.{Ended, Worn, Memory}
use Rattle.rdm_model.specs.declared.entry.Act.{Act}
use Rattle.rdm_model.specs.Answers.{answer_of, is_entry, op_of}
use Rattle.rdm_model.specs.Steps.{stamp_after, count, nexts_by}
use Rattle.rdm_model.specs.Settled.{answer_or_worn, left_answer, left_at}
use Rattle.rdm_model.specs.Worlds.{next_act}
use Rattle.rdm_port.specs.Views.{PortView, IsPortOf, scene_at}
use Rattle.rdm_port.specs.Kept.{Kept, IsKept, entry_of, with_log}
use Rattle.rdm_port.specs.Machine.{machine_answer, unless_worn, next_entry}
use Rattle.rdm_port.specs.Nexts.{next_answer, after_instruction, after_next, DoesNext}
use Rattle.rdm_port.proofs.Counted.{worn_is, left_is, logged_is}
use Rattle.rdm_port.proofs.NextAgrees.{answer_agrees}

-- what the next instruction answers, by what is left of the program
pub answer_by : (job : Job) (v : PortView) (k : Kept) (o : Option Instr) → IsPortOf job v → IsKept v k → slice_get v.rank.ops k.done ≡ o
    → left_at job v.number (scene_at job v) v.log ≡ left_answer job (scene_at job v) v.log o
unfolding left_at
answer_by job v k o p h e = ap (left_answer job (scene_at job v) v.log) (left_is job v k p h ∙ e)

-- the answer that yields to the end of the clock, by what the port keeps
pub worn_by : (job : Job) (v : PortView) (k : Kept) (answer : Next) → IsPortOf job v → IsKept v k → answer_or_worn job v.log answer ≡ unless_worn k answer
unfolding answer_or_worn unless_worn
worn_by job v k answer p h = ap (λ (b : Bool). cond (is_entry answer && b) Worn answer) (worn_is job v k p h)

-- want of memory does not wear out
pub memory_stays : (k : Kept) → unless_worn k Memory ≡ Memory
unfolding unless_worn is_entry
memory_stays k = refl

-- what the code answers to an instruction is what the definitions say, or it wants memory
answers_so : (job : Job) (v : PortView) (k : Kept) (instr : Instr) (answer : Next) → IsPortOf job v → IsKept v k
    → (answer ≡ Memory) ⊎ (answer ≡ unless_worn k (machine_answer v k instr)) → (answer ≡ Memory) ⊎ (answer ≡ answer_or_worn job v.log (answer_of (scene_at job v) instr))
answers_so job v k instr answer p h (inl m) = inl m
answers_so job v k instr answer p h (inr e) =
    elim (answer_agrees job v k instr p h) [
      | inl m ↦ inl (e ∙ ap (unless_worn k) m ∙ memory_stays k)
      | inr a ↦ inr (e ∙ ap (unless_worn k) (sym a) ∙ sym (worn_by job v k (answer_of (scene_at job v) instr) p h))
    ]

-- the next answer, where an instruction is left
next_is : (job : Job) (v : PortView) (k : Kept) (instr : Instr) → IsPortOf job v → IsKept v k → slice_get v.rank.ops k.done ≡ Some instr
    → next_answer job v ≡ answer_or_worn job v.log (answer_of (scene_at job v) instr)
unfolding next_answer left_answer
next_is job v k instr p h e = ap (λ (o : Option Next). unwrap_or o Ended) (answer_by job v k (Some instr) p h e)

-- the answer of the code is the next one, or it wants memory
exact_answer : (job : Job) (v : PortView) (k : Kept) (instr : Instr) (answer : Next) → IsPortOf job v → IsKept v k → slice_get v.rank.ops k.done ≡ Some instr
    → (answer ≡ Memory) ⊎ (answer ≡ unless_worn k (machine_answer v k instr)) → (answer ≡ Memory) ⊎ (answer ≡ next_answer job v)
exact_answer job v k instr answer p h e a =
    elim (answers_so job v k instr answer p h a) [
      | inl m ↦ inl m
      | inr s ↦ inr (s ∙ sym (next_is job v k instr p h e))
    ]

-- the port after the answer, by what is left of the program
after_by : (job : Job) (v : PortView) (k : Kept) (o : Option Instr) (answer : Next) → IsPortOf job v → IsKept v k → slice_get v.rank.ops k.done ≡ o
    → after_next job v answer ≡ after_instruction job v o answer
unfolding after_next
after_by job v k o answer p h e = ap (λ (x : Option Instr). after_instruction job v x answer) (left_is job v k p h ∙ e)

-- the port stays where the answer is no entry
quiet_after : (job : Job) (v : PortView) (instr : Instr) (answer : Next) → is_entry answer ≡ false → after_instruction job v (Some instr) answer ≡ v
unfolding after_instruction
quiet_after job v instr answer e = rw e refl

-- the entry that an answer makes
entry_after : (job : Job) (v : PortView) (k : Kept) (instr : Instr) (answer : Next) → IsPortOf job v → IsKept v k → is_entry answer ≡ true
    → after_instruction job v (Some instr) answer ≡ with_log v (next_entry v k instr answer ∷ v.log)
unfolding after_instruction next_act stamp_after
entry_after job v k instr answer p h e =
    rw e (logged_is job v k (Act.Next (count nexts_by v.log) (op_of instr) answer) p h
    ∙ ap (λ (n : ℕ). with_log v (entry_of v (k.clock + 1) (Act.Next n (op_of instr) answer) ∷ v.log)) (sym h.done))

-- where no instruction is left, the port has ended and stays
pub next_ended : (v : PortView) (k : Kept) → IsKept v k → slice_get v.rank.ops k.done ≡ None → DoesNext v v Ended
unfolding next_answer left_answer after_instruction
next_ended v k h e =
    record {
      exact = λ job p. inr (sym (ap (λ (o : Option Next). unwrap_or o Ended) (answer_by job v k None p h e)));
      after = λ job p. sym (after_by job v k None Ended p h e);
    }

-- where the answer is no entry, the port stays
pub next_stays : (v : PortView) (k : Kept) (instr : Instr) (answer : Next) → IsKept v k → slice_get v.rank.ops k.done ≡ Some instr
    → (answer ≡ Memory) ⊎ (answer ≡ unless_worn k (machine_answer v k instr)) → is_entry answer ≡ false → DoesNext v v answer
next_stays v k instr answer h e a q =
    record {
      exact = λ job p. exact_answer job v k instr answer p h e a;
      after = λ job p. sym (after_by job v k (Some instr) answer p h e ∙ quiet_after job v instr answer q);
    }

-- where memory is wanted, the port stays
pub next_wants : (v : PortView) (k : Kept) (instr : Instr) → IsKept v k → slice_get v.rank.ops k.done ≡ Some instr → DoesNext v v Memory
unfolding is_entry
next_wants v k instr h e = next_stays v k instr Memory h e (inl refl) refl

-- where the answer is an entry, the port has it in its log
pub next_enters : (v : PortView) (k : Kept) (instr : Instr) (answer : Next) → IsKept v k → slice_get v.rank.ops k.done ≡ Some instr
    → (answer ≡ Memory) ⊎ (answer ≡ unless_worn k (machine_answer v k instr)) → is_entry answer ≡ true
    → DoesNext v (with_log v (next_entry v k instr answer ∷ v.log)) answer
next_enters v k instr answer h e a q =
    record {
      exact = λ job p. exact_answer job v k instr answer p h e a;
      after = λ job p. sym (after_by job v k (Some instr) answer p h e ∙ entry_after job v k instr answer p h q);
    }
