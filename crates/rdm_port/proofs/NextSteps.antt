-- What a port is after its next instruction, as the step leaves its log and what it keeps.
use Rattle.std.proofs.Common.{◌≡◌, ◌<◌, ◌≤◌, ℕ, ◌+◌, true, false, List, [], ◌∷◌, length, get_or, Some, None, refl, ap, ◌∙◌, sym, subst, arith, ◌⊎◌}
use Rattle.std.specs.Prelude.{slice_get, min}
use Rattle.std.proofs.lemmas.Option.{slice_get_past, slice_get_read}
use Rattle.rdm_num.specs.declared.numbers.PortNo.{PortNo}
use Rattle.rdm_model.specs.declared.job.Instr.{Instr}
use Rattle.rdm_model.specs.declared.answer.OpName.{OpName}
use Rattle.rdm_model.specs.declared.answer.Next.{Next}
use Rattle.rdm_model.specs.declared.answer.Next.TheVariants.{Did, Ended, Memory}
use Rattle.rdm_model.specs.declared.entry.Entry.{Entry}
use Rattle.rdm_model.specs.declared.entry.Act.TheVariants as Act
use Rattle.rdm_model.specs.Answers.{is_entry, op_of}
use Rattle.rdm_port.specs.declared.effects.Owner.{Owner}
use Rattle.rdm_port.specs.Views.{PortView}
use Rattle.rdm_port.specs.Kept.{Kept, IsKept, with_log}
use Rattle.rdm_port.specs.Machine.{IsOwnedBy, machine_answer, after_entry, unless_worn, next_counted, next_entry}
use Rattle.rdm_port.specs.Nexts.{DoesNext}
use Rattle.rdm_port.proofs.NextDeeds.{CountsSame}
use Rattle.rdm_port.proofs.NextDoes.{next_ended, next_stays, next_wants}
use Rattle.rdm_port.proofs.NextKept.{did_counts, next_goes}
use Rattle.rdm_port.proofs.NextRoom.{entry_early}

-- the port keeps what its log says, and has answered its next instruction
abbrev pub NextDone : PortView → List Entry → Kept → Next → Type 0
NextDone v log new answer = IsKept (with_log v log) new × DoesNext v (with_log v log) answer

-- where no instruction is left
pub ended_as : (v : PortView) (k : Kept) (log : List Entry) → v.log ≡ log → IsKept v k → slice_get v.rank.ops k.done ≡ None → NextDone v log k Ended
ended_as v k log e h q = subst (λ (l : List Entry). NextDone v l k Ended) e (h, next_ended v k h q)

-- where the answer is no entry
pub stays_as : (v : PortView) (k : Kept) (instr : Instr) (answer : Next) (log : List Entry) → v.log ≡ log → IsKept v k → slice_get v.rank.ops k.done ≡ Some instr
    → (answer ≡ Memory) ⊎ (answer ≡ unless_worn k (machine_answer v k instr)) → is_entry answer ≡ false → NextDone v log k answer
stays_as v k instr answer log e h q a n = subst (λ (l : List Entry). NextDone v l k answer) e (h, next_stays v k instr answer h q a n)

-- where memory is wanted
pub wants_as : (v : PortView) (k new : Kept) (instr : Instr) (log : List Entry) → v.log ≡ log → new ≡ k → IsKept v k → slice_get v.rank.ops k.done ≡ Some instr
    → NextDone v log new Memory
wants_as v k new instr log e same h q =
    subst (λ (s : Kept). NextDone v log s Memory) (sym same) (subst (λ (l : List Entry). NextDone v l k Memory) e (h, next_wants v k instr h q))

-- where the answer is an entry
pub goes_as : (v : PortView) (k new : Kept) (instr : Instr) (answer : Next) (log : List Entry) → log ≡ next_entry v k instr answer ∷ v.log
    → new ≡ next_counted (after_entry v instr answer k) → IsKept v k → slice_get v.rank.ops k.done ≡ Some instr
    → (answer ≡ Memory) ⊎ (answer ≡ unless_worn k (machine_answer v k instr)) → is_entry answer ≡ true → NextDone v log new answer
goes_as v k new instr answer log e n h q a i =
    subst (λ (s : Kept). NextDone v log s answer) (sym n)
    (subst (λ (l : List Entry). NextDone v l (next_counted (after_entry v instr answer k)) answer) (sym e) (next_goes v k instr answer h q a i))

-- an entry changes no count but those of instructions and of the clock
pub entry_counts : (v : PortView) (k : Kept) (instr : Instr) (answer : Next) → CountsSame k (after_entry v instr answer k)
unfolding after_entry
entry_counts v k instr (Did what) = did_counts v k instr
entry_counts v k instr _ = record { done = refl; clock = refl; pushed = refl; to_other = refl; from_other = refl }

-- the counts after an entry, as the step writes them
pub record Counted (v : PortView) (k s : Kept) (instr : Instr) (answer : Next) (done clock : ℕ) : Type 0 where
  pub was : s.done ≡ k.done
  pub now : clock ≡ k.clock + 1
  pub counts : record s { done = done; clock = clock } ≡ next_counted (after_entry v instr answer k)

-- no count passes the end of its numbers
pub counted_as : (v : PortView) (k s : Kept) (instr : Instr) (answer : Next) (done clock : ℕ) → IsKept v k
    → (answer ≡ Memory) ⊎ (answer ≡ unless_worn k (machine_answer v k instr)) → is_entry answer ≡ true → s ≡ after_entry v instr answer k
    → done ≡ min (s.done + 1) 18446744073709551615 → clock ≡ min (s.clock + 1) 18446744073709551615 → Counted v k s instr answer done clock
counted_as v k s instr answer done clock h a i e d c =
    let early = entry_early k answer (machine_answer v k instr) a i in
    let few = h.few_done in
    let same = entry_counts v k instr answer in
    let was : s.done ≡ k.done = ap (λ (x : Kept). x.done) e ∙ same.done in
    let at : s.clock ≡ k.clock = ap (λ (x : Kept). x.clock) e ∙ same.clock in
    let more : done ≡ s.done + 1 = omega arith in
    let now : clock ≡ s.clock + 1 = omega arith in
    record {
      was = was;
      now = now ∙ ap (λ (n : ℕ). n + 1) at;
      counts =
          ap (λ (n : ℕ). record s { done = n; clock = clock }) more ∙ ap (λ (n : ℕ). record s { done = s.done + 1; clock = n }) now
          ∙ ap next_counted e;
    }

-- an entry of an instruction
abbrev pub instruction_entry : (clock : ℕ) → PortNo → (done : ℕ) → OpName → Next → Entry
instruction_entry clock port done op answer = record { stamp = record { 0 = clock }; port = port; act = Act.Next done op answer }

-- the entry as the step writes it
pub entry_as : (v : PortView) (k : Kept) (instr : Instr) (answer : Next) (clock : ℕ) (port : PortNo) (done : ℕ) (op : OpName) (log mid new : List Entry)
    → v.log ≡ log → mid ≡ log → new ≡ instruction_entry clock port done op answer ∷ mid → clock ≡ k.clock + 1 → v.number ≡ port.0 → done ≡ k.done → op ≡ op_of instr
    → new ≡ next_entry v k instr answer ∷ v.log
entry_as v k instr answer clock port done op log mid new l m n c p d o =
    n ∙ ap (λ (es : List Entry). instruction_entry clock port done op answer ∷ es) (m ∙ sym l)
    ∙ ap (λ (x : ℕ). instruction_entry x port done op answer ∷ v.log) c
    ∙ ap (λ (x : ℕ). instruction_entry (k.clock + 1) (record { 0 = x }) done op answer ∷ v.log) (sym p)
    ∙ ap (λ (x : ℕ). instruction_entry (k.clock + 1) (record { 0 = v.number }) x op answer ∷ v.log) d
    ∙ ap (λ (x : OpName). instruction_entry (k.clock + 1) (record { 0 = v.number }) k.done x answer ∷ v.log) o

-- the instruction that a read of the program gave is the next one
pub reads : (ops all read : List Instr) (k s : Kept) (instr : Instr) → ops ≡ all → read ≡ all → s ≡ k → s.done < length read → instr ≡ get_or read s.done instr
    → slice_get ops k.done ≡ Some instr
reads ops all read k s instr o r e within is =
    ap (λ (xs : List Instr). slice_get xs k.done) (o ∙ sym r) ∙ ap (λ (x : Kept). slice_get read x.done) (sym e) ∙ slice_get_read read (length read) s.done instr refl within is

-- where a read gave none, no instruction is left
pub reads_none : (ops all read : List Instr) (k s : Kept) → ops ≡ all → read ≡ all → s ≡ k → length read ≤ s.done → slice_get ops k.done ≡ None
reads_none ops all read k s o r e past =
    ap (λ (xs : List Instr). slice_get xs k.done) (o ∙ sym r) ∙ ap (λ (x : Kept). slice_get read x.done) (sym e) ∙ slice_get_past read s.done past

-- a port of that owner
pub owned : (owner : Owner) → (v : PortView) × IsOwnedBy v owner
owned owner = (
  record {
    number = owner.number.0;
    ports = owner.ports;
    inbox = 0;
    start = 0;
    limits = owner.limits;
    rank = record { features = owner.features; limits = owner.limits; ops = [] };
    log = [];
    stash = [];
  },
  record { number = refl; ports = refl; features = refl; limits = refl },
)
