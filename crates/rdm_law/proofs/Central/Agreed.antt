-- What a port may do next is the same by what it took itself as by what was sent to it.
use Rattle.std.proofs.Common.{◌≡◌, ℕ, List, Option, Some, None, refl, sym, ◌∙◌, ap}
use Rattle.rdm_wire.specs.declared.Datagram.{Datagram}
use Rattle.rdm_model.specs.declared.job.Job.{Job}
use Rattle.rdm_model.specs.declared.job.Instr.{Instr}
use Rattle.rdm_model.specs.declared.entry.Entry.{Entry}
use Rattle.rdm_model.specs.Deeds.{log_of, open_life}
use Rattle.rdm_model.specs.Beginnings.{Messages, life_at}
use Rattle.rdm_model.specs.Scenes.{Scene}
use Rattle.rdm_model.specs.Answers.{answer_of}
use Rattle.rdm_model.specs.Going.{going}
use Rattle.rdm_model.specs.Classes.{class_of, lives_class}
use Rattle.rdm_model.specs.Takes.{is_again_early}
use Rattle.rdm_model.specs.Settled.{left_answer, left_at, instruction_left, nothing_to_poll}
use Rattle.rdm_model.specs.Local.{own_scene}
use Rattle.rdm_model.specs.Lawful.{port_deeds, sent_to, sent_scene}
use Rattle.rdm_model.specs.Wire.{PushedIn, IsUnhandled}
use Rattle.rdm_model.proofs.SameCompletions.{completions_same}
use Rattle.rdm_model.proofs.SameAnswers.{by_account, AgreesIn, answer_same, going_same}
use Rattle.rdm_model.proofs.SameClasses.{lives_class_same}
use Rattle.rdm_model.proofs.SameFits.{again_early_same}
use Rattle.rdm_law.proofs.Accounts.Wired.{Played}
use Rattle.rdm_law.proofs.Accounts.SendsAre.{sends_are}
use Rattle.rdm_law.proofs.Classes.ClassLives.{AllFree, class_waits}
use Rattle.rdm_law.proofs.Central.Lawfully.{sent_account, agree_now}

-- the scene of a port by what it took, and what was sent to its open life
abbrev own_at : Job → ℕ → List Entry → Scene
own_at job port history = own_scene job port (port_deeds job port history)

-- what was sent to a port's open life
abbrev sent_at : Job → ℕ → List Entry → Messages
sent_at job port history = sent_to job history (life_at port (open_life (port_deeds job port history)))

-- what is the same by accounts that agree is the same in both scenes
in_both : {A : Type 0} (job : Job) (port : ℕ) (history : List Entry) (f : Scene → A) → Played job history
    → (AgreesIn (own_at job port history) (sent_at job port history) → f (own_at job port history) ≡ f (by_account (own_at job port history) (sent_at job port history)))
    → f (own_at job port history) ≡ f (sent_scene job port history)
in_both job port history f played same = same (agree_now job port history played (sends_are job history played)) ∙ ap f (sym (sent_account job port history))

-- each instruction has the same answer
pub answer_agreed : (job : Job) (port : ℕ) (history : List Entry) (instr : Instr) → Played job history
    → answer_of (own_scene job port (port_deeds job port history)) instr ≡ answer_of (sent_scene job port history) instr
answer_agreed job port history instr played =
    in_both job port history (λ s. answer_of s instr) played (λ a. answer_same (own_at job port history) (sent_at job port history) instr a)

-- the same goes out
pub going_agreed : (job : Job) (port : ℕ) (history : List Entry) → Played job history → going (own_scene job port (port_deeds job port history)) ≡ going (sent_scene job port history)
going_agreed job port history played = in_both job port history going played (λ a. going_same (own_at job port history) (sent_at job port history) a)

-- an instruction that is left answers the same
left_same : (job : Job) (s t : Scene) (log : List Entry) (o : Option Instr) → ((instr : Instr) → answer_of s instr ≡ answer_of t instr) → left_answer job s log o ≡ left_answer job t log o
unfolding left_answer
left_same job s t log None h = refl
left_same job s t log (Some instr) h = let e = h instr in rw e refl

-- the next instruction of a port answers the same
pub left_agreed : (job : Job) (port : ℕ) (history log : List Entry) → Played job history
    → left_at job port (own_scene job port (port_deeds job port history)) log ≡ left_at job port (sent_scene job port history) log
unfolding left_at
left_agreed job port history log played =
    left_same job (own_at job port history) (sent_scene job port history) log (instruction_left job port log) (λ instr. answer_agreed job port history instr played)

-- no completion is left by both accounts or by neither
none_same : (s : Scene) (ns : Messages) → AgreesIn s ns → nothing_to_poll s ≡ nothing_to_poll (by_account s ns)
unfolding nothing_to_poll
none_same s ns a = let c = completions_same s.own s.ms ns s.log a in rw c refl

-- whether a completion is left to be polled is the same
pub none_agreed : (job : Job) (port : ℕ) (history : List Entry) → Played job history
    → nothing_to_poll (own_scene job port (port_deeds job port history)) ≡ nothing_to_poll (sent_scene job port history)
none_agreed job port history played = in_both job port history nothing_to_poll played (λ a. none_same (own_at job port history) (sent_at job port history) a)

-- whether a datagram that waits for a port needs an early place is the same, by the whole table of classes as by lives alone
pub early_agreed : (job : Job) (port : ℕ) (history : List Entry) (d : Datagram) → AllFree job → Played job history → d.dst.0 ≡ port
    → PushedIn d (log_of d.src.0 history) → IsUnhandled d history
    → is_again_early class_of (own_scene job port (port_deeds job port history)) d ≡ is_again_early lives_class (sent_scene job port history) d
early_agreed job port history d free played dst pushed fresh =
    let s = own_at job port history in
    let ns = sent_at job port history in
    let a = agree_now job port history played (sends_are job history played) in
    again_early_same class_of lives_class s ns d a (class_waits job history port d free played dst pushed fresh ∙ lives_class_same s ns d)
    ∙ ap (λ x. is_again_early lives_class x d) (sym (sent_account job port history))
