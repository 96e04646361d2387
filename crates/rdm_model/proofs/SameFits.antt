-- By two accounts that agree, the same entries fit.
use Rattle.std.proofs.Common.{◌≡◌, List, Option, Some, None, refl, sym, ◌∙◌, ap, subst}
use Rattle.std.specs.Prelude.{IsFalse}
use Rattle.rdm_wire.specs.declared.Datagram.{Datagram}
use Rattle.rdm_model.specs.declared.job.Job.{Job}
use Rattle.rdm_model.specs.declared.answer.Class.{Class}
use Rattle.rdm_model.specs.declared.entry.Entry.{Entry}
use Rattle.rdm_model.specs.declared.entry.Act.{Act}
use Rattle.rdm_model.specs.declared.entry.Act.TheVariants.{Next, Push, Handle, Poll}
use Rattle.rdm_model.specs.declared.answer.Handled.{Handled}
use Rattle.rdm_wire.specs.declared.Body.{Body}
use Rattle.rdm_wire.specs.declared.Body.TheVariants.{Note, Between}
use Rattle.rdm_model.specs.Beginnings.{Messages}
use Rattle.rdm_model.specs.Scenes.{Scene}
use Rattle.rdm_model.specs.Going.{Going, GoesNote, Goes, IsGoing, GoesNext}
use Rattle.rdm_model.specs.Takes.{taken_answer, class_answer, handled_answer, is_again_early}
use Rattle.rdm_model.specs.Steps.{Classing, Does, Fits}
use Rattle.rdm_model.proofs.SameCompletions.{completions_same, early_count_same}
use Rattle.rdm_model.proofs.SameAnswers.{by_account, AgreesIn, answer_same, going_same, body_needs_place_same}

-- a datagram that is taken has the same answer
taken_answer_same : (s : Scene) (ns : Messages) (d : Datagram) (body : Body) → taken_answer s d body ≡ taken_answer (by_account s ns) d body
unfolding taken_answer
taken_answer_same s ns d (Note note) = refl
taken_answer_same s ns d (Between from to load) = refl

-- so has one of a class
class_answer_same : (s : Scene) (ns : Messages) (d : Datagram) (c : Option Class) → class_answer s d c ≡ class_answer (by_account s ns) d c
unfolding class_answer
class_answer_same s ns d None = taken_answer_same s ns d d.body
class_answer_same s ns d (Some class') = refl

-- where the classes by both are the same, so is the answer of a handling
pub handled_same : (f g : Classing) (s : Scene) (ns : Messages) (d : Datagram) → f s d ≡ g (by_account s ns) d
    → handled_answer f s d ≡ handled_answer g (by_account s ns) d
unfolding handled_answer
handled_same f g s ns d e = class_answer_same s ns d (f s d) ∙ ap (λ c. class_answer (by_account s ns) d c) e

-- and so is whether the datagram has to wait for an early place
pub again_early_same : (f g : Classing) (s : Scene) (ns : Messages) (d : Datagram) → AgreesIn s ns → f s d ≡ g (by_account s ns) d
    → is_again_early f s d ≡ is_again_early g (by_account s ns) d
unfolding is_again_early
again_early_same f g s ns d a e =
    let b = body_needs_place_same s ns d d.body a in
    let c = early_count_same s.own s.ms.head ns.head s.log a.heads in
    rw (e, b, c) refl

-- a datagram is what goes by both or by neither
is_going_same : (s : Scene) (ns : Messages) (g : Going) (d : Datagram) → IsGoing s g d → IsGoing (by_account s ns) g d
is_going_same s ns (GoesNote note) d h = h
is_going_same s ns (Goes to item) d h = h

-- a datagram that is next by one account is next by the other
pub goes_next_same : (s : Scene) (ns : Messages) (d : Datagram) → AgreesIn s ns → GoesNext s d → GoesNext (by_account s ns) d
goes_next_same s ns d a h = (h.0, sym (going_same s ns a) ∙ h.1, is_going_same s ns h.0 d h.2)

-- what fits by one account fits by the other, where the classes by both are the same
pub does_same : (job : Job) (f g : Classing) (s : Scene) (ns : Messages) (before : List Entry) (e : Entry) (act : Act) → AgreesIn s ns
    → ((d : Datagram) (answer : Handled) → act ≡ Handle d answer → f s d ≡ g (by_account s ns) d)
    → Does job f s before e act → Does job g (by_account s ns) before e act
does_same job f g s ns before e (Next index op answer) a same h =
    (h.0, (h.1.0, h.1.1, h.1.2, h.1.3 ∙ answer_same s ns h.1.0 a), h.2)
does_same job f g s ns before e (Push d) a same h = (h.0, h.1, h.2, goes_next_same s ns d a h.3)
does_same job f g s ns before e (Handle d answer) a same h =
    let k = same d answer refl in
    (h.0 ∙ handled_same f g s ns d k, subst (λ b. IsFalse b) (again_early_same f g s ns d a k) h.1)
does_same job f g s ns before e (Poll c) a same h = let k = completions_same s.own s.ms ns s.log a in rw k at h

-- an entry that fits by one account fits by the other
pub fits_same : (job : Job) (f g : Classing) (s : Scene) (ns : Messages) (before : List Entry) (e : Entry) → AgreesIn s ns
    → ((d : Datagram) (answer : Handled) → e.act ≡ Handle d answer → f s d ≡ g (by_account s ns) d)
    → Fits job f s before e → Fits job g (by_account s ns) before e
fits_same job f g s ns before e a same h = (h.0, h.1, does_same job f g s ns before e e.act a same h.2)
