-- Drops, bytes that come once, and pools that are full.
use Rattle.std.proofs.Common.{◌≡◌, ◌⊎◌, ℕ, Bool, true, false, cond, ◌&&◌, List, [], ◌∷◌, ◌++◌, Option, Some, None, refl, ap, ◌∙◌, sym, subst, inl, inr}
use Rattle.std.specs.Prelude.{◌==◌}
use Rattle.std.proofs.lemmas.List.{append-nil}
use Rattle.rdm_lists.specs.Lists.{first_case}
use Rattle.rdm_num.specs.declared.numbers.Life.{Life}
use Rattle.rdm_wire.specs.declared.Datagram.{Datagram}
use Rattle.rdm_wire.specs.declared.Body.{Body}
use Rattle.rdm_wire.specs.declared.Body.TheVariants.{Note, Between}
use Rattle.rdm_num.specs.declared.numbers.PortNo.{PortNo}
use Rattle.rdm_model.specs.declared.job.Job.{Job}
use Rattle.rdm_model.specs.declared.job.Instr.{Instr}
use Rattle.rdm_model.specs.declared.answer.Class.{Class}
use Rattle.rdm_model.specs.declared.answer.Class.TheVariants.{ToOther, FromOther}
use Rattle.rdm_model.specs.declared.answer.Handled.TheVariants.{Dropped}
use Rattle.rdm_model.specs.declared.entry.Entry.{Entry}
use Rattle.rdm_model.specs.declared.entry.Act.{Act}
use Rattle.rdm_model.specs.declared.entry.Act.TheVariants.{Handle}
use Rattle.rdm_model.specs.Deeds.{Deed, Nothing, deed_of, deed_by_handle, deeds, log_of, open_life, is_connid}
use Rattle.rdm_model.specs.Beginnings.{Own, Messages, rank_of, own_of}
use Rattle.rdm_model.specs.Classes.{lives_class, body_lives_class}
use Rattle.rdm_model.specs.Takes.{handled_answer, class_answer, taken_answer}
use Rattle.rdm_model.specs.Notes.{notes, notes_by}
use Rattle.rdm_model.specs.Sends.{Sent, with_sent, sent_by}
use Rattle.rdm_model.specs.Scenes.{Scene, deeds_at}
use Rattle.rdm_model.specs.Steps.{Does}
use Rattle.rdm_model.specs.Lawful.{Lawful, port_deeds, life_deeds, sends_in, sent_to, sent_scene, deed_for}
use Rattle.rdm_law.specs.Clauses.{BytesComeOnce, DropsAreOfOthers, StandsAs, DropsChangeNothing}
use Rattle.rdm_law.proofs.Lives.Logs.{at_log_of}
use Rattle.rdm_law.proofs.Accounts.SendsAre.{at_life_deeds, sends_in_newest}
use Rattle.rdm_law.proofs.Refusals.StandsStill.{nothing_stands, stands_same}

-- a history was lawful at each of its entries
pub lawful_at : (job : Job) (newer : List Entry) (e : Entry) (before : List Entry) → Lawful job (newer ++ e ∷ before) → Lawful job (e ∷ before)
lawful_at job [] e before h = h
lawful_at job (x ∷ newer) e before h = lawful_at job newer e before h.0

-- bytes come once
pub bytes_come_once : BytesComeOnce
bytes_come_once job newer e before source n p q lawful brings came = ((lawful_at job newer e before lawful).4 source n p brings).1 q came

-- a class by lives is one of two
two_classes : (a b : Bool) (class' : Class) → first_case ((a, Some ToOther) ∷ (b, Some FromOther) ∷ []) None ≡ Some class' → (class' ≡ ToOther) ⊎ (class' ≡ FromOther)
unfolding first_case
two_classes true b class' h = inl cc
two_classes false true class' h = inr cc
two_classes false false class' h = cc

-- what is taken is not dropped
dropped_none : (s : Scene) (d : Datagram) (body : Body) (class' : Class) → Dropped class' ≡ taken_answer s d body → None ≡ Some class'
unfolding taken_answer
dropped_none s d (Note note) class' h = cc
dropped_none s d (Between from to load) class' h = cc

-- the class by lives of what a datagram has in it
class_by_lives : (s : Scene) (d : Datagram) (body : Body) (class' : Class) → body_lives_class s d body ≡ Some class' → (class' ≡ ToOther) ⊎ (class' ≡ FromOther)
unfolding body_lives_class
class_by_lives s d (Note note) class' h = cc
class_by_lives s d (Between from to load) class' h = two_classes _ _ class' h

-- the class of what is dropped
pub dropped_class : (s : Scene) (d : Datagram) (o : Option Class) (class' : Class) → Dropped class' ≡ class_answer s d o → o ≡ Some class'
unfolding class_answer
dropped_class s d None class' h = dropped_none s d d.body class' h
dropped_class s d (Some c) class' h = cc

-- drops are of other lives
pub drops_are_of_others : DropsAreOfOthers
unfolding handled_answer lives_class
drops_are_of_others job newer e before d class' lawful is =
    let s = sent_scene job e.port.0 before in
    let f = (lawful_at job newer e before lawful).3.2 in
    let does : Does job lives_class s (log_of e.port.0 before) e (Handle d (Dropped class')) = subst (Does job lives_class s (log_of e.port.0 before) e) is f in
    class_by_lives s d d.body class' (dropped_class s d (lives_class s d) class' does.0)

-- a drop is the deed that does nothing
dropped_deed : (src : PortNo) (body : Body) (class' : Class) → deed_by_handle src body (Dropped class') ≡ Nothing
unfolding deed_by_handle
dropped_deed src (Note note) class' = refl
dropped_deed src (Between from to load) class' = refl

-- a dropped datagram is the deed that does nothing
pub deed_is : (ops : List Instr) (act : Act) (d : Datagram) (class' : Class) → act ≡ Handle d (Dropped class') → deed_of ops act ≡ Nothing
unfolding deed_of
deed_is ops act d class' e = rw e (dropped_deed d.src d.body class')

-- an entry that did nothing did nothing for a life
none_for : (job : Job) (e : Entry) (before : List Entry) (life : Life) → deed_of (rank_of job life.port.0).ops e.act ≡ Nothing → deed_for job e before life ≡ Nothing
unfolding deed_for
none_for job e before life h =
    elim ((e.port.0 == life.port.0) && is_connid (open_life (port_deeds job life.port.0 before)) life.connid) as (λ b. cond b (deed_of (rank_of job life.port.0).ops e.act) Nothing ≡ Nothing) [
      | true ↦ h
      | false ↦ refl
    ]

-- nothing sends nothing
sends_none : (own : Own) (ms : Messages) (log : List Deed) (sents : List Sent) → with_sent own ms log Nothing sents ≡ sents
unfolding with_sent sent_by
sends_none own ms log sents = append-nil sents

-- a deed that did nothing sent nothing
none_sent : (job : Job) (e : Entry) (before : List Entry) (life : Life) → deed_of (rank_of job life.port.0).ops e.act ≡ Nothing → sends_in job (e ∷ before) life ≡ sends_in job before life
none_sent job e before life h =
    let own = own_of job life in
    let ms = sent_to job before life in
    let log = life_deeds job before life in
    let sents = sends_in job before life in
    sends_in_newest job e before life ∙ ap (λ d. with_sent own ms log d sents) (none_for job e before life h) ∙ sends_none own ms log sents

-- no note is owed by what did nothing
notes_still : (job : Job) (e : Entry) (before : List Entry) → ((port : ℕ) → deed_of (rank_of job port).ops e.act ≡ Nothing)
    → (ports port : ℕ) → notes ports port (port_deeds job port (e ∷ before)) ≡ notes ports port (port_deeds job port before)
unfolding port_deeds deeds_at deeds notes notes_by
notes_still job e before h ports port =
    at_log_of (λ log. notes ports port (deeds (rank_of job port).ops log) ≡ notes ports port (deeds (rank_of job port).ops (log_of port before))) port e before
    (λ same. ap (λ d. notes ports port (deeds (rank_of job port).ops (log_of port before)) ++ notes_by ports port d) (h port)
    ∙ append-nil (notes ports port (deeds (rank_of job port).ops (log_of port before))))
    (λ other. refl)

-- a drop changes nothing
pub drops_change_nothing : DropsChangeNothing
drops_change_nothing job e before d class' is = record {
  sent = λ life. none_sent job e before life (deed_is (rank_of job life.port.0).ops e.act d class' is);
  lives = λ life own ms. at_life_deeds (λ log. StandsAs own ms log (life_deeds job before life)) job life e before
      (λ deed. subst (λ x. StandsAs own ms (x ∷ life_deeds job before life) (life_deeds job before life)) (sym (deed_is (rank_of job life.port.0).ops e.act d class' is)) (nothing_stands own ms (life_deeds job before life)))
      (λ deed. stands_same own ms (life_deeds job before life));
  notes_are = notes_still job e before (λ port. deed_is (rank_of job port).ops e.act d class' is);
}
