-- What each life sent is the same by what it took itself as by what was sent to it.
use Rattle.std.proofs.Common.{◌≡◌, false, List, [], ◌∷◌, Some, refl, inl, inr, sym, ◌∙◌, ap, subst}
use Rattle.std.specs.Prelude.{◌&&◌, ◌==◌, nat_eq}
use Rattle.std.proofs.lemmas.Bool.{cases_eq, eq-eqb, ne_eqb, and_left, and_right, and_from}
use Rattle.std.proofs.lemmas.List.{append-nil}
use Rattle.rdm_num.specs.declared.numbers.Life.{Life}
use Rattle.rdm_model.specs.declared.job.Job.{Job}
use Rattle.rdm_model.specs.declared.entry.Entry.{Entry}
use Rattle.rdm_model.specs.Deeds.{Deed, Nothing, deed_of, deeds, log_of, open_life, is_connid, of_life}
use Rattle.rdm_model.specs.Beginnings.{Own, Messages, own_of, rank_of}
use Rattle.rdm_model.specs.Scenes.{deeds_at}
use Rattle.rdm_model.specs.Sends.{Sent, sends, sent_by, with_sent}
use Rattle.rdm_model.specs.Local.{heard_by}
use Rattle.rdm_model.specs.Lawful.{port_deeds, life_deeds, deed_for, sends_in, sent_to}
use Rattle.rdm_model.proofs.SameRegions.{Agree, sends_same, sent_by_same}
use Rattle.rdm_model.proofs.Grows.{agree_grows}
use Rattle.rdm_law.proofs.Lives.Logs.{log_of-same, log_of-other}
use Rattle.rdm_law.proofs.Lives.Lives.{at_of_life, is_connid-from}
use Rattle.rdm_law.proofs.Accounts.Wired.{Played, played_before}
use Rattle.rdm_law.proofs.Accounts.Sent.{SendsAre, agree_sent}

-- an entry of the port while the life is open is a deed of the life
pub deed_mine : (job : Job) (e : Entry) (before : List Entry) (life' : Life) → e.port.0 ≡ life'.port.0 → open_life (port_deeds job life'.port.0 before) ≡ Some life'.connid
    → deed_for job e before life' ≡ deed_of (rank_of job life'.port.0).ops e.act
unfolding deed_for
deed_mine job e before life' s o =
    let t = and_from (nat_eq e.port.0 life'.port.0) (is_connid (open_life (port_deeds job life'.port.0 before)) life'.connid) (eq-eqb e.port.0 life'.port.0 s)
    (is_connid-from (open_life (port_deeds job life'.port.0 before)) life'.connid o) in
    rw t refl

-- another entry is none
deed_none : (job : Job) (e : Entry) (before : List Entry) (life' : Life)
    → ((e.port.0 == life'.port.0) && is_connid (open_life (port_deeds job life'.port.0 before)) life'.connid) ≡ false → deed_for job e before life' ≡ Nothing
unfolding deed_for
deed_none job e before life' h = rw h refl

-- what holds of the deeds of a life as the history is longer by an entry
pub at_life_deeds : (P : List Deed → Type 0) (job : Job) (life' : Life) (e : Entry) (before : List Entry)
    → (deed_for job e before life' ≡ deed_of (rank_of job life'.port.0).ops e.act → P (deed_of (rank_of job life'.port.0).ops e.act ∷ life_deeds job before life'))
    → (deed_for job e before life' ≡ Nothing → P (life_deeds job before life'))
    → P (life_deeds job (e ∷ before) life')
unfolding life_deeds port_deeds deeds_at deeds
at_life_deeds P job life' e before same other =
    let ops = (rank_of job life'.port.0).ops in
    let port = life'.port.0 in
    elim (cases_eq e.port.0 port) [
      | inl s ↦
          subst (λ (log : List Entry). P (of_life life'.connid (deeds ops log))) (sym (log_of-same port e before s))
          (at_of_life P life'.connid (deed_of ops e.act) (deeds ops (log_of port before))
          (λ o. same (deed_mine job e before life' s o))
          (λ o. other (deed_none job e before life' (and_right (nat_eq e.port.0 port) _ o))))
      | inr s ↦
          subst (λ (log : List Entry). P (of_life life'.connid (deeds ops log))) (sym (log_of-other port e before s))
          (other (deed_none job e before life' (and_left (nat_eq e.port.0 port) _ (ne_eqb e.port.0 port s))))
    ]

-- a deed of the life makes the same send by both accounts
sends_newest : (job : Job) (own : Own) (log : List Deed) (d : Deed) (ns : Messages) (sents : List Sent)
    → Agree own.limits.first (heard_by own.limits.first log) ns log → sends own (heard_by own.limits.first log) log ≡ sents
    → sends own (heard_by own.limits.first (d ∷ log)) (d ∷ log) ≡ with_sent own ns log d sents
unfolding sends with_sent
sends_newest job own log d ns sents a are =
    let first = own.limits.first in
    let grows = agree_grows first d log in
    let s : sends own (heard_by first (d ∷ log)) log ≡ sents = sym (sends_same own (heard_by first log) (heard_by first (d ∷ log)) log grows) ∙ are in
    let b : sent_by own (heard_by first (d ∷ log)) log sents d ≡ sent_by own ns log sents d =
    sym (sent_by_same own (heard_by first log) (heard_by first (d ∷ log)) log sents d grows) ∙ sent_by_same own (heard_by first log) ns log sents d a in
    rw (s, b) refl

-- nothing sends nothing
sends_none : (own : Own) (ms : Messages) (log : List Deed) (sents : List Sent) → with_sent own ms log Nothing sents ≡ sents
unfolding with_sent sent_by
sends_none own ms log sents = append-nil sents

-- what a life sent, with the newest entry
pub sends_in_newest : (job : Job) (e : Entry) (before : List Entry) (life' : Life)
    → sends_in job (e ∷ before) life' ≡ with_sent (own_of job life') (sent_to job before life') (life_deeds job before life') (deed_for job e before life') (sends_in job before life')
unfolding sends_in sent_to
sends_in_newest job e before life' = refl

-- the sends agree with a newer entry
sends_step : (job : Job) (e : Entry) (before : List Entry) → Played job before → SendsAre job before → SendsAre job (e ∷ before)
sends_step job e before played are life' =
    let own = own_of job life' in
    let log = life_deeds job before life' in
    let ns = sent_to job before life' in
    at_life_deeds (λ l. sends own (heard_by own.limits.first l) l ≡ sends_in job (e ∷ before) life') job life' e before
    (λ deed. sends_newest job own log (deed_of (rank_of job life'.port.0).ops e.act) ns (sends_in job before life') (agree_sent job before life' played are) (are life')
    ∙ ap (λ d. with_sent own ns log d (sends_in job before life')) (sym deed) ∙ sym (sends_in_newest job e before life'))
    (λ deed. are life' ∙ sym (sends_none own ns log (sends_in job before life')) ∙ ap (λ d. with_sent own ns log d (sends_in job before life')) (sym deed)
    ∙ sym (sends_in_newest job e before life'))

-- what a life sent is the same by both accounts
pub sends_are : (job : Job) (history : List Entry) → Played job history → SendsAre job history
unfolding sends_in life_deeds port_deeds deeds_at deeds log_of of_life sends
sends_are job [] played life' = refl
sends_are job (e ∷ before) played life' =
    let earlier = played_before job e before played in
    sends_step job e before earlier (sends_are job before earlier) life'
