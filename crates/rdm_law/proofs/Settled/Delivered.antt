-- What went between standing lives was taken, or waits.
use Rattle.std.proofs.Common.{◌≡◌, ℕ, Bool, true, cond, List, [], ◌∷◌, refl, ◌⊎◌, inl, inr, sym, ◌∙◌, ap, subst}
use Rattle.std.specs.Prelude.{◌==◌}
use Rattle.std.proofs.lemmas.Bool.{and_from, or_right, eq-eqb, cases_eq}
use Rattle.rdm_lists.specs.Lists.{Member}
use Rattle.rdm_num.specs.Lives.{same_life, life}
use Rattle.rdm_num.specs.declared.numbers.Life.{Life}
use Rattle.rdm_num.specs.declared.numbers.PortNo.{PortNo}
use Rattle.rdm_num.specs.declared.numbers.DatagramNo.{DatagramNo}
use Rattle.rdm_wire.specs.declared.Datagram.{Datagram}
use Rattle.rdm_wire.specs.declared.Body.TheVariants.{Between}
use Rattle.rdm_wire.specs.declared.Load.{Load}
use Rattle.rdm_model.specs.declared.job.Job.{Job}
use Rattle.rdm_model.specs.declared.entry.Entry.{Entry}
use Rattle.rdm_model.specs.declared.entry.Act.{Act}
use Rattle.rdm_model.specs.declared.entry.Act.TheVariants.{Next, Push, Handle, Poll}
use Rattle.rdm_model.specs.declared.answer.Handled.{Handled}
use Rattle.rdm_model.specs.declared.answer.Handled.TheVariants.{Dropped}
use Rattle.rdm_model.specs.Deeds.{Deed, log_of}
use Rattle.rdm_model.specs.Classes.{class_of}
use Rattle.rdm_model.specs.Scenes.{Scene, deeds_at}
use Rattle.rdm_model.specs.Steps.{Does, Fits}
use Rattle.rdm_model.specs.Local.{own_scene, Local}
use Rattle.rdm_model.specs.Wire.{PushedIn, IsOther, IsUnhandled, Comes, Wire}
use Rattle.rdm_model.specs.Lawful.{life_deeds}
use Rattle.rdm_model.specs.Standing.{goes, is_between, drops_between}
use Rattle.rdm_law.proofs.Lives.Logs.{at_log_of}
use Rattle.rdm_law.proofs.Accounts.Wired.{Played}
use Rattle.rdm_law.proofs.Lives.Handled.{at_life}
use Rattle.rdm_law.proofs.Played.Delivers.{IsNumbered, AreNumbered, pushed_once}
use Rattle.rdm_num.proofs.Lives.{same_life-refl, port_is}

-- a datagram of that source and number was handled
abbrev pub HandledOnce : Datagram → List Entry → Type 0
HandledOnce d [] = ⊥
HandledOnce d (e ∷ before) = ((q : Datagram) × (answer : Handled) × (e.act ≡ Handle q answer) × (q.src ≡ d.src) × (q.number ≡ d.number)) ⊎ HandledOnce d before

-- and so are datagram numbers
same_number : (p q : DatagramNo) → p.0 ≡ q.0 → p ≡ q
same_number p q h = ap (λ (n : ℕ). let x : DatagramNo = record { 0 = n } in x) h

-- an act handles a datagram of that source and number, or none
act_handles : (d : Datagram) (act : Act) → IsOther d act ⊎ ((q : Datagram) × (answer : Handled) × (act ≡ Handle q answer) × (q.src ≡ d.src) × (q.number ≡ d.number))
act_handles d (Handle q answer) =
    elim (cases_eq q.src.0 d.src.0) [
      | inl a ↦ elim (cases_eq q.number.0 d.number.0) [
        | inl b ↦ inr (q, answer, refl, port_is q.src d.src a, same_number q.number d.number b)
        | inr b ↦ inl (λ s n. b (ap (λ (x : DatagramNo). x.0) n))
      ]
      | inr a ↦ inl (λ s n. a (ap (λ (x : PortNo). x.0) s))
    ]
act_handles d (Next index op answer) = inl tt
act_handles d (Push q) = inl tt
act_handles d (Poll c) = inl tt

-- a datagram was handled or not
pub handled_cases : (d : Datagram) (history : List Entry) → IsUnhandled d history ⊎ HandledOnce d history
handled_cases d [] = inl tt
handled_cases d (e ∷ before) =
    elim (handled_cases d before) [
      | inl u ↦ elim (act_handles d e.act) [ inl a ↦ inl (u, a) | inr b ↦ inr (inl b) ]
      | inr h ↦ inr (inr h)
    ]

-- that datagram was handled
abbrev pub HandledIt : Datagram → List Entry → Type 0
HandledIt d [] = ⊥
HandledIt d (e ∷ before) = ((answer : Handled) × (e.act ≡ Handle d answer)) ⊎ HandledIt d before

-- what was pushed stays pushed
pushed_still : (port : ℕ) (d : Datagram) (e : Entry) (before : List Entry) → PushedIn d (log_of port before) → PushedIn d (log_of port (e ∷ before))
pushed_still port d e before h = at_log_of (λ log. PushedIn d log) port e before (λ s. inr h) (λ s. h)

-- a datagram of that source and number that was handled, as it was pushed
found : (d : Datagram) (history : List Entry) → Wire history → HandledOnce d history
    → (q : Datagram) × HandledIt q history × PushedIn q (log_of q.src.0 history) × (q.src ≡ d.src) × (q.number ≡ d.number)
found d [] w h = elim h [ ]
found d (e ∷ before) w (inl a) =
    let P : Act → Type 0 = λ x. Comes before e x in
    let comes : Comes before e (Handle a.0 a.1) = subst P a.2 w.1 in
    (a.0, inl (a.1, a.2), pushed_still a.0.src.0 a.0 e before comes.1, a.3, a.4)
found d (e ∷ before) w (inr h) = let r = found d before w.0 h in (r.0, inr r.1, pushed_still r.0.src.0 r.0 e before r.2, r.3, r.4)

-- a push has the next number
numbered_act : (job : Job) (port : ℕ) (s : Scene) (e : Entry) (before : List Entry) (act : Act) → e.port.0 ≡ port → Does job class_of s before e act → IsNumbered port before act
numbered_act job port s e before (Push d) p does = (ap (λ (x : PortNo). x.0) does.0 ∙ p, does.1)
numbered_act job port s e before (Next index op answer) p does = tt
numbered_act job port s e before (Handle d answer) p does = tt
numbered_act job port s e before (Poll c) p does = tt

-- the pushes of a log that is right by itself are numbered
pub numbered : (job : Job) (port : ℕ) (log : List Entry) → Local job port log → AreNumbered port log
numbered job port [] l = tt
numbered job port (e ∷ before) l = (numbered job port before l.0, numbered_act job port (own_scene job port (deeds_at job port before)) e before e.act l.1 l.2.2)

-- a pushed datagram of which one of its source and number was handled was handled itself
pub it_was : (job : Job) (history : List Entry) (d : Datagram) → Played job history → PushedIn d (log_of d.src.0 history) → HandledOnce d history → HandledIt d history
it_was job history d played p h =
    let r = found d history played.wire h in
    let P : PortNo → Type 0 = λ x. PushedIn r.0 (log_of x.0 history) in
    let q : PushedIn r.0 (log_of d.src.0 history) = subst P r.3 r.2 in
    let same : d ≡ r.0 = pushed_once d.src.0 (log_of d.src.0 history) d r.0 (numbered job d.src.0 (log_of d.src.0 history) (played.locals d.src.0)) p q (sym r.4) in
    subst (λ (x : Datagram). HandledIt x history) (sym same) r.1

-- the newest entry of a port fits
local_newest : (job : Job) (port : ℕ) (e : Entry) (before : List Entry) → (e.port.0 == port) ≡ true → Local job port (cond (e.port.0 == port) (e ∷ log_of port before) (log_of port before))
    → Fits job class_of (own_scene job port (deeds_at job port (log_of port before))) (log_of port before) e
local_newest job port e before is l =
    let P : Bool → Type 0 = λ b. Local job port (cond b (e ∷ log_of port before) (log_of port before)) in
    let here : Local job port (e ∷ log_of port before) = subst P is l in
    here.2

-- an entry of a port fits its log
pub local_at : (job : Job) (port : ℕ) (e : Entry) (before : List Entry) → Local job port (log_of port (e ∷ before)) → e.port.0 ≡ port
    → Fits job class_of (own_scene job port (deeds_at job port (log_of port before))) (log_of port before) e
unfolding log_of
local_at job port e before l p = (local_newest job port e before (eq-eqb e.port.0 port p) l)

-- deeds of a life stay
pub deed_stays : (job : Job) (e : Entry) (before : List Entry) (l : Life) (x : Deed) → Member x (life_deeds job before l) → Member x (life_deeds job (e ∷ before) l)
deed_stays job e before l x m = at_life (λ log. Member x log) job l e before (λ p o. inr m) m

-- what is dropped between the lives
pub dropped_between : (i j : Life) (d : Datagram) (load : Load) (act : Act) (why : _) → act ≡ Handle d (Dropped why) → d.src.0 ≡ j.port.0 → d.dst ≡ i.port → d.body ≡ Between j.connid i.connid load → drops_between i j act ≡ true
unfolding drops_between is_between goes
dropped_between i j d load act why a s t b =
    let x : ◌≡◌ {A = Life} (life d.src j.connid) j = ap (λ (p : PortNo). let y : Life = record { port = p; connid = j.connid } in y) (port_is d.src j.port s) in
    let z : ◌≡◌ {A = Life} (life d.dst i.connid) i = ap (λ (p : PortNo). let y : Life = record { port = p; connid = i.connid } in y) t in
    rw (a, b) (or_right _ _ (and_from _ _ (ap (λ (l : Life). same_life l j) x ∙ same_life-refl j) (ap (λ (l : Life). same_life l i) z ∙ same_life-refl i)))
