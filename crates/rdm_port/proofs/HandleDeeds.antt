-- What a port keeps of its deeds after it answered to a datagram.
use Rattle.std.proofs.Common.{◌≡◌, ℕ, Bool, true, false, List, [], ◌∷◌, ◌++◌, Option, Some, None, refl, ap, ◌∙◌, sym, subst}
use Rattle.std.specs.Prelude.{◌||◌, ◌&&◌, ◌==◌}
use Rattle.std.specs.List.{list_any}
use Rattle.std.proofs.lemmas.List.{append-nil}
use Rattle.std.proofs.lemmas.List.Folds.{list_any-append}
use Rattle.rdm_num.specs.Lives.{same_life, life}
use Rattle.rdm_num.specs.declared.numbers.Connid.{Connid}
use Rattle.rdm_num.specs.declared.numbers.PortNo.{PortNo}
use Rattle.rdm_num.specs.declared.numbers.Life.{Life}
use Rattle.rdm_wire.specs.declared.Body.{Body}
use Rattle.rdm_wire.specs.declared.Body.TheVariants.{Note, Between}
use Rattle.rdm_wire.specs.declared.NoteBody.{NoteBody}
use Rattle.rdm_wire.specs.declared.NoteBody.TheVariants.{Opened, Said}
use Rattle.rdm_wire.specs.declared.Load.{Load}
use Rattle.rdm_wire.specs.declared.Datagram.{Datagram}
use Rattle.rdm_model.specs.declared.answer.Handled.{Handled}
use Rattle.rdm_model.specs.declared.answer.Handled.TheVariants as H
use Rattle.rdm_model.specs.declared.answer.Class.TheVariants.{ToOther, FromOther}
use Rattle.rdm_model.specs.Deeds.{Deed, TookNote, Nothing, deed_by_handle, open_after, open_life, of_life}
use Rattle.rdm_model.specs.Notes.{notes_by, note_pushes_by, tells_open, opens, knows_open, says, was_told}
use Rattle.rdm_model.specs.Beginnings.{Own}
use Rattle.rdm_ep.specs.View.{EndpointView}
use Rattle.rdm_ep.specs.Handling.{body_answer, after_body}
use Rattle.rdm_ep.specs.Answers.{handled_of}
use Rattle.rdm_ep.specs.Eager.{IsEagerDeed}
use Rattle.rdm_ep.proofs.Bodies.{keeps_handled}
use Rattle.rdm_port.specs.Views.{PortView}
use Rattle.rdm_port.specs.Kept.{Kept, IsKept, deeds_of, own_at, is_opened, is_told}
use Rattle.rdm_port.specs.Machine.{after_note, life_answer, after_life, drop_counted, machine_handled, after_handled}
use Rattle.rdm_port.specs.Built.{IsBuiltDeed}
use Rattle.rdm_port.specs.declared.kept.Told.{Told}
use Rattle.rdm_port.proofs.Counted.{open_facts}
use Rattle.rdm_port.proofs.NextAgrees.{open_eager}
use Rattle.rdm_port.proofs.NextDeeds.{KeepsDeeds, notes_more, IsStill, EndpointAfter, still_kept, changed, quiet_after}
use Rattle.rdm_port.proofs.NextCases.{no_notes, built_nothing}
use Rattle.rdm_port.proofs.NextOpens.{same_ways}
use Rattle.rdm_port.proofs.HandleLeaves.{body_leaves}

-- a note that was taken is built in each life
built_took : (v : PortView) (src : PortNo) (note : NoteBody) (o : Option Connid) → IsBuiltDeed (own_at v) o (deeds_of v) (TookNote src note)
built_took v src note None = tt
built_took v src note (Some connid) = tt

-- one more life of which the port was told
told_more : (told here opened a b : Bool) → ((told || (here && opened)) || ((a && b) || false)) ≡ (((a && b) || told) || (here && opened))
told_more true here opened true true = refl
told_more true here opened true false = refl
told_more true here opened false b = refl
told_more false true true true true = refl
told_more false true true true false = refl
told_more false true true false b = refl
told_more false true false true true = refl
told_more false true false true false = refl
told_more false true false false b = refl
told_more false false opened true true = refl
told_more false false opened true false = refl
told_more false false opened false b = refl

-- the port knows of the life of the note, and of those that it knew of before
opened_took : (port : ℕ) (log : List Deed) (src : PortNo) (connid : Connid) (lives : List Life) (l : Life) → is_opened lives l ≡ knows_open port log l
    → is_opened (lives ++ life src connid ∷ []) l ≡ knows_open port (TookNote src (Opened connid) ∷ log) l
unfolding is_opened knows_open tells_open opens same_life
opened_took port log src connid lives l h =
    let here = l.port.0 == port in
    let told = list_any (tells_open l) log in
    let opened = list_any (opens l) log in
    list_any-append (same_life l) lives (life src connid ∷ [])
    ∙ ap (λ (b : Bool). b || (((l.port.0 == src.0) && (l.connid.0 == connid.0)) || false)) h
    ∙ ap (λ (b : Bool). (told || (here && opened)) || ((b && (l.connid.0 == connid.0)) || false)) (same_ways l.port.0 src.0)
    ∙ ap (λ (b : Bool). (told || (here && opened)) || (((src.0 == l.port.0) && b) || false)) (same_ways l.connid.0 connid.0)
    ∙ told_more told here opened (src.0 == l.port.0) (connid.0 == l.connid.0)

-- one after the other, or the other way round
or_last : (a b : Bool) → (a || (b || false)) ≡ (b || a)
or_last true true = refl
or_last true false = refl
or_last false true = refl
or_last false false = refl

-- the port was told the word of the note, and those that it was told before
said_took : (log : List Deed) (src : PortNo) (word : ℕ) (words : List Told) (from what : ℕ) → is_told words from what ≡ was_told log from what
    → is_told (words ++ record { from = src; what = word } ∷ []) from what ≡ was_told (TookNote src (Said word) ∷ log) from what
unfolding is_told was_told says
said_took log src word words from what h =
    let test = λ (t : Told). (t.from.0 == from) && (t.what == what) in
    list_any-append test words (record { from = src; what = word } ∷ [])
    ∙ ap (λ (b : Bool). b || (((src.0 == from) && (word == what)) || false)) h
    ∙ or_last (list_any (says from what) log) ((src.0 == from) && (word == what))

-- after a note that was taken
note_deeds : (v : PortView) (k : Kept) (src : PortNo) (note : NoteBody) → IsKept v k → KeepsDeeds v (TookNote src note ∷ deeds_of v) (after_note src note k)
unfolding after_note notes_by note_pushes_by open_life open_after knows_open tells_open opens was_told says
note_deeds v k src (Opened connid) h =
    let d : Deed = TookNote src (Opened connid) in
    let more = notes_more v k d h refl in
    let e = quiet_after v k d h tt (built_took v src (Opened connid)) (λ c. tt) in
    record {
      notes_within = more.within;
      notes_are = sym (append-nil k.notes) ∙ more.notes_are;
      opened_are = λ l. opened_took v.number (deeds_of v) src connid k.opened l (h.opened_are l);
      told_are = λ from what. h.told_are from what;
      built = (h.built, e.built);
      open_is = e.open_is;
      keeps = e.keeps;
    }
note_deeds v k src (Said word) h =
    let d : Deed = TookNote src (Said word) in
    let more = notes_more v k d h refl in
    let e = quiet_after v k d h tt (built_took v src (Said word)) (λ c. tt) in
    record {
      notes_within = more.within;
      notes_are = sym (append-nil k.notes) ∙ more.notes_are;
      opened_are = λ l. h.opened_are l;
      told_are = λ from what. said_took (deeds_of v) src word k.told from what (h.told_are from what);
      built = (h.built, e.built);
      open_is = e.open_is;
      keeps = e.keeps;
    }

-- what comes to a life opens none and pushes no note
still_handled : (src : PortNo) (from to : Connid) (load : Load) (answer : Handled) → IsStill (deed_by_handle src (Between from to load) answer)
unfolding deed_by_handle note_pushes_by tells_open opens says open_after
still_handled src from to load (H.Took entered) = record { push = refl; tells = λ m. refl; opens_none = λ m. refl; says_none = λ a b. refl; still = λ was. refl }
still_handled src from to load _ = record { push = refl; tells = λ m. refl; opens_none = λ m. refl; says_none = λ a b. refl; still = λ was. refl }

-- it queues no note
none_queued : (ports port : ℕ) (src : PortNo) (from to : Connid) (load : Load) (answer : Handled) → notes_by ports port (deed_by_handle src (Between from to load) answer) ≡ []
unfolding deed_by_handle notes_by
none_queued ports port src from to load (H.Took entered) = refl
none_queued ports port src from to load _ = refl

-- the endpoint after its answer
endpoint_after : (v : PortView) (k : Kept) (e : EndpointView) (d : Datagram) → IsKept v k → k.endpoint ≡ Some e
    → EndpointAfter v (deeds_of v) (deed_by_handle d.src d.body (handled_of (body_answer e d d.body))) (Some (after_body (body_answer e d d.body) d d.body e))
endpoint_after v k e d h q =
    let facts = open_facts v k e h q in
    let connid = facts.0 in
    let f = facts.1 in
    let log = of_life connid (deeds_of v) in
    let deed = deed_by_handle d.src d.body (handled_of (body_answer e d d.body)) in
    let new = after_body (body_answer e d d.body) d d.body e in
    let r = keeps_handled log e d (open_eager v k connid e h f) f.keeps in
    changed v k deed connid e new f (subst (λ (o : Own). IsEagerDeed o log deed) f.own_is r.0) (body_leaves (body_answer e d d.body) d d.body e).own r.1

-- the endpoint, if there is one, after the answer to what comes to a life
life_after : (v : PortView) (k : Kept) (d : Datagram) (from to : Connid) (load : Load) → d.body ≡ Between from to load → IsKept v k
    → EndpointAfter v (deeds_of v) (deed_by_handle d.src (Between from to load) (life_answer k.endpoint d)) (after_life k.endpoint d)
unfolding life_answer after_life deed_by_handle
life_after v k d from to load b h =
    (elim k.endpoint as (λ o. k.endpoint ≡ o → EndpointAfter v (deeds_of v) (deed_by_handle d.src (Between from to load) (life_answer o d)) (after_life o d)) [
      | None ↦ λ q. subst (λ (o : Option EndpointView). EndpointAfter v (deeds_of v) Nothing o) q (quiet_after v k Nothing h tt (built_nothing v) (λ connid. tt))
      | Some e ↦ λ q.
          subst (λ (x : Body). EndpointAfter v (deeds_of v) (deed_by_handle d.src x (handled_of (body_answer e d d.body))) (Some (after_body (body_answer e d d.body) d d.body e))) b
          (endpoint_after v k e d h q)
    ]) refl

-- a counted drop leaves all else
record DropLeaves (k n : Kept) : Type 0 where
  notes : n.notes ≡ k.notes
  opened : n.opened ≡ k.opened
  told : n.told ≡ k.told
  endpoint : n.endpoint ≡ k.endpoint

-- the drop of an answer leaves all else
drop_leaves : (answer : Handled) (k : Kept) → DropLeaves k (drop_counted answer k)
unfolding drop_counted
drop_leaves (H.Dropped ToOther) k = record { notes = refl; opened = refl; told = refl; endpoint = refl }
drop_leaves (H.Dropped FromOther) k = record { notes = refl; opened = refl; told = refl; endpoint = refl }
drop_leaves _ k = record { notes = refl; opened = refl; told = refl; endpoint = refl }

-- after what came to a life
life_deeds : (v : PortView) (k : Kept) (d : Datagram) (from to : Connid) (load : Load) → d.body ≡ Between from to load → IsKept v k
    → KeepsDeeds v (deed_by_handle d.src (Between from to load) (life_answer k.endpoint d) ∷ deeds_of v) (drop_counted (life_answer k.endpoint d) (record k { endpoint = after_life k.endpoint d }))
life_deeds v k d from to load b h =
    let answer = life_answer k.endpoint d in
    let deed = deed_by_handle d.src (Between from to load) answer in
    let mid : Kept = record k { endpoint = after_life k.endpoint d } in
    let leaves = drop_leaves answer mid in
    still_kept v k (drop_counted answer mid) deed h (still_handled d.src from to load answer)
    (leaves.notes ∙ no_notes v k deed (none_queued v.ports v.number d.src from to load answer)) leaves.opened leaves.told
    (subst (λ (o : Option EndpointView). EndpointAfter v (deeds_of v) deed o) (sym leaves.endpoint) (life_after v k d from to load b h))

-- what a port keeps of its deeds after the answer of the machine
pub handled_deeds : (v : PortView) (k : Kept) (d : Datagram) (body : Body) → d.body ≡ body → IsKept v k
    → KeepsDeeds v (deed_by_handle d.src body (machine_handled k d body) ∷ deeds_of v) (after_handled k d body)
unfolding machine_handled after_handled deed_by_handle
handled_deeds v k d (Note note) b h = note_deeds v k d.src note h
handled_deeds v k d (Between from to load) b h = life_deeds v k d from to load b h
