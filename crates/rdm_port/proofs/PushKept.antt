-- What a port keeps after the datagram that departs was pushed.
use Rattle.std.proofs.Common.{◌≡◌, ◌≤◌, ℕ, zero, suc, ◌+◌, List, [], ◌∷◌, map, length, drop, Option, Some, None, refl, ap, ◌∙◌, sym, subst, arith}
use Rattle.std.specs.Prelude.{option_map}
use Rattle.std.proofs.Math.Seq.{drop-nil}
use Rattle.rdm_num.specs.declared.numbers.Connid.{Connid}
use Rattle.rdm_num.specs.declared.numbers.Life.{Life}
use Rattle.rdm_wire.specs.declared.Body.{Body}
use Rattle.rdm_wire.specs.declared.Body.TheVariants.{Note, Between}
use Rattle.rdm_wire.specs.declared.NoteBody.{NoteBody}
use Rattle.rdm_wire.specs.declared.Load.{Load}
use Rattle.rdm_wire.specs.declared.Load.TheVariants.{Packet}
use Rattle.rdm_pkt.specs.Grammar.{spelling}
use Rattle.rdm_wire.specs.declared.Datagram.{Datagram}
use Rattle.rdm_model.specs.declared.job.Instr.{Instr}
use Rattle.rdm_model.specs.declared.entry.Act.TheVariants.{Push}
use Rattle.rdm_model.specs.Deeds.{PushedNote, Pushed, deed_by_push, deed_of, deed_count}
use Rattle.rdm_model.specs.Notes.{OwedNote, notes, note_pushes_by}
use Rattle.rdm_model.specs.Steps.{pushes_by}
use Rattle.rdm_ep.specs.declared.state.Outbound.{Outbound}
use Rattle.rdm_ep.specs.View.{EndpointView}
use Rattle.rdm_ep.specs.Going.{Leaving, after_outgoing, sent_by, after_sent, out_of}
use Rattle.rdm_ep.proofs.KeepsQuiet.{keeps_quiet}
use Rattle.rdm_ep.proofs.KeepsPushed.{keeps_pushed}
use Rattle.rdm_port.specs.declared.kept.QueuedNote.{QueuedNote}
use Rattle.rdm_port.specs.declared.going.Departure.{Departure}
use Rattle.rdm_port.specs.Views.{PortView}
use Rattle.rdm_port.specs.Kept.{Kept, IsKept, deeds_of, queued_of, entry_of, with_log}
use Rattle.rdm_port.specs.Machine.{push_counted, departure_of, life_departing, departing_by, departing, datagram_by, after_went}
use Rattle.rdm_port.proofs.SilentDeeds.{StepsBy}
use Rattle.rdm_port.proofs.SilentSteps.{NotesLeft, kept_silent}

-- the deed of a push, by what the datagram has in it
deed_of_push : (ops : List Instr) (d : Datagram) (body : Body) → d.body ≡ body → deed_of ops (Push d) ≡ deed_by_push body
unfolding deed_of
deed_of_push ops d body e = ap deed_by_push e

-- a push counts
push_counts : (d : Datagram) → pushes_by (Push d) ≡ 1
unfolding pushes_by
push_counts d = refl

-- the notes that are left once the first of those was pushed
drop_more : (k : ℕ) (ns : List OwedNote) (q : QueuedNote) (qs : List QueuedNote) → q ∷ qs ≡ map queued_of (drop k ns)
    → (k + 1 ≤ length ns) × (qs ≡ map queued_of (drop (k + 1) ns))
drop_more k [] q qs e = cc (drop-nil {A = OwedNote} k)
drop_more zero (n ∷ ns) q qs e = (omega arith, cc)
drop_more (suc k) (n ∷ ns) q qs e =
    let r = drop_more k ns q qs e in let f = r.0 in let i : suc k + 1 ≡ suc (k + 1) = omega arith in (omega arith, rw i r.1)

-- the notes that are left once a note was pushed
note_left : (v : PortView) (k : Kept) (q : QueuedNote) (qs : List QueuedNote) → IsKept v k → k.notes ≡ q ∷ qs → NotesLeft v (push_counted (record k { notes = drop 1 k.notes })) PushedNote
unfolding note_pushes_by
note_left v k q qs h e =
    let m = drop_more (deed_count note_pushes_by (deeds_of v)) (notes v.ports v.number (deeds_of v)) q qs (sym e ∙ h.notes_are) in
    record { within = m.0; are = ap (drop 1) e ∙ m.1 }

-- a push of the open life leaves the notes
life_left : (v : PortView) (k n : Kept) → IsKept v k → n.notes ≡ k.notes → NotesLeft v n Pushed
unfolding note_pushes_by
life_left v k n h e =
    let c = deed_count note_pushes_by (deeds_of v) in
    let i : c + 0 ≡ c = omega arith in
    record { within = rw i h.notes_within; are = rw i (e ∙ h.notes_are) }

-- the endpoint stays where a note is pushed
note_steps : (o : Option EndpointView) → StepsBy PushedNote o o
note_steps None = tt
note_steps (Some e) = (refl, λ log p keeps. keeps_quiet PushedNote log e tt p keeps)

-- a push of a send leaves what the endpoint began with
outgoing_own : (e : EndpointView) (os : List Outbound) → (after_outgoing e os).own ≡ e.own
unfolding after_outgoing
outgoing_own e [] = refl
outgoing_own e (o ∷ os) = refl

-- a push leaves what the endpoint began with
sent_own : (e : EndpointView) (ls : List Life) → (sent_by e ls).own ≡ e.own
unfolding sent_by
sent_own e [] = outgoing_own e e.outgoing
sent_own e (l ∷ ls) = refl

-- what goes out next from the endpoint was pushed
life_goes : (o : Option EndpointView) → StepsBy Pushed o (option_map after_sent o)
unfolding after_sent
life_goes None = tt
life_goes (Some e) = (sent_own e e.owed, λ log p keeps. keeps_pushed log e p keeps)

-- what is kept after the first note was pushed
note_pushed : (v : PortView) (k : Kept) (q : QueuedNote) (qs : List QueuedNote) (d : Datagram) (note : NoteBody) → IsKept v k → k.notes ≡ q ∷ qs → d.body ≡ Note note
    → IsKept (with_log v (entry_of v (k.clock + 1) (Push d) ∷ v.log)) (push_counted (after_went (Note note) k))
unfolding after_went deed_by_push
note_pushed v k q qs d note h e b =
    let one = push_counts d in
    kept_silent v k (push_counted (record k { notes = drop 1 k.notes })) (Push d) PushedNote h tt tt (deed_of_push v.rank.ops d (Note note) b)
    (record { done = refl; clock = refl; pushed = rw one refl; opened = refl; told = refl; to_other = refl; from_other = refl })
    (note_left v k q qs h e)
    (note_steps k.endpoint)

-- what is kept after the next datagram of the open life was pushed
life_pushed : (v : PortView) (k : Kept) (d : Datagram) (from to : Connid) (load : Load) → IsKept v k → d.body ≡ Between from to load
    → IsKept (with_log v (entry_of v (k.clock + 1) (Push d) ∷ v.log)) (push_counted (after_went (Between from to load) k))
unfolding after_went deed_by_push
life_pushed v k d from to load h b =
    let one = push_counts d in
    let n : Kept = push_counted (record k { endpoint = option_map after_sent k.endpoint }) in
    kept_silent v k n (Push d) Pushed h tt tt (deed_of_push v.rank.ops d (Between from to load) b)
    (record { done = refl; clock = refl; pushed = rw one refl; opened = refl; told = refl; to_other = refl; from_other = refl })
    (life_left v k n h refl)
    (life_goes k.endpoint)

-- the port and what it keeps after that was pushed
abbrev pub KeepsPushed : PortView → Kept → Departure → Type 0
KeepsPushed v k o = IsKept (with_log v (entry_of v (k.clock + 1) (Push (datagram_by v k o)) ∷ v.log)) (push_counted (after_went o.body k))

-- what is kept after what the open life lets go was pushed
life_by : (v : PortView) (k : Kept) (e : EndpointView) (l : Option Leaving) (o : Departure) → IsKept v k → option_map (departure_of e) l ≡ Some o → KeepsPushed v k o
life_by v k e None o h q = cc
life_by v k e (Some l) o h q =
    let i : Some (departure_of e l) ≡ Some o = q in
    let j : departure_of e l ≡ o = cc in
    subst (KeepsPushed v k) j (life_pushed v k (datagram_by v k (departure_of e l)) e.own.life.connid l.to.connid (Packet (spelling l.packet)) h refl)

-- the same, by the notes and the endpoint that are kept
push_by : (v : PortView) (k : Kept) (ns : List QueuedNote) (x : Option EndpointView) (o : Departure) → IsKept v k → k.notes ≡ ns → departing_by ns x ≡ Some o → KeepsPushed v k o
unfolding departing_by life_departing
push_by v k [] None o h e q = cc
push_by v k [] (Some x) o h e q = life_by v k x (out_of x) o h q
push_by v k (n ∷ ns) x o h e q =
    let w : Departure = record { dst = n.to; body = Note n.body } in
    let i : Some w ≡ Some o = q in
    let j : w ≡ o = cc in
    subst (KeepsPushed v k) j (note_pushed v k n ns (datagram_by v k w) n.body h e refl)

-- what a port keeps after the datagram that departs was pushed
pub push_kept : (v : PortView) (k : Kept) (o : Departure) → IsKept v k → departing k ≡ Some o → KeepsPushed v k o
push_kept v k o h q = push_by v k k.notes k.endpoint o h refl q
