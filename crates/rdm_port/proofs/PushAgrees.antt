-- The next datagram of a port, as the definitions say it, is the one that departs.
use Rattle.std.proofs.Common.{◌≡◌, ℕ, zero, suc, List, [], ◌∷◌, map, drop, Option, Some, None, refl, ap, ◌∙◌, sym}
use Rattle.std.specs.Prelude.{slice_get, option_map}
use Rattle.std.proofs.Math.Seq.{drop-nil}
use Rattle.rdm_num.specs.declared.numbers.PortNo.{PortNo}
use Rattle.rdm_wire.specs.declared.Body.{Body}
use Rattle.rdm_wire.specs.declared.Body.TheVariants.{Note}
use Rattle.rdm_wire.specs.declared.Datagram.{Datagram}
use Rattle.rdm_model.specs.declared.job.Job.{Job}
use Rattle.rdm_model.specs.Deeds.{Deed, Spelled, deed_count, open_life, of_life}
use Rattle.rdm_model.specs.Notes.{OwedNote, notes, note_pushes_by, next_note}
use Rattle.rdm_model.specs.Beginnings.{Own, life_at, own_of, port_count}
use Rattle.rdm_model.specs.Dues.{due}
use Rattle.rdm_model.specs.Scenes.{Scene, deeds_at, scene}
use Rattle.rdm_model.specs.Local.{own_scene, heard_by}
use Rattle.rdm_model.specs.Going.{Going, GoesNote, Goes, due_going, life_going, note_going, going}
use Rattle.rdm_model.specs.Worlds.{scene_in, load_of, datagram_of}
use Rattle.rdm_ep.specs.View.{EndpointView}
use Rattle.rdm_ep.specs.Answers.{life_scene}
use Rattle.rdm_ep.specs.Going.{Leaving}
use Rattle.rdm_ep.specs.Going as Ep
use Rattle.rdm_ep.proofs.KeepsPushed.{out_agrees}
use Rattle.rdm_port.specs.declared.kept.QueuedNote.{QueuedNote}
use Rattle.rdm_port.specs.Views.{PortView, IsPortOf, scene_at}
use Rattle.rdm_port.specs.Kept.{Kept, IsKept, deeds_of, queued_of}
use Rattle.rdm_port.specs.Machine.{departure_of, life_departing, departing_by, departing, datagram_by}
use Rattle.rdm_port.specs.Pushes.{lone_world, out_of}
use Rattle.rdm_port.proofs.Counted.{clock_is, deeds_are, scene_is, open_facts, none_open}
use Rattle.rdm_port.proofs.NextAgrees.{open_eager}

-- the datagram to that port with that body, by what the port keeps
abbrev pub datagram_at : PortView → Kept → PortNo → Body → Datagram
datagram_at v k dst body = datagram_by v k (record { dst = dst; body = body })

-- the port that a scene of its log is of
scene_port : (job : Job) (v : PortView) → (scene_at job v).own.life.port.0 ≡ v.number
unfolding scene_at own_scene scene own_of life_at
scene_port job v = elim (open_life (deeds_at job v.number v.log)) as (λ o. (life_at v.number o).port.0 ≡ v.number) [ None ↦ refl | Some connid ↦ refl ]

-- the first note that is left is queued first
first_queued : (k : ℕ) (ns : List OwedNote) → option_map queued_of (slice_get ns k) ≡ slice_get (map queued_of (drop k ns)) 0
first_queued k [] = ap (λ (xs : List OwedNote). slice_get (map queued_of xs) 0) (sym (drop-nil {A = OwedNote} k))
first_queued zero (n ∷ ns) = refl
first_queued (suc k) (n ∷ ns) = first_queued k ns

-- the next note of the definitions is the first that is queued
next_queued : (v : PortView) (k : Kept) → IsKept v k → option_map queued_of (next_note v.ports v.number (deeds_of v)) ≡ slice_get k.notes 0
unfolding next_note
next_queued v k h =
    first_queued (deed_count note_pushes_by (deeds_of v)) (notes v.ports v.number (deeds_of v)) ∙ ap (λ (ns : List QueuedNote). slice_get ns 0) (sym h.notes_are)

-- the note that goes departs
note_departs : (job : Job) (v : PortView) (k : Kept) (n : OwedNote) → IsPortOf job v → IsKept v k
    → datagram_of job (lone_world v) v.number (GoesNote n) ≡ datagram_at v k n.to (Note n.body)
unfolding datagram_of
note_departs job v k n p h = let c = clock_is job v k p h in let m = h.pushed in rw (c, m) refl

-- the packet that goes departs
packet_departs : (job : Job) (v : PortView) (k : Kept) (e : EndpointView) (l : Leaving) → IsPortOf job v → IsKept v k → (scene_at job v).own.life.connid ≡ e.own.life.connid
    → datagram_of job (lone_world v) v.number (Goes l.to (Spelled l.packet)) ≡ datagram_by v k (departure_of e l)
unfolding datagram_of load_of scene_in scene_at
packet_departs job v k e l p h q = let c = clock_is job v k p h in let m = h.pushed in rw (c, m, q) refl

-- what goes out next from the open life departs, by what the endpoint lets go
leaving_departs : (job : Job) (v : PortView) (k : Kept) (e : EndpointView) (o : Option Leaving) → IsPortOf job v → IsKept v k
    → (scene_at job v).own.life.connid ≡ e.own.life.connid
    → option_map (datagram_of job (lone_world v) v.number) (option_map (λ (l : Leaving). Goes l.to (Spelled l.packet)) o) ≡ option_map (datagram_by v k) (option_map (departure_of e) o)
leaving_departs job v k e None p h q = refl
leaving_departs job v k e (Some l) p h q = ap Some (packet_departs job v k e l p h q)

-- what goes out in the scene of a life
scene_goes : (ports : ℕ) (own : Own) (port_log log : List Deed) (s : Scene) → s ≡ life_scene ports own port_log log
    → life_going s.now s ≡ due_going (due own (heard_by own.limits.first log) log)
unfolding life_going
scene_goes ports own port_log log s e = ap (λ (x : Scene). life_going x.now x) e

-- what goes out next from the open life departs, where none is open
closed_departs : (job : Job) (v : PortView) (k : Kept) → IsPortOf job v → IsKept v k → k.endpoint ≡ None
    → option_map (datagram_of job (lone_world v) v.number) (life_going (scene_at job v).now (scene_at job v)) ≡ None
unfolding life_going scene_at own_scene scene
closed_departs job v k p h q = let d = deeds_are job v p in let o = none_open v k h q in rw (d, o) refl

-- the same, where an endpoint is kept
open_departs : (job : Job) (v : PortView) (k : Kept) (e : EndpointView) → IsPortOf job v → IsKept v k → k.endpoint ≡ Some e
    → option_map (datagram_of job (lone_world v) v.number) (life_going (scene_at job v).now (scene_at job v)) ≡ option_map (datagram_by v k) (life_departing (Some e))
unfolding life_departing
open_departs job v k e p h q =
    let f = open_facts v k e h q in
    let connid = f.0 in
    let log = of_life connid (deeds_of v) in
    let s : scene_at job v ≡ life_scene v.ports e.own (deeds_of v) log =
    scene_is job v connid p f.1.open_is ∙ ap (λ (o : Own). life_scene v.ports o (deeds_of v) log) (sym f.1.own_is) in
    let g = scene_goes v.ports e.own (deeds_of v) log (scene_at job v) s ∙ out_agrees log e (open_eager v k connid e h f.1) f.1.keeps in
    ap (option_map (datagram_of job (lone_world v) v.number)) g
    ∙ leaving_departs job v k e (Ep.out_of e) p h (ap (λ (x : Scene). x.own.life.connid) s)

-- what goes out next from the open life departs, by the endpoint that is kept
life_departs : (job : Job) (v : PortView) (k : Kept) (o : Option EndpointView) → IsPortOf job v → IsKept v k → k.endpoint ≡ o
    → option_map (datagram_of job (lone_world v) v.number) (life_going (scene_at job v).now (scene_at job v)) ≡ option_map (datagram_by v k) (life_departing o)
unfolding life_departing
life_departs job v k None p h q = closed_departs job v k p h q
life_departs job v k (Some e) p h q = open_departs job v k e p h q

-- a note departs before all else, as it goes before all else
notes_depart : (job : Job) (v : PortView) (k : Kept) (n : Option OwedNote) (ns : List QueuedNote) (g : Option Going) → IsPortOf job v → IsKept v k
    → option_map queued_of n ≡ slice_get ns 0 → option_map (datagram_of job (lone_world v) v.number) g ≡ option_map (datagram_by v k) (life_departing k.endpoint)
    → option_map (datagram_of job (lone_world v) v.number) (note_going n g) ≡ option_map (datagram_by v k) (departing_by ns k.endpoint)
unfolding note_going departing_by
notes_depart job v k None [] g p h e f = f
notes_depart job v k None (q ∷ qs) g p h e f = cc
notes_depart job v k (Some n) [] g p h e f = cc
notes_depart job v k (Some n) (q ∷ qs) g p h e f =
    let i : Some (queued_of n) ≡ Some q = e in
    let j : queued_of n ≡ q = cc in
    ap Some (note_departs job v k n p h) ∙ ap (λ (x : QueuedNote). Some (datagram_at v k x.to (Note x.body))) j

-- the next note in the scene of the port
scene_note : (job : Job) (v : PortView) → IsPortOf job v
    → next_note (scene_at job v).ports (scene_at job v).own.life.port.0 (scene_at job v).port_log ≡ next_note v.ports v.number (deeds_of v)
unfolding scene_at own_scene scene
scene_note job v p =
    ap (λ (n : ℕ). next_note (port_count job) n (deeds_at job v.number v.log)) (scene_port job v)
    ∙ ap (next_note (port_count job) v.number) (deeds_are job v p)
    ∙ ap (λ (n : ℕ). next_note n v.number (deeds_of v)) (sym p.ports_are)

-- the next datagram is the one that departs
pub push_agrees : (job : Job) (v : PortView) (k : Kept) → IsPortOf job v → IsKept v k → out_of job v ≡ option_map (datagram_by v k) (departing k)
unfolding out_of going
push_agrees job v k p h =
    let s = scene_at job v in
    notes_depart job v k (next_note s.ports s.own.life.port.0 s.port_log) k.notes (life_going s.now s) p h
    (ap (option_map queued_of) (scene_note job v p) ∙ next_queued v k h)
    (life_departs job v k k.endpoint p h refl)
