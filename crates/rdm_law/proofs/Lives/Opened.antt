-- Each life that a life has to do with was opened.
use Rattle.std.proofs.Common.{◌≡◌, ℕ, List, [], ◌∷◌, Option, Some, None, inl, inr, ap, subst}
use Rattle.std.specs.Prelude.{not, ◌==◌, filter}
use Rattle.rdm_lists.specs.Lists.{Member, below}
use Rattle.rdm_num.specs.declared.numbers.Connid.{Connid}
use Rattle.rdm_num.specs.declared.numbers.Life.{Life}
use Rattle.rdm_wire.specs.declared.Datagram.{Datagram}
use Rattle.rdm_wire.specs.declared.Body.TheVariants.{Note}
use Rattle.rdm_wire.specs.declared.NoteBody.{NoteBody}
use Rattle.rdm_wire.specs.declared.NoteBody.TheVariants.{Opened as OpenedNote, Said}
use Rattle.rdm_model.specs.declared.job.Job.{Job}
use Rattle.rdm_model.specs.declared.job.Instr.TheVariants.{OpenLife, Note as NoteOp, CloseLife}
use Rattle.rdm_model.specs.declared.entry.Entry.{Entry}
use Rattle.rdm_model.specs.declared.entry.Act.TheVariants.{Push}
use Rattle.rdm_model.specs.Deeds.{Deed, Did, deeds, open_after, open_life}
use Rattle.rdm_model.specs.Notes.{OwedNote, note_to, notes_by, notes, next_note}
use Rattle.rdm_model.specs.Dues.{Due, Replies, Sends}
use Rattle.rdm_model.specs.Scenes.{Scene, scene, deeds_at}
use Rattle.rdm_model.specs.Going.{Going, GoesNote, Goes, due_going, life_going, note_going, going, IsGoing}
use Rattle.rdm_model.specs.Classes.{class_of}
use Rattle.rdm_model.specs.Steps.{Does}
use Rattle.rdm_model.specs.Local.{own_scene, Local}
use Rattle.rdm_model.specs.Lawful.{port_deeds}
use Rattle.rdm_model.specs.Wire.{PushedIn}
use Rattle.rdm_lists.proofs.Members.{member-append_cases, member-map}
use Rattle.rdm_lists.proofs.Places.{slice_get-member}

-- a deed of the port opened the life
abbrev pub IsOpened : Job → List Entry → Life → Type 0
IsOpened job history l = Member (Did (OpenLife l.connid)) (port_deeds job l.port.0 history)

-- a deed after which a life is open
open_by : (was : Option Connid) (d : Deed) (c : Connid) → open_after was d ≡ Some c → (before : List Deed) → (was ≡ Some c → Member (Did (OpenLife c)) (d ∷ before))
    → Member (Did (OpenLife c)) (d ∷ before)
unfolding open_after
open_by was (Did (OpenLife connid)) c h before k = inl cc
open_by was (Did CloseLife) c h before k = cc
open_by was _ c h before k = k h

-- a life that is open was opened
pub open_opened : (log : List Deed) (c : Connid) → open_life log ≡ Some c → Member (Did (OpenLife c)) log
unfolding open_life
open_opened [] c h = cc
open_opened (d ∷ before) c h = open_by (open_life before) d c h before (λ k. inr (open_opened before c k))

-- a deed makes a note of the life that it opens owed
note_opened : (ports port : ℕ) (d : Deed) (n : OwedNote) (c : Connid) → Member n (notes_by ports port d) → n.body ≡ OpenedNote c → d ≡ Did (OpenLife c)
unfolding notes_by
note_opened ports port (Did (OpenLife connid)) n c m e =
    let r = member-map (note_to (OpenedNote connid)) n (filter (λ p. not (p == port)) (below ports)) m in
    let b : OpenedNote connid ≡ n.body = ap (λ (x : OwedNote). x.body) r.2 in
    cc
note_opened ports port (Did (NoteOp to what)) n c (inl is) e = (let b : Said what ≡ n.body = ap (λ (x : OwedNote). x.body) is in cc)
note_opened ports port (Did (NoteOp to what)) n c (inr never) e = elim never [ ]
note_opened ports port _ n c m e = elim m [ ]

-- the note that a port owes of a life tells of a life that it opened
owed_opened : (ports port : ℕ) (log : List Deed) (n : OwedNote) (c : Connid) → Member n (notes ports port log) → n.body ≡ OpenedNote c → Member (Did (OpenLife c)) log
unfolding notes
owed_opened ports port [] n c m e = elim m [ ]
owed_opened ports port (d ∷ before) n c m e =
    elim (member-append_cases n (notes ports port before) (notes_by ports port d) m) [
      | inl k ↦ inr (owed_opened ports port before n c k e)
      | inr k ↦ inl (note_opened ports port d n c k e)
    ]

-- only notes of the port go as notes
no_due_note : (o : Option Due) (n : OwedNote) → due_going o ≡ Some (GoesNote n) → ⊥
unfolding due_going
no_due_note None n h = cc
no_due_note (Some (Replies r)) n h = cc
no_due_note (Some (Sends s p)) n h = cc

-- an open life sends no notes
pub no_life_note : (s : Scene) (now : Option Connid) (n : OwedNote) → life_going now s ≡ Some (GoesNote n) → ⊥
unfolding life_going
no_life_note s None n h = cc
no_life_note s (Some c) n h = no_due_note _ n h

-- a note that goes is the first one
pub first_note : (o : Option OwedNote) (others : Option Going) (n : OwedNote) → note_going o others ≡ Some (GoesNote n) → (others ≡ Some (GoesNote n) → ⊥) → o ≡ Some n
unfolding note_going
first_note None others n h none = absurd (none h)
first_note (Some m) others n h none = cc

-- a note that goes is owed
going_note : (s : Scene) (n : OwedNote) → going s ≡ Some (GoesNote n) → Member n (notes s.ports s.own.life.port.0 s.port_log)
unfolding going next_note
going_note s n h =
    let first = first_note (next_note s.ports s.own.life.port.0 s.port_log) (life_going s.now s) n h (λ k. no_life_note s s.now n k) in
    slice_get-member (notes s.ports s.own.life.port.0 s.port_log) _ n first

-- a note that was pushed is owed
pushed_note : (s : Scene) (d : Datagram) (g : Going) (body : NoteBody) → d.body ≡ Note body → going s ≡ Some g → IsGoing s g d
    → (n : OwedNote) × Member n (notes s.ports s.own.life.port.0 s.port_log) × (n.body ≡ body)
pushed_note s d (GoesNote n) body b is h = (n, going_note s n is, (let x = h.1 in cc))
pushed_note s d (Goes to item) body b is h = (let x = h.1.1 in cc)

-- a note that is owed in a scene tells of a life that its port opened
scene_opened : (job : Job) (port : ℕ) (log : List Deed) (n : OwedNote) (c : Connid)
    → Member n (notes (own_scene job port log).ports (own_scene job port log).own.life.port.0 (own_scene job port log).port_log) → n.body ≡ OpenedNote c → Member (Did (OpenLife c)) log
unfolding own_scene scene
scene_opened job port log n c m e = owed_opened _ _ log n c m e

-- a note that tells of a life was pushed by a port that opened it
pub note_pushed : (job : Job) (port : ℕ) (log : List Entry) (d : Datagram) (c : Connid) → Local job port log → PushedIn d log → d.body ≡ Note (OpenedNote c)
    → Member (Did (OpenLife c)) (deeds_at job port log)
unfolding deeds_at deeds
note_pushed job port [] d c l h b = elim h [ ]
note_pushed job port (e ∷ before) d c l (inr h) b = inr (note_pushed job port before d c l.0 h b)
note_pushed job port (e ∷ before) d c l (inl is) b =
    let s = own_scene job port (deeds_at job port before) in
    let does : Does job class_of s before e (Push d) = subst (λ x. Does job class_of s before e x) is l.2.2 in
    let n = pushed_note s d does.3.0 (OpenedNote c) b does.3.1 does.3.2 in
    inr (scene_opened job port (deeds_at job port before) n.0 c n.1 n.2)
