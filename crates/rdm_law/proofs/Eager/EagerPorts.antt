-- Ports that open one life each: what they took is eager, and so are the deeds of their lives.
use Rattle.std.proofs.Common.{◌≡◌, ℕ, true, List, [], ◌∷◌, Option, Some, refl, inl, inr, sym, ◌∙◌, ap, subst}
use Rattle.std.specs.Prelude.{◌&&◌, nat_eq, slice_get}
use Rattle.std.specs.List.{list_any}
use Rattle.std.proofs.lemmas.Bool.{and_parts, or_cases, eqb-true}
use Rattle.rdm_lists.specs.Lists.{Member}
use Rattle.rdm_num.specs.declared.numbers.PortNo.{PortNo}
use Rattle.rdm_num.specs.declared.numbers.Connid.{Connid}
use Rattle.rdm_num.specs.declared.numbers.Life.{Life}
use Rattle.rdm_num.specs.declared.limits.EpLimits.{EpLimits}
use Rattle.rdm_pkt.specs.declared.Packet.{Packet}
use Rattle.rdm_pkt.specs.Reading.{packet_in}
use Rattle.rdm_wire.specs.declared.Datagram.{Datagram}
use Rattle.rdm_wire.specs.declared.Body.{Body}
use Rattle.rdm_wire.specs.declared.Body.TheVariants.{Note, Between}
use Rattle.rdm_wire.specs.declared.NoteBody.TheVariants.{Opened}
use Rattle.rdm_wire.specs.declared.Load.TheVariants.{Packet as PacketLoad, Ask, Given}
use Rattle.rdm_model.specs.declared.job.Job.{Job}
use Rattle.rdm_model.specs.declared.job.Instr.{Instr}
use Rattle.rdm_model.specs.declared.job.Instr.TheVariants.{OpenLife, Insert, Reg, Send, Recv, Cancel, Note as NoteOp, Await, Wait, CloseLife}
use Rattle.rdm_model.specs.declared.answer.Next.{Next as Answer}
use Rattle.rdm_model.specs.declared.answer.Next.TheVariants.{Did as DidAnswer}
use Rattle.rdm_model.specs.declared.answer.Handled.{Handled}
use Rattle.rdm_model.specs.declared.answer.Handled.TheVariants.{Took as TookAnswer}
use Rattle.rdm_model.specs.declared.entry.Entry.{Entry}
use Rattle.rdm_model.specs.declared.entry.Act.{Act}
use Rattle.rdm_model.specs.declared.entry.Act.TheVariants.{Next, Push, Handle, Poll}
use Rattle.rdm_model.specs.Deeds.{Deed, Did, TookNote, packet_item, item_of, deed_by_next, deed_by_push, deed_by_handle, deed_of, deeds, open_life, of_life}
use Rattle.rdm_model.specs.Beginnings.{rank_of}
use Rattle.rdm_model.specs.Notes.{tells_open, opens, knows_open}
use Rattle.rdm_model.specs.Scenes.{deeds_at}
use Rattle.rdm_model.specs.Local.{Local}
use Rattle.rdm_law.specs.Worlds.{TookOnce}
use Rattle.rdm_law.proofs.Lives.Lives.{at_of_life}
use Rattle.rdm_law.proofs.Played.Delivers.{handled_waited}
use Rattle.rdm_law.proofs.Accounts.Wired.{HandledIn}
use Rattle.rdm_law.proofs.Lives.Opened.{open_opened, note_pushed}
use Rattle.rdm_law.proofs.Lives.Knows.{note_handled, opens_parts, tells_parts, act_knows}
use Rattle.rdm_law.proofs.Lives.OneLife.{act_op, did_op}
use Rattle.rdm_law.proofs.Eager.EagerDeeds.{IsEagerPacket, IsEagerLoad, IsTheLife, IsEagerOp, IsEagerDid, IsEagerDeed, AreEagerDeeds}
use Rattle.rdm_lists.proofs.Members.{list_any_member}

-- each port opens one life alone, and each send has room in one packet
abbrev pub EagerJob : Job → (lives : ℕ → Connid) → Type 0
EagerJob job lives = (port : ℕ) (instr : Instr) → Member instr (rank_of job port).ops → IsEagerOp job.limits (lives port) instr

-- a note, or a message in one packet or a handshake, from the one life of a port to that of another
abbrev pub IsEagerBody : (lives : ℕ → Connid) (first : ℕ) → Datagram → Body → Type 0
IsEagerBody lives first d (Note note) = Unit {0}
IsEagerBody lives first d (Between from to (PacketLoad bytes)) =
    (from ≡ lives d.src.0) × (to ≡ lives d.dst.0) × ((p : Packet) × (packet_in bytes ≡ Some p) × IsEagerPacket first p)
IsEagerBody lives first d (Between from to (Ask a)) = ⊥
IsEagerBody lives first d (Between from to (Given g)) = ⊥

-- the same of a datagram that a port handles
abbrev pub IsEagerHandle : (lives : ℕ → Connid) (first : ℕ) → Act → Type 0
IsEagerHandle lives first (Handle d answer) = IsEagerBody lives first d d.body
IsEagerHandle lives first (Next index op answer) = Unit {0}
IsEagerHandle lives first (Push d) = Unit {0}
IsEagerHandle lives first (Poll c) = Unit {0}

-- so of a whole log
abbrev pub AreEagerHandles : (lives : ℕ → Connid) (first : ℕ) → List Entry → Type 0
AreEagerHandles lives first [] = Unit {0}
AreEagerHandles lives first (e ∷ before) = AreEagerHandles lives first before × IsEagerHandle lives first e.act

-- so of each datagram that it took
pub handled_eager : (lives : ℕ → Connid) (first : ℕ) (d : Datagram) (log : List Entry) → AreEagerHandles lives first log → HandledIn d log → IsEagerBody lives first d d.body
handled_eager lives first d [] h k = elim k [ ]
handled_eager lives first d (e ∷ before) h (inl k) = subst (IsEagerHandle lives first) k.1 h.1
handled_eager lives first d (e ∷ before) h (inr k) = handled_eager lives first d before h.0 k

-- a life that a port opened is its one
opened_the : (job : Job) (lives : ℕ → Connid) (port : ℕ) (log : List Entry) (c : Connid) → EagerJob job lives → Member (Did (OpenLife c)) (deeds_at job port log) → c ≡ lives port
unfolding deeds_at
opened_the job lives port log c plain m = plain port (OpenLife c) (did_op (rank_of job port).ops log (OpenLife c) m)

-- the life that a port has open is its one
pub open_is : (job : Job) (lives : ℕ → Connid) (port : ℕ) (log : List Entry) (c : Connid) → EagerJob job lives → open_life (deeds_at job port log) ≡ Some c → c ≡ lives port
open_is job lives port log c plain h = opened_the job lives port log c plain (open_opened (deeds_at job port log) c h)

-- the life of which a port was told is the one of the port that told
told_the : (job : Job) (lives : ℕ → Connid) (logs : ℕ → List Entry) (port : ℕ) (log : List Entry) (l : Life) → EagerJob job lives → ((p : ℕ) → Local job p (logs p))
    → TookOnce logs port log → Member (TookNote l.port (Opened l.connid)) (deeds_at job port log) → IsTheLife lives l
told_the job lives logs port log l plain local had m =
    let h = note_handled job port log l.port (Opened l.connid) m in
    let src = h.0.src.0 in
    let pushed = (handled_waited logs port h.0 log had h.1).1 in
    opened_the job lives src (logs src) l.connid plain (note_pushed job src (logs src) h.0 l.connid (local src) pushed h.2) ∙ ap (λ (p : PortNo). lives p.0) h.3

-- a life that a port knows to be open is the one of its port
knows_the : (job : Job) (lives : ℕ → Connid) (logs : ℕ → List Entry) (port : ℕ) (log : List Entry) (l : Life) → EagerJob job lives → ((p : ℕ) → Local job p (logs p))
    → TookOnce logs port log → knows_open port (deeds_at job port log) l ≡ true → IsTheLife lives l
unfolding knows_open
knows_the job lives logs port log l plain local had h =
    let ds = deeds_at job port log in
    elim (or_cases (list_any (tells_open l) ds) (nat_eq l.port.0 port && list_any (opens l) ds) h) [
      | inl a ↦
          let r = list_any_member (tells_open l) ds a in
          told_the job lives logs port log l plain local had (subst (λ (d : Deed). Member d ds) (tells_parts l r.0 r.2) r.1)
      | inr a ↦
          let p = and_parts (nat_eq l.port.0 port) (list_any (opens l) ds) a in
          let r = list_any_member (opens l) ds p.1 in
          opened_the job lives port log l.connid plain (subst (λ (d : Deed). Member d ds) (opens_parts l r.0 r.2) r.1) ∙ ap lives (sym (eqb-true l.port.0 port p.0))
    ]

-- an instruction of an eager job that did is eager, where what it inserts is the one life of a port
eager_did : (job : Job) (lives : ℕ → Connid) (port : ℕ) (instr : Instr) → EagerJob job lives → Member instr (rank_of job port).ops
    → ((l : Life) → instr ≡ Insert l → IsTheLife lives l) → IsEagerDid job.limits lives instr
eager_did job lives port (OpenLife c) plain m the = tt
eager_did job lives port (Insert life) plain m the = the life refl
eager_did job lives port (Reg content) plain m the = tt
eager_did job lives port (Send req) plain m the = plain port (Send req) m
eager_did job lives port (Recv req) plain m the = tt
eager_did job lives port (Cancel recv) plain m the = tt
eager_did job lives port (NoteOp to what) plain m the = tt
eager_did job lives port (Await from what) plain m the = tt
eager_did job lives port (Wait count) plain m the = tt
eager_did job lives port CloseLife plain m the = tt

-- so is the deed of an instruction
next_eager : (limits : EpLimits) (lives : ℕ → Connid) (o : Option Instr) (answer : Answer) → ((x : Instr) → deed_by_next o answer ≡ Did x → IsEagerDid limits lives x)
    → IsEagerDeed limits lives (deed_by_next o answer)
unfolding deed_by_next
next_eager limits lives (Some instr) (DidAnswer what) h = h instr refl
next_eager limits lives _ _ h = tt

-- so is a push
push_eager : (limits : EpLimits) (lives : ℕ → Connid) (body : Body) → IsEagerDeed limits lives (deed_by_push body)
unfolding deed_by_push
push_eager limits lives (Note note) = tt
push_eager limits lives (Between from to load) = tt

-- an eager packet is an eager item
spelled_plain : (first : ℕ) (p : Packet) → IsEagerPacket first p → IsEagerLoad first (packet_item (Some p))
unfolding packet_item
spelled_plain first p h = h

-- so is what was taken of an eager datagram
took_eager : (limits : EpLimits) (lives : ℕ → Connid) (d : Datagram) (body : Body) (answer : Handled) → IsEagerBody lives limits.first d body
    → IsEagerDeed limits lives (deed_by_handle d.src body answer)
unfolding deed_by_handle item_of
took_eager limits lives d (Between from to (PacketLoad bytes)) (TookAnswer entered) h =
    let P : Option Packet → Type 0 = λ o. IsEagerLoad limits.first (packet_item o) in
    (h.0, subst P (sym h.2.1) (spelled_plain limits.first h.2.0 h.2.2))
took_eager limits lives d (Between from to (Ask a)) answer h = elim h [ ]
took_eager limits lives d (Between from to (Given g)) answer h = elim h [ ]
took_eager limits lives d (Note note) (TookAnswer entered) h = tt
took_eager limits lives d _ _ h = tt

-- so is each act
act_eager : (limits : EpLimits) (lives : ℕ → Connid) (ops : List Instr) (act : Act) → ((x : Instr) → deed_of ops act ≡ Did x → IsEagerDid limits lives x)
    → IsEagerHandle lives limits.first act → IsEagerDeed limits lives (deed_of ops act)
unfolding deed_of
act_eager limits lives ops (Next index op answer) did h = next_eager limits lives (slice_get ops index) answer did
act_eager limits lives ops (Push d) did h = push_eager limits lives d.body
act_eager limits lives ops (Handle d answer) did h = took_eager limits lives d d.body answer h
act_eager limits lives ops (Poll c) did h = tt

-- the newest deed of a port is eager
newest_eager : (job : Job) (lives : ℕ → Connid) (logs : ℕ → List Entry) (port : ℕ) (e : Entry) (before : List Entry) → EagerJob job lives → ((p : ℕ) → Local job p (logs p))
    → TookOnce logs port before → Local job port (e ∷ before) → IsEagerHandle lives job.limits.first e.act → IsEagerDeed job.limits lives (deed_of (rank_of job port).ops e.act)
newest_eager job lives logs port e before plain local had l h =
    let ops = (rank_of job port).ops in
    act_eager job.limits lives ops e.act
    (λ x is. eager_did job lives port x plain (act_op ops e.act x is)
    (λ life same. knows_the job lives logs port before life plain local had (act_knows job port before e life l.1 l.2.2 (is ∙ ap Did same))))
    h

-- the deeds of each life of a port are eager
pub life_eager : (job : Job) (lives : ℕ → Connid) (logs : ℕ → List Entry) (port : ℕ) (c : Connid) (log : List Entry) → EagerJob job lives → ((p : ℕ) → Local job p (logs p))
    → TookOnce logs port log → Local job port log → AreEagerHandles lives job.limits.first log → AreEagerDeeds job.limits lives (of_life c (deeds_at job port log))
unfolding of_life deeds_at deeds
life_eager job lives logs port c [] plain local had l h = tt
life_eager job lives logs port c (e ∷ before) plain local had l h =
    let ops = (rank_of job port).ops in
    let was = life_eager job lives logs port c before plain local had.0 l.0 h.0 in
    at_of_life (AreEagerDeeds job.limits lives) c (deed_of ops e.act) (deeds ops before)
    (λ is. (was, newest_eager job lives logs port e before plain local had.0 l h.1)) (λ other. was)
