-- What a life takes carries what was sent, for the first time.
use Rattle.std.proofs.Common.{◌≡◌, ℕ, List, Some, sym, ap, subst}
use Rattle.rdm_num.specs.Pieces.{Piece}
use Rattle.rdm_num.specs.declared.numbers.PortNo.{PortNo}
use Rattle.rdm_num.specs.declared.numbers.Connid.{Connid}
use Rattle.rdm_num.specs.declared.numbers.Life.{Life}
use Rattle.rdm_match.specs.Matcher.{Pair}
use Rattle.rdm_wire.specs.declared.Datagram.{Datagram}
use Rattle.rdm_model.specs.declared.job.Job.{Job}
use Rattle.rdm_model.specs.declared.answer.Handled.TheVariants.{Took as TookAnswer}
use Rattle.rdm_model.specs.declared.entry.Entry.{Entry}
use Rattle.rdm_model.specs.declared.entry.Act.{Act}
use Rattle.rdm_model.specs.declared.entry.Act.TheVariants.{Handle}
use Rattle.rdm_model.specs.Deeds.{Deed, Took, Item, deed_of, log_of, open_life}
use Rattle.rdm_model.specs.Beginnings.{Messages, own_of, rank_of}
use Rattle.rdm_model.specs.Matches.{pairs}
use Rattle.rdm_model.specs.Parts.{carried_by, carried_pieces}
use Rattle.rdm_model.specs.Scenes.{deeds_at}
use Rattle.rdm_model.specs.Classes.{class_of}
use Rattle.rdm_model.specs.Steps.{Does}
use Rattle.rdm_model.specs.Local.{own_scene}
use Rattle.rdm_model.specs.Lawful.{life_deeds, sent_to, IsPartOf, IsApart}
use Rattle.rdm_model.specs.Wire.{Comes}
use Rattle.rdm_model.proofs.SameMatches.{pairs_same, carried_pieces_same}
use Rattle.rdm_law.proofs.Lives.Lives.{life_of, LifeStep}
use Rattle.rdm_law.proofs.Accounts.Wired.{Played, TakenDue, act_took, taken_to, pushed_taken}
use Rattle.rdm_law.proofs.Accounts.Carried.{carried_parts}
use Rattle.rdm_law.proofs.Classes.Landed.{carried_new}
use Rattle.rdm_law.proofs.Accounts.Known.{account}
use Rattle.rdm_law.proofs.Accounts.Named.{pairs_of}
use Rattle.rdm_law.proofs.Accounts.Pieces.{item_piece}
use Rattle.rdm_law.proofs.Accounts.Sent.{SendsAre, brought_piece, known_placed, agree_sent}

-- bytes that the deed of an entry takes are a part of what was sent, and apart from those that came
abbrev pub CarriesAt : Job → Life → Messages → List Deed → Deed → Type 0
CarriesAt job life' ns log d =
    (source : Life) (n : ℕ) (x : Piece) → carried_by (pairs (own_of job life').limits.first ns.head log) source n d ≡ Some x
    → IsPartOf x (ns.bytes source n) × IsApart x (carried_pieces (own_of job life').limits.first ns.head log source n)

-- what was handled by the life that is open
pub taken_due : (job : Job) (before : List Entry) (e : Entry) (c : Connid) (source : Life) (item : Item) → Played job before → Comes before e e.act
    → open_life (deeds_at job e.port.0 (log_of e.port.0 before)) ≡ Some c
    → Does job class_of (own_scene job e.port.0 (deeds_at job e.port.0 (log_of e.port.0 before))) (log_of e.port.0 before) e e.act
    → deed_of (rank_of job e.port.0).ops e.act ≡ Took source item → (d : Datagram) × TakenDue job before (life_of e.port.0 c) source item d
taken_due job before e c source item played comes now does is =
    let r = act_took (rank_of job e.port.0).ops e.act source item is in
    let t = taken_to job e.port.0 c r.2 source item e (log_of e.port.0 before) r.0 r.1 now does r.3 r.4 in
    let C : Act → Type 0 = λ act. Comes before e act in
    let came : Comes before e (Handle r.0 (TookAnswer r.1)) = subst C r.3 comes in
    (r.0, pushed_taken job before (life_of e.port.0 c) source item r.0 played t (ap (λ (p : PortNo). p.0) came.0) came.1)

-- bytes that an open life takes are a part of what was sent, and new
pub carries_open : (job : Job) (before : List Entry) (e : Entry) (c : Connid) → Played job before → SendsAre job before → Comes before e e.act
    → open_life (deeds_at job e.port.0 (log_of e.port.0 before)) ≡ Some c
    → Does job class_of (own_scene job e.port.0 (deeds_at job e.port.0 (log_of e.port.0 before))) (log_of e.port.0 before) e e.act
    → LifeStep (own_of job (life_of e.port.0 c)) (life_deeds job before (life_of e.port.0 c)) (deed_of (rank_of job e.port.0).ops e.act)
    → CarriesAt job (life_of e.port.0 c) (sent_to job before (life_of e.port.0 c)) (life_deeds job before (life_of e.port.0 c)) (deed_of (rank_of job e.port.0).ops e.act)
carries_open job before e c played are comes now does step source n x is =
    let life' = life_of e.port.0 c in
    let own = own_of job life' in
    let first = own.limits.first in
    let log = life_deeds job before life' in
    let d = deed_of (rank_of job e.port.0).ops e.act in
    let ms = account job before life' in
    let ns = sent_to job before life' in
    let a = agree_sent job before life' played are in
    let mine = subst (λ (ps : List Pair). carried_by ps source n d ≡ Some x) (sym (pairs_same first ms.head ns.head log a.heads)) is in
    let p = carried_parts (pairs first ms.head log) source n d x mine in
    let t = taken_due job before e c source p.0 played comes now does p.1 in
    let piece = item_piece job before life' source n x p.0 t.0 played t.1 (brought_piece (pairs_of job before life') source n p.0 x p.2) in
    let bytes = (known_placed job before life' source n are piece.known).1 in
    let apart = carried_new own d log source n x step mine in (
      subst (λ (whole : List ℕ). IsPartOf x whole) (sym bytes) piece.part,
      subst (λ (ps : List Piece). IsApart x ps) (carried_pieces_same first ms.head ns.head log source n a.heads) apart,
    )
