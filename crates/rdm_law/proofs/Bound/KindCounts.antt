-- Each entry of a history is an instruction, a push, a handle or a poll, and each push is of a note or of a life.
use Rattle.std.proofs.Common.{◌≡◌, ◌+◌, ◌≤◌, List, [], ◌∷◌, length, refl, arith, ap}
use Rattle.rdm_wire.specs.declared.Body.{Body}
use Rattle.rdm_wire.specs.declared.Body.TheVariants.{Note, Between}
use Rattle.rdm_model.specs.declared.job.Job.{Job}
use Rattle.rdm_model.specs.declared.job.Instr.{Instr}
use Rattle.rdm_model.specs.declared.entry.Entry.{Entry}
use Rattle.rdm_model.specs.declared.entry.Act.{Act}
use Rattle.rdm_model.specs.declared.entry.Act.TheVariants.{Next, Push, Handle, Poll}
use Rattle.rdm_model.specs.Deeds.{deed_by_push, deed_of}
use Rattle.rdm_model.specs.Beginnings.{rank_of}
use Rattle.rdm_model.specs.Notes.{note_pushes_by}
use Rattle.rdm_model.specs.Completions.{polls_by}
use Rattle.rdm_model.specs.Steps.{pushes_by, Does, handles_by}
use Rattle.rdm_model.specs.Scenes.{Scene}
use Rattle.rdm_model.specs.Classes.{class_of}
use Rattle.rdm_law.proofs.Central.Lawfully.{own_entry}
use Rattle.rdm_law.proofs.Accounts.Wired.{Played, played_before}
use Rattle.rdm_law.proofs.Bound.Totals.{pushes_of}
use Rattle.rdm_law.proofs.Bound.EntryCounts.{weight_of, op_weight, entry_weight}
use Rattle.rdm_law.proofs.Bound.LifeCounts.{deed_at}
use Rattle.rdm_law.proofs.Bound.NoteCounts.{one}
use Rattle.rdm_lists.proofs.Sums.{total}

-- an act counts as one of its kind
act_counts : (job : Job) (s : Scene) (log : List Entry) (e : Entry) (ops : List Instr) (act : Act) → ops ≡ (rank_of job e.port.0).ops → Does job class_of s log e act
    → 1 ≤ op_weight ops one act + pushes_by act + handles_by act + polls_by (deed_of ops act)
unfolding op_weight weight_of pushes_by handles_by polls_by deed_of
act_counts job s log e ops (Next index op answer) is does = let o = ap (weight_of one) does.1.1 in let w = ap (λ (ops : List Instr). op_weight ops one (Next index op answer)) is in omega arith
act_counts job s log e ops (Push d) is does = omega arith
act_counts job s log e ops (Handle d answer) is does = omega arith
act_counts job s log e ops (Poll c) is does = omega arith

-- a history has no more entries than those of the four kinds
pub kinds_total : (job : Job) (history : List Entry) → Played job history
    → length history
    ≤ total (entry_weight job one) history + total (λ e. pushes_by e.act) history + total (λ e. handles_by e.act) history + total (λ e. polls_by (deed_at job e)) history
unfolding total
kinds_total job [] played = omega arith
kinds_total job (e ∷ before) played =
    let r = kinds_total job before (played_before job e before played) in
    let fits = own_entry job e before (played.locals e.port.0) in
    let a = act_counts job _ _ e (rank_of job e.port.0).ops e.act refl fits.2 in
    omega arith

-- a push is of a note or of a life
body_kind : (body : Body) → 1 ≤ note_pushes_by (deed_by_push body) + pushes_of (deed_by_push body)
unfolding deed_by_push note_pushes_by pushes_of
body_kind (Note n) = omega arith
body_kind (Between from to load) = omega arith

push_kind : (ops : List Instr) (act : Act) → pushes_by act ≤ note_pushes_by (deed_of ops act) + pushes_of (deed_of ops act)
unfolding pushes_by deed_of
push_kind ops (Push d) = body_kind d.body
push_kind ops (Next index op answer) = omega arith
push_kind ops (Handle d answer) = omega arith
push_kind ops (Poll c) = omega arith

-- pushes are no more than those of notes and those of lives
pub push_kinds : (job : Job) (history : List Entry)
    → total (λ (e : Entry). pushes_by e.act) history ≤ total (λ e. note_pushes_by (deed_at job e)) history + total (λ e. pushes_of (deed_at job e)) history
unfolding total
push_kinds job [] = omega arith
push_kinds job (e ∷ before) = let r = push_kinds job before in let k = push_kind (rank_of job e.port.0).ops e.act in omega arith
