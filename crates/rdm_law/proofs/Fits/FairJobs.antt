-- What a fair job says of its ranks, and of what did and was taken by a log.
use Rattle.std.proofs.Common.{◌≡◌, ℕ, zero, suc, ◌+◌, ◌<◌, ◌≤◌, true, ltb-true, leb-true, List, [], ◌∷◌, length, get_or, Option, Some, IsTrue, refl, arith, subst}
use Rattle.std.specs.Prelude.{slice_get}
use Rattle.std.specs.List.{list_all}
use Rattle.std.proofs.lemmas.Bool.{and_parts}
use Rattle.std.proofs.lemmas.Option.{slice_get_within}
use Rattle.rdm_num.specs.declared.numbers.PortNo.{PortNo}
use Rattle.rdm_num.specs.declared.numbers.Connid.{Connid}
use Rattle.rdm_wire.specs.declared.Body.{Body}
use Rattle.rdm_wire.specs.declared.Body.TheVariants.{Note, Between}
use Rattle.rdm_model.specs.declared.job.Job.{Job}
use Rattle.rdm_model.specs.declared.job.Rank.{Rank}
use Rattle.rdm_model.specs.declared.job.Instr.{Instr}
use Rattle.rdm_model.specs.declared.answer.Next.{Next as Answer}
use Rattle.rdm_model.specs.declared.answer.Next.TheVariants.{Did as DidAnswer}
use Rattle.rdm_model.specs.declared.answer.Handled.{Handled}
use Rattle.rdm_model.specs.declared.answer.Handled.TheVariants.{Took as TookAnswer}
use Rattle.rdm_model.specs.declared.entry.Entry.{Entry}
use Rattle.rdm_model.specs.declared.entry.Act.{Act}
use Rattle.rdm_model.specs.declared.entry.Act.TheVariants.{Next, Push, Handle, Poll}
use Rattle.rdm_model.specs.Deeds.{Deed, deed_by_next, deed_by_push, deed_by_handle, deed_of, deeds, of_life, deed_count}
use Rattle.rdm_model.specs.Beginnings.{rank_of, no_rank, port_count}
use Rattle.rdm_model.specs.Jobs.{is_fair, law_ops, features_fit, rank_fits, instr_fits, is_within}
use Rattle.rdm_model.specs.Scenes.{Scene, deeds_at}
use Rattle.rdm_num.specs.declared.limits.EpLimits.{EpLimits}
use Rattle.rdm_model.specs.Classes.{class_of}
use Rattle.rdm_model.specs.Steps.{count, nexts_by, Does}
use Rattle.rdm_model.specs.Local.{own_scene, Local}
use Rattle.rdm_law.proofs.Lives.Lives.{at_of_life}
use Rattle.rdm_law.proofs.Fits.Fitting.{BodyFits, HandledFits, AllHandledFit, item_fits}
use Rattle.rdm_law.proofs.Fits.SmallBytes.{AllTakenFit, TakenFits, all_at}
use Rattle.rdm_law.proofs.Fits.RegionsFit.{DidFits, AllDidFit}
use Rattle.rdm_law.proofs.Fits.SentFits.{done_by, did_count}
use Rattle.rdm_law.proofs.Fits.OpeningsFit.{LimitsFit, limits_are}

-- what the proofs use of a fair rank, or of none
pub record RankFits (ports : ℕ) (r : Rank) : Type 0 where
  pub features : r.features < 18446744073709551616
  pub few : length r.ops ≤ law_ops
  pub ops : list_all (instr_fits ports) r.ops ≡ true

-- a fair rank
a_rank : (limits : EpLimits) (ports : ℕ) (r : Rank) → rank_fits limits ports law_ops r ≡ true → RankFits ports r
unfolding rank_fits features_fit
a_rank limits ports r h =
    let a = and_parts _ _ h in
    let b = and_parts _ _ a.0 in
    let c = and_parts _ _ b.0 in
    let d = and_parts _ _ c.0 in
    let e = and_parts _ _ d.1 in
    let f : r.features < 32 = ltb-true _ _ e.0 in
    record { features = omega arith; few = leb-true _ _ c.1; ops = b.1 }

-- no rank
no_rank_fits : (ports : ℕ) → RankFits ports no_rank
no_rank_fits ports = record { features = omega arith; few = omega arith; ops = refl }

-- the rank of a number, or none
some_rank : (limits : EpLimits) (ports : ℕ) (rs : List Rank) (n : ℕ) → list_all (rank_fits limits ports law_ops) rs ≡ true → RankFits ports (get_or rs n no_rank)
some_rank limits ports [] n h = no_rank_fits ports
some_rank limits ports (r ∷ rs) zero h = a_rank limits ports r (and_parts (rank_fits limits ports law_ops r) (list_all (rank_fits limits ports law_ops) rs) h).0
some_rank limits ports (r ∷ rs) (suc n) h = some_rank limits ports rs n (and_parts (rank_fits limits ports law_ops r) (list_all (rank_fits limits ports law_ops) rs) h).1

-- what the proofs use of a fair job
pub record JobFits (job : Job) : Type 0 where
  pub limits : LimitsFit job.limits
  pub ports : port_count job ≤ 16
  pub ranks : (port : ℕ) → RankFits (port_count job) (rank_of job port)

-- a fair job has it
pub fair_job : (job : Job) → IsTrue (is_fair law_ops job) → JobFits job
unfolding is_fair is_within rank_of
fair_job job h =
    let a = and_parts _ _ h in
    let b = and_parts _ _ a.0 in
    let c = and_parts _ _ b.0 in
    let d = and_parts _ _ c.0 in
    let e = and_parts _ _ d.0 in
    let ports = and_parts _ _ c.1 in
    record { limits = limits_are job.limits e.0; ports = leb-true _ _ ports.1; ranks = λ port. some_rank job.limits (port_count job) job.ranks port b.1 }

-- an instruction that did is one of the program
did_by_next : (ports : ℕ) (ops : List Instr) (index : ℕ) (o : Option Instr) (answer : Answer) → list_all (instr_fits ports) ops ≡ true → slice_get ops index ≡ o
    → DidFits ports (deed_by_next o answer)
unfolding deed_by_next
did_by_next ports ops index (Some instr) (DidAnswer what) h is = all_at (instr_fits ports) ops index instr h is
did_by_next ports ops index _ _ h is = tt

-- a push is no instruction
did_by_push : (ports : ℕ) (body : Body) → DidFits ports (deed_by_push body)
unfolding deed_by_push
did_by_push ports (Note note) = tt
did_by_push ports (Between from to load) = tt

-- a handling is no instruction
did_by_handle : (ports : ℕ) (src : PortNo) (body : Body) (answer : Handled) → DidFits ports (deed_by_handle src body answer)
unfolding deed_by_handle
did_by_handle ports src (Note note) (TookAnswer entered) = tt
did_by_handle ports src (Between from to load) (TookAnswer entered) = tt
did_by_handle ports src _ _ = tt

-- what an act did is of the program
did_fits : (ports : ℕ) (ops : List Instr) (act : Act) → list_all (instr_fits ports) ops ≡ true → DidFits ports (deed_of ops act)
unfolding deed_of
did_fits ports ops (Next index op answer) h = did_by_next ports ops index (slice_get ops index) answer h refl
did_fits ports ops (Push d) h = did_by_push ports d.body
did_fits ports ops (Handle d answer) h = did_by_handle ports d.src d.body answer
did_fits ports ops (Poll c) h = tt

-- what did is of the program
pub all_did_fit : (ports : ℕ) (ops : List Instr) (log : List Entry) → list_all (instr_fits ports) ops ≡ true → AllDidFit ports (deeds ops log)
unfolding deeds
all_did_fit ports ops [] h = tt
all_did_fit ports ops (e ∷ before) h = (all_did_fit ports ops before h, did_fits ports ops e.act h)

-- an instruction takes nothing
taken_by_next : (o : Option Instr) (answer : Answer) → TakenFits (deed_by_next o answer)
unfolding deed_by_next
taken_by_next (Some instr) (DidAnswer what) = tt
taken_by_next _ _ = tt

-- a push takes nothing
taken_by_push : (body : Body) → TakenFits (deed_by_push body)
unfolding deed_by_push
taken_by_push (Note note) = tt
taken_by_push (Between from to load) = tt

-- a handling takes what fits
taken_by_handle : (src : PortNo) (body : Body) (answer : Handled) → BodyFits body → TakenFits (deed_by_handle src body answer)
unfolding deed_by_handle
taken_by_handle src (Between from to load) (TookAnswer entered) h = item_fits load h
taken_by_handle src (Note note) (TookAnswer entered) h = tt
taken_by_handle src _ _ h = tt

-- what an act took fits
taken_fits : (ops : List Instr) (act : Act) → HandledFits act → TakenFits (deed_of ops act)
unfolding deed_of
taken_fits ops (Next index op answer) h = taken_by_next (slice_get ops index) answer
taken_fits ops (Push d) h = taken_by_push d.body
taken_fits ops (Handle d answer) h = taken_by_handle d.src d.body answer h
taken_fits ops (Poll c) h = tt

-- what was taken fits
pub all_taken_fit : (ops : List Instr) (log : List Entry) → AllHandledFit log → AllTakenFit (deeds ops log)
unfolding deeds
all_taken_fit ops [] h = tt
all_taken_fit ops (e ∷ before) h = (all_taken_fit ops before h.0, taken_fits ops e.act h.1)

-- the deeds of a life are some of the port's
pub life_did : (ports : ℕ) (c : Connid) (log : List Deed) → AllDidFit ports log → AllDidFit ports (of_life c log)
unfolding of_life
life_did ports c [] h = tt
life_did ports c (d ∷ before) h = at_of_life (AllDidFit ports) c d before (λ s. (life_did ports c before h.0, h.1)) (λ s. life_did ports c before h.0)

-- what a life took is some of what its port took
pub life_taken : (c : Connid) (log : List Deed) → AllTakenFit log → AllTakenFit (of_life c log)
unfolding of_life
life_taken c [] h = tt
life_taken c (d ∷ before) h = at_of_life AllTakenFit c d before (λ s. (life_taken c before h.0, h.1)) (λ s. life_taken c before h.0)

-- a life did no more than its port
pub life_count : (c : Connid) (log : List Deed) → did_count (of_life c log) ≤ did_count log
unfolding of_life deed_count
life_count c [] = omega arith
life_count c (d ∷ before) =
    let was = life_count c before in
    at_of_life (λ (log : List Deed). did_count log ≤ did_count before + done_by d) c d before (λ s. omega arith) (λ s. omega arith)

-- an instruction counts one at most
did_next : (o : Option Instr) (answer : Answer) → done_by (deed_by_next o answer) ≤ 1
unfolding deed_by_next done_by
did_next (Some instr) (DidAnswer what) = omega arith
did_next _ _ = omega arith

-- a push counts none
did_push : (body : Body) → done_by (deed_by_push body) ≤ 0
unfolding deed_by_push done_by
did_push (Note note) = omega arith
did_push (Between from to load) = omega arith

-- a handling counts none
did_handle : (src : PortNo) (body : Body) (answer : Handled) → done_by (deed_by_handle src body answer) ≤ 0
unfolding deed_by_handle done_by
did_handle src (Note note) (TookAnswer entered) = omega arith
did_handle src (Between from to load) (TookAnswer entered) = omega arith
did_handle src _ _ = omega arith

-- an act counts no more than an instruction
did_one : (ops : List Instr) (act : Act) → done_by (deed_of ops act) ≤ nexts_by act
unfolding deed_of nexts_by done_by
did_one ops (Next index op answer) = did_next (slice_get ops index) answer
did_one ops (Push d) = did_push d.body
did_one ops (Handle d answer) = did_handle d.src d.body answer
did_one ops (Poll c) = omega arith

-- no more instructions did than were done
pub did_instructions : (ops : List Instr) (log : List Entry) → did_count (deeds ops log) ≤ count nexts_by log
unfolding deeds deed_count count
did_instructions ops [] = omega arith
did_instructions ops (e ∷ before) =
    let a = did_instructions ops before in
    let b = did_one ops e.act in
    omega arith

-- an act leaves the count within the program
next_act_within : (job : Job) (port : ℕ) (s : Scene) (e : Entry) (before : List Entry) (act : Act) → e.port.0 ≡ port → Does job class_of s before e act
    → count nexts_by before ≤ length (rank_of job port).ops → count nexts_by before + nexts_by act ≤ length (rank_of job port).ops
unfolding nexts_by
next_act_within job port s e before (Next index op answer) p does was =
    let at : slice_get (rank_of job port).ops index ≡ Some does.1.0 = subst (λ n. slice_get (rank_of job n).ops index ≡ Some does.1.0) p does.1.1 in
    let a = slice_get_within (rank_of job port).ops index does.1.0 at in
    let b = does.0 in
    omega arith
next_act_within job port s e before (Push d) p does was = omega arith
next_act_within job port s e before (Handle d answer) p does was = omega arith
next_act_within job port s e before (Poll c) p does was = omega arith

-- no more instructions than the program has
pub next_within : (job : Job) (port : ℕ) (log : List Entry) → Local job port log → count nexts_by log ≤ length (rank_of job port).ops
unfolding count
next_within job port [] l = omega arith
next_within job port (e ∷ before) l =
    next_act_within job port (own_scene job port (deeds_at job port before)) e before e.act l.1 l.2.2 (next_within job port before l.0)
