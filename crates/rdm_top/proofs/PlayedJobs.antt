-- What is played of a script: a fair job whose ranks have one life each and whose messages fit a packet, which so stays built.
use Rattle.std.proofs.Common.{◌≡◌, ℕ, zero, suc, IsTrue, Bool, true, false, not, ◌&&◌, List, [], ◌∷◌, ◌++◌, length, get_or, is_some, Option, Some, None, Ok, refl, inl, inr, subst, if◌then◌else◌}
use Rattle.std.specs.Prelude.{◌^◌, nat_le, nat_lt, unwrap_or}
use Rattle.std.specs.List.{list_all}
use Rattle.std.proofs.lemmas.Bool.{and_parts, not-true}
use Rattle.rdm_lists.specs.Lists.{Member}
use Rattle.rdm_num.specs.declared.limits.EpLimits.{EpLimits}
use Rattle.rdm_num.specs.declared.numbers.Connid.{Connid}
use Rattle.rdm_num.specs.declared.request.SendReq.{SendReq}
use Rattle.rdm_hdr.specs.Fields.{has_bit}
use Rattle.rdm_pkt.specs.declared.Kind.TheVariants.{Eager, Medium, LongCts}
use Rattle.rdm_pkt.specs.Choice.{choose, eager_room, both_have}
use Rattle.rdm_model.specs.declared.job.Job.{Job}
use Rattle.rdm_model.specs.declared.job.Rank.{Rank}
use Rattle.rdm_model.specs.declared.job.Instr.{Instr}
use Rattle.rdm_model.specs.declared.job.Instr.TheVariants.{OpenLife, Insert, Reg, Send, Recv, Cancel, Note, Await, Wait, CloseLife}
use Rattle.rdm_model.specs.Jobs.{is_fair, law_ops, lives_fit, rank_fits, features_fit, instr_fits, limits_fit, is_within, spans_length, differ_in_pools, choices_fit, opens_well, opened_by, is_open_after}
use Rattle.rdm_model.specs.Beginnings.{rank_of, no_rank}
use Rattle.rdm_model.specs.Worlds.{new_world}
use Rattle.rdm_law.proofs.Eager.EagerDeeds.{IsEagerOp}
use Rattle.rdm_law.proofs.Eager.EagerPorts.{EagerJob}
use Rattle.rdm_law.proofs.Eager.EagerJobs.{fits_one_packet}
use Rattle.rdm_world.specs.Shows.{StaysBuilt}
use Rattle.rdm_world.proofs.EagerStays.{eager_stays_built}
use Rattle.rdm_script.specs.Played.{is_eager, goes_eager, is_played_instr, is_played_rank, is_played}
use Rattle.rdm_script.specs.Script.{job_in}
use Rattle.rdm_script.proofs.ReadPlayed.{read_are_fair, read_are_played}

-- where nothing is known of the peer, what goes in one packet has room there
only_fitting : (fits short : Bool) → is_eager (if fits then Eager else if short then Medium else LongCts) ≡ true → fits ≡ true
only_fitting true short h = refl
only_fitting false true h = cc
only_fitting false false h = cc

-- so a message that goes in one packet has room in it
eager_has_room : (n : ℕ) (tagged cq_data : Bool) (limits : EpLimits) → is_eager (choose n tagged cq_data true 0 None limits) ≡ true
    → nat_le n (eager_room tagged cq_data true limits) ≡ true
unfolding choose both_have
eager_has_room n tagged cq_data limits h = only_fitting (nat_le n (eager_room tagged cq_data true limits)) (nat_le n limits.medium) h

-- the life that an instruction opens
opens : Instr → Option Connid
opens (OpenLife connid) = Some connid
opens _ = None

-- the life that a program opens first
first_opened : List Instr → Connid
first_opened [] = record { 0 = 0 }
first_opened (i ∷ is) = unwrap_or (opens i) (first_opened is)

-- an open is eager for the life that it opens
opening_eager : (limits : EpLimits) (connid : Connid) (i : Instr) → opens i ≡ Some connid → IsEagerOp limits connid i
unfolding opens
opening_eager limits connid (OpenLife c) h = cc
opening_eager limits connid _ h = cc

-- what is played and opens no life is eager for any
played_eager : (limits : EpLimits) (connid : Connid) (i : Instr) → opens i ≡ None → is_played_instr limits i ≡ true → IsEagerOp limits connid i
unfolding opens
played_eager limits connid (OpenLife c) h played = cc
played_eager limits connid (Send req) h played =
    let p = and_parts (not req.confirm) (goes_eager limits req) played in
    fits_one_packet limits req (not-true req.confirm p.0) (eager_has_room (spans_length req.parts) (is_some req.tag) (is_some req.cq_data) limits p.1)
played_eager limits connid _ h played = tt

-- after an open a life is open
opening_opens : (connid : Connid) (i : Instr) (was : Bool) → opens i ≡ Some connid → is_open_after was i ≡ true
unfolding opens is_open_after
opening_opens connid (OpenLife c) was h = refl
opening_opens connid _ was h = cc

-- after any other instruction none is, where none was
none_opens : (i : Instr) → opens i ≡ None → is_open_after false i ≡ false
unfolding opens is_open_after
none_opens (OpenLife c) h = cc
none_opens _ h = refl

-- after what is played a life is open that was
played_keeps : (limits : EpLimits) (i : Instr) → is_played_instr limits i ≡ true → is_open_after true i ≡ true
unfolding is_open_after
played_keeps limits CloseLife played = cc
played_keeps limits _ played = refl

-- no life is opened while one is open
opens_none : (opened : List ℕ) (i : Instr) → opens_well true opened i ≡ true → opens i ≡ None
unfolding opens opens_well
opens_none opened (OpenLife c) h = cc
opens_none opened _ h = refl

-- the rest of a program in which a life is open
while_open : (limits : EpLimits) (connid : Connid) (opened : List ℕ) (ops : List Instr) → lives_fit true opened ops ≡ true → list_all (is_played_instr limits) ops ≡ true
    → (instr : Instr) → Member instr ops → IsEagerOp limits connid instr
unfolding lives_fit
while_open limits connid opened [] fit played instr m = elim m [ ]
while_open limits connid opened (i ∷ is) fit played instr m =
    let f = and_parts (opens_well true opened i) (lives_fit (is_open_after true i) (opened_by i ++ opened) is) fit in
    let p = and_parts (is_played_instr limits i) (list_all (is_played_instr limits) is) played in
    elim m [
      | inl a ↦ subst (IsEagerOp limits connid) a (played_eager limits connid i (opens_none opened i f.0) p.0)
      | inr n ↦
          while_open limits connid (opened_by i ++ opened) is
          (subst (λ (b : Bool). lives_fit b (opened_by i ++ opened) is ≡ true) (played_keeps limits i p.0) f.1) p.1 instr n
    ]

-- a program whose lives follow each other has one life at most, where it's played
one_life : (limits : EpLimits) (opened : List ℕ) (ops : List Instr) → lives_fit false opened ops ≡ true → list_all (is_played_instr limits) ops ≡ true
    → (instr : Instr) → Member instr ops → IsEagerOp limits (first_opened ops) instr
unfolding lives_fit first_opened
one_life limits opened [] fit played instr m = elim m [ ]
one_life limits opened (i ∷ is) fit played instr m =
    let f = and_parts (opens_well false opened i) (lives_fit (is_open_after false i) (opened_by i ++ opened) is) fit in
    let p = and_parts (is_played_instr limits i) (list_all (is_played_instr limits) is) played in
    elim (opens i) as (λ o. opens i ≡ o → IsEagerOp limits (unwrap_or o (first_opened is)) instr) [
      | None ↦ λ e. elim m [
        | inl a ↦ subst (IsEagerOp limits (first_opened is)) a (played_eager limits (first_opened is) i e p.0)
        | inr n ↦
            one_life limits (opened_by i ++ opened) is (subst (λ (b : Bool). lives_fit b (opened_by i ++ opened) is ≡ true) (none_opens i e) f.1) p.1 instr n
      ]
      | Some connid ↦ λ e. elim m [
        | inl a ↦ subst (IsEagerOp limits connid) a (opening_eager limits connid i e)
        | inr n ↦
            while_open limits connid (opened_by i ++ opened) is
            (subst (λ (b : Bool). lives_fit b (opened_by i ++ opened) is ≡ true) (opening_opens connid i false e) f.1) p.1 instr n
      ]
    ] refl

-- the lives of a rank's program follow each other, and it's played
record IsPlayable (limits : EpLimits) (r : Rank) : Type 0 where
  lives : lives_fit false [] r.ops ≡ true
  played : list_all (is_played_instr limits) r.ops ≡ true

-- a rank that fits is, where it's played
playable : (limits : EpLimits) (ports : ℕ) (r : Rank) → rank_fits limits ports law_ops r ≡ true → is_played_rank limits r ≡ true → IsPlayable limits r
unfolding rank_fits
playable limits ports r fit played =
    record {
      lives = (and_parts (differ_in_pools limits r.limits && limits_fit r.limits && features_fit r.features && nat_le (length r.ops) law_ops && list_all (instr_fits ports) r.ops) (lives_fit false [] r.ops) fit).1;
      played = (and_parts (not (has_bit 1 r.features)) (list_all (is_played_instr limits) r.ops) played).1;
    }

-- so is each rank of a job, and the empty one that stands for all others
each_playable : (limits : EpLimits) (ports : ℕ) (ranks : List Rank) → list_all (rank_fits limits ports law_ops) ranks ≡ true → list_all (is_played_rank limits) ranks ≡ true
    → (port : ℕ) → IsPlayable limits (get_or ranks port no_rank)
unfolding lives_fit
each_playable limits ports [] fit played port = record { lives = refl; played = refl }
each_playable limits ports (r ∷ rs) fit played zero =
    playable limits ports r (and_parts (rank_fits limits ports law_ops r) (list_all (rank_fits limits ports law_ops) rs) fit).0
    (and_parts (is_played_rank limits r) (list_all (is_played_rank limits) rs) played).0
each_playable limits ports (r ∷ rs) fit played (suc port) =
    each_playable limits ports rs (and_parts (rank_fits limits ports law_ops r) (list_all (rank_fits limits ports law_ops) rs) fit).1
    (and_parts (is_played_rank limits r) (list_all (is_played_rank limits) rs) played).1 port

-- the life of each port of a job
life_at : Job → ℕ → Connid
life_at job port = first_opened (rank_of job port).ops

-- a fair job that is played is eager
played_job_eager : (job : Job) → is_fair law_ops job ≡ true → is_played job ≡ true → EagerJob job (life_at job)
unfolding is_fair rank_of life_at
played_job_eager job fair played port instr m =
    let a = and_parts
    (limits_fit job.limits && is_within 1 65536 job.inbox && nat_lt job.clock (2 ^ 63) && is_within 1 16 (length job.ranks) && list_all (rank_fits job.limits (length job.ranks) law_ops) job.ranks)
    (choices_fit (length job.ranks) job.choices) fair in
    let b = and_parts
    (limits_fit job.limits && is_within 1 65536 job.inbox && nat_lt job.clock (2 ^ 63) && is_within 1 16 (length job.ranks))
    (list_all (rank_fits job.limits (length job.ranks) law_ops) job.ranks) a.0 in
    let p = each_playable job.limits (length job.ranks) job.ranks b.1 played port in
    one_life job.limits [] (rank_of job port).ops p.lives p.played instr m

-- the job of a script is fair
pub is_fair-job_in : (bytes : List ℕ) (job : Job) → job_in bytes ≡ Ok job → IsTrue (is_fair law_ops job)
is_fair-job_in bytes job is_job = read_are_fair bytes job is_job

-- the job of a script stays built
pub stays_built-job_in : (bytes : List ℕ) (job : Job) → job_in bytes ≡ Ok job → StaysBuilt job new_world
stays_built-job_in bytes job is_job =
    let fair = read_are_fair bytes job is_job in
    eager_stays_built job (life_at job) fair (played_job_eager job fair (read_are_played bytes job is_job))
