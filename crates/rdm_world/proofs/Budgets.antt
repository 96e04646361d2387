-- The sums over the instructions of fair jobs are small.
use Rattle.std.proofs.Common.{◌≡◌, ℕ, ◌+◌, ◌*◌, ◌<◌, ◌≤◌, true, leb-true, List, [], ◌∷◌, length, get_or, take, IsTrue, arith, subst}
use Rattle.std.specs.Prelude.{sum_by}
use Rattle.std.specs.List.{list_all}
use Rattle.std.proofs.lemmas.Bool.{and_parts}
use Rattle.std.proofs.lemmas.List.{get_or_default}
use Rattle.std.proofs.lemmas.List.Sums.{sum_by-cons, sum_by-le, sum_by_more, sum_by-take-le}
use Rattle.rdm_model.specs.declared.job.Job.{Job}
use Rattle.rdm_model.specs.declared.job.Rank.{Rank}
use Rattle.rdm_model.specs.declared.job.Instr.{Instr}
use Rattle.rdm_model.specs.declared.job.Instr.TheVariants.{OpenLife, Insert, Reg, Send, Recv, Cancel, Note, Await, Wait, CloseLife}
use Rattle.rdm_model.specs.Beginnings.{rank_of, no_rank, port_count}
use Rattle.rdm_model.specs.Jobs.{is_fair, law_ops, instr_fits, parts_fit, sent_length, open_count}
use Rattle.rdm_law.proofs.Fits.FairJobs.{RankFits, fair_job}
use Rattle.rdm_world.specs.Budgets.{IsSmall}

-- a fair send is short
send_short : (ports : ℕ) (i : Instr) → instr_fits ports i ≡ true → sent_length i ≤ 16777216
unfolding instr_fits parts_fit sent_length
send_short ports (Send req) h = (let a = (and_parts _ _ (and_parts _ _ (and_parts _ _ h).0).0).1 in leb-true _ _ (and_parts _ _ a).1)
send_short ports (OpenLife connid) h = omega arith
send_short ports (Insert life) h = omega arith
send_short ports (Reg content) h = omega arith
send_short ports (Recv req) h = omega arith
send_short ports (Cancel recv) h = omega arith
send_short ports (Note to what) h = omega arith
send_short ports (Await from what) h = omega arith
send_short ports (Wait count) h = omega arith
send_short ports CloseLife h = omega arith

-- an instruction opens one life at most
one_open : (i : Instr) → open_count i ≤ 1
unfolding open_count
one_open (OpenLife connid) = omega arith
one_open (Insert life) = omega arith
one_open (Reg content) = omega arith
one_open (Send req) = omega arith
one_open (Recv req) = omega arith
one_open (Cancel recv) = omega arith
one_open (Note to what) = omega arith
one_open (Await from what) = omega arith
one_open (Wait count) = omega arith
one_open CloseLife = omega arith

-- how many bytes fair instructions send
bytes_few : (ports : ℕ) (is : List Instr) → list_all (instr_fits ports) is ≡ true → sum_by sent_length is ≤ 16777216 * length is
bytes_few ports [] h = omega arith
bytes_few ports (i ∷ is) h =
    let both = and_parts (instr_fits ports i) (list_all (instr_fits ports) is) h in
    let one = send_short ports i both.0 in
    let rest = bytes_few ports is both.1 in
    let cons = sum_by-cons sent_length i is in
    omega arith

-- how many lives instructions open
opens_few : (is : List Instr) → sum_by open_count is ≤ length is
opens_few [] = omega arith
opens_few (i ∷ is) =
    let one = one_open i in
    let rest = opens_few is in
    let cons = sum_by-cons open_count i is in
    omega arith

-- a fair rank is small
rank_small : (ports : ℕ) (r : Rank) → RankFits ports r → IsSmall r
rank_small ports r fits =
    let bytes = bytes_few ports r.ops fits.ops in
    let opens = opens_few r.ops in
    let few = fits.few in
    record { ops = fits.few; bytes = omega arith; opens = omega arith }

-- each rank of a fair job is small
pub ranks_small : (job : Job) → IsTrue (is_fair law_ops job) → (k : ℕ) (d : Rank) → k < length job.ranks → IsSmall (get_or job.ranks k d)
unfolding rank_of
ranks_small job fair k d within = subst IsSmall (get_or_default job.ranks k no_rank d within) (rank_small (port_count job) (rank_of job k) ((fair_job job fair).ranks k))

-- the sums of a fair job
pub record AreSmall (job : Job) : Type 0 where
  pub ops : sum_by (λ (r : Rank). length r.ops) job.ranks ≤ 480000
  pub bytes : sum_by (λ (r : Rank). sum_by sent_length r.ops) job.ranks ≤ 8053063680000
  pub opens : sum_by (λ (r : Rank). sum_by open_count r.ops) job.ranks ≤ 480000

-- they are small
pub sums_small : (job : Job) → IsTrue (is_fair law_ops job) → AreSmall job
sums_small job fair =
    let few = (fair_job job fair).ports in
    let a = sum_by-le (λ (r : Rank). length r.ops) 30000 job.ranks (λ k d w. (ranks_small job fair k d w).ops) in
    let b = sum_by-le (λ (r : Rank). sum_by sent_length r.ops) 503316480000 job.ranks (λ k d w. (ranks_small job fair k d w).bytes) in
    let c = sum_by-le (λ (r : Rank). sum_by open_count r.ops) 30000 job.ranks (λ k d w. (ranks_small job fair k d w).opens) in
    record { ops = omega arith; bytes = omega arith; opens = omega arith }

-- a part of a sum and the next term are no more than the sum
pub sum_within : {A : Type 0} (f : A → ℕ) (xs : List A) (k : ℕ) (d : A) → k < length xs → sum_by f (take k xs) + f (get_or xs k d) ≤ sum_by f xs
sum_within f xs k d within =
    let more = sum_by_more f xs k d within in
    let part = sum_by-take-le f xs (k + 1) in
    omega arith
