-- The words that most jobs are written in: lives, instructions, and jobs of one rank or of two.
use Rattle.std.specs.Prelude.{ℕ, Bool, List, [], ◌∷◌, Some, None, false}
use Rattle.rdm_num.specs.declared.limits.EpLimits.{EpLimits}
use Rattle.rdm_num.specs.declared.numbers.Life.{Life}
use Rattle.rdm_model.specs.declared.job.Instr.{Instr}
use Rattle.rdm_model.specs.declared.job.Instr.TheVariants.{Send, Recv}
use Rattle.rdm_model.specs.declared.job.Job.{Job}
use Rattle.rdm_model.specs.declared.job.Rank.{Rank}

-- the life of port 0 that most jobs open
abbrev pub zero_five : Life
zero_five = record { port = record { 0 = 0 }; connid = record { 0 = 5 } }

-- and that of port 1
abbrev pub one_seven : Life
one_seven = record { port = record { 0 = 1 }; connid = record { 0 = 7 } }

-- sends bytes of region 0 to a port, with that tag, and with or without a receipt
abbrev pub send_with : (confirm : Bool) → (to at len tag : ℕ) → Instr
send_with confirm to at len tag =
    Send (record { to = record { 0 = to }; parts = record { region = record { 0 = 0 }; at = at; len = len } ∷ []; tag = Some tag; cq_data = None; confirm = confirm })

-- sends them without a receipt
abbrev pub send : (to at len tag : ℕ) → Instr
send to at len tag = send_with false to at len tag

-- receives a message with that tag into bytes of region 0
abbrev pub recv : (at len tag : ℕ) → Instr
recv at len tag = Recv (record { from = None; region = record { 0 = 0 }; at = at; len = len; want = Some (record { tag = tag; ignore = 0 }) })

-- a job of these ranks
abbrev pub job_of : EpLimits → List Rank → Job
job_of limits ranks = record { limits = limits; inbox = 256; clock = 0; ranks = ranks; choices = [] }

-- a job of one rank
abbrev pub one_rank : EpLimits → List Instr → Job
one_rank limits ops = job_of limits (record { features = 25; limits = limits; ops = ops } ∷ [])

-- a job of two ranks with these features
abbrev pub two_ranks_with : (own peer : ℕ) → EpLimits → (ops_0 ops_1 : List Instr) → Job
two_ranks_with own peer limits ops_0 ops_1 =
    job_of limits (record { features = own; limits = limits; ops = ops_0 } ∷ record { features = peer; limits = limits; ops = ops_1 } ∷ [])

-- a job of two ranks that cannot confirm
abbrev pub two_ranks : EpLimits → (ops_0 ops_1 : List Instr) → Job
two_ranks limits ops_0 ops_1 = two_ranks_with 25 25 limits ops_0 ops_1
