-- Which of the well formed scripts are played yet: those in which no rank closes a life, so that it has one at most, in which
-- each message goes in one packet, and in which nobody asks for a receipt of a message, nor knows how to give one.
use Rattle.std.specs.Prelude.{Bool, true, false, not, ◌&&◌, is_some, None}
use Rattle.std.specs.List.{list_all}
use Rattle.rdm_num.specs.declared.limits.EpLimits.{EpLimits}
use Rattle.rdm_num.specs.declared.request.SendReq.{SendReq}
use Rattle.rdm_hdr.specs.Fields.{has_bit}
use Rattle.rdm_pkt.specs.declared.Kind.{Kind}
use Rattle.rdm_pkt.specs.declared.Kind.TheVariants.{Eager}
use Rattle.rdm_pkt.specs.Choice.{choose}
use Rattle.rdm_model.specs.Jobs.{spans_length}
use Rattle.rdm_model.specs.declared.job.Job.{Job}
use Rattle.rdm_model.specs.declared.job.Rank.{Rank}
use Rattle.rdm_model.specs.declared.job.Instr.{Instr}
use Rattle.rdm_model.specs.declared.job.Instr.TheVariants.{Send, CloseLife}

-- one packet
abbrev pub is_eager : Kind → Bool
is_eager Eager = true
is_eager _ = false

-- the message goes in one packet, even where that brings the raw address of its sender, the longest of the optional headers
abbrev pub goes_eager : EpLimits → SendReq → Bool
goes_eager limits req = is_eager (choose (spans_length req.parts) (is_some req.tag) (is_some req.cq_data) true 0 None limits)

-- an instruction that is played
abbrev pub is_played_instr : EpLimits → Instr → Bool
is_played_instr limits (Send req) = not req.confirm && goes_eager limits req
is_played_instr limits CloseLife = false
is_played_instr limits _ = true

-- a rank that is played
abbrev pub is_played_rank : EpLimits → Rank → Bool
is_played_rank limits rank = not (has_bit 1 rank.features) && list_all (is_played_instr limits) rank.ops

-- a job that is played
abbrev pub is_played : Job → Bool
is_played job = list_all (is_played_rank job.limits) job.ranks
