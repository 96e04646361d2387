use Rattle.std.proofs.Common.{◌≡◌, List, sym, ◌∙◌, ap, subst}
use Rattle.rdm_port.specs.Views.{PortView}
use Rattle.rdm_model.specs.Jobs.{law_ops}
use Rattle.rdm_model.specs.Joint.{IsJoint}
use Rattle.rdm_model.specs.Played.{played_world}
use Rattle.rdm_law.proofs.Played.PlayedSteps.{fair_choices}
use Rattle.rdm_world.specs.Views.{WorldView}
use Rattle.rdm_world.specs.Gathers.{AreOwnLogs, logs_of}
use Rattle.rdm_world.specs.Shows.{AreOfRanks}
use Rattle.rdm_world.proofs.OwnLogs.{played_own_logs, joint_shown}
use Rattle.rdm_world.proofs.Playing.{played_shown}
use Rattle.rdm_world.proofs.world.World.run.Goals as goal

pub choose-requires : goal.choose-requires
choose-requires c = subst (λ n. AreOfRanks n c.args.job.now.choices) (sym c.requires.begins.count) (fair_choices c.args.job.now law_ops c.requires.fair)

pub gather-requires : goal.gather-requires
gather-requires c =
    let shows = played_shown c.args.job.now c.args.self.now c.choose.new.self c.settle.new.self c.requires.fair c.requires.built c.requires.begins c.in_ok-choose.ensures.does c.in_ok-settle.ensures.does in
    let ports : c.deref.result.now ≡ c.settle.new.self.ports = c.deref.ensures.value ∙ ap (λ (v : WorldView). v.ports) c.self.view_is in
    subst (λ (ps : List PortView). AreOwnLogs ps) (sym ports) (played_own_logs c.args.job.now c.settle.new.self c.requires.fair shows)

pub returns : goal.returns
returns c =
    let job = c.args.job.now in
    let shows = played_shown job c.args.self.now c.choose.new.self c.settle.new.self c.requires.fair c.requires.built c.requires.begins c.in_ok-choose.ensures.does c.in_ok-settle.ensures.does in
    let ports : c.deref.result.now ≡ c.settle.new.self.ports = c.deref.ensures.value ∙ ap (λ (v : WorldView). v.ports) c.self.view_is in
    let joint = subst (λ (ps : List PortView). IsJoint (logs_of ps) c.in_ok-history.history) ports c.in_ok-history.ensures in
    record {
      history = joint_shown job (played_world job) c.settle.new.self c.in_ok-history.history shows joint;
      stuck = c.is_stuck.ensures job (played_world job) shows;
      ends = c.in_ok-ends.ensures job (played_world job) shows;
    }
