use Rattle.std.proofs.Common.{◌≡◌, length, arith}
use Rattle.rdm_port.specs.Views.{new_port}
use Rattle.rdm_world.proofs.Lists.{get_or_more}
use Rattle.rdm_world.proofs.world.World.new.Goals as goal

pub loop-number-preserved : goal.loop-number-preserved
loop-number-preserved c =
    let count = c.loop-number.invariant.count in
    let kept = c.loop-number.ports.ok.0 in
    let long : length c.loop-number.ports.items ≡ c.loop-number.number = omega arith in
    record {
      count = (let l = c.push_reserved.ensures.len in omega arith);
      room = (let r = c.loop-number.invariant.room in let k = c.push_reserved.ensures.capacity in omega arith);
      fresh = λ i d lt. get_or_more c.loop-number.ports.items c.in-Ok.port (new_port c.args.job.now) c.loop-number.number c.push_reserved.new.self.items c.push_reserved.ensures.items long c.loop-number.invariant.fresh c.in-Ok.ensures i d lt;
    }
