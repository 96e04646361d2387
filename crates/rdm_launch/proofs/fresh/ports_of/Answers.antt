use Rattle.std.proofs.Common.{◌≡◌, List, length, rules, arith, ap, ◌∙◌}
use Rattle.rdm_model.specs.declared.job.Rank.{Rank}
use Rattle.rdm_launch.proofs.Starting.{none_new, one_more_new, are_fresh}
use Rattle.rdm_launch.proofs.fresh.ports_of.Goals as goal

pub loop-number-init : goal.loop-number-init
loop-number-init c = record { count = search rules; room = search rules; fresh = none_new c.args.job.now _ (search rules) }

pub loop-number-preserved : goal.loop-number-preserved
loop-number-preserved c =
    let count = c.loop-number.invariant.count in
    let kept = c.loop-number.ports.ok.0 in
    let long : c.loop-number.number ≡ length c.loop-number.ports.items = omega arith in
    record {
      count = (let l = c.push_reserved.ensures.len in omega arith);
      room = (let r = c.loop-number.invariant.room in let k = c.push_reserved.ensures.capacity in omega arith);
      fresh = one_more_new c.args.job.now c.loop-number.ports.items c.push_reserved.new.self.items c.in-Ok.port c.loop-number.number c.push_reserved.ensures.items long c.in-Ok.ensures c.loop-number.invariant.fresh;
    }

pub returns : goal.returns
returns c =
    let count = c.loop-number.invariant.count in
    let kept = c.loop-number.ports.ok.0 in
    let most = c.loop-number.auto.number-end in
    let least = c.loop-number-test.false in
    let long : length c.loop-number.ports.items ≡ length c.as_slice.result.now = omega arith in
    are_fresh c.args.job.now c.loop-number.ports.items (long ∙ ap (λ (ranks : List Rank). length ranks) c.as_slice.ensures) c.loop-number.invariant.fresh
