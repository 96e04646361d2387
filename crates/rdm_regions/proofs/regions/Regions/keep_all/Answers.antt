use Rattle.std.proofs.Common.{ap, ◌∙◌, get_or}
use Rattle.std.specs.FinMap as finite
use Rattle.rdm_regions.specs.Ranges.{range}
use Rattle.rdm_regions.specs.Registry.{hold_refusal, with_hold}
use Rattle.rdm_regions.proofs.Several.{is_free, holds_next, gives_up}
use Rattle.rdm_regions.proofs.Gravest.{none_refused}
use Rattle.rdm_regions.proofs.regions.Regions.keep_all.Goals as goal

pub keep-requires-clause-free : goal.keep-requires-clause-free
keep-requires-clause-free c =
    ap (finite.get c.loop-i.self.held) c.new.ensures ∙ is_free c.args.self.now c.loop-i.self c.args.send.0 c.loop-i.i c.args.ranges.now c.loop-i.invariant c.requires.few c.requires.free c.loop-i-test.true

pub keep-requires-clause-allowed : goal.keep-requires-clause-allowed
keep-requires-clause-allowed c =
    ap (λ r. hold_refusal r (get_or c.args.ranges.now c.loop-i.i (range 0 0 0))) c.loop-i.invariant ∙ none_refused c.args.self.now c.args.ranges.now c.loop-i.i (range 0 0 0) c.requires.allowed c.loop-i-test.true

pub returns-in-Err-clause-err : goal.returns-in-Err-clause-err
returns-in-Err-clause-err c =
    gives_up c.args.self.now c.loop-i.self c.args.send.0 c.loop-i.i c.args.ranges.now c.loop-i.invariant c.requires.few c.requires.free c.keep.new.self c.release_all.new.self (range 0 0 0) c.loop-i-test.true c.in-Err.ensures.err c.release_all.ensures

pub loop-i-preserved : goal.loop-i-preserved
loop-i-preserved c =
    holds_next c.args.self.now c.loop-i.self c.args.send.0 c.loop-i.i c.args.ranges.now c.loop-i.invariant c.requires.few c.requires.free c.keep.new.self (range 0 0 0) c.loop-i-test.true
    (c.in-Ok.ensures.ok ∙ ap (λ key. with_hold c.loop-i.self key (get_or c.args.ranges.now c.loop-i.i (range 0 0 0))) c.new.ensures)
