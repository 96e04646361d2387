use Rattle.std.proofs.Common.{◌≡◌, ◌+◌, ◌-◌, drop, get_or, refl, arith}
use Rattle.rdm_tx.proofs.Entries.{no_range, is_after_all, is_in_place, is_in_none}
use Rattle.rdm_tx.proofs.asked.is_in_ranges.Goals as goal

-- the range has the bytes
pub returns-then-is_in_range : goal.returns-then-is_in_range
returns-then-is_in_range c =
    let ask = c.args.ask.now in
    let begin = ask.at - c.loop-range.into in
    let p = is_in_place ask begin c.args.ranges.now c.loop-range.range-index no_range c.loop-range-test.true in
    let i = c.loop-range.invariant.rest in
    let e = c.if-is_in_range.ensures in
    rw (i, p, ← e) refl

-- the later ranges begin after the bytes
pub returns-then-into-range : goal.returns-then-into-range
returns-then-into-range c =
    let ask = c.args.ask.now in
    let begin = ask.at - c.loop-range.into in
    let ranges = c.args.ranges.now in
    let index = c.loop-range.range-index in
    let within = c.loop-range.invariant.within in
    let shorter = c.if-into-range.true in
    let p = is_in_place ask begin ranges index no_range c.loop-range-test.true in
    let i = c.loop-range.invariant.rest in
    let e = c.if-is_in_range.ensures in
    let a = is_after_all ask (begin + (get_or ranges index no_range).length) (drop (index + 1) ranges) (omega (arith, within, shorter)) in
    rw (i, p, ← e, a) refl

-- the range is passed
pub loop-range-preserved : goal.loop-range-preserved
loop-range-preserved c =
    let ask = c.args.ask.now in
    let begin = ask.at - c.loop-range.into in
    let ranges = c.args.ranges.now in
    let index = c.loop-range.range-index in
    let within = c.loop-range.invariant.within in
    let long = c.if-into-range.false in
    let p = is_in_place ask begin ranges index no_range c.loop-range-test.true in
    let i = c.loop-range.invariant.rest in
    let e = c.if-is_in_range.ensures in
    let n : ask.at - (c.loop-range.into - (get_or ranges index no_range).length) ≡ begin + (get_or ranges index no_range).length = omega (arith, within, long) in
    record { within = omega (arith, within); rest = rw (i, p, ← e, n) refl }

-- no range is left
pub returns : goal.returns
returns c =
    let ask = c.args.ask.now in
    let i = c.loop-range.invariant.rest in
    let p = is_in_none ask (ask.at - c.loop-range.into) c.args.ranges.now c.loop-range.range-index c.loop-range-test.false in
    rw (i, p) refl
