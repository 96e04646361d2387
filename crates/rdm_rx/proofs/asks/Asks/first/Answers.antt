use Rattle.std.proofs.Common.{◌≡◌, rules, length, refl, sym, ◌∙◌}
use Rattle.rdm_rx.specs.Asking.{no_range}
use Rattle.rdm_rx.proofs.Steps.{place_ahead, place_behind, place_length, past_last}
use Rattle.rdm_rx.proofs.asks.Asks.first.Goals as goal

-- an ask in the range
pub returns-then-self-end : goal.returns-then-self-end
returns-then-self-end c =
    let self = c.args.self.now in
    let i = c.loop-range.invariant in
    let n : length self.ranges ≡ 4 = search rules in
    let a = place_ahead self.send_id self.recv_id self.ranges c.loop-range.range-index c.loop-range.begin self.at no_range (rw n c.loop-range-test.true) i.within c.if-self-end.true in
    rw (i.rest, a, c.min.ensures) refl

-- the range is behind
pub loop-range-preserved : goal.loop-range-preserved
loop-range-preserved c =
    let self = c.args.self.now in
    let i = c.loop-range.invariant in
    let n : length self.ranges ≡ 4 = search rules in
    let l = place_length self.ranges c.loop-range.range-index c.loop-range.begin no_range (rw n c.loop-range-test.true) in
    record {
      within = c.if-self-end.false;
      rest = i.rest ∙ place_behind self.send_id self.recv_id self.ranges c.loop-range.range-index c.loop-range.begin self.at no_range (rw n c.loop-range-test.true) c.if-self-end.false;
      bytes = sym l ∙ i.bytes;
    }

-- all ranges are behind
pub returns : goal.returns
returns c =
    let self = c.args.self.now in
    let i = c.loop-range.invariant in
    let n : length self.ranges ≡ 4 = search rules in
    let p = past_last self.send_id self.recv_id self.ranges c.loop-range.range-index c.loop-range.begin self.at (rw n c.loop-range-test.false) in
    rw (i.rest, p) refl
