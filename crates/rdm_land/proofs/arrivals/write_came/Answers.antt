use Rattle.std.proofs.Common.{◌≡◌, ◌-◌, length, take, drop, sym, ap, subst, ◌∙◌, arith}
use Rattle.std.proofs.lemmas.List.{length-take-le, length-drop}
use Rattle.rdm_mr.specs.Tiles.{Tiles, AreHome, overwritten}
use Rattle.rdm_gaps.proofs.Lulls.{came_le}
use Rattle.rdm_land.proofs.Came.{came_range, all_came}
use Rattle.rdm_land.proofs.Passes.{IsTurn, fits, goes, lays}
use Rattle.rdm_land.proofs.arrivals.write_came.Goals as goal

turn : (c : goal.After-missing_from-missing) → IsTurn c.args.gaps.now.places c.args.bytes.now c.args.home.now.cells c.loop-at.at c.came_from-came.result c.min-stop.result c.missing_from-missing.result
turn c =
    record {
      long = c.requires.long;
      within = omega (arith, c.loop-at-test.true, c.min-end.ensures, c.len.ensures);
      came_is = c.came_from-came.ensures;
      stop_is = omega (arith, c.min-stop.ensures, c.min-end.ensures);
      gone_is = c.missing_from-missing.ensures;
    }

pub overflow_add-at : goal.overflow_add-at
overflow_add-at c =
    let le = came_le c.loop-at.at c.args.gaps.now.places c.loop-at.invariant.0 in
    record { fits = omega (arith, le, c.came_from-came.ensures, c.requires.long, c.len.ensures, c.len.type_inv) }

pub write-requires : goal.write-requires
write-requires c =
    let cells = c.args.home.now.cells in
    let n = c.min-stop.result - c.loop-at.at in
    let d = length-drop c.loop-at.at c.args.bytes.now in
    let long : length (take n (drop c.loop-at.at c.args.bytes.now)) ≡ n = length-take-le n (drop c.loop-at.at c.args.bytes.now) (omega (arith, d, c.min-stop.ensures, c.min-end.ensures)) in
    subst (λ (t : Tiles). AreHome c.loop-at.at (length (take n (drop c.loop-at.at c.args.bytes.now))) t.cells) (sym c.loop-at.invariant.1)
    (came_range (take c.loop-at.at c.args.gaps.now.places) c.args.bytes.now cells c.requires.whole c.loop-at.at _ (omega (arith, long, c.min-stop.ensures, c.min-end.ensures, c.loop-at-test.true)))

pub overflow_add-at-in-loop-at : goal.overflow_add-at-in-loop-at
overflow_add-at-in-loop-at c = let f = fits _ _ _ _ _ _ _ (turn c) in record { fits = omega (arith, f, c.requires.long) }

pub loop-at-smaller : goal.loop-at-smaller
loop-at-smaller c = let g = goes _ _ _ _ _ _ _ (turn c) in omega (arith, g, c.loop-at-test.true)

pub loop-at-preserved : goal.loop-at-preserved
loop-at-preserved c =
    let t = turn c in
    let tiles = c.write.ensures ∙ ap (λ (t : Tiles). overwritten t c.loop-at.at (take (c.min-stop.result - c.loop-at.at) (drop c.loop-at.at c.args.bytes.now))) c.loop-at.invariant.1 in
    (fits _ _ _ _ _ _ _ t, tiles ∙ ap (λ l. record (c.args.home.now) { cells = l }) (lays _ _ _ _ _ _ _ t))

pub returns : goal.returns
returns c =
    c.loop-at.invariant.1
    ∙ ap (λ l. record (c.args.home.now) { cells = l }) (all_came c.args.gaps.now.places c.args.bytes.now c.args.home.now.cells c.loop-at.at (omega (arith, c.loop-at-test.false, c.min-end.ensures, c.len.ensures)) c.requires.long)
