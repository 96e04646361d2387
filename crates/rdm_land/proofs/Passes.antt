-- One turn over places that came and places that are missing.
use Rattle.std.proofs.Common.{◌≡◌, ℕ, ◌+◌, ◌-◌, ◌<◌, ◌≤◌, Bool, true, false, List, length, get_or, take, drop, map, Option, Some, sym, ap, subst, ◌∙◌, arith, min}
use Rattle.std.proofs.lemmas.List.{length-drop, get_or-drop}
use Rattle.std.proofs.lemmas.Bool.{true≢false}
use Rattle.rdm_gaps.specs.Places.{AreMissing, lull, run}
use Rattle.rdm_gaps.proofs.Runs.{run_le, run_none, run_missing}
use Rattle.rdm_gaps.proofs.Lulls.{came_le, came_each, came_end}
use Rattle.rdm_mr.specs.Tiles.{laid}
use Rattle.rdm_mr.proofs.Overlays.{by_lt}
use Rattle.rdm_land.proofs.Came.{so_far, come_on, go_on, missing_run}

-- from a place on, the places up to stop came, and those after it are missing
pub record IsTurn (missing : List Bool) (bytes : List ℕ) (cells : List (Option ℕ)) (at came stop gone : ℕ) : Type 0 where
  pub long : length bytes ≡ length missing
  pub within : at < min (length bytes) (length cells)
  pub came_is : came ≡ lull (drop at missing)
  pub stop_is : stop ≡ min (at + came) (min (length bytes) (length cells))
  pub gone_is : gone ≡ run (drop stop missing)

module _ (missing : List Bool) (bytes : List ℕ) (cells : List (Option ℕ)) (at came stop gone : ℕ) (t : IsTurn missing bytes cells at came stop gone) where
  ends : at + lull (drop at missing) ≤ length missing
  ends = came_le at missing (omega (arith, t.within, t.long))

  pub fits : stop + gone ≤ length missing
  fits =
      let r = run_le (drop stop missing) in
      let d = length-drop stop missing in
      omega (arith, r, d, t.gone_is, t.stop_is, t.long)

  pub goes : at < stop + gone
  goes =
      by_lt at stop (λ lt. omega arith)
      (λ le. by_lt 0 gone (λ lt. (omega (arith, t.stop_is, t.within)))
      (λ none.
      let here : at + lull (drop at missing) ≡ stop = omega (arith, t.stop_is, t.came_is, t.within) in
      let missed = subst (λ k. get_or missing k false ≡ true) here (came_end at missing (omega (arith, here, t.within, t.long, t.stop_is))) in
      let start : stop + 0 ≡ stop = omega arith in
      let free : get_or missing stop false ≡ false = ap (λ k. get_or missing k false) (sym start) ∙ sym (get_or-drop stop missing 0 false) ∙ run_none (drop stop missing) (omega (arith, t.gone_is)) in
      absurd (true≢false (sym missed ∙ free))))

  -- the bytes of the first are laid
  pub lays : laid at (map Some (take (stop - at) (drop at bytes))) (so_far missing bytes cells at) ≡ so_far missing bytes cells (stop + gone)
  lays =
      come_on missing bytes cells at stop (omega (arith, t.stop_is, t.within)) (omega (arith, t.stop_is, t.long)) (omega (arith, t.stop_is)) (omega (arith, t.stop_is))
      (λ k p q. came_each at k missing p (omega (arith, t.stop_is, t.came_is)))
      ∙ go_on missing bytes cells stop (stop + gone) (omega arith) (λ k p q. missing_run stop gone missing (subst (λ n. AreMissing stop n missing) (sym t.gone_is) (run_missing stop missing (omega (arith, t.gone_is)))) k p q)
