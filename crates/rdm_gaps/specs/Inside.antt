-- What is true of the fields of a `Gaps`.
use Rattle.std.specs.Prelude.{◌≡◌, ◌+◌, ◌^◌, ◌<◌, ◌≤◌, vec_len, vec_capacity}
use Rattle.rdm_gaps.specs.Ranges.{AreApart, total}
use Rattle.rdm_gaps.specs.declared.Gaps.TheInside.{Inside}

pub record IsGaps (g : Inside) : Type 0 where
  pub fits : g.size < 2 ^ 64
  pub apart : AreApart 0 g.size g.gaps.items
  pub left : g.left ≡ total g.gaps.items
  pub room : vec_len g.gaps + g.spare ≤ vec_capacity g.gaps
