use Rattle.std.proofs.Common.{sym, ap, ◌==◌, ◌∙◌}
use Rattle.rdm_live.proofs.Standing.{length_at, rises_at}
use Rattle.rdm_live.proofs.live.Live.is_full.Goals as goal

pub returns-clause-value : goal.returns-clause-value
returns-clause-value c =
    let all = c.self.invariant.stand in
    rw (← c.self.view_is) (c.is_full.ensures.value ∙ ap (λ n. n == c.self.inside.places.size) (sym (length_at c.self.inside.slots c.self.inside.places.list all)))

pub returns-clause-live : goal.returns-clause-live
returns-clause-live c =
    let kept = c.self.invariant in
    let pool = c.is_full.ensures.pool in
    rw (← c.self.view_is) (record {
      rises = rises_at c.self.inside.slots 0 c.self.inside.places.list c.self.inside.places.made kept.stand pool.rises;
      within = rw (length_at c.self.inside.slots c.self.inside.places.list kept.stand) pool.within;
      each = kept.each;
      once = kept.once;
    })
