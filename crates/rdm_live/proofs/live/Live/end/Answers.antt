use Rattle.std.proofs.Common.{sym, ap, ◌==◌, ◌∙◌, length}
use Rattle.rdm_live.specs.View.{LiveView}
use Rattle.rdm_live.proofs.Standing.{length_at}
use Rattle.rdm_live.proofs.live.Live.end.Goals as goal

pub end-requires : goal.end-requires
end-requires c =
    let kept = c.self.invariant in
    let is_none = ap (λ (v : LiveView). length v.list) c.self.view_is ∙ ap length c.requires in
    ap (λ n. n == 0) (kept.all ∙ sym (length_at c.self.inside.slots c.self.inside.places.list kept.stand) ∙ is_none)
