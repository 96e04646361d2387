use Rattle.std.proofs.Common.{length, Some, sym, ap, ◌∙◌}
use Rattle.std.specs.Prelude.{codes}
use Rattle.std.proofs.lemmas.List.{length-map}
use Rattle.rdm_land.specs.Landed.{Landed, capacity}
use Rattle.rdm_land.proofs.Laws.{place_keeps}
use Rattle.rdm_land.proofs.tests.bytes_of_a_lent_part_land.Goals as goal

pub release-requires : goal.release-requires
release-requires g c =
    let made = c.in_ok-part.ensures.0 in
    let fresh = c.in-Ok.ensures in
    let kept = place_keeps c.fill_lent-filled.new.landing 0 (codes "abc") c.place.result in
    let start = ap (λ (l : Landed). l.tiles.start) c.place.ensures.after ∙ kept.start ∙ c.fill_lent-filled.ensures.start ∙ ap (λ (l : Landed). l.tiles.start) fresh in
    let whole = ap (λ (l : Landed). l.tiles.whole) c.place.ensures.after ∙ kept.whole ∙ c.fill_lent-filled.ensures.whole ∙ ap (λ (l : Landed). l.tiles.whole) fresh in
    let places = ap capacity c.place.ensures.after ∙ kept.places ∙ c.fill_lent-filled.ensures.capacity ∙ ap capacity fresh ∙ length-map c.in_ok-part.part.bytes Some in
    let back = c.into_part-part.ensures in
    let bytes = length-map c.into_part-part.result.bytes Some in
    let all = ap length back.3 in
    (back.2 ∙ start ∙ made.0, sym bytes ∙ all ∙ places ∙ made.1 ∙ sym whole ∙ sym back.1)
