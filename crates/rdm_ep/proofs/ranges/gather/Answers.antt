use Rattle.std.proofs.Common.{◌≡◌, ◌<◌, ℕ, List, [], ◌++◌, Vec, Global, map, length, take, drop, get_or, arith, ap, sym, subst, ◌∙◌}
use Rattle.std.specs.List.{All}
use Rattle.std.proofs.lemmas.List.{length-map, get_or-map}
use Rattle.rdm_num.specs.declared.parts.Span.{Span}
use Rattle.rdm_model.specs.Sends.{range_of, bytes_of}
use Rattle.rdm_ep.specs.Counts.{LiesIn}
use Rattle.rdm_ep.proofs.PartsLemmas.{no_span, bytes_more}
use Rattle.rdm_ep.proofs.ranges.gather.Goals as goal

pub loop-part-init : goal.loop-part-init
unfolding bytes_of
loop-part-init c = c.in_ok-bytes.ensures.items

pub loop-part-preserved : goal.loop-part-preserved
unfolding range_of
loop-part-preserved c =
    let rs : List (List ℕ) = map (λ (r : Vec ℕ Global). r.items) c.args.regions.now in
    let parts = c.as_slice-part-items.result.now in
    let i = c.loop-part.part-index in
    let s = get_or parts i no_span in
    let all : All (LiesIn rs) parts = subst (λ (ps : List Span). All (LiesIn rs) ps) (sym c.as_slice-part-items.ensures.items) c.requires in
    let lies : LiesIn rs s = all i no_span c.loop-part-test.true in
    let n = length-map c.args.regions.now (λ (r : Vec ℕ Global). r.items) in
    let within : s.region.0 < length c.args.regions.now = (let h = lies.0 in omega arith) in
    let region : get_or rs s.region.0 [] ≡ c.index-regions-part.result.items =
    get_or-map (λ (r : Vec ℕ Global). r.items) c.args.regions.now s.region.0 c.index-regions-part.result [] within
    ∙ ap (λ (r : Vec ℕ Global). r.items) (sym c.index-regions-part.is) in
    let piece : c.range.result.now ≡ range_of rs s.region.0 s.at s.len = c.range.ensures ∙ ap (λ (xs : List ℕ). take s.len (drop s.at xs)) (c.deref.ensures.value ∙ sym region) in
    c.in_ok-extend_from_slice.ensures.items
    ∙ ap (λ (xs : List ℕ). xs ++ c.range.result.now) c.loop-part.invariant
    ∙ ap (λ (xs : List ℕ). bytes_of rs (take i parts) ++ xs) piece
    ∙ sym (bytes_more rs parts i no_span c.loop-part-test.true)
