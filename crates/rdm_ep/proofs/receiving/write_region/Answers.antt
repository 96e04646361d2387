use Rattle.std.proofs.Common.{◌≡◌, ◌<◌, ◌≤◌, ◌+◌, ℕ, List, [], Vec, Global, length, get_or, arith, sym, ◌∙◌, ap, subst}
use Rattle.std.specs.Vec.{with_items}
use Rattle.std.proofs.lemmas.List.{length-map, get_or-map, with_items_is}
use Rattle.rdm_model.specs.Regions.{put}
use Rattle.rdm_ep.proofs.RegionLemmas.{map_written, put_size}
use Rattle.rdm_ep.proofs.receiving.write_region.Goals as goal

pub returns : goal.returns
returns c =
    let region : c.args.region.0 < length c.args.regions.now.items =
    (let n = length-map c.args.regions.now.items (λ (r : Vec ℕ Global). r.items) in let h = c.requires.region in omega arith) in
    let written : c.write_at.new.region ≡ put c.args.at c.args.bytes.now (get_or c.args.regions.now.items c.args.region.0 c.index_mut.result.now).items =
    cc (c.write_at.ensures, c.deref_mut.ensures.value, c.index_mut.ensures.value) in
    let same : get_or c.args.regions.now.items c.args.region.0 c.index_mut.result.now ≡ c.index_mut.result.now = cc (c.index_mut.ensures.value) in
    let range : c.args.at + length c.args.bytes.now ≤ length (get_or c.args.regions.now.items c.args.region.0 c.index_mut.result.now).items =
    subst (λ (xs : List ℕ). c.args.at + length c.args.bytes.now ≤ length xs) (get_or-map (λ (r : Vec ℕ Global). r.items) c.args.regions.now.items c.args.region.0 c.index_mut.result.now [] region) c.requires.range in
    let size : length c.write_at.new.region ≡ c.index_mut.result.now.len =
    ap length written ∙ put_size c.args.at c.args.bytes.now _ range ∙ ap (λ (v : Vec ℕ Global). length v.items) same ∙ sym c.index_mut.result.now.ok.0 in
    map_written (λ (r : Vec ℕ Global). r.items) (put c.args.at c.args.bytes.now) c.args.regions.now.items c.args.region.0
    (with_items c.index_mut.result.now c.write_at.new.region) c.index_mut.result.now region (with_items_is c.index_mut.result.now c.write_at.new.region size ∙ written)
