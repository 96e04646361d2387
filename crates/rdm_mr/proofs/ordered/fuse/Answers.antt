use Rattle.std.proofs.Common.{◌≡◌, ◌+◌, ◌<◌, List, length, get_or, ap, subst, ◌∙◌, arith}
use Rattle.std.specs.List.{insert, remove}
use Rattle.rdm_mr.specs.Part.{Piece}
use Rattle.rdm_mr.proofs.Fused.{fused_last, stays, joins, meets}
use Rattle.rdm_mr.proofs.ordered.fuse.Goals as goal

pub returns-else-i-len-clause-items : goal.returns-else-i-len-clause-items
returns-else-i-len-clause-items c = fused_last c.args.i c.args.parts.now.items (omega (arith, c.if-i-len.false, c.len.ensures, c.args.parts.now.ok.0))

pub returns-else-start-len-clause-items : goal.returns-else-start-len-clause-items
returns-else-start-len-clause-items c =
    stays c.args.i c.args.parts.now.items (omega (arith, c.if-i-len.true, c.len.ensures, c.args.parts.now.ok.0)) c.index-low.result.now c.index-high.result.now c.index-low.ensures c.index-high.ensures
    (λ e. c.if-start-len.false (omega (arith, e, c.len-then-i-len.ensures, c.start.ensures.value, c.start-then-i-len.ensures.value)))

pub join-requires : goal.join-requires
join-requires c =
    let parts = c.args.parts.now.items in
    let i = c.args.i in
    let low = subst (λ (x : List Piece). c.remove-low.result ≡ get_or x i c.remove-low.result) c.remove-high.ensures.items c.remove-low.ensures.value in
    let lt : i + 1 < length parts = omega (arith, c.if-i-len.true, c.len.ensures, c.args.parts.now.ok.0) in
    let t : c.index-low.result.now.start + length c.index-low.result.now.bytes ≡ c.index-high.result.now.start = omega (arith, c.len-then-i-len.ensures, c.if-start-len.true, c.start.ensures.value, c.start-then-i-len.ensures.value) in
    meets i parts lt c.remove-high.result c.remove-low.result c.index-low.result.now c.index-high.result.now c.requires.same c.remove-high.ensures.value low c.index-low.ensures c.index-high.ensures t

pub returns-in-Ok-clause-items : goal.returns-in-Ok-clause-items
returns-in-Ok-clause-items c =
    let parts = c.args.parts.now.items in
    let i = c.args.i in
    let low = subst (λ (x : List Piece). c.remove-low.result ≡ get_or x i c.remove-low.result) c.remove-high.ensures.items c.remove-low.ensures.value in
    let lt : i + 1 < length parts = omega (arith, c.if-i-len.true, c.len.ensures, c.args.parts.now.ok.0) in
    let t : c.index-low.result.now.start + length c.index-low.result.now.bytes ≡ c.index-high.result.now.start = omega (arith, c.len-then-i-len.ensures, c.if-start-len.true, c.start.ensures.value, c.start-then-i-len.ensures.value) in
    c.in-Ok.ensures.items ∙ ap (λ x. insert x i c.join.result) (c.remove-low.ensures.items ∙ ap (λ x. remove x i) c.remove-high.ensures.items)
    ∙ joins i parts lt c.remove-high.result c.remove-low.result c.join.result c.index-low.result.now c.index-high.result.now c.remove-high.ensures.value low c.join.ensures c.index-low.ensures c.index-high.ensures t
