use Rattle.std.proofs.Common.{◌≡◌, ℕ, ◌-◌, ◌<◌, ◌≤◌, List, length, get_or, drop, sym, ap, subst, ◌∙◌, arith}
use Rattle.std.proofs.lemmas.List.{get_or_default}
use Rattle.std.specs.List.{AllWithin}
use Rattle.rdm_gaps.specs.declared.ranges.Gap.{Gap}
use Rattle.rdm_gaps.specs.Places.{Missing, lull, came_from}
use Rattle.rdm_gaps.specs.Ranges.{gap, places_of, AreApart}
use Rattle.rdm_gaps.proofs.Lulls.{lull_at, lull_past}
use Rattle.rdm_gaps.proofs.Gaps.came_from.Goals as goal
use Rattle.rdm_gaps.proofs.Gaps.came_from.Goals.{then-i-len, else-i-len}

-- a gap ends after the place
at_gap : (n at i next : ℕ) (g : Gap) (slice gaps : List Gap) → slice ≡ gaps → AreApart 0 n gaps → i < length gaps
    → AllWithin (λ (g : Gap). g.end ≤ at) slice 0 i → AllWithin (λ (g : Gap). at < g.end) slice i (length slice)
    → g ≡ get_or gaps i g → next ≡ g.start → next - at ≡ lull (drop at (places_of 0 n gaps))
at_gap n at i next g slice gaps is s lt before after read start =
    let low = subst (λ l. AllWithin (λ (g : Gap). g.end ≤ at) l 0 i) is before in
    let high = subst (λ l. AllWithin (λ (g : Gap). at < g.end) l i (length l)) is after in
    let same = get_or_default gaps i (gap 0 0) g lt ∙ sym read in
    let begin = ap (λ (g : Gap). g.start) same in
    let e : at ≡ at - 0 = omega arith in
    (omega (arith, start, begin)) ∙ sym (ap (λ k. lull (drop k (places_of 0 n gaps))) e ∙ lull_at 0 n at i gaps (omega arith) s lt low (high i (gap 0 0) (omega arith) lt))

-- none does
past_gaps : (n at i next : ℕ) (slice gaps : List Gap) → slice ≡ gaps → AreApart 0 n gaps → length gaps ≤ i → i ≤ length slice
    → AllWithin (λ (g : Gap). g.end ≤ at) slice 0 i → next ≡ n → next - at ≡ lull (drop at (places_of 0 n gaps))
past_gaps n at i next slice gaps is s le within before end =
    let size = ap length is in
    let all : i ≡ length gaps = omega (arith, size) in
    let low = subst (λ k. AllWithin (λ (g : Gap). g.end ≤ at) gaps 0 k) all (subst (λ l. AllWithin (λ (g : Gap). g.end ≤ at) l 0 i) is before) in
    let e : at ≡ at - 0 = omega arith in
    (omega (arith, end)) ∙ sym (ap (λ k. lull (drop k (places_of 0 n gaps))) e ∙ lull_past 0 n at gaps (omega arith) s low)

pub returns : goal.returns
returns c =
    let g = c.self.inside in
    c.saturating_sub.ensures
    ∙ elim c.if-i-len.branch [
      | then-i-len w ↦ at_gap g.size c.args.at c.find-i.result c.if-i-len.next w.index.result.now _ g.gaps.items c.deref.ensures.value c.self.invariant.apart (omega (arith, w.if-i-len.true, c.len.ensures)) c.find-i.ensures.before c.find-i.ensures.after w.index.ensures w.next-is
      | else-i-len w ↦ past_gaps g.size c.args.at c.find-i.result c.if-i-len.next _ g.gaps.items c.deref.ensures.value c.self.invariant.apart (omega (arith, w.if-i-len.false, c.len.ensures)) c.find-i.ensures.within c.find-i.ensures.before w.next-is
    ]
    ∙ ap (λ (m : Missing). came_from m c.args.at) c.self.view_is
