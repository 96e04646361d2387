-- A map of one entry, once that is taken out.
use Rattle.std.proofs.Common.{◌≡◌, refl, sym, ap, ◌∙◌, ℕ, Bool, true, false, cond, Option, None, Some}
use Rattle.std.specs.declared.cmp.Ordering.{Ordering}
use Rattle.std.specs.Ordering.{nat_cmp, eq_by_cmp, is_eq}
use Rattle.std.specs.Cmp.{nat_cmp_total, tied_itself}
use Rattle.std.specs.FinMap as finite
use Rattle.rdm_num.specs.declared.parts.Span.{Span}
use Rattle.rdm_mr.specs.Part.{Piece}
use Rattle.rdm_regions.specs.Ranges.{LeasedRanges}
use Rattle.rdm_regions.specs.Registry.{Registry, with_lease, returned, after_lease_back}

pub free_in_none : {K : Type 0} {R : K → K → Ordering} (m : finite.FinMap R Span) (k : K) → m ≡ finite.empty → finite.get m k ≡ None
free_in_none {R = R} m k e = ap (λ (n : finite.FinMap R Span). finite.get n k) e ∙ finite.get-empty R k

neither : (b : Bool) (x : Span) (o : Option Span) → o ≡ None → cond b None (cond b (Some x) o) ≡ o
neither true x o none = sym none
neither false x o none = refl

pub emptied : (m : LeasedRanges) (k : ℕ) (x : Span) → m ≡ finite.empty → finite.remove (finite.insert m k x) k ≡ finite.empty
emptied m k x e =
    finite.same_map nat_cmp_total finite.nat_cmp-IsAntisymmetric _ _ (λ q.
    finite.get-remove nat_cmp_total (finite.insert m k x) k q
    ∙ ap (cond (eq_by_cmp nat_cmp q k) None) (finite.get-insert nat_cmp_total m k x q)
    ∙ neither (eq_by_cmp nat_cmp q k) x (finite.get m q) (free_in_none m q e)
    ∙ ap (λ (n : LeasedRanges). finite.get n q) e)

-- a lease that is taken back, where nothing else was leased
pub back_to_none : (r s t : Registry) (recv : ℕ) (x : Span) (part : Piece) → r.leased ≡ finite.empty → s ≡ with_lease r recv x → t ≡ after_lease_back s recv part → t.leased ≡ finite.empty
back_to_none r s t recv x part e out back =
    let had : finite.get s.leased recv ≡ Some x =
    ap (λ (n : Registry). finite.get n.leased recv) out ∙ finite.get-insert nat_cmp_total r.leased recv x recv ∙ ap (λ o. cond (is_eq o) (Some x) (finite.get r.leased recv)) (tied_itself nat_cmp_total recv) in
    ap (λ (n : Registry). n.leased) back ∙ ap (λ o. (returned o s recv part.bytes).leased) had ∙ ap (λ (n : Registry). finite.remove n.leased recv) out ∙ emptied r.leased recv x e
