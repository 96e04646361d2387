-- Lives compared.
use Rattle.rdm_num.specs.declared.numbers.PortNo.{PortNo}
use Rattle.std.proofs.Common.{ap, ℕ, ◌≡◌, true, ◌∙◌, refl}
use Rattle.rdm_num.specs.declared.numbers.Connid.{Connid}
use Rattle.rdm_num.specs.declared.numbers.Life.{Life}
use Rattle.std.proofs.lemmas.Bool.{and_parts, eqb-true, and_from, eq-eqb}
use Rattle.rdm_num.specs.Lives.{same_life}

-- ports with one number are one
pub port_is : (a b : PortNo) → a.0 ≡ b.0 → a ≡ b
port_is a b h = ap (λ (n : ℕ). record { 0 = n }) h

-- identifiers with one number are one
pub connid_is : (a b : Connid) → a.0 ≡ b.0 → a ≡ b
connid_is a b h = ap (λ (n : ℕ). record { 0 = n }) h

-- lives that pass as the same are one
pub same_life-true : (a b : Life) → same_life a b ≡ true → a ≡ b
unfolding same_life
same_life-true a b h =
    let parts = and_parts _ _ h in
    let p : a.port ≡ b.port = port_is a.port b.port (eqb-true a.port.0 b.port.0 parts.0) in
    let c : a.connid ≡ b.connid = connid_is a.connid b.connid (eqb-true a.connid.0 b.connid.0 parts.1) in
    let f : PortNo → Life = λ x. record { port = x; connid = a.connid } in
    let g : Connid → Life = λ x. record { port = b.port; connid = x } in
    ap f p ∙ ap g c

-- a life is the same as itself
pub same_life-refl : (l : Life) → same_life l l ≡ true
unfolding same_life
same_life-refl l = and_from _ _ (eq-eqb l.port.0 l.port.0 refl) (eq-eqb l.connid.0 l.connid.0 refl)
