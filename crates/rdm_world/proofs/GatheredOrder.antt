-- A list sorted by stamp and then by port, from the newest on.
use Rattle.std.proofs.Common.{◌≡◌, ℕ, ◌<◌, ◌≤◌, List, [], ◌∷◌, ◌⊎◌, arith, ap, inl, inr}
use Rattle.std.proofs.lemmas.Bool.{cases_eq}
use Rattle.rdm_num.specs.declared.numbers.Stamp.{Stamp}
use Rattle.rdm_model.specs.declared.entry.Entry.{Entry}
use Rattle.rdm_model.specs.Wire.{IsAbove, IsInOrder}
use Rattle.rdm_world.proofs.GatheredPairs.{Each, Pairs, each_both}

-- the first stands below the second, by stamp, or by port where the stamps are the same
abbrev pub IsBelow : Entry → Entry → Type 0
IsBelow f e = (f.stamp.0 < e.stamp.0) ⊎ ((f.stamp ≡ e.stamp) × (f.port.0 < e.port.0))

-- stamps of the same number are the same
same_stamp : (s t : Stamp) → s.0 ≡ t.0 → s ≡ t
same_stamp s t h = let make : ℕ → Stamp = λ n. record { 0 = n } in ap make h

-- an entry is below one whose stamp is no less, if it is below it where the stamps are the same
below_by : (f e : Entry) → f.stamp.0 ≤ e.stamp.0 → (f.stamp.0 ≡ e.stamp.0 → f.port.0 < e.port.0) → IsBelow f e
below_by f e le port = elim (cases_eq f.stamp.0 e.stamp.0) [
  | inl is ↦ inr (same_stamp f.stamp e.stamp is, port is)
  | inr other ↦ inl (omega arith)
]

-- entries in the order of stamps, and of ports where the stamps are the same, stand one below the other
pub pairs_below : (ys : List Entry) → Pairs (λ f e. f.stamp.0 ≤ e.stamp.0) ys → Pairs (λ f e. f.stamp.0 ≡ e.stamp.0 → f.port.0 < e.port.0) ys → Pairs IsBelow ys
pairs_below [] p q = tt
pairs_below (y ∷ ys) p q =
    (each_both (λ z. y.stamp.0 ≤ z.stamp.0) (λ z. y.stamp.0 ≡ z.stamp.0 → y.port.0 < z.port.0) (IsBelow y) ys (below_by y) p.0 q.0, pairs_below ys p.1 q.1)

-- an entry above each of the others is above the newest
above_newest : (e : Entry) (before : List Entry) → Each (λ f. IsBelow f e) before → IsAbove e before
above_newest e [] h = tt
above_newest e (f ∷ before) h = h.0

-- entries that stand one above the other, the newest first, are in order
pub in_order_by : (history : List Entry) → Pairs (λ e f. IsBelow f e) history → IsInOrder history
in_order_by [] h = tt
in_order_by (e ∷ before) h = (in_order_by before h.1, above_newest e before h.0)
