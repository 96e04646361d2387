-- Fetches one after another.
use Rattle.std.proofs.Common.{◌≡◌, ℕ, ◌==◌, cond, Bool, true, false, List, [], ◌++◌, Option, Some, None, option_map, ap, sym, refl, subst, ◌∙◌}
use Rattle.std.proofs.Math.Path.{fun_ext}
use Rattle.std.proofs.lemmas.List.{append_assoc, append-nil}
use Rattle.std.proofs.lemmas.List.Sorted.{IsPermutation-refl, IsPermutation-trans, IsPermutation-append_right}
use Rattle.rdm_wire.specs.declared.Datagram.{Datagram}
use Rattle.rdm_wire.specs.Accounts.{Account, added_at, after_fetches}
use Rattle.rdm_wire.specs.Flights.{InFlight, IsAlike, Fetches, Moves}

-- the same list is alike
IsAlike-refl : (in_order : Bool) (xs : List Datagram) → IsAlike in_order xs xs
IsAlike-refl true xs = refl
IsAlike-refl false xs = IsPermutation-refl xs

-- some are taken away, and then some more
IsAlike-more : (in_order : Bool) (xs ds ys es zs : List Datagram) → IsAlike in_order xs (ds ++ ys) → IsAlike in_order ys (es ++ zs) → IsAlike in_order xs ((ds ++ es) ++ zs)
IsAlike-more true xs ds ys es zs a b = a ∙ ap (λ l. ds ++ l) b ∙ sym (append_assoc ds es zs)
IsAlike-more false xs ds ys es zs a b = subst (IsAlike false xs) (sym (append_assoc ds es zs)) (IsPermutation-trans xs (ds ++ ys) (ds ++ (es ++ zs)) a (IsPermutation-append_right ds ys (es ++ zs) b))

-- what is in flight before no fetch is what is in flight after it
pub Fetches-none : (in_order : Bool) (port : ℕ) (f : InFlight) → Fetches in_order port [] f f
Fetches-none in_order port f = record { taken = IsAlike-refl in_order (f.queues port); others = λ p apart. refl; size = refl }

-- fetches after fetches
pub Fetches-more : (in_order : Bool) (port : ℕ) (ds es : List Datagram) (f g h : InFlight) → Fetches in_order port ds f g → Fetches in_order port es g h → Fetches in_order port (ds ++ es) f h
Fetches-more in_order port ds es f g h a b = record {
  taken = IsAlike-more in_order (f.queues port) ds (g.queues port) es (h.queues port) a.taken b.taken;
  others = λ p apart. b.others p apart ∙ a.others p apart;
  size = b.size ∙ a.size;
}

-- no fetch, as far as the wire tells
pub held-none : (in_order : Bool) (port : ℕ) (f : Option InFlight) → Moves (Fetches in_order port []) f f
held-none in_order port None = tt
held-none in_order port (Some f) = Fetches-none in_order port f

-- fetches after fetches, as far as the wire tells
pub held-more : (in_order : Bool) (port : ℕ) (ds es : List Datagram) (f g h : Option InFlight)
    → Moves (Fetches in_order port ds) f g → Moves (Fetches in_order port es) g h → Moves (Fetches in_order port (ds ++ es)) f h
held-more in_order port ds es None None None a b = tt
held-more in_order port ds es None None (Some h) a b = absurd b
held-more in_order port ds es None (Some g) h a b = absurd a
held-more in_order port ds es (Some f) None h a b = absurd a
held-more in_order port ds es (Some f) (Some g) None a b = absurd b
held-more in_order port ds es (Some f) (Some g) (Some h) a b = Fetches-more in_order port ds es f g h a b

-- nothing is added
added_at-none : (port : ℕ) (lists : ℕ → List Datagram) → added_at port [] lists ≡ lists
unfolding added_at
added_at-none port lists = fun_ext (λ p. elim (p == port) as (λ b. cond b (lists p ++ []) (lists p) ≡ lists p) [ true ↦ append-nil (lists p) | false ↦ refl ])

-- some are added, and then some more
added_at-more : (port : ℕ) (ds es : List Datagram) (lists : ℕ → List Datagram) → added_at port es (added_at port ds lists) ≡ added_at port (ds ++ es) lists
unfolding added_at
added_at-more port ds es lists =
    fun_ext (λ p. elim (p == port) as (λ b. cond b (cond b (lists p ++ ds) (lists p) ++ es) (cond b (lists p ++ ds) (lists p)) ≡ cond b (lists p ++ (ds ++ es)) (lists p)) [
      | true ↦ append_assoc (lists p) ds es
      | false ↦ refl
    ])

-- the account after no fetch
pub account-none : (port : ℕ) (a : Option Account) → option_map (after_fetches port []) a ≡ a
account-none port None = refl
account-none port (Some a) = ap (λ l. Some (record a { fetched = l })) (added_at-none port a.fetched)

-- the account after fetches after fetches
pub account-more : (port : ℕ) (ds es : List Datagram) (a : Option Account) → option_map (after_fetches port es) (option_map (after_fetches port ds) a) ≡ option_map (after_fetches port (ds ++ es)) a
account-more port ds es None = refl
account-more port ds es (Some a) = ap (λ l. Some (record a { fetched = l })) (added_at-more port ds es a.fetched)
