-- The ends of the chains after those of one bin changed.
use Rattle.std.proofs.Common.{◌≡◌, refl, sym, ap, subst, ◌∙◌, ℕ, Bool, true, false, Option, Some, None}
use Rattle.std.specs.Prelude.{cond, nat_eq}
use Rattle.std.specs.Option.{option_eq}
use Rattle.std.specs.HashMap.{get}
use Rattle.rdm_bins.specs.declared.chains.Ends.{Ends}
use Rattle.rdm_bins.specs.declared.chains.Chains.{Chains}
use Rattle.rdm_bins.specs.Chains.{ends_at, ends_with, ends_without}
use Rattle.rdm_bins.proofs.Places.{by_test, same_bin}

-- the ends of the bin without a number
pub other_set : (old new : Chains) (w : Option Ends) (bin : Option ℕ) → bin ≡ None → new.other ≡ w → new.tagged ≡ old.tagged → (b : Option ℕ) → ends_at new b ≡ cond (option_eq nat_eq bin b) w (ends_at old b)
unfolding ends_at
other_set old new w bin is other tagged None = other ∙ ap (λ d. cond (option_eq nat_eq d None) w old.other) (sym is)
other_set old new w bin is other tagged (Some tag) = ap (λ m. get nat_eq m tag) tagged ∙ ap (λ d. cond (option_eq nat_eq d (Some tag)) w (get nat_eq old.tagged tag)) (sym is)

-- the ends of a tag's bin
pub tagged_set : (old new : Chains) (w : Option Ends) (bin : Option ℕ) (tag : ℕ) → bin ≡ Some tag → new.other ≡ old.other → ((q : ℕ) → get nat_eq new.tagged q ≡ cond (nat_eq tag q) w (get nat_eq old.tagged q)) → (b : Option ℕ) → ends_at new b ≡ cond (option_eq nat_eq bin b) w (ends_at old b)
unfolding ends_at
tagged_set old new w bin tag is other tagged None = other ∙ ap (λ d. cond (option_eq nat_eq d None) w old.other) (sym is)
tagged_set old new w bin tag is other tagged (Some q) = tagged q ∙ ap (λ d. cond (option_eq nat_eq d (Some q)) w (get nat_eq old.tagged q)) (sym is)

-- the same ends
pub ends_same : (old new : Chains) → new.other ≡ old.other → ((q : ℕ) → get nat_eq new.tagged q ≡ get nat_eq old.tagged q) → (b : Option ℕ) → ends_at new b ≡ ends_at old b
unfolding ends_at
ends_same old new other tagged None = other
ends_same old new other tagged (Some q) = tagged q

-- no bin has a chain
pub none_yet : (c : Chains) → c.other ≡ None → ((q : ℕ) → get nat_eq c.tagged q ≡ None) → (b : Option ℕ) → ends_at c b ≡ None
unfolding ends_at
none_yet c other tagged None = other
none_yet c other tagged (Some q) = tagged q

-- ends that are set to what they are
pub ends_kept : (c : Chains) (w : Option Ends) (bin : Option ℕ) → w ≡ ends_at c bin → (b : Option ℕ) → ends_at c b ≡ cond (option_eq nat_eq bin b) w (ends_at c b)
ends_kept c w bin is b =
    by_test (option_eq nat_eq bin b)
    (λ e. ap (ends_at c) (sym (same_bin bin b e)) ∙ sym is ∙ sym (ap (λ t. cond t w (ends_at c b)) e))
    (λ e. sym (ap (λ t. cond t w (ends_at c b)) e))

-- where there was no chain, none is left
pub none_left : (ends : Option Ends) (p s : Option ℕ) → ends ≡ None → ends_without ends p s ≡ ends
unfolding ends_without
none_left ends p s is = subst (λ o. ends_without o p s ≡ o) (sym is) refl

-- no place is left
pub last_gone : (ends : Option Ends) (p s : Option ℕ) → p ≡ None → s ≡ None → None ≡ ends_without ends p s
unfolding ends_without
last_gone None p s no_p no_s = refl
last_gone (Some e) p s no_p no_s = sym (λ i. ends_without (Some e) (no_p i) (no_s i))

-- the first place goes
pub first_gone : (ends : Option Ends) (e : Ends) (a : ℕ) → ends ≡ Some e → Some (record { first = a; last = e.last }) ≡ ends_without ends None (Some a)
unfolding ends_without
first_gone ends e a is = sym (λ i. ends_without (is i) None (Some a))

-- the last place goes
pub end_gone : (ends : Option Ends) (e : Ends) (b : ℕ) → ends ≡ Some e → Some (record { first = e.first; last = b }) ≡ ends_without ends (Some b) None
unfolding ends_without
end_gone ends e b is = sym (λ i. ends_without (is i) (Some b) None)

-- a place between goes
pub middle_gone : (ends : Option Ends) (p s : Option ℕ) (b a : ℕ) → p ≡ Some b → s ≡ Some a → ends_without ends p s ≡ ends
unfolding ends_without
middle_gone None p s b a is_p is_s = refl
middle_gone (Some e) p s b a is_p is_s = λ i. ends_without (Some e) (is_p i) (is_s i)

-- the first place comes
pub first_came : (ends : Option Ends) (n : ℕ) → ends ≡ None → Some (record { first = n; last = n }) ≡ Some (ends_with ends n)
unfolding ends_with
first_came ends n is = sym (λ i. Some (ends_with (is i) n))

-- a further place comes
pub next_came : (ends : Option Ends) (e : Ends) (n : ℕ) → ends ≡ Some e → Some (record { first = e.first; last = n }) ≡ Some (ends_with ends n)
unfolding ends_with
next_came ends e n is = sym (λ i. Some (ends_with (is i) n))

-- of two writes the later one counts
pub written_twice : (t : Bool) (v w old : Option Ends) → cond t w (cond t v old) ≡ cond t w old
written_twice true v w old = refl
written_twice false v w old = refl
