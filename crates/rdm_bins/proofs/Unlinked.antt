-- The chains of a shelf after an item went.
use Rattle.std.proofs.Common.{◌≡◌, sym, ap, subst, ◌∙◌, ℕ, ◌+◌, true, false, List, Option, Some, length, arith}
use Rattle.std.specs.Prelude.{cond, nat_eq}
use Rattle.std.specs.Option.{option_eq}
use Rattle.rdm_bins.specs.declared.chains.Link.{Link}
use Rattle.rdm_bins.specs.declared.chains.Chains.{Chains}
use Rattle.rdm_bins.specs.Chains.{IsChain, AreChains, after_at, before_at, ends_at, with_after, with_before, ends_without}
use Rattle.rdm_bins.specs.Shelf.{item_at, without_at, is_in, is_in_at}
use Rattle.rdm_bins.proofs.Places.{by_test, same_number, same_bin, same_as_itself}
use Rattle.rdm_bins.proofs.Neighbours.{inside, is_there, chain_kept, chain_without}
use Rattle.rdm_bins.proofs.Links.{IsLinked, length_after, length_before, after_with_after, before_with_after, before_with_before, after_with_before}
use Rattle.rdm_bins.proofs.Items.{length_without, emptied, others_stay}
use Rattle.rdm_bins.proofs.Linked.{linked_below, linked_from, in_own, in_no_other, in_none, not_last, not_first}

module _ {X : Type 0} (bin : X → Option ℕ) (items : List (Option X)) (gone : ℕ) (x : X) (there : item_at items gone ≡ Some x) (old : Chains) (are : AreChains (is_in_at bin items) (length items) old) where
  -- the neighbours of the place that goes, and the links without it
  front : Option ℕ
  front = before_at old.links.items gone

  back : Option ℕ
  back = after_at old.links.items gone

  shorter : List Link
  shorter = with_before (with_after old.links.items front back) back front

  here_own : is_in_at bin items (bin x) gone ≡ true
  here_own = ap (is_in bin (bin x)) there ∙ in_own bin x

  gone_now : (b : Option ℕ) → is_in_at bin (without_at items gone) b gone ≡ false
  gone_now b = in_none bin b (item_at (without_at items gone) gone) (emptied items gone)

  rest_now : (b : Option ℕ) (k : ℕ) → nat_eq gone k ≡ false → is_in_at bin (without_at items gone) b k ≡ is_in_at bin items b k
  rest_now b k other = ap (is_in bin b) (others_stay items gone k other)

  front_linked : IsLinked old.links.items front
  unfolding front
  front_linked = linked_below (is_in_at bin items (bin x)) old.links.items gone front (omega (arith, are.length, inside (is_in_at bin items (bin x)) (length items) gone (are.chain (bin x)).below here_own)) ((are.chain (bin x)).goes_back gone here_own)

  back_linked : IsLinked (with_after old.links.items front back) back
  unfolding back
  back_linked = linked_from (is_in_at bin items (bin x)) (with_after old.links.items front back) (gone + 1) back (λ k h. (are.chain (bin x)).below k (omega (arith, length_after old.links.items front back, are.length))) ((are.chain (bin x)).goes_on gone here_own)

  on_now : (m : ℕ) → after_at shorter m ≡ cond (is_there front m) back (after_at old.links.items m)
  unfolding shorter
  on_now m = after_with_before (with_after old.links.items front back) back front m ∙ after_with_after old.links.items front back m front_linked

  back_now : (m : ℕ) → before_at shorter m ≡ cond (is_there back m) front (before_at old.links.items m)
  unfolding shorter
  back_now m =
      before_with_before (with_after old.links.items front back) back front m back_linked
      ∙ ap (cond (is_there back m) front) (before_with_after old.links.items front back m)

  own_less : IsChain (is_in_at bin (without_at items gone) (bin x)) (length items) (ends_without (ends_at old (bin x)) front back) (after_at shorter) (before_at shorter)
  unfolding front back
  own_less =
      chain_without (is_in_at bin items (bin x)) (is_in_at bin (without_at items gone) (bin x)) gone (gone_now (bin x)) (rest_now (bin x)) (length items) (ends_at old (bin x)) (after_at old.links.items) (before_at old.links.items) (after_at shorter) (before_at shorter)
      here_own (are.chain (bin x)) (λ m h. on_now m) (λ m h. back_now m)

  same_now : (b : Option ℕ) → option_eq nat_eq (bin x) b ≡ false → (k : ℕ) → is_in_at bin (without_at items gone) b k ≡ is_in_at bin items b k
  same_now b other k =
      by_test (nat_eq gone k)
      (λ e. subst (λ m. is_in_at bin (without_at items gone) b m ≡ is_in_at bin items b m) (same_number gone k e) (gone_now b ∙ sym (ap (is_in bin b) there ∙ in_no_other bin b x other)))
      (rest_now b k)

  other_less : (b : Option ℕ) → option_eq nat_eq (bin x) b ≡ false → IsChain (is_in_at bin (without_at items gone) b) (length items) (ends_at old b) (after_at shorter) (before_at shorter)
  unfolding front back
  other_less b other =
      let own = are.chain (bin x) in
      chain_kept (is_in_at bin items b) (is_in_at bin (without_at items gone) b) (length items) (length items) (ends_at old b) (after_at old.links.items) (before_at old.links.items) (after_at shorter) (before_at shorter)
      (omega arith) (same_now b other)
      (λ n h. on_now n ∙ ap (λ t. cond t back (after_at old.links.items n)) (not_last bin items b (bin x) other n gone front (own.goes_back gone here_own) h))
      (λ n h. back_now n ∙ ap (λ t. cond t front (before_at old.links.items n)) (not_first bin items b (bin x) other n (gone + 1) back (own.goes_on gone here_own) h))
      (are.chain b)

  shorter_length : length shorter ≡ length items
  unfolding shorter
  shorter_length = length_before (with_after old.links.items front back) back front ∙ length_after old.links.items front back ∙ are.length

  -- the chains without the item
  pub chains_less : (new : Chains) (c : Option ℕ) (now : List (Option X)) → c ≡ bin x → now ≡ without_at items gone → ((b : Option ℕ) → ends_at new b ≡ cond (option_eq nat_eq c b) (ends_without (ends_at old c) (before_at old.links.items gone) (after_at old.links.items gone)) (ends_at old b)) → new.links.items ≡ with_before (with_after old.links.items (before_at old.links.items gone) (after_at old.links.items gone)) (after_at old.links.items gone) (before_at old.links.items gone) → AreChains (is_in_at bin now) (length now) new
  unfolding front back shorter
  chains_less new c now own is ends links =
      let new_ends : (b : Option ℕ) → ends_at new b ≡ cond (option_eq nat_eq (bin x) b) (ends_without (ends_at old (bin x)) front back) (ends_at old b) = λ b. ends b ∙ (λ i. cond (option_eq nat_eq (own i) b) (ends_without (ends_at old (own i)) front back) (ends_at old b)) in
      subst (λ (l : List (Option X)). AreChains (is_in_at bin l) (length l) new) (sym is)
      (subst (λ n. AreChains (is_in_at bin (without_at items gone)) n new) (sym (length_without items gone))
      (record {
        length = ap length links ∙ shorter_length;
        chain = λ b.
            subst (λ (l : List Link). IsChain (is_in_at bin (without_at items gone) b) (length items) (ends_at new b) (after_at l) (before_at l)) (sym links)
            (by_test (option_eq nat_eq (bin x) b)
            (λ e.
            subst (λ d. IsChain (is_in_at bin (without_at items gone) d) (length items) (ends_at new d) (after_at shorter) (before_at shorter)) (same_bin (bin x) b e)
            (subst (λ w. IsChain (is_in_at bin (without_at items gone) (bin x)) (length items) w (after_at shorter) (before_at shorter)) (sym (new_ends (bin x) ∙ ap (λ t. cond t (ends_without (ends_at old (bin x)) front back) (ends_at old (bin x))) (same_as_itself (bin x)))) own_less))
            (λ e.
            subst (λ w. IsChain (is_in_at bin (without_at items gone) b) (length items) w (after_at shorter) (before_at shorter)) (sym (new_ends b ∙ ap (λ t. cond t (ends_without (ends_at old (bin x)) front back) (ends_at old b)) e)) (other_less b e)));
      }))
