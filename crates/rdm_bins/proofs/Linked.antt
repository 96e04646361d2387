-- The chains of a shelf after an item came or went.
use Rattle.std.proofs.Common.{◌≡◌, refl, sym, ap, subst, ◌∙◌, ℕ, ◌+◌, ◌<◌, ◌≤◌, Bool, true, false, List, [], ◌∷◌, ◌++◌, Option, Some, None, length, length-append, arith}
use Rattle.std.specs.Prelude.{cond, nat_eq}
use Rattle.std.specs.Option.{option_eq}
use Rattle.std.specs.List.{slice_get}
use Rattle.rdm_bins.specs.declared.chains.Link.{Link}
use Rattle.rdm_bins.specs.declared.chains.Chains.{Chains}
use Rattle.rdm_bins.specs.Chains.{IsFirstFrom, IsLastBelow, IsChain, AreChains, first_of, last_of, after_at, before_at, after_link, before_link, ends_at, with_after, ends_with}
use Rattle.rdm_bins.specs.Shelf.{item_at, is_in, is_in_at}
use Rattle.rdm_bins.proofs.Places.{by_test, by_order, not_both_ways, same_number, same_bin, same_as_itself}
use Rattle.rdm_bins.proofs.Neighbours.{inside, is_there, chain_kept, chain_with}
use Rattle.rdm_bins.proofs.Links.{IsLinked, length_after, after_with_after, before_with_after, link_front, link_last, length_last}
use Rattle.rdm_bins.proofs.Items.{not_both, item_front, item_last, item_past}

-- a place before another one has a link
pub linked_below : (here : ℕ → Bool) (links : List Link) (n : ℕ) (o : Option ℕ) → n ≤ length links → IsLastBelow here n o → IsLinked links o
linked_below here links n None more last = tt
linked_below here links n (Some p) more last = let less : p < n = last.0 in omega arith

-- a place behind another one has a link
pub linked_from : (here : ℕ → Bool) (links : List Link) (n : ℕ) (o : Option ℕ) → ((k : ℕ) → length links ≤ k → here k ≡ false) → IsFirstFrom here n o → IsLinked links o
linked_from here links n None below first = tt
linked_from here links n (Some s) below first = inside here (length links) s below first.1

-- the chains of no items
pub chains_new : {X : Type 0} (bin : X → Option ℕ) (c : Chains) → ((b : Option ℕ) → ends_at c b ≡ None) → c.links.items ≡ [] → AreChains (is_in_at bin []) 0 c
unfolding is_in
chains_new bin c ends links = record {
  length = ap length links;
  chain = λ b. record {
    below = λ n h. refl;
    begins = subst (λ e. IsFirstFrom (is_in_at bin [] b) 0 (first_of e)) (sym (ends b)) (λ k h. refl);
    stops = subst (λ e. IsLastBelow (is_in_at bin [] b) 0 (last_of e)) (sym (ends b)) (λ k h. refl);
    goes_on = λ n h. not_both_ways false h refl;
    goes_back = λ n h. not_both_ways false h refl;
  };
}

-- chains with the same ends and links
pub chains_same : (here : Option ℕ → ℕ → Bool) (size : ℕ) (old new : Chains) → ((b : Option ℕ) → ends_at new b ≡ ends_at old b) → new.links.items ≡ old.links.items → AreChains here size old → AreChains here size new
chains_same here size old new ends links are = record {
  length = ap length links ∙ are.length;
  chain = λ b.
      subst (λ e. IsChain (here b) size e (after_at new.links.items) (before_at new.links.items)) (sym (ends b))
      (subst (λ (l : List Link). IsChain (here b) size (ends_at old b) (after_at l) (before_at l)) (sym links) (are.chain b));
}

module _ {X : Type 0} (bin : X → Option ℕ) where
  -- what is in two bins is in one
  one_bin : (b c : Option ℕ) (o : Option X) → is_in bin b o ≡ true → is_in bin c o ≡ true → c ≡ b
  unfolding is_in
  one_bin b c None h k = not_both_ways false h refl
  one_bin b c (Some x) h k = same_bin c (bin x) k ∙ sym (same_bin b (bin x) h)

  -- an item is in its own bin
  pub in_own : (x : X) → is_in bin (bin x) (Some x) ≡ true
  unfolding is_in
  in_own x = same_as_itself (bin x)

  -- an item is in no other bin
  pub in_no_other : (b : Option ℕ) (x : X) → option_eq nat_eq (bin x) b ≡ false → is_in bin b (Some x) ≡ false
  in_no_other b x other =
      by_test (is_in bin b (Some x))
      (λ h. not_both_ways (option_eq nat_eq (bin x) b) (subst (λ c. option_eq nat_eq (bin x) c ≡ true) (one_bin b (bin x) (Some x) h (in_own x)) (same_as_itself (bin x))) other)
      (λ h. h)

  -- nothing is in no bin
  pub in_none : (b : Option ℕ) (o : Option X) → o ≡ None → is_in bin b o ≡ false
  unfolding is_in
  in_none b None h = refl
  in_none b (Some x) h = not_both (Some x) x h refl

  -- a place of another bin is no neighbour
  not_neighbour : (items : List (Option X)) (b c : Option ℕ) → option_eq nat_eq c b ≡ false → (m n : ℕ) → is_in_at bin items c m ≡ true → is_in_at bin items b n ≡ true → nat_eq m n ≡ false
  not_neighbour items b c other m n h k =
      by_test (nat_eq m n)
      (λ e. not_both_ways (option_eq nat_eq c b) (subst (λ d. option_eq nat_eq c d ≡ true) (one_bin b c (item_at items n) k (subst (λ i. is_in_at bin items c i ≡ true) (same_number m n e) h)) (same_as_itself c)) other)
      (λ e. e)

  pub not_last : (items : List (Option X)) (b c : Option ℕ) → option_eq nat_eq c b ≡ false → (n size : ℕ) (o : Option ℕ) → IsLastBelow (is_in_at bin items c) size o → is_in_at bin items b n ≡ true → is_there o n ≡ false
  not_last items b c other n size None last there = refl
  not_last items b c other n size (Some p) last there = not_neighbour items b c other p n last.1 there

  pub not_first : (items : List (Option X)) (b c : Option ℕ) → option_eq nat_eq c b ≡ false → (n size : ℕ) (o : Option ℕ) → IsFirstFrom (is_in_at bin items c) size o → is_in_at bin items b n ≡ true → is_there o n ≡ false
  not_first items b c other n size None first there = refl
  not_first items b c other n size (Some s) first there = not_neighbour items b c other s n first.1 there

  module _ (items : List (Option X)) (x : X) where
    -- the items with a new last one
    more : List (Option X)
    more = items ++ Some x ∷ []

    length_more : length more ≡ length items + 1
    unfolding more
    length_more = length-append items (Some x ∷ [])

    more_front : (b : Option ℕ) (k : ℕ) → k < length items → is_in_at bin more b k ≡ is_in_at bin items b k
    unfolding more
    more_front b k h = ap (is_in bin b) (item_front items (Some x) k h)

    more_last : (b : Option ℕ) → is_in_at bin more b (length items) ≡ is_in bin b (Some x)
    unfolding more
    more_last b = ap (is_in bin b) (item_last items (Some x))

    more_past : (b : Option ℕ) (k : ℕ) → length items + 1 ≤ k → is_in_at bin more b k ≡ false
    unfolding more
    more_past b k h = in_none b (item_at more k) (item_past more k (omega (arith, length_more)))

    more_other : (b : Option ℕ) → option_eq nat_eq (bin x) b ≡ false → (k : ℕ) → is_in_at bin more b k ≡ is_in_at bin items b k
    more_other b other k =
        by_order k (length items) (more_front b k)
        (λ from.
        by_order (length items) k
        (λ past. more_past b k (omega arith) ∙ sym (in_none b (item_at items k) (item_past items k from)))
        (λ upto.
        let last : length items ≡ k = omega arith in
        subst (λ m. is_in_at bin more b m ≡ is_in_at bin items b m) last (more_last b ∙ in_no_other b x other ∙ sym (in_none b (item_at items (length items)) (item_past items (length items) (omega arith))))))

    module _ (old : Chains) (are : AreChains (is_in_at bin items) (length items) old) where
      -- the last place of the bin so far, and the links with a new last one
      tail : Option ℕ
      tail = last_of (ends_at old (bin x))

      longer : List Link
      longer = with_after old.links.items tail (Some (length items)) ++ record { before = tail; after = None } ∷ []

      tail_linked : IsLinked old.links.items tail
      unfolding tail
      tail_linked = linked_below (is_in_at bin items (bin x)) old.links.items (length items) tail (omega (arith, are.length)) (are.chain (bin x)).stops

      as_long : length (with_after old.links.items tail (Some (length items))) ≡ length items
      as_long = length_after old.links.items tail (Some (length items)) ∙ are.length

      longer_front : (k : ℕ) → k < length items → slice_get longer k ≡ slice_get (with_after old.links.items tail (Some (length items))) k
      unfolding longer
      longer_front k h = link_front (with_after old.links.items tail (Some (length items))) (record { before = tail; after = None }) k (omega (arith, as_long))

      longer_last : slice_get longer (length items) ≡ Some (record { before = tail; after = None })
      unfolding longer
      longer_last = ap (slice_get longer) (sym as_long) ∙ link_last (with_after old.links.items tail (Some (length items))) (record { before = tail; after = None })

      on_front : (k : ℕ) → k < length items → after_at longer k ≡ cond (is_there tail k) (Some (length items)) (after_at old.links.items k)
      on_front k h = ap after_link (longer_front k h) ∙ after_with_after old.links.items tail (Some (length items)) k tail_linked

      back_front : (k : ℕ) → k < length items → before_at longer k ≡ before_at old.links.items k
      back_front k h = ap before_link (longer_front k h) ∙ before_with_after old.links.items tail (Some (length items)) k

      own_chain : IsChain (is_in_at bin more (bin x)) (length items + 1) (Some (ends_with (ends_at old (bin x)) (length items))) (after_at longer) (before_at longer)
      unfolding tail
      own_chain =
          chain_with (is_in_at bin items (bin x)) (is_in_at bin more (bin x)) (length items) (ends_at old (bin x)) (after_at old.links.items) (before_at old.links.items) (after_at longer) (before_at longer)
          (are.chain (bin x)) (more_front (bin x)) (more_last (bin x) ∙ in_own x) (more_past (bin x))
          on_front (ap after_link longer_last) back_front (ap before_link longer_last)

      other_chain : (b : Option ℕ) → option_eq nat_eq (bin x) b ≡ false → IsChain (is_in_at bin more b) (length items + 1) (ends_at old b) (after_at longer) (before_at longer)
      unfolding tail
      other_chain b other =
          let chain = are.chain b in
          let own = are.chain (bin x) in
          chain_kept (is_in_at bin items b) (is_in_at bin more b) (length items) (length items + 1) (ends_at old b) (after_at old.links.items) (before_at old.links.items) (after_at longer) (before_at longer)
          (omega arith) (more_other b other)
          (λ n there. on_front n (inside (is_in_at bin items b) (length items) n chain.below there) ∙ ap (λ t. cond t (Some (length items)) (after_at old.links.items n)) (not_last items b (bin x) other n (length items) (last_of (ends_at old (bin x))) own.stops there))
          (λ n there. back_front n (inside (is_in_at bin items b) (length items) n chain.below there))
          chain

      longer_length : length longer ≡ length items + 1
      unfolding longer
      longer_length = length_last (with_after old.links.items tail (Some (length items))) (record { before = tail; after = None }) ∙ ap (λ n. n + 1) as_long

      -- the chains with a new last item
      pub chains_more : (new : Chains) (c : Option ℕ) (now : List (Option X)) → c ≡ bin x → now ≡ items ++ Some x ∷ [] → ((b : Option ℕ) → ends_at new b ≡ cond (option_eq nat_eq c b) (Some (ends_with (ends_at old c) (length old.links.items))) (ends_at old b)) → new.links.items ≡ with_after old.links.items (last_of (ends_at old c)) (Some (length old.links.items)) ++ record { before = last_of (ends_at old c); after = None } ∷ [] → AreChains (is_in_at bin now) (length now) new
      unfolding more tail longer
      chains_more new c now own is ends links =
          let put : new.links.items ≡ longer = links ∙ (λ i. with_after old.links.items (last_of (ends_at old (own i))) (Some (are.length i)) ++ record { before = last_of (ends_at old (own i)); after = None } ∷ []) in
          let new_ends : (b : Option ℕ) → ends_at new b ≡ cond (option_eq nat_eq (bin x) b) (Some (ends_with (ends_at old (bin x)) (length items))) (ends_at old b) = λ b. ends b ∙ (λ i. cond (option_eq nat_eq (own i) b) (Some (ends_with (ends_at old (own i)) (are.length i))) (ends_at old b)) in
          subst (λ (l : List (Option X)). AreChains (is_in_at bin l) (length l) new) (sym is)
          (subst (λ n. AreChains (is_in_at bin (items ++ Some x ∷ [])) n new) (sym length_more)
          (record {
            length = ap length put ∙ longer_length;
            chain = λ b.
                subst (λ (l : List Link). IsChain (is_in_at bin (items ++ Some x ∷ []) b) (length items + 1) (ends_at new b) (after_at l) (before_at l)) (sym put)
                (by_test (option_eq nat_eq (bin x) b)
                (λ e.
                subst (λ d. IsChain (is_in_at bin (items ++ Some x ∷ []) d) (length items + 1) (ends_at new d) (after_at longer) (before_at longer)) (same_bin (bin x) b e)
                (subst (λ w. IsChain (is_in_at bin (items ++ Some x ∷ []) (bin x)) (length items + 1) w (after_at longer) (before_at longer)) (sym (new_ends (bin x) ∙ ap (λ t. cond t (Some (ends_with (ends_at old (bin x)) (length items))) (ends_at old (bin x))) (same_as_itself (bin x)))) own_chain))
                (λ e.
                subst (λ w. IsChain (is_in_at bin (items ++ Some x ∷ []) b) (length items + 1) w (after_at longer) (before_at longer)) (sym (new_ends b ∙ ap (λ t. cond t (Some (ends_with (ends_at old (bin x)) (length items))) (ends_at old b)) e)) (other_chain b e)));
          }))
