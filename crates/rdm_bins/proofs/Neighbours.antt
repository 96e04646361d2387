-- A chain of places after a place came or went.
use Rattle.std.proofs.Common.{◌≡◌, refl, sym, ap, subst, ◌∙◌, ℕ, ◌+◌, ◌<◌, ◌≤◌, Bool, true, false, Option, Some, None, arith}
use Rattle.std.specs.Prelude.{cond, nat_eq}
use Rattle.rdm_bins.specs.declared.chains.Ends.{Ends}
use Rattle.rdm_bins.specs.Chains.{IsFirstFrom, IsLastBelow, IsChain, first_of, last_of, ends_with, ends_without}
use Rattle.rdm_bins.proofs.Places.{by_test, by_order, not_both_ways, same_number, itself, apart, apart_turned}

-- a place of a chain is below the size
pub inside : (here : ℕ → Bool) (size n : ℕ) → ((k : ℕ) → size ≤ k → here k ≡ false) → here n ≡ true → n < size
inside here size n below there = by_order n size (λ less. less) (λ more. not_both_ways (here n) there (below n more))

-- the place is the one that may be there
abbrev pub is_there : Option ℕ → ℕ → Bool
is_there None n = false
is_there (Some p) n = nat_eq p n

value_of : Option ℕ → ℕ
value_of None = 0
value_of (Some n) = n

some_is : (m n : ℕ) → Some m ≡ Some n → m ≡ n
unfolding value_of
some_is m n h = ap value_of h

-- one of two places comes first, or they are the same
by_place : {P : Type 0} (m n : ℕ) → (m < n → P) → (m ≡ n → P) → (n < m → P) → P
by_place m n before same behind = by_order m n before (λ more. by_order n m behind (λ less. same (omega arith)))

-- the first place is the same where the chain is the same from there on
pub first_kept : (here now : ℕ → Bool) (n : ℕ) (o : Option ℕ) → ((k : ℕ) → n ≤ k → now k ≡ here k) → IsFirstFrom here n o → IsFirstFrom now n o
first_kept here now n None same first = λ k h. same k h ∙ first k h
first_kept here now n (Some s) same first = (first.0, same s first.0 ∙ first.1, λ k h less. same k h ∙ first.2 k h less)

-- the last place is the same where the chain is the same below
pub last_kept : (here now : ℕ → Bool) (n : ℕ) (o : Option ℕ) → ((k : ℕ) → k < n → now k ≡ here k) → IsLastBelow here n o → IsLastBelow now n o
last_kept here now n None same last = λ k h. same k h ∙ last k h
last_kept here now n (Some s) same last = (last.0, same s last.0 ∙ last.1, λ k more less. same k less ∙ last.2 k more less)

-- the last place is the same where the size grows past no further place
last_grown : (here : ℕ → Bool) (m n : ℕ) (o : Option ℕ) → m ≤ n → ((k : ℕ) → m ≤ k → here k ≡ false) → IsLastBelow here m o → IsLastBelow here n o
last_grown here m n None more below last = λ k h. by_order k m (λ less. last k less) (λ from. below k from)
last_grown here m n (Some s) more below last = ((let less : s < m = last.0 in omega arith), last.1, λ k behind h. by_order k m (λ less. last.2 k behind less) (λ from. below k from))

-- the chain of a bin whose places stay
pub chain_kept : (here now : ℕ → Bool) (size grown : ℕ) (ends : Option Ends) (after before after' before' : ℕ → Option ℕ) → size ≤ grown → ((k : ℕ) → now k ≡ here k) → ((n : ℕ) → here n ≡ true → after' n ≡ after n) → ((n : ℕ) → here n ≡ true → before' n ≡ before n) → IsChain here size ends after before → IsChain now grown ends after' before'
chain_kept here now size grown ends after before after' before' more same on back chain = record {
  below = λ n h. same n ∙ chain.below n (omega arith);
  begins = first_kept here now 0 _ (λ k h. same k) chain.begins;
  stops = last_kept here now grown _ (λ k h. same k) (last_grown here size grown _ more chain.below chain.stops);
  goes_on = λ n h. let there = sym (same n) ∙ h in subst (IsFirstFrom now (n + 1)) (sym (on n there)) (first_kept here now (n + 1) _ (λ k h. same k) (chain.goes_on n there));
  goes_back = λ n h. let there = sym (same n) ∙ h in subst (IsLastBelow now n) (sym (back n there)) (last_kept here now n _ (λ k h. same k) (chain.goes_back n there));
}

-- a link stays where it is not that of the last place
still : (here now : ℕ → Bool) (size last n : ℕ) (o : Option ℕ) → IsLastBelow here size (Some last) → ((k : ℕ) → k < size → now k ≡ here k) → ((k : ℕ) → size ≤ k → here k ≡ false) → here n ≡ true → nat_eq last n ≡ false → IsFirstFrom here (n + 1) o → IsFirstFrom now (n + 1) o
still here now size last n None stops same below there e first =
    by_place n last
    (λ h. not_both_ways (here last) stops.1 (first last (omega arith)))
    (λ h. not_both_ways (nat_eq last n) (subst (λ m. nat_eq last m ≡ true) (sym h) (itself last)) e)
    (λ h. not_both_ways (here n) there (stops.2 n h (inside here size n below there)))
still here now size last n (Some s) stops same below there e first =
    let less : s < size = inside here size s below first.1 in
    (first.0, same s less ∙ first.1, λ k from h. same k (omega arith) ∙ first.2 k from h)

-- the new place comes right behind the last one
up_to : (here now : ℕ → Bool) (size last n : ℕ) (o : Option ℕ) → IsLastBelow here size (Some last) → ((k : ℕ) → k < size → now k ≡ here k) → ((k : ℕ) → size ≤ k → here k ≡ false) → now size ≡ true → here n ≡ true → IsFirstFrom here (n + 1) o → IsFirstFrom now (n + 1) (cond (nat_eq last n) (Some size) o)
up_to here now size last n o stops same below new there first =
    let less : n < size = inside here size n below there in
    by_test (nat_eq last n)
    (λ e.
    let is : last ≡ n = same_number last n e in
    subst (λ t. IsFirstFrom now (n + 1) (cond t (Some size) o)) (sym e)
    ((omega arith), new, λ k from h. same k h ∙ stops.2 k (omega arith) h))
    (λ e.
    subst (λ t. IsFirstFrom now (n + 1) (cond t (Some size) o)) (sym e)
    (still here now size last n o stops same below there e first))

begins_with : (here now : ℕ → Bool) (size : ℕ) (ends : Option Ends) → IsFirstFrom here 0 (first_of ends) → ((k : ℕ) → k < size → now k ≡ here k) → ((k : ℕ) → size ≤ k → here k ≡ false) → now size ≡ true → IsFirstFrom now 0 (Some (ends_with ends size).first)
unfolding ends_with
begins_with here now size None begins same below new = ((omega arith), new, λ k from h. same k h ∙ begins k from)
begins_with here now size (Some e) begins same below new =
    let less : e.first < size = inside here size e.first below begins.1 in
    (begins.0, same e.first less ∙ begins.1, λ k from h. same k (omega arith) ∙ begins.2 k from h)

goes_on_with : (here now : ℕ → Bool) (size n : ℕ) (ends : Option Ends) (o : Option ℕ) → IsLastBelow here size (last_of ends) → ((k : ℕ) → k < size → now k ≡ here k) → ((k : ℕ) → size ≤ k → here k ≡ false) → now size ≡ true → here n ≡ true → IsFirstFrom here (n + 1) o → IsFirstFrom now (n + 1) (cond (is_there (last_of ends) n) (Some size) o)
goes_on_with here now size n None o stops same below new there first = not_both_ways (here n) there (stops n (inside here size n below there))
goes_on_with here now size n (Some e) o stops same below new there first = up_to here now size e.last n o stops same below new there first

last_with : (ends : Option Ends) (n : ℕ) → (ends_with ends n).last ≡ n
unfolding ends_with
last_with None n = refl
last_with (Some e) n = refl

only_new : (now : ℕ → Bool) (size n : ℕ) → ((k : ℕ) → size + 1 ≤ k → now k ≡ false) → now n ≡ true → size ≤ n → n ≡ size
only_new now size n above there more = by_order n (size + 1) (λ less. omega arith) (λ h. not_both_ways (now n) there (above n h))

-- the chain of a bin with a new last place
pub chain_with : (here now : ℕ → Bool) (size : ℕ) (ends : Option Ends) (after before after' before' : ℕ → Option ℕ) → IsChain here size ends after before → ((k : ℕ) → k < size → now k ≡ here k) → now size ≡ true → ((k : ℕ) → size + 1 ≤ k → now k ≡ false) → ((n : ℕ) → n < size → after' n ≡ cond (is_there (last_of ends) n) (Some size) (after n)) → after' size ≡ None → ((n : ℕ) → n < size → before' n ≡ before n) → before' size ≡ last_of ends → IsChain now (size + 1) (Some (ends_with ends size)) after' before'
chain_with here now size ends after before after' before' chain same new above on on_new back back_new = record {
  below = above;
  begins = begins_with here now size ends chain.begins same chain.below new;
  stops = subst (λ m. IsLastBelow now (size + 1) (Some m)) (sym (last_with ends size)) ((omega arith), new, λ k more less. absurd (omega arith));
  goes_on = λ n h.
      by_order n size
      (λ less. subst (IsFirstFrom now (n + 1)) (sym (on n less)) (goes_on_with here now size n ends (after n) chain.stops same chain.below new (sym (same n less) ∙ h) (chain.goes_on n (sym (same n less) ∙ h))))
      (λ more.
      let last : n ≡ size = only_new now size n above h more in
      subst (IsFirstFrom now (n + 1)) (sym (ap after' last ∙ on_new)) (λ k from. above k (omega arith)));
  goes_back = λ n h.
      by_order n size
      (λ less. subst (IsLastBelow now n) (sym (back n less)) (last_kept here now n (before n) (λ k below. same k (omega arith)) (chain.goes_back n (sym (same n less) ∙ h))))
      (λ more.
      let last : n ≡ size = only_new now size n above h more in
      subst (λ m. IsLastBelow now m (before' m)) (sym last) (subst (IsLastBelow now size) (sym back_new) (last_kept here now size (last_of ends) same chain.stops)));
}

-- the chain of a bin after a place of it went
module _ (here now : ℕ → Bool) (gone : ℕ) (out : now gone ≡ false) (same : (k : ℕ) → nat_eq gone k ≡ false → now k ≡ here k) where
  none_now : (k : ℕ) → here k ≡ false → now k ≡ false
  none_now k h = by_test (nat_eq gone k) (λ e. subst (λ m. now m ≡ false) (same_number gone k e) out) (λ e. same k e ∙ h)

  -- where the first place is another one, it stays
  first_stays : (n : ℕ) (o : Option ℕ) → ((s : ℕ) → o ≡ Some s → nat_eq gone s ≡ false) → IsFirstFrom here n o → IsFirstFrom now n o
  first_stays n None other first = λ k from. none_now k (first k from)
  first_stays n (Some s) other first = (first.0, same s (other s refl) ∙ first.1, λ k from h. none_now k (first.2 k from h))

  -- where the last place is another one, it stays
  last_stays : (n : ℕ) (o : Option ℕ) → ((s : ℕ) → o ≡ Some s → nat_eq gone s ≡ false) → IsLastBelow here n o → IsLastBelow now n o
  last_stays n None other last = λ k h. none_now k (last k h)
  last_stays n (Some s) other last = (last.0, same s (other s refl) ∙ last.1, λ k from h. none_now k (last.2 k from h))

  -- where it was the first place, the one behind is
  first_moves : (n : ℕ) (s : Option ℕ) → n ≤ gone → ((k : ℕ) → n ≤ k → k < gone → here k ≡ false) → IsFirstFrom here (gone + 1) s → IsFirstFrom now n s
  first_moves n None from none behind = λ k h. by_place k gone (λ less. none_now k (none k h less)) (λ is. subst (λ m. now m ≡ false) (sym is) out) (λ more. none_now k (behind k (omega arith)))
  first_moves n (Some s) from none behind =
      let more : gone < s = omega (arith, behind.0) in
      ((omega arith), same s (apart gone s more) ∙ behind.1, λ k h less. by_place k gone (λ below. none_now k (none k h below)) (λ is. subst (λ m. now m ≡ false) (sym is) out) (λ above. none_now k (behind.2 k (omega arith) less)))

  -- where it was the last place, the one before is
  last_moves : (n : ℕ) (p : Option ℕ) → gone < n → ((k : ℕ) → gone < k → k < n → here k ≡ false) → IsLastBelow here gone p → IsLastBelow now n p
  last_moves n None below none before = λ k h. by_place k gone (λ less. none_now k (before k less)) (λ is. subst (λ m. now m ≡ false) (sym is) out) (λ more. none_now k (none k more h))
  last_moves n (Some p) below none before =
      let less : p < gone = before.0 in
      ((omega arith), same p (apart_turned gone p less) ∙ before.1, λ k h under. by_place k gone (λ inner. none_now k (before.2 k h inner)) (λ is. subst (λ m. now m ≡ false) (sym is) out) (λ more. none_now k (none k more under)))

  -- a place that is there now is another one
  other_one : (m : ℕ) → now m ≡ true → nat_eq gone m ≡ false
  other_one m there = by_test (nat_eq gone m) (λ e. not_both_ways (now m) there (subst (λ m. now m ≡ false) (same_number gone m e) out)) (λ e. e)

  -- only the place before it was linked to it
  not_before : (m s : ℕ) (p : Option ℕ) → here m ≡ true → IsLastBelow here gone p → IsFirstFrom here (m + 1) (Some s) → is_there p m ≡ false → nat_eq gone s ≡ false
  not_before m s None there before first e =
      by_test (nat_eq gone s)
      (λ is.
      let same_one : gone ≡ s = same_number gone s is in
      let less : m < gone = omega (arith, first.0) in
      not_both_ways (here m) there (before m less))
      (λ no. no)
  not_before m s (Some p) there before first e =
      by_test (nat_eq gone s)
      (λ is.
      let same_one : gone ≡ s = same_number gone s is in
      let less : m < gone = omega (arith, first.0) in
      by_place p m
      (λ h. not_both_ways (here m) there (before.2 m h less))
      (λ h. not_both_ways (nat_eq p m) (subst (λ k. nat_eq p k ≡ true) h (itself p)) e)
      (λ h. not_both_ways (here p) before.1 (first.2 p (omega arith) (omega (arith, before.0)))))
      (λ no. no)

  -- only the place behind it was linked back to it
  not_behind : (m p : ℕ) (s : Option ℕ) → here m ≡ true → IsFirstFrom here (gone + 1) s → IsLastBelow here m (Some p) → is_there s m ≡ false → nat_eq gone p ≡ false
  not_behind m p None there behind last e =
      by_test (nat_eq gone p)
      (λ is.
      let same_one : gone ≡ p = same_number gone p is in
      let less : gone < m = omega (arith, last.0) in
      not_both_ways (here m) there (behind m (omega arith)))
      (λ no. no)
  not_behind m p (Some s) there behind last e =
      by_test (nat_eq gone p)
      (λ is.
      let same_one : gone ≡ p = same_number gone p is in
      let less : gone < m = omega (arith, last.0) in
      by_place m s
      (λ h. not_both_ways (here m) there (behind.2 m (omega arith) h))
      (λ h. not_both_ways (nat_eq s m) (subst (λ k. nat_eq s k ≡ true) (sym h) (itself s)) e)
      (λ h. not_both_ways (here s) behind.1 (last.2 s (omega (arith, behind.0)) h)))
      (λ no. no)

  on_from_before : (m : ℕ) (p s : Option ℕ) → IsLastBelow here gone p → IsFirstFrom here (gone + 1) s → is_there p m ≡ true → IsFirstFrom now (m + 1) s
  on_from_before m None s before behind e = not_both_ways false e refl
  on_from_before m (Some p) s before behind e =
      let is : p ≡ m = same_number p m e in
      let less : p < gone = before.0 in
      first_moves (m + 1) s (omega arith) (λ k from h. before.2 k (omega arith) h) behind

  back_from_behind : (m : ℕ) (p s : Option ℕ) → IsLastBelow here gone p → IsFirstFrom here (gone + 1) s → is_there s m ≡ true → IsLastBelow now m p
  back_from_behind m p None before behind e = not_both_ways false e refl
  back_from_behind m p (Some s) before behind e =
      let is : s ≡ m = same_number s m e in
      let more : gone < s = omega (arith, behind.0) in
      last_moves m p (omega arith) (λ k h under. behind.2 k (omega arith) (omega arith)) before

  goes_on_without : (m : ℕ) (p s o : Option ℕ) → now m ≡ true → IsLastBelow here gone p → IsFirstFrom here (gone + 1) s → IsFirstFrom here (m + 1) o → IsFirstFrom now (m + 1) (cond (is_there p m) s o)
  goes_on_without m p s o there before behind first =
      by_test (is_there p m)
      (λ e. subst (λ t. IsFirstFrom now (m + 1) (cond t s o)) (sym e) (on_from_before m p s before behind e))
      (λ e. subst (λ t. IsFirstFrom now (m + 1) (cond t s o)) (sym e) (first_stays (m + 1) o (λ k is. not_before m k p (sym (same m (other_one m there)) ∙ there) before (subst (IsFirstFrom here (m + 1)) is first) e) first))

  goes_back_without : (m : ℕ) (p s o : Option ℕ) → now m ≡ true → IsLastBelow here gone p → IsFirstFrom here (gone + 1) s → IsLastBelow here m o → IsLastBelow now m (cond (is_there s m) p o)
  goes_back_without m p s o there before behind last =
      by_test (is_there s m)
      (λ e. subst (λ t. IsLastBelow now m (cond t p o)) (sym e) (back_from_behind m p s before behind e))
      (λ e. subst (λ t. IsLastBelow now m (cond t p o)) (sym e) (last_stays m o (λ k is. not_behind m k s (sym (same m (other_one m there)) ∙ there) behind (subst (IsLastBelow here m) is last) e) last))

  later_first : (first p k : ℕ) → Some first ≡ Some k → IsFirstFrom here 0 (Some first) → IsLastBelow here gone (Some p) → nat_eq gone k ≡ false
  later_first first p k is begins before =
      let less : p < gone = before.0 in
      by_test (nat_eq gone k)
      (λ e.
      let one : gone ≡ k = same_number gone k e in
      let two : first ≡ k = some_is first k is in
      not_both_ways (here p) before.1 (begins.2 p (omega arith) (omega arith)))
      (λ no. no)

  earlier_last : (last s k size : ℕ) → s < size → Some last ≡ Some k → IsLastBelow here size (Some last) → IsFirstFrom here (gone + 1) (Some s) → nat_eq gone k ≡ false
  earlier_last last s k size under_size is stops behind =
      let more : gone < s = omega (arith, behind.0) in
      by_test (nat_eq gone k)
      (λ e.
      let one : gone ≡ k = same_number gone k e in
      let two : last ≡ k = some_is last k is in
      not_both_ways (here s) behind.1 (stops.2 s (omega arith) under_size))
      (λ no. no)

  begins_without : (ends : Option Ends) (p s : Option ℕ) → here gone ≡ true → IsFirstFrom here 0 (first_of ends) → IsLastBelow here gone p → IsFirstFrom here (gone + 1) s → IsFirstFrom now 0 (first_of (ends_without ends p s))
  unfolding ends_without
  begins_without None p s there begins before behind = not_both_ways (here gone) there (begins gone (omega arith))
  begins_without (Some e) None None there begins before behind = first_moves 0 None (omega arith) (λ k from h. before k h) behind
  begins_without (Some e) None (Some s) there begins before behind = first_moves 0 (Some s) (omega arith) (λ k from h. before k h) behind
  begins_without (Some e) (Some p) None there begins before behind = first_stays 0 (Some e.first) (λ k is. later_first e.first p k is begins before) begins
  begins_without (Some e) (Some p) (Some s) there begins before behind = first_stays 0 (Some e.first) (λ k is. later_first e.first p k is begins before) begins

  stops_without : (ends : Option Ends) (size : ℕ) (p s : Option ℕ) → ((k : ℕ) → size ≤ k → here k ≡ false) → gone < size → here gone ≡ true → IsLastBelow here size (last_of ends) → IsLastBelow here gone p → IsFirstFrom here (gone + 1) s → IsLastBelow now size (last_of (ends_without ends p s))
  unfolding ends_without
  stops_without None size p s under below there stops before behind = not_both_ways (here gone) there (stops gone below)
  stops_without (Some e) size None None under below there stops before behind = last_moves size None below (λ k h less. behind k (omega arith)) before
  stops_without (Some e) size (Some p) None under below there stops before behind = last_moves size (Some p) below (λ k h less. behind k (omega arith)) before
  stops_without (Some e) size None (Some s) under below there stops before behind = last_stays size (Some e.last) (λ k is. earlier_last e.last s k size (inside here size s under behind.1) is stops behind) stops
  stops_without (Some e) size (Some p) (Some s) under below there stops before behind = last_stays size (Some e.last) (λ k is. earlier_last e.last s k size (inside here size s under behind.1) is stops behind) stops

  -- the chain without the place
  pub chain_without : (size : ℕ) (ends : Option Ends) (after before after' before' : ℕ → Option ℕ) → here gone ≡ true → IsChain here size ends after before → ((m : ℕ) → here m ≡ true → after' m ≡ cond (is_there (before gone) m) (after gone) (after m)) → ((m : ℕ) → here m ≡ true → before' m ≡ cond (is_there (after gone) m) (before gone) (before m)) → IsChain now size (ends_without ends (before gone) (after gone)) after' before'
  chain_without size ends after before after' before' there chain on back =
      let last : IsLastBelow here gone (before gone) = chain.goes_back gone there in
      let next : IsFirstFrom here (gone + 1) (after gone) = chain.goes_on gone there in
      record {
        below = λ n h. none_now n (chain.below n h);
        begins = begins_without ends (before gone) (after gone) there chain.begins last next;
        stops = stops_without ends size (before gone) (after gone) chain.below (inside here size gone chain.below there) there chain.stops last next;
        goes_on = λ m h. let was : here m ≡ true = sym (same m (other_one m h)) ∙ h in subst (IsFirstFrom now (m + 1)) (sym (on m was)) (goes_on_without m (before gone) (after gone) (after m) h last next (chain.goes_on m was));
        goes_back = λ m h. let was : here m ≡ true = sym (same m (other_one m h)) ∙ h in subst (IsLastBelow now m) (sym (back m was)) (goes_back_without m (before gone) (after gone) (before m) h last next (chain.goes_back m was));
      }
