-- What a push or a fetch by a port's passes does to their account and counts.
use Rattle.std.proofs.Common.{◌≡◌, ℕ, zero, suc, ◌+◌, ◌<◌, ◌≤◌, ◌==◌, cond, true, false, List, [], ◌∷◌, ◌++◌, length, map, sum_by, sym, refl, ap, ◌∙◌, subst, arith, add-zero, inl, inr, ◌⊎◌, eq-eqb, ne_eqb, Result, Ok, Err, MatchResult, OnOk, OnErr, Option, Some, None, MatchOption, IfSome, IfNone}
use Rattle.std.specs.Prelude.{slice_get}
use Rattle.std.proofs.Math.Path.{fun_ext}
use Rattle.std.proofs.lemmas.List.Sums.{sum_by-cons}
use mathlib.Core.Logic.{dite}
use native.Mathlib.Decide.{ℕ_discrete}
use Rattle.rdm_wire.specs.declared.Datagram.{Datagram}
use Rattle.rdm_wire.specs.Counts.{Rose}
use Rattle.rdm_wire.specs.Accounts.{added_at, after_push, after_fetches}
use Rattle.rdm_inbox.specs.declared.post.SenderPost.{SenderPost}
use Rattle.rdm_inbox.specs.Senders.{list_at, changed_at}
use Rattle.rdm_inbox.specs.Letters.{with_sent, with_full, with_taken, with_empty}
use Rattle.rdm_inbox.specs.Passes.{InboxState, SendState}
use Rattle.rdm_inbox.specs.Queues.{PassesState, IsSendOf, ArePassesOf, sent_to, taken_by, account_of, fulls_of, empties_of, no_flight, with_sender_at, with_reader, after_sent, after_found_full}
use Rattle.rdm_inbox.proofs.Places.{changed_at-here, changed_at-else, length-changed_at}
use Rattle.rdm_inbox.proofs.Passing.{same_some}

module _ {A : Type 0} (f : A → A) where
  -- an element of the changed list
  pub at_changed : (xs : List A) (i j : ℕ) (y : A) → slice_get (changed_at f xs i) j ≡ Some y → (x : A) × (slice_get xs j ≡ Some x) × ((y ≡ f x) ⊎ (y ≡ x))
  at_changed [] i j y e = absurd (cc)
  at_changed (x ∷ xs) zero zero y e = (x, refl, inl (same_some y (f x) (sym e)))
  at_changed (x ∷ xs) zero (suc j) y e = (y, e, inr refl)
  at_changed (x ∷ xs) (suc i) zero y e = (x, refl, inr (same_some y x (sym e)))
  at_changed (x ∷ xs) (suc i) (suc j) y e = at_changed xs i j y e

  -- what the change keeps of each element, it keeps of all
  pub map-same : {B : Type 0} (g : A → B) → ((x : A) → g (f x) ≡ g x) → (xs : List A) (i : ℕ) → map g (changed_at f xs i) ≡ map g xs
  map-same g same [] i = refl
  map-same g same (x ∷ xs) zero = ap (λ y. y ∷ map g xs) (same x)
  map-same g same (x ∷ xs) (suc i) = ap (λ ys. g x ∷ ys) (map-same g same xs i)

  -- and what it does to each
  pub map-changed : {B : Type 0} (g : A → B) (h : B → B) → ((x : A) → g (f x) ≡ h (g x)) → (xs : List A) (i : ℕ) → map g (changed_at f xs i) ≡ changed_at h (map g xs) i
  map-changed g h same [] i = refl
  map-changed g h same (x ∷ xs) zero = ap (λ y. y ∷ map g xs) (same x)
  map-changed g h same (x ∷ xs) (suc i) = ap (λ ys. g x ∷ ys) (map-changed g h same xs i)

  -- a sum grows by what the change adds to a term
  pub sum_by-changed : (g : A → ℕ) (k : ℕ) → ((x : A) → g (f x) ≡ g x + k) → (xs : List A) (i : ℕ) → i < length xs → sum_by g (changed_at f xs i) ≡ sum_by g xs + k
  sum_by-changed g k more [] i lt = absurd (omega arith)
  sum_by-changed g k more (x ∷ xs) zero lt = omega (arith, sum_by-cons g (f x) xs, sum_by-cons g x xs, more x)
  sum_by-changed g k more (x ∷ xs) (suc i) lt = omega (arith, sum_by-cons g x (changed_at f xs i), sum_by-cons g x xs, sum_by-changed g k more xs i (omega arith))

pub length-map-of : {A B : Type 0} (g : A → B) (xs : List A) → length (map g xs) ≡ length xs
length-map-of g [] = refl
length-map-of g (x ∷ xs) = ap suc (length-map-of g xs)

-- a pass of a sender, after it learnt something
abbrev learnt : (SenderPost → SenderPost) → SendState → SendState
learnt f s = record s { post = f s.post }

-- the passes stay those of the port
still_passes : (f : SenderPost → SenderPost) → ((s : SenderPost) → ((f s).from ≡ s.from) × ((f s).port ≡ s.port) × ((f s).ports ≡ s.ports))
    → (tables : List InboxState) (v : PassesState) (i : ℕ) → ArePassesOf tables v → ArePassesOf tables (with_sender_at f v i)
still_passes f keeps tables v i o = record {
  each = λ to s at. let was = at_changed (learnt f) v.senders i to s at in let old = o.each to was.0 was.1 in
      elim was.2 [
        | inl e ↦ subst (IsSendOf tables v.port to) (sym e) (let k = keeps was.0.post in record { named = old.named; from = k.0 ∙ old.from; to_port = k.1 ∙ old.to_port; ports = k.2 ∙ old.ports })
        | inr e ↦ subst (IsSendOf tables v.port to) (sym e) old
      ];
  all = length-changed_at (learnt f) v.senders i ∙ o.all;
  reader = o.reader;
  alone = o.alone;
}

-- a push by a port's passes
module _ (v w : PassesState) (d : Datagram) (X : Type 0) where
  abbrev Told : Result (Unit {0}) Datagram → Type 0
  Told result = MatchResult result (λ _. w ≡ after_sent v d) (λ back. (back ≡ d) × (w ≡ after_found_full v d.dst.0) × X)

  pub push_still : (tables : List InboxState) (result : Result (Unit {0}) Datagram) → Told result → ArePassesOf tables v → ArePassesOf tables w
  push_still tables (Ok x) told o = subst (ArePassesOf tables) (sym told) (still_passes (λ s. with_sent s d) (λ s. (refl, refl, refl)) tables v d.dst.0 o)
  push_still tables (Err x) told o = subst (ArePassesOf tables) (sym told.1) (still_passes with_full (λ s. (refl, refl, refl)) tables v d.dst.0 o)

  -- the datagrams sent to each port
  pushed : d.dst.0 < length v.senders → (p : ℕ) → sent_to (after_sent v d) p ≡ added_at d.dst.0 (d ∷ []) (sent_to v) p
  unfolding added_at
  pushed low p =
      let lists = map (λ (s : SendState). s.post.sent) v.senders in let add = λ (ds : List Datagram). ds ++ d ∷ [] in let long = length-map-of (λ (s : SendState). s.post.sent) v.senders in
      ap (λ l. list_at l p) (map-changed (learnt (λ s. with_sent s d)) (λ s. s.post.sent) add (λ s. refl) v.senders d.dst.0) ∙ dite (ℕ_discrete p d.dst.0)
      (λ e. subst (λ q. list_at (changed_at add lists d.dst.0) q ≡ cond (q == d.dst.0) (list_at lists q ++ d ∷ []) (list_at lists q)) (sym e)
      (changed_at-here add lists d.dst.0 [] (omega arith) ∙ sym (ap (λ b. cond b (list_at lists d.dst.0 ++ d ∷ []) (list_at lists d.dst.0)) (eq-eqb d.dst.0 d.dst.0 refl))))
      (λ ne. changed_at-else add lists d.dst.0 p [] ne ∙ sym (ap (λ b. cond b (list_at lists p ++ d ∷ []) (list_at lists p)) (ne_eqb p d.dst.0 ne)))

  pub push_account : (result : Result (Unit {0}) Datagram) → Told result → d.dst.0 < length v.senders → OnOk result (Some (account_of w) ≡ Some (after_push d (account_of v)))
  push_account (Ok x) told low =
      ap (λ u. Some (account_of u)) told ∙ ap (λ (f : ℕ → List Datagram). Some (record { pushed = f; fetched = (account_of v).fetched })) (fun_ext (pushed low))
  push_account (Err x) told low = tt

  pub push_same : (result : Result (Unit {0}) Datagram) → Told result → OnErr result (Some (account_of w) ≡ Some (account_of v))
  push_same (Ok x) told = tt
  push_same (Err x) told = ap (λ u. Some (account_of u)) told.1
      ∙ ap (λ l. Some (record { pushed = list_at l; fetched = (account_of v).fetched })) (map-same (learnt with_full) (λ (s : SendState). s.post.sent) (λ s. refl) v.senders d.dst.0)

  fulls_sent : d.dst.0 < length v.senders → fulls_of (after_sent v d) ≡ fulls_of v + 0
  fulls_sent low = sum_by-changed (learnt (λ s. with_sent s d)) (λ s. s.post.fulls) 0 (λ s. sym (add-zero s.post.fulls)) v.senders d.dst.0 low

  fulls_more : d.dst.0 < length v.senders → fulls_of (after_found_full v d.dst.0) ≡ fulls_of v + 1
  fulls_more low = sum_by-changed (learnt with_full) (λ s. s.post.fulls) 1 (λ s. refl) v.senders d.dst.0 low

  pub push_counts : (result : Result (Unit {0}) Datagram) → Told result → d.dst.0 < length v.senders → (fulls_of v ≤ fulls_of w) × (empties_of w ≡ empties_of v)
  push_counts (Ok x) told low = let e = ap fulls_of told ∙ fulls_sent low in (omega arith, ap empties_of told)
  push_counts (Err x) told low = let e = ap fulls_of told.1 ∙ fulls_more low in (omega arith, ap empties_of told.1)

  pub push_uncounted : (result : Result (Unit {0}) Datagram) → Told result → d.dst.0 < length v.senders → OnOk result (fulls_of w ≡ fulls_of v)
  push_uncounted (Ok x) told low = ap fulls_of told ∙ fulls_sent low ∙ add-zero (fulls_of v)
  push_uncounted (Err x) told low = tt

  pub push_rose : (result : Result (Unit {0}) Datagram) → Told result → d.dst.0 < length v.senders → OnErr result (Rose (fulls_of v) (fulls_of w))
  push_rose (Ok x) told low = tt
  push_rose (Err x) told low = let e = ap fulls_of told.1 ∙ fulls_more low in omega arith

-- a fetch by a port's passes
module _ (v w : PassesState) (X : Datagram → Type 0) where
  abbrev Got : Option Datagram → Type 0
  Got result = MatchOption result (w ≡ with_reader with_empty v) (λ d. (w ≡ with_reader (λ r. with_taken r d) v) × X d)

  -- the datagrams taken at each port
  fetched : (d : Datagram) (p : ℕ) → cond (p == v.port) (taken_by v ++ d ∷ []) [] ≡ added_at v.port (d ∷ []) (account_of v).fetched p
  unfolding added_at
  fetched d p = elim (p == v.port) as (λ b. cond b (taken_by v ++ d ∷ []) [] ≡ cond b (cond b (taken_by v) [] ++ d ∷ []) (cond b (taken_by v) [])) [ true ↦ refl | false ↦ refl ]

  pub fetch_account : (result : Option Datagram) → Got result → (port : ℕ) → port ≡ v.port
      → IfSome result (λ d. Some (account_of w) ≡ Some (after_fetches port (d ∷ []) (account_of v)))
  fetch_account None told port e = tt
  fetch_account (Some d) told port e =
      subst (λ q. Some (account_of w) ≡ Some (after_fetches q (d ∷ []) (account_of v))) (sym e)
      (ap (λ u. Some (account_of u)) told.0 ∙ ap (λ (f : ℕ → List Datagram). Some (record { pushed = (account_of v).pushed; fetched = f })) (fun_ext (fetched d)))

  pub fetch_same : (result : Option Datagram) → Got result → IfNone result (Some (account_of w) ≡ Some (account_of v))
  fetch_same None told = ap (λ u. Some (account_of u)) told
  fetch_same (Some d) told = tt

-- with nothing said of what is in flight
pub told_same : (result : Result (Unit {0}) Datagram) (P : Type 0) → OnErr result P → OnErr result (P × (no_flight ≡ no_flight))
told_same (Ok x) P h = tt
told_same (Err x) P h = (h, refl)

pub got_same : (result : Option Datagram) (P : Type 0) → IfNone result P → IfNone result (P × (no_flight ≡ no_flight))
got_same None P h = (h, refl)
got_same (Some d) P h = tt
