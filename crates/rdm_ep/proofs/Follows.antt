-- One step of the search for held messages that follow one another.
use Rattle.std.proofs.Common.{◌≡◌, ℕ, zero, suc, ◌+◌, List, [], ◌∷◌, ◌++◌, length, Some, None, refl, arith, ap, ◌∙◌, sym}
use Rattle.std.specs.Prelude.{◌==◌, find, remove, slice_get}
use Rattle.std.proofs.lemmas.Bool.{and_parts, eqb-true}
use Rattle.std.proofs.lemmas.List.{append-nil, append_assoc}
use Rattle.rdm_lists.specs.Lists.{without_first}
use Rattle.rdm_num.specs.Lives.{same_life}
use Rattle.rdm_num.specs.declared.numbers.Life.{Life}
use Rattle.rdm_ep.specs.declared.state.Inbound.{Inbound}
use Rattle.rdm_ep.specs.Places.{IsPlaced}
use Rattle.rdm_ep.specs.Entering.{is_message, message_then, following, left_held}
use Rattle.rdm_ep.proofs.Held.{without_length}
use Rattle.rdm_lists.proofs.Members.{find_member}

-- nothing follows
pub record Ends (most : ℕ) (held : List Inbound) (from : Life) (n : ℕ) : Type 0 where
  pub none : following most held from n ≡ []
  pub left : left_held most held from n ≡ held

-- so nothing more comes behind, and none counts
pub record EndsSo (most : ℕ) (held : List Inbound) (from : Life) (n : ℕ) : Type 0 where
  pub more : (entering : List Inbound) → entering ≡ entering ++ following most held from n
  pub left : left_held most held from n ≡ held
  pub count : length (following most held from n) ≡ 0

-- the one is the other
ends_so : (most : ℕ) (held : List Inbound) (from : Life) (n : ℕ) → Ends most held from n → EndsSo most held from n
ends_so most held from n e =
    record {
      more = λ entering. sym (ap (λ (is : List Inbound). entering ++ is) e.none ∙ append-nil entering);
      left = e.left;
      count = ap (λ (is : List Inbound). length is) e.none;
    }

-- nothing follows where none is found
found_none : (most : ℕ) (held : List Inbound) (from : Life) (n : ℕ) → find (is_message from n) held ≡ None → Ends most held from n
unfolding following left_held message_then
found_none zero held from n e = record { none = refl; left = refl }
found_none (suc most) held from n e = record { none = rw e refl; left = rw e refl }

pub ends : (most : ℕ) (held : List Inbound) (from : Life) (n : ℕ) → find (is_message from n) held ≡ None → EndsSo most held from n
ends most held from n e = ends_so most held from n (found_none most held from n e)

-- nor where none is held
pub empty_ends : (held : List Inbound) (from : Life) (n : ℕ) → length held ≡ 0 → EndsSo (length held) held from n
empty_ends [] from n e = ends 0 [] from n refl
empty_ends (i ∷ held) from n e = absurd (omega arith)

-- a message that is found follows, and then those after it
pub record FollowsSo (held now : List Inbound) (from : Life) (n : ℕ) (i : Inbound) : Type 0 where
  pub more : (entering : List Inbound) → (entering ++ i ∷ []) ++ following (length now) now from (i.no.0 + 1) ≡ entering ++ following (length held) held from n
  pub left : left_held (length held) held from n ≡ left_held (length now) now from (i.no.0 + 1)
  pub count : i.no.0 + 1 + length (following (length now) now from (i.no.0 + 1)) ≡ n + length (following (length held) held from n)
  pub fewer : length now + 1 ≡ length held

-- one step
step : (most : ℕ) (held : List Inbound) (from : Life) (n : ℕ) (i : Inbound) → find (is_message from n) held ≡ Some i
    → (following (suc most) held from n ≡ i ∷ following most (without_first (is_message from n) held) from (n + 1)) × (left_held (suc most) held from n ≡ left_held most (without_first (is_message from n) held) from (n + 1))
unfolding following left_held message_then
step most held from n i e = (rw e refl, rw e refl)

-- the same where the message was taken out
pub follows : (held now : List Inbound) (from : Life) (n : ℕ) (i : Inbound) (at : ℕ) → IsPlaced (is_message from n) held at → slice_get held at ≡ Some i → now ≡ remove held at → FollowsSo held now from n i
follows held now from n i at placed e r =
    let found : find (is_message from n) held ≡ Some i = placed.found ∙ e in
    let same : without_first (is_message from n) held ≡ now = placed.without ∙ sym r in
    let fewer : length now + 1 ≡ length held = ap (λ (is : List Inbound). length is + 1) (sym same) ∙ without_length (is_message from n) held i found in
    let number : i.no.0 ≡ n = eqb-true i.no.0 n (and_parts (same_life i.life from) (i.no.0 == n) (find_member (is_message from n) i held found).1).1 in
    let s = step (length now) held from n i found in
    let size : suc (length now) ≡ length held = omega arith in
    let F : ℕ → List Inbound = λ k. following k held from n in
    let L : ℕ → List Inbound = λ k. left_held k held from n in
    let f : following (length held) held from n ≡ i ∷ following (length now) now from (i.no.0 + 1) =
    ap F (sym size) ∙ s.0 ∙ ap (λ (is : List Inbound). i ∷ following (length now) is from (n + 1)) same ∙ ap (λ (x : ℕ). i ∷ following (length now) now from (x + 1)) (sym number) in
    let l : left_held (length held) held from n ≡ left_held (length now) now from (i.no.0 + 1) =
    ap L (sym size) ∙ s.1 ∙ ap (λ (is : List Inbound). left_held (length now) is from (n + 1)) same ∙ ap (λ (x : ℕ). left_held (length now) now from (x + 1)) (sym number) in
    record {
      more = λ entering. append_assoc entering (i ∷ []) (following (length now) now from (i.no.0 + 1)) ∙ ap (λ (is : List Inbound). entering ++ is) (sym f);
      left = l;
      count = (let c = ap (λ (is : List Inbound). length is) f in omega arith);
      fewer = fewer;
    }
