-- One more reader's pass takes in a sender of a row, from the last on.
use Rattle.std.proofs.Common.{◌≡◌, ℕ, zero, suc, ◌+◌, ◌-◌, ◌<◌, List, [], ◌∷◌, ◌++◌, length, set, take, get_or, nat_le, sym, refl, ap, ◌∙◌, subst, arith, Some}
use Rattle.std.specs.Prelude.{slice_get}
use Rattle.rdm_inbox.specs.Letters.{with_sender}
use Rattle.rdm_inbox.specs.Passes.{InboxState, SendState}
use Rattle.rdm_inbox.specs.Queues.{PassesState, with_reader}
use Rattle.rdm_inbox.specs.Sharing.{AreNamed, AreNext, with_next}
use Rattle.rdm_inbox.proofs.Passing.{same_some, slice_get-low, slice_get-name}
use Rattle.rdm_inbox.proofs.Pointwise.{Changed, Changed-here, Changed-more, slice_get-take, take-less, le-self, le-next, le-others}

-- the passes that have taken in their sender, from a place on
abbrev pub Joined : (row : List SendState) (all : List PassesState) → ℕ → List PassesState → Type 0
Joined row all n now = Changed (λ i. nat_le n i) (λ i. with_next (slice_get row i)) all now

slice_get-last : (xs : List SendState) (x : SendState) (n : ℕ) → length xs ≡ n → slice_get (xs ++ x ∷ []) n ≡ Some x
slice_get-last [] x zero e = refl
slice_get-last [] x (suc n) e = absurd (omega arith)
slice_get-last (y ∷ xs) x zero e = absurd (omega arith)
slice_get-last (y ∷ xs) x (suc n) e = slice_get-last xs x n (omega arith)

-- the sender that is taken from the end of what is left of a row
module _ (row left rest : List SendState) (m k : ℕ) (pass : SendState) (last : m ≡ k + 1) (so_far : left ≡ take m row) (popped : left ≡ rest ++ pass ∷ []) (long : length rest ≡ k) where
  pub there : slice_get row k ≡ Some pass
  there = sym (slice_get-take row m k (omega arith)) ∙ (ap (λ l. slice_get l k) (sym so_far ∙ popped) ∙ slice_get-last rest pass k long)

  pub less : rest ≡ take (m - 1) left → rest ≡ take k row
  less e = e ∙ (ap (take (m - 1)) so_far ∙ (ap (λ n. take (n - 1) (take n row)) last ∙ (ap (λ n. take n (take (k + 1) row)) (let n : k + 1 - 1 ≡ k = omega arith in n) ∙ (ap (λ n. take k (take n row)) (let n : k + 1 ≡ suc k = omega arith in n) ∙ take-less row k))))

  module _ (all now : List PassesState) (d : PassesState) (joined : Joined row all m now) (next : AreNext all row) where
    low : k < length all
    low = let lt = slice_get-low row k pass there in let n = next.count in omega arith

    -- the passes that come next, as they were
    pub next_at : slice_get all k ≡ Some (get_or now k d)
    next_at = Changed-here (λ i. nat_le m i) (λ i. with_next (slice_get row i)) all now k d joined low (ap (λ n. nat_le n k) last ∙ le-next k)

    pub next_of : (tables : List InboxState) (t : InboxState) → AreNamed tables all → slice_get tables k ≡ Some t → ((get_or now k d).reader.table ≡ t.table) × (pass.table ≡ t.table)
    next_of tables t named at =
        let same = same_some (get_or now k d).reader.table t.table (sym (named.each k (get_or now k d) next_at) ∙ slice_get-name tables k t at) in (same, (next.each k (get_or now k d) pass next_at there).0 ∙ same)

    pub next_from : pass.post.from ≡ length (get_or now k d).reader.post.known
    next_from = (next.each k (get_or now k d) pass next_at there).1

    pub joined_more : (w : PassesState) → w ≡ with_reader (λ r. with_sender r pass.post) (get_or now k d) → Joined row all k (set now k w)
    joined_more w is =
        subst (λ y. Joined row all k (set now k y)) (ap (λ o. with_next o (get_or now k d)) there ∙ sym is)
        (Changed-more (λ i. nat_le m i) (λ i. nat_le k i) (λ i. with_next (slice_get row i)) all now k (get_or now k d) joined next_at (le-self k) (λ i ne. le-others k i ne ∙ ap (λ n. nat_le n i) (sym last)))
