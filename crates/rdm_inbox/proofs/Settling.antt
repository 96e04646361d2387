-- One more reader's pass forgets what was taken.
use Rattle.std.proofs.Common.{◌≡◌, ℕ, ◌+◌, ◌<◌, ◌++◌, List, sym, ap, ◌∙◌, subst, arith, set, nat_lt, Some}
use Rattle.std.specs.Prelude.{slice_get}
use mathlib.Core.Logic.{dite}
use native.Mathlib.Decide.{ℕ_discrete}
use Rattle.rdm_inbox.specs.Senders.{from_port, list_at}
use Rattle.rdm_inbox.specs.Letters.{but_taken}
use Rattle.rdm_inbox.specs.Queues.{PassesState, with_reader, taken_by}
use Rattle.rdm_inbox.specs.Sharing.{AreSettled, Remains}
use Rattle.rdm_inbox.proofs.Passing.{same_some}
use Rattle.rdm_inbox.proofs.Pointwise.{Changed, Changed-more, lt-next, lt-others}

-- the passes that have settled, as places that changed
pub changed : (all : List PassesState) (n : ℕ) (now : List PassesState) → AreSettled all n now → Changed (λ i. nat_lt i n) (λ _. with_reader but_taken) all now
changed all n now s = record { each = s.each; count = s.count }

pub settled_more : (all : List PassesState) (n : ℕ) (now : List PassesState) (v w : PassesState) → AreSettled all n now → slice_get all n ≡ Some v → w ≡ with_reader but_taken v
    → ((p : ℕ) → p < v.reader.post.ports → from_port p v.reader.post.taken ++ list_at w.reader.post.known p ≡ list_at v.reader.post.known p) → AreSettled all (n + 1) (set now n w)
settled_more all n now v w s at is left =
    let more = Changed-more (λ i. nat_lt i n) (λ i. nat_lt i (n + 1)) (λ _. with_reader but_taken) all now n v (changed all n now s) at (lt-next n) (lt-others n) in
    let all_left : (port : ℕ) (u : PassesState) → slice_get all port ≡ Some u → port < n + 1 → Remains u =
    λ port u e lt. dite (ℕ_discrete port n)
    (λ same. subst Remains (same_some v u (sym at ∙ subst (λ k. slice_get all k ≡ Some u) same e))
    (λ p low. ap (λ (x : PassesState). from_port p (taken_by v) ++ list_at x.reader.post.known p) (sym is) ∙ left p low))
    (λ ne. s.left port u e (omega arith)) in
    subst (λ x. AreSettled all (n + 1) (set now n x)) (sym is) record { each = more.each; left = all_left; count = more.count }
