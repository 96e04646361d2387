-- Each receive and each message is matched once at most.
use Rattle.std.proofs.Common.{◌≡◌, ℕ, zero, suc, List, [], ◌∷◌, Some, refl, inl, inr, sym, ◌∙◌, ap}
use Rattle.std.specs.Prelude.{slice_get}
use Rattle.rdm_num.specs.declared.numbers.RecvNo.{RecvNo}
use Rattle.rdm_num.specs.declared.numbers.MsgNo.{MsgNo}
use Rattle.rdm_match.specs.Matcher.{Pair}
use Rattle.rdm_model.specs.declared.job.Job.{Job}
use Rattle.rdm_model.specs.declared.entry.Entry.{Entry}
use Rattle.rdm_model.specs.Lawful.{life_deeds, sent_to}
use Rattle.rdm_model.specs.Standing.{pairs_in}
use Rattle.rdm_law.specs.Matched.{MatchedOnce}
use Rattle.rdm_law.proofs.Matching.Numbered.{LacksPair, PairsApart, matching_numbered}
use Rattle.rdm_law.proofs.Matching.Distinct.{matching_distinct}
use Rattle.rdm_lists.proofs.Places.{slice_get-member}

-- pairs that lack a receive have it at no place
lacks_at : (n k : ℕ) (ps : List Pair) (p : Pair) → LacksPair n ps → slice_get ps k ≡ Some p → p.recv.id.0 ≡ n → ⊥
lacks_at n k [] p l h e = cc
lacks_at n zero (q ∷ ps) p l h e = let s : q ≡ p = cc in l.0 (ap (λ (x : Pair). x.recv.id.0) s ∙ e)
lacks_at n (suc k) (q ∷ ps) p l h e = lacks_at n k ps p l.1 h e

-- a receive is at one place of the pairs
apart_places : (k l : ℕ) (ps : List Pair) (p q : Pair) → PairsApart ps → slice_get ps k ≡ Some p → slice_get ps l ≡ Some q → p.recv.id.0 ≡ q.recv.id.0 → k ≡ l
apart_places k l [] p q a h i e = cc
apart_places zero zero (x ∷ ps) p q a h i e = refl
apart_places zero (suc l) (x ∷ ps) p q a h i e =
    let s : x ≡ p = cc in absurd (lacks_at x.recv.id.0 l ps q a.0 i (sym e ∙ ap (λ (y : Pair). y.recv.id.0) (sym s)))
apart_places (suc k) zero (x ∷ ps) p q a h i e =
    let s : x ≡ q = cc in absurd (lacks_at x.recv.id.0 k ps p a.0 h (e ∙ ap (λ (y : Pair). y.recv.id.0) (sym s)))
apart_places (suc k) (suc l) (x ∷ ps) p q a h i e = ap suc (apart_places k l ps p q a.1 h i e)

-- each receive and each message is matched once at most, by any account of the messages
pub matched_once : (job : Job) (history : List Entry) → MatchedOnce job history
unfolding pairs_in
matched_once job history i k l p q h m (inl e) =
    apart_places k l (pairs_in job history i) p q (matching_numbered job.limits.first (sent_to job history i).head (life_deeds job history i)).pairs_apart h m
    (ap (λ (x : RecvNo). x.0) e)
matched_once job history i k l p q h m (inr e) =
    let ps = pairs_in job history i in
    let d = matching_distinct job.limits.first (sent_to job history i).head (life_deeds job history i) in
    let same = d.once p q (slice_get-member ps k p h) (slice_get-member ps l q m) e.0 (ap (λ (x : MsgNo). x.0) e.1) in
    apart_places k l ps p q (matching_numbered job.limits.first (sent_to job history i).head (life_deeds job history i)).pairs_apart h m
    (ap (λ (x : Pair). x.recv.id.0) same)
