-- By two accounts that agree on what was heard, the same replies are owed.
use Rattle.std.proofs.Common.{◌≡◌, ℕ, Bool, true, false, cond, List, [], ◌∷◌, refl, ◌∙◌}
use Rattle.std.specs.Prelude.{◌+◌, ◌&&◌}
use Rattle.std.proofs.lemmas.Bool.{and_parts}
use Rattle.rdm_lists.specs.Lists.{Member}
use Rattle.rdm_num.specs.Pieces.{covers}
use Rattle.rdm_num.specs.declared.limits.EpLimits.{EpLimits}
use Rattle.rdm_match.specs.Matcher.{Pair, is_pair}
use Rattle.rdm_model.specs.Deeds.{Deed}
use Rattle.rdm_model.specs.Beginnings.{Own, Heads}
use Rattle.rdm_model.specs.Matches.{pairs}
use Rattle.rdm_model.specs.Parts.{carried_pieces}
use Rattle.rdm_model.specs.Sends.{Sent}
use Rattle.rdm_model.specs.Grants.{first_part, window_of, window, with_window, granted_bytes}
use Rattle.rdm_model.specs.Replies.{pair_items, pair_replies, replies_by}
use Rattle.rdm_model.proofs.Matches.{pair_heard}
use Rattle.rdm_model.proofs.SameMatches.{is_pair_heard, HeadsAgree, heads_before, pairs_same, carried_pieces_same}
use Rattle.rdm_model.proofs.SameReceives.{is_filled_same}
use Rattle.rdm_lists.proofs.Same.{flat_map_same}

-- values that agree where a test holds
pub cond_where : {A : Type 0} (b : Bool) (x y z : A) → (b ≡ true → x ≡ y) → cond b x z ≡ cond b y z
cond_where true x y z h = h refl
cond_where false x y z h = refl

-- the next window of a message is the same
pub window_same : (limits : EpLimits) (hs ks : Heads) (log : List Deed) (p : Pair) (granted : ℕ) → HeadsAgree hs ks log
    → window limits hs log p granted ≡ window limits ks log p granted
unfolding window
window_same limits hs ks log p granted a =
    let source = p.message.life in
    let n = p.message.no.0 in
    let so_far : ℕ = first_part log source n + granted in
    let m = pairs_same limits.first hs ks log a in
    let c = carried_pieces_same limits.first hs ks log source n a in
    let test : Bool = is_pair (pairs limits.first hs log) p.recv.id.0 source n && covers (carried_pieces limits.first hs log source n) so_far in
    cond_where test (window_of limits (hs source n) (hs source n).shape so_far) (window_of limits (ks source n) (ks source n).shape so_far) 0
    (λ is. let k = (and_parts (is_pair (pairs limits.first hs log) p.recv.id.0 source n) (covers (carried_pieces limits.first hs log source n) so_far) is).0 in
    let h = is_pair_heard limits.first hs log p.recv.id.0 source n k in
    let e = a source n h.0 h.1 in
    rw e refl)
    ∙ (rw (m, c) refl)

-- as many bytes are granted
pub granted_bytes_same : (limits : EpLimits) (hs ks : Heads) (log : List Deed) (p : Pair) → HeadsAgree hs ks log
    → granted_bytes limits hs log p ≡ granted_bytes limits ks log p
unfolding granted_bytes with_window
granted_bytes_same limits hs ks [] p a = refl
granted_bytes_same limits hs ks (d ∷ before) p a =
    let earlier = granted_bytes_same limits hs ks before p (heads_before hs ks d before a) in
    let newest = window_same limits hs ks (d ∷ before) p (granted_bytes limits ks before p) a in
    rw (earlier, newest) refl

-- a pair owes the same
pub pair_items_same : (own : Own) (hs ks : Heads) (d : Deed) (before : List Deed) (p : Pair) → HeadsAgree hs ks (d ∷ before)
    → Member p (pairs own.limits.first hs (d ∷ before)) → pair_items own hs d before p ≡ pair_items own ks d before p
unfolding pair_items
pair_items_same own hs ks d before p a m =
    let b = heads_before hs ks d before a in
    let h = pair_heard own.limits.first hs (d ∷ before) p m in
    let e = a p.message.life p.message.no.0 h.0 h.1 in
    let g = granted_bytes_same own.limits hs ks before p b in
    let w = window_same own.limits hs ks (d ∷ before) p (granted_bytes own.limits ks before p) a in
    let n = pairs_same own.limits.first hs ks before b in
    let f = is_filled_same own.limits.first hs ks (d ∷ before) p a in
    let k = is_filled_same own.limits.first hs ks before p b in
    rw (g, w, n, f, k, e) refl

-- a deed makes the same replies owed
pub replies_by_same : (own : Own) (hs ks : Heads) (sents : List Sent) (d : Deed) (before : List Deed) → HeadsAgree hs ks (d ∷ before)
    → replies_by own hs sents d before ≡ replies_by own ks sents d before
unfolding replies_by pair_replies
replies_by_same own hs ks sents d before a =
    let m = pairs_same own.limits.first hs ks (d ∷ before) a in
    let f = flat_map_same (pair_replies own hs d before) (pair_replies own ks d before) (pairs own.limits.first hs (d ∷ before))
    (λ p k. let i = pair_items_same own hs ks d before p a k in rw i refl) in
    rw (f, m) refl
