-- The pairs that a deed makes: each of a message that was early until then.
use Rattle.std.proofs.Common.{◌≡◌, ℕ, false, ◌&&◌, ◌||◌, List, [], ◌∷◌, ◌++◌, refl, inl, inr, sym, ◌∙◌, ap, subst}
use Rattle.std.specs.Prelude.{◌==◌}
use Rattle.std.specs.List.{list_any}
use Rattle.std.proofs.lemmas.Bool.{and_parts}
use Rattle.std.proofs.lemmas.List.Folds.{list_any-append}
use Rattle.rdm_lists.specs.Lists.{Member}
use Rattle.rdm_lists.proofs.Members.{member-append_left, member-append_right}
use Rattle.rdm_num.specs.Lives.{same_life}
use Rattle.rdm_match.specs.Matcher.{Pair}
use Rattle.rdm_model.specs.Beginnings.{Own}
use Rattle.rdm_model.specs.Completions.{Name, heard_names, is_matched}
use Rattle.rdm_model.specs.Currents.{is_forgotten}
use Rattle.rdm_model.specs.Deeds.{Deed}
use Rattle.rdm_model.specs.Heard.{has_entered}
use Rattle.rdm_law.proofs.Bound.Pigeons.{AreDistinct}
use Rattle.rdm_law.proofs.Lives.Lives.{LifeLocal}
use Rattle.rdm_law.proofs.Matching.Distinct.{matching_distinct}
use Rattle.rdm_law.proofs.Matching.Forgotten.{old_pair}
use Rattle.rdm_law.proofs.Matching.Numbered.{LacksPair, PairsApart, matching_numbered}
use Rattle.rdm_life.specs.Keeps.{told, own_pairs}
use Rattle.rdm_life.proofs.Made.{made}
use Rattle.rdm_life.proofs.EarlyWords.{pairs_before}
use Rattle.rdm_life.proofs.EnteringRow.{heard_name}
use Rattle.rdm_life.proofs.MessageFacts.{named}
use Rattle.rdm_life.proofs.Pairs.{pairs_added}
use Rattle.rdm_life.proofs.TakenBy.{false_unless, pair_of_message}

-- the message of a pair
abbrev pub name_of : Pair → Name
name_of p = named p.message.life p.message.no.0

-- a pair that the deed makes is one of those after it
pub made_after : (own : Own) (d : Deed) (before : List Deed) (p : Pair) → Member p (made own d before) → Member p (own_pairs own (d ∷ before))
made_after own d before p m = subst (λ (ps : List Pair). Member p ps) (sym (pairs_added own d before)) (member-append_right p (own_pairs own before) (made own d before) m)

-- a list that lacks a receive
lacks_it : (n : ℕ) (ps : List Pair) (p : Pair) → LacksPair n ps → Member p ps → p.recv.id.0 ≡ n → ⊥
lacks_it n [] p l m e = elim m [ ]
lacks_it n (q ∷ ps) p l (inl is) e = l.0 (ap (λ (x : Pair). x.recv.id.0) is ∙ e)
lacks_it n (q ∷ ps) p l (inr m) e = lacks_it n ps p l.1 m e

-- pairs that are apart are in one of two lists
apart_lists : (ps qs : List Pair) (p : Pair) → PairsApart (ps ++ qs) → Member p ps → Member p qs → ⊥
apart_lists [] qs p a m k = elim m [ ]
apart_lists (x ∷ ps) qs p a (inl is) k = lacks_it x.recv.id.0 (ps ++ qs) p a.0 (member-append_right p ps qs k) (ap (λ (y : Pair). y.recv.id.0) (sym is))
apart_lists (x ∷ ps) qs p a (inr m) k = apart_lists ps qs p a.1 m k

-- a pair that the deed makes was not there
pub made_new : (own : Own) (d : Deed) (before : List Deed) (p : Pair) → Member p (made own d before) → Member p (own_pairs own before) → ⊥
made_new own d before p m k =
    let apart = (matching_numbered own.limits.first (told own (d ∷ before)).head (d ∷ before)).pairs_apart in
    apart_lists (own_pairs own before) (made own d before) p (subst PairsApart (pairs_added own d before) apart) k m

-- its message was not matched
pub made_unmatched : (own : Own) (d : Deed) (before : List Deed) (p : Pair) → Member p (made own d before) → is_matched (own_pairs own before) (name_of p) ≡ false
made_unmatched own d before p m =
    false_unless (is_matched (own_pairs own before) (name_of p)) (λ is.
    let q = pair_of_message own before p.message.life p.message.no.0 is in
    let after : Member q.0 (own_pairs own (d ∷ before)) = subst (λ (ps : List Pair). Member q.0 ps) (sym (pairs_added own d before)) (member-append_left q.0 (own_pairs own before) (made own d before) q.1) in
    let same : q.0 ≡ p = (matching_distinct own.limits.first (told own (d ∷ before)).head (d ∷ before)).once q.0 p after (made_after own d before p m) q.2 q.3 in
    made_new own d before p m (subst (λ (x : Pair). Member x (own_pairs own before)) same q.1))

-- nor its life forgotten
pub made_kept : (own : Own) (d : Deed) (before : List Deed) (p : Pair) → LifeLocal own (d ∷ before) → Member p (made own d before) → is_forgotten before p.message.life ≡ false
made_kept own d before p local m =
    false_unless (is_forgotten before p.message.life) (λ is.
    let old = old_pair own own.limits.first (told own (d ∷ before)).head d before p local is (made_after own d before p m) in
    made_new own d before p m (subst (λ (ps : List Pair). Member p ps) (pairs_before own d before) old))

-- and it is among those that were heard of
pub made_heard : (own : Own) (d : Deed) (before : List Deed) (p : Pair) → Member p (made own d before) → Member (name_of p) (heard_names (d ∷ before))
unfolding has_entered
made_heard own d before p m =
    let known = (matching_distinct own.limits.first (told own (d ∷ before)).head (d ∷ before)).pairs_known p (made_after own d before p m) in
    heard_name (d ∷ before) p.message.life p.message.no.0 (and_parts _ _ known).1

-- two of them are of two messages
pub made_once : (own : Own) (d : Deed) (before : List Deed) (p q : Pair) → Member p (made own d before) → Member q (made own d before) → name_of p ≡ name_of q → p ≡ q
made_once own d before p q m k e =
    (matching_distinct own.limits.first (told own (d ∷ before)).head (d ∷ before)).once p q (made_after own d before p m) (made_after own d before q k)
    (ap (λ (x : Name). x.life) e) (ap (λ (x : Name). x.number) e)

-- a message was matched after a deed where it was before, or by it
pub matched_after_is : (own : Own) (d : Deed) (before : List Deed) (m : Name) → is_matched (own_pairs own (d ∷ before)) m ≡ (is_matched (own_pairs own before) m || is_matched (made own d before) m)
unfolding is_matched
matched_after_is own d before m =
    ap (λ (ps : List Pair). list_any (λ (p : Pair). same_life p.message.life m.life && p.message.no.0 == m.number) ps) (pairs_added own d before)
    ∙ list_any-append (λ (p : Pair). same_life p.message.life m.life && p.message.no.0 == m.number) (own_pairs own before) (made own d before)

-- lists of pairs that are apart are distinct
pub apart_distinct : (ps : List Pair) → PairsApart ps → AreDistinct ps
apart_distinct [] apart = tt
apart_distinct (p ∷ ps) apart = (λ m. lacks_it p.recv.id.0 ps p apart.0 m refl, apart_distinct ps apart.1)

-- the last of pairs that are apart
apart_rest : (ps qs : List Pair) → PairsApart (ps ++ qs) → PairsApart qs
apart_rest [] qs apart = apart
apart_rest (p ∷ ps) qs apart = apart_rest ps qs apart.1

-- the pairs that a deed makes are distinct
pub made_distinct : (own : Own) (d : Deed) (before : List Deed) → AreDistinct (made own d before)
made_distinct own d before =
    let apart = (matching_numbered own.limits.first (told own (d ∷ before)).head (d ∷ before)).pairs_apart in
    apart_distinct (made own d before) (apart_rest (own_pairs own before) (made own d before) (subst PairsApart (pairs_added own d before) apart))
