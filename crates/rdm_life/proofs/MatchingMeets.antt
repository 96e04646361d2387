-- Messages and receives that meet: what is kept of messages then.
use Rattle.std.proofs.Common.{◌≡◌, ℕ, ◌-◌, Bool, true, false, cond, ◌&&◌, ◌||◌, List, [], ◌∷◌, filter, length, None, refl, sym, ◌∙◌, ap, subst, append-nil}
use Rattle.rdm_lists.proofs.Same.{filter_same}
use Rattle.rdm_num.specs.Lives.{same_life}
use Rattle.rdm_num.specs.declared.numbers.Life.{Life}
use Rattle.rdm_num.specs.declared.request.RecvReq.{RecvReq}
use Rattle.rdm_match.specs.Matcher.{Pair}
use Rattle.rdm_model.specs.declared.job.Instr.TheVariants.{Recv}
use Rattle.rdm_model.specs.Beginnings.{Own}
use Rattle.rdm_model.specs.Completions.{Name, named_by, heard_names, is_matched, early_count}
use Rattle.rdm_model.specs.Currents.{is_forgotten, forgotten_by}
use Rattle.rdm_model.specs.Deeds.{Deed, Did}
use Rattle.rdm_model.specs.Grants.{first_part_by}
use Rattle.rdm_model.specs.Heard.{head_by, is_heard, is_next_message}
use Rattle.rdm_model.specs.Parts.{carried_by}
use Rattle.rdm_law.proofs.Lives.Lives.{LifeLocal}
use Rattle.rdm_life.specs.Kept.{Kept}
use Rattle.rdm_life.specs.Keeps.{own_pairs, early_message, waits_early, KeepsLives, KeepsMatching}
use Rattle.rdm_life.specs.Landing.{settle, meet}
use Rattle.rdm_life.specs.Receiving.{with_live, receive_in}
use Rattle.rdm_life.specs.Handling.{after as after_deed, after_instr}
use Rattle.rdm_life.proofs.EarlyCounts.{early_after}
use Rattle.rdm_life.proofs.EarlyWords.{early_still}
use Rattle.rdm_life.proofs.Entered.{recv_entered}
use Rattle.rdm_life.proofs.Made.{made, matched_after}
use Rattle.rdm_life.proofs.MadePairs.{matched_after_is}
use Rattle.rdm_life.proofs.MatchingQuiet.{still_heard, still_next}
use Rattle.rdm_life.proofs.MatchingSilent.{still_forgotten, no_wait}
use Rattle.rdm_life.proofs.MessageFacts.{named}
use Rattle.rdm_life.proofs.MessageStands.{early_none}
use Rattle.rdm_life.proofs.Tests.{and_all, or_none}

-- what is kept of messages before those that a deed pairs meet
pub record Faces (own : Own) (d : Deed) (before : List Deed) (u : Kept) : Type 0 where
  pub forgotten : (life : Life) → is_forgotten (d ∷ before) life ≡ is_forgotten before life
  pub heard : (life : Life) → is_forgotten before life ≡ false → (n : ℕ) → (u.peers life).heard n ≡ is_heard (d ∷ before) life n
  pub next : (life : Life) → is_forgotten before life ≡ false → is_next_message own.limits.first (d ∷ before) life (u.peers life).next ≡ true
  pub early : (life : Life) → is_forgotten before life ≡ false → (n : ℕ) → is_matched (made own d before) (named life n) ≡ false → u.early life n ≡ early_message own (d ∷ before) life n
  pub early_of : (life : Life) → is_forgotten before life ≡ false → u.early_of life ≡ length (filter (λ (m : Name). waits_early own before m && same_life m.life life) (heard_names (d ∷ before)))
  pub early_count : u.early_count ≡ length (filter (waits_early own before) (heard_names (d ∷ before)))

-- either of a test and all, and of a test and nothing
or_all : (b : Bool) → (b || true) ≡ true
or_all true = refl
or_all false = refl

-- all pass
filter_true : (ps : List Pair) → filter (λ (p : Pair). true) ps ≡ ps
filter_true [] = refl
filter_true (p ∷ ps) = ap (λ (qs : List Pair). p ∷ qs) (filter_true ps)

-- a message that the deed matches is early no more
matched_none : (own : Own) (d : Deed) (before : List Deed) (life : Life) (n : ℕ) → is_matched (made own d before) (named life n) ≡ true → early_message own (d ∷ before) life n ≡ None
matched_none own d before life n is =
    early_none own (d ∷ before) life n
    (no_wait (is_heard (d ∷ before) life n) _ (matched_after_is own d before (named life n) ∙ ap (λ (b : Bool). is_matched (own_pairs own before) (named life n) || b) is ∙ or_all (is_matched (own_pairs own before) (named life n))))

-- once they met
pub meets_matching : (own : Own) (d : Deed) (before : List Deed) (u : Kept) → LifeLocal own (d ∷ before) → Faces own d before u → KeepsMatching own (d ∷ before) (matched_after own d before u)
unfolding meet settle early_count
meets_matching own d before u local f = record {
  heard_is = λ life kept n. f.heard life (sym (f.forgotten life) ∙ kept) n;
  next_is = λ life kept. f.next life (sym (f.forgotten life) ∙ kept);
  posted_is = refl;
  arrived_is = refl;
  early_is = λ life kept n.
      (elim (is_matched (made own d before) (named life n)) as (λ b. is_matched (made own d before) (named life n) ≡ b → cond b None (u.early life n) ≡ early_message own (d ∷ before) life n) [
        | true ↦ λ is. sym (matched_none own d before life n is)
        | false ↦ λ is. f.early life (sym (f.forgotten life) ∙ kept) n is
      ])
      refl;
  early_of_is = λ life kept.
      ap (λ (k : ℕ). k - length (filter (λ (p : Pair). same_life p.message.life life) (made own d before))) (f.early_of life (sym (f.forgotten life) ∙ kept))
      ∙ sym (early_after own d before (λ (m : Name). same_life m.life life) local f.forgotten);
  early_count_is =
      ap (λ (k : ℕ). k - length (made own d before)) f.early_count
      ∙ ap (λ (k : ℕ). length (filter (waits_early own before) (heard_names (d ∷ before))) - k) (ap (λ (ps : List Pair). length ps) (sym (filter_true (made own d before))))
      ∙ ap (λ (k : ℕ). k - length (filter (λ (p : Pair). true) (made own d before)))
      (ap (λ (ms : List Name). length ms) (filter_same (waits_early own before) (λ (m : Name). waits_early own before m && true) (heard_names (d ∷ before)) (λ m. sym (and_all (waits_early own before m)))))
      ∙ sym (early_after own d before (λ (m : Name). true) local f.forgotten)
      ∙ ap (λ (ms : List Name). length ms) (filter_same (λ (m : Name). waits_early own (d ∷ before) m && true) (waits_early own (d ∷ before)) (heard_names (d ∷ before)) (λ m. and_all (waits_early own (d ∷ before) m)));
}

-- an accepted receive
pub recv_matching : (own : Own) (req : RecvReq) (before : List Deed) (v : Kept) → LifeLocal own (Did (Recv req) ∷ before) → KeepsLives own before v → KeepsMatching own before v
    → KeepsMatching own (Did (Recv req) ∷ before) (after_deed (Did (Recv req)) v)
unfolding after_deed after_instr heard_names named_by head_by first_part_by carried_by forgotten_by early_count
recv_matching own req before v local lives k =
    let d : Deed = Did (Recv req) in
    let u = with_live (receive_in v req) v in
    let names = append-nil (heard_names before) in
    subst (KeepsMatching own (d ∷ before)) (sym (recv_entered own before v req lives k))
    (meets_matching own d before u local
    (record {
      forgotten = λ life. still_forgotten before d life refl;
      heard = λ life kept n. k.heard_is life kept n ∙ sym (still_heard before d life n refl);
      next = λ life kept. still_next own.limits.first d before life (v.peers life).next (λ n. still_heard before d life n refl) ∙ k.next_is life kept;
      early = λ life kept n unmatched.
          k.early_is life kept n
          ∙ sym (early_still own d before life n refl refl refl
          (matched_after_is own d before (named life n) ∙ ap (λ (b : Bool). is_matched (own_pairs own before) (named life n) || b) unmatched ∙ or_none (is_matched (own_pairs own before) (named life n))));
      early_of = λ life kept. k.early_of_is life kept ∙ ap (λ (ns : List Name). length (filter (λ (m : Name). waits_early own before m && same_life m.life life) ns)) (sym names);
      early_count = k.early_count_is ∙ ap (λ (ns : List Name). length (filter (waits_early own before) ns)) (sym names);
    }))
