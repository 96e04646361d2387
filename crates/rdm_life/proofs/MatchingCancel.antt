-- A receive that is taken back: the matcher has it no more, and messages are as they were.
use Rattle.std.proofs.Common.{◌≡◌, List, ◌∷◌, refl, sym, ◌∙◌, ap, append-nil}
use Rattle.rdm_lists.specs.Lists.{without_first}
use Rattle.rdm_num.specs.declared.numbers.RecvNo.{RecvNo}
use Rattle.rdm_match.specs.Matcher.{Pair, after, run, is_recv}
use Rattle.rdm_model.specs.declared.job.Instr.TheVariants.{Cancel as CancelOp}
use Rattle.rdm_model.specs.Beginnings.{Own}
use Rattle.rdm_model.specs.Completions.{named_by, heard_names, is_matched}
use Rattle.rdm_model.specs.Deeds.{Deed, Did}
use Rattle.rdm_model.specs.Heard.{head_by}
use Rattle.rdm_model.specs.Grants.{first_part_by}
use Rattle.rdm_model.specs.Parts.{carried_by}
use Rattle.rdm_model.specs.Currents.{forgotten_by}
use Rattle.rdm_model.specs.Matches.{events_by}
use Rattle.rdm_life.specs.Kept.{Kept}
use Rattle.rdm_life.specs.Keeps.{own_matching, own_pairs, KeepsMatching}
use Rattle.rdm_life.specs.Receiving.{after_cancel}
use Rattle.rdm_life.specs.Handling.{after as after_deed, after_instr}
use Rattle.rdm_life.proofs.EarlyWords.{early_still}
use Rattle.rdm_life.proofs.MatchingQuiet.{still_heard}
use Rattle.rdm_life.proofs.MatchingSilent.{still_forgotten}
use Rattle.rdm_life.proofs.MatchingStill.{matching_left}
use Rattle.rdm_life.proofs.MessageFacts.{named}
use Rattle.rdm_life.proofs.Pairs.{pairs_added, posted_after, arrived_after}

-- no pair is made
cancel_pairs : (own : Own) (recv : RecvNo) (before : List Deed) → own_pairs own (Did (CancelOp recv) ∷ before) ≡ own_pairs own before
unfolding events_by run after
cancel_pairs own recv before = pairs_added own (Did (CancelOp recv)) before ∙ append-nil (own_pairs own before)

-- the receive waits no more
cancel_posted : (own : Own) (recv : RecvNo) (before : List Deed) → (own_matching own (Did (CancelOp recv) ∷ before)).posted ≡ without_first (is_recv recv.0) (own_matching own before).posted
unfolding events_by run after
cancel_posted own recv before = posted_after own (Did (CancelOp recv)) before

-- and the messages wait on
cancel_arrived : (own : Own) (recv : RecvNo) (before : List Deed) → (own_matching own (Did (CancelOp recv) ∷ before)).arrived ≡ (own_matching own before).arrived
unfolding events_by run after
cancel_arrived own recv before = arrived_after own (Did (CancelOp recv)) before

-- all that is kept of messages
pub cancel_matching : (own : Own) (recv : RecvNo) (before : List Deed) (v : Kept) → KeepsMatching own before v → KeepsMatching own (Did (CancelOp recv) ∷ before) (after_deed (Did (CancelOp recv)) v)
unfolding after_deed after_instr after_cancel heard_names named_by head_by first_part_by carried_by forgotten_by
cancel_matching own recv before v k =
    let d : Deed = Did (CancelOp recv) in
    let pairs = cancel_pairs own recv before in
    matching_left own d before v (after_cancel recv.0 v)
    (record {
      heard = λ life n. still_heard before d life n refl;
      pairs = pairs;
      names = append-nil (heard_names before);
      forgotten = λ life. still_forgotten before d life refl;
      posted_kept = ap (without_first (is_recv recv.0)) k.posted_is ∙ sym (cancel_posted own recv before);
      arrived_kept = k.arrived_is ∙ sym (cancel_arrived own recv before);
      early_of_kept = λ life. refl;
      early_count_kept = refl;
      heard_kept = λ life n. refl;
      next_kept = λ life. refl;
    })
    (λ life kept n. k.early_is life kept n ∙ sym (early_still own d before life n refl refl refl (ap (λ (ps : List Pair). is_matched ps (named life n)) pairs)))
    k
