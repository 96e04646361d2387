-- An endpoint's record stays orderly, whatever it does.
use Rattle.std.specs.Prelude.{◌≡◌, ◌<◌, ℕ, Bool, false, List, Some}
use Rattle.rdm_lists.specs.Lists.{Member}
use Rattle.rdm_num.specs.Pieces.{Piece}
use Rattle.rdm_num.specs.declared.numbers.Life.{Life}
use Rattle.rdm_num.specs.declared.numbers.Connid.{Connid}
use Rattle.rdm_num.specs.declared.request.RecvReq.{RecvReq}
use Rattle.rdm_match.specs.declared.PostedRecv.{PostedRecv}
use Rattle.rdm_match.specs.Matcher.{Pair}
use Rattle.rdm_model.specs.declared.answer.DidWhat.{DidWhat}
use Rattle.rdm_model.specs.declared.answer.Next.TheVariants.{Did as DidAnswer}
use Rattle.rdm_model.specs.declared.job.Job.{Job}
use Rattle.rdm_model.specs.declared.job.Instr.{Instr}
use Rattle.rdm_model.specs.declared.job.Instr.TheVariants.{Recv}
use Rattle.rdm_model.specs.declared.entry.Entry.{Entry}
use Rattle.rdm_model.specs.Answers.{answer_by}
use Rattle.rdm_model.specs.Beginnings.{Own, own_of, life_at}
use Rattle.rdm_model.specs.Deeds.{Deed, Did, of_life}
use Rattle.rdm_model.specs.Facts.{PortFacts}
use Rattle.rdm_model.specs.Local.{Local}
use Rattle.rdm_model.specs.Scenes.{deeds_at}
use Rattle.rdm_life.specs.Facts.{meets_receive_in, facts_in}
use Rattle.rdm_life.specs.Handling.{kept, after}
use Rattle.rdm_life.specs.Kept.{Kept, EarlyMessage, nothing_kept}
use Rattle.rdm_life.specs.Receiving.{receive_in, with_live, after_cancel, hear}
use Rattle.rdm_sound.specs.Premises.{IsOrderly, posted_numbers}
use Rattle.rdm_sound.specs.Steps.{settle_one, land_one, meet_one, post_one, enter_one}

-- the deed may be done: a receive is accepted where its range shares no place with that of a live one
abbrev pub IsAllowed : Kept → Deed → Type 0
IsAllowed v (Did (Recv req)) = meets_receive_in v req.region.0 req.at req.len ≡ false
IsAllowed v _ = Unit {0}

-- An instruction that is accepted by what is kept may be done.
abbrev pub AnswersAllow : Type 0
AnswersAllow = (p : PortFacts) (v : Kept) (instr : Instr) (what : DidWhat) → answer_by p (facts_in v) instr ≡ DidAnswer what → IsAllowed v (Did instr)

-- What is kept before any deed is orderly.
abbrev pub BeginsOrderly : Type 0
BeginsOrderly = (own : Own) → IsOrderly (nothing_kept own)

-- It stays so by each deed that may be done.
abbrev pub StaysOrderly : Type 0
StaysOrderly = (d : Deed) (v : Kept) → IsOrderly v → IsAllowed v d → IsOrderly (after d v)

-- It stays so by each step of which deeds are made.
pub record StepsStayOrderly (v : Kept) : Type 0 where
  pub settles : (is_new : Bool) (number : ℕ) → IsOrderly (settle_one is_new number v)
  pub lands : (number : ℕ) (p : Piece) → IsOrderly (land_one number p v)
  pub meets : (p : Pair) → IsOrderly (meet_one p v)
  pub accepts : (req : RecvReq) → meets_receive_in v req.region.0 req.at req.len ≡ false → IsOrderly (with_live (receive_in v req) v)
  pub posts : (r : PostedRecv) → r.id.0 < v.receive_count → (Member r.id.0 (posted_numbers v.posted) → ⊥) → IsOrderly (post_one r v)
  pub cancels : (number : ℕ) → IsOrderly (after_cancel number v)
  pub hears : (source : Life) (number : ℕ) (e : EarlyMessage) → IsOrderly (hear source number e v)
  pub enters : (source : Life) → IsOrderly (enter_one source v)

-- By each of them, where it was orderly.
abbrev pub StaysOrderlyInSteps : Type 0
StaysOrderlyInSteps = (v : Kept) → IsOrderly v → StepsStayOrderly v

-- So what is kept of the deeds of a life is orderly.
abbrev pub KeptIsOrderly : Type 0
KeptIsOrderly =
    (job : Job) (port : ℕ) (connid : Connid) (log : List Entry)
    → Local job port log
    → IsOrderly (kept (own_of job (life_at port (Some connid))) (of_life connid (deeds_at job port log)))
