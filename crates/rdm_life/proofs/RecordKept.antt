-- All that is kept is what the definitions say, after each deed and so after all.
use Rattle.std.proofs.Common.{◌≡◌, ℕ, Option, Bool, true, false, List, [], ◌∷◌, refl}
use Rattle.rdm_num.specs.declared.numbers.Life.{Life}
use Rattle.rdm_num.specs.declared.numbers.MsgNo.{MsgNo}
use Rattle.rdm_hdr.specs.declared.Opt.{Opt}
use Rattle.rdm_pkt.specs.declared.Form.{Form}
use Rattle.rdm_pkt.specs.declared.Packet.TheVariants.{Rtm, CtsData}
use Rattle.rdm_model.specs.declared.job.Instr.TheVariants.{Insert, Recv}
use Rattle.rdm_model.specs.Beginnings.{Own}
use Rattle.rdm_model.specs.Deeds.{Deed, Did, Pushed, Took, Item, Spelled, Gives}
use Rattle.rdm_model.specs.Heard.{is_heard}
use Rattle.rdm_law.proofs.Lives.Lives.{LifeLocal}
use Rattle.rdm_life.specs.Kept.{Kept}
use Rattle.rdm_life.specs.Keeps.{Keeps}
use Rattle.rdm_life.specs.Handling.{after, kept}
use Rattle.rdm_life.proofs.TakenRead.{AllTakenRead}
use Rattle.rdm_life.proofs.LivesKept.{lives_start, lives_step}
use Rattle.rdm_life.proofs.MatchingStep.{matching_start, matching_step}
use Rattle.rdm_life.proofs.KeepsSends.{sends_start, sends_step}
use Rattle.rdm_life.proofs.ReceivesStart.{receives_start}
use Rattle.rdm_life.proofs.ReceivesSteps.{receives_light}
use Rattle.rdm_life.proofs.ReceivesInsert.{receives_insert}
use Rattle.rdm_life.proofs.KeepsOwed.{owed_start, owed_unpushed}
use Rattle.rdm_life.proofs.CompletedPushed.{owed_pushed}
use Rattle.rdm_life.proofs.LandedKept.{KeepsBoth, landed_kept}
use Rattle.rdm_life.proofs.MeetsKept.{meets_kept}

-- a packet that opens a message, which was heard of before or not
rtm_both : (own : Own) (from : Life) (number : MsgNo) (tag : Option ℕ) (confirm : Bool) (opt : Opt) (form : Form) (log : List Deed) (v : Kept)
    → AllTakenRead (Took from (Spelled (Rtm number tag confirm opt form)) ∷ log) → LifeLocal own (Took from (Spelled (Rtm number tag confirm opt form)) ∷ log) → Keeps own log v
    → KeepsBoth own (Took from (Spelled (Rtm number tag confirm opt form)) ∷ log) (after (Took from (Spelled (Rtm number tag confirm opt form))) v)
rtm_both own from number tag confirm opt form log v fit local k =
    let item : Item = Spelled (Rtm number tag confirm opt form) in
    (elim (is_heard log from number.0) as (λ b. is_heard log from number.0 ≡ b → KeepsBoth own (Took from item ∷ log) (after (Took from item) v)) [
      | true ↦ λ heard. landed_kept own from item log v heard local fit k
      | false ↦ λ unheard. meets_kept own (Took from item) log v unheard local fit k
    ]) refl

-- after each deed
both_step : (own : Own) (d : Deed) (log : List Deed) (v : Kept) → AllTakenRead (d ∷ log) → LifeLocal own (d ∷ log) → Keeps own log v → KeepsBoth own (d ∷ log) (after d v)
both_step own (Did (Insert life)) log v fit local k = (receives_insert own life log v local k, owed_unpushed own (Did (Insert life)) log v tt local k)
both_step own (Did (Recv req)) log v fit local k = meets_kept own (Did (Recv req)) log v tt local fit k
both_step own Pushed log v fit local k = (receives_light own Pushed log v local tt k, owed_pushed own log v local k)
both_step own (Took from (Spelled (Rtm number tag confirm opt form))) log v fit local k = rtm_both own from number tag confirm opt form log v fit local k
both_step own (Took from (Spelled (CtsData recv offset connid bytes))) log v fit local k = landed_kept own from (Spelled (CtsData recv offset connid bytes)) log v tt local fit k
both_step own (Took from (Gives g)) log v fit local k = landed_kept own from (Gives g) log v tt local fit k
both_step own d log v fit local k = (receives_light own d log v local tt k, owed_unpushed own d log v tt local k)

-- what is kept after a deed is what the definitions say
pub keeps_step : (own : Own) (d : Deed) (log : List Deed) (v : Kept) → AllTakenRead (d ∷ log) → LifeLocal own (d ∷ log) → Keeps own log v → Keeps own (d ∷ log) (after d v)
keeps_step own d log v fit local k =
    let both = both_step own d log v fit local k in
    record {
      lives = lives_step own d log v local k.lives;
      matching = matching_step own d log v local k.lives k.matching;
      receives = both.0;
      sends = sends_step own d log v local k;
      owed = both.1;
    }

-- so it is after all deeds of a life
pub record_kept : (own : Own) (log : List Deed) → AllTakenRead log → LifeLocal own log → Keeps own log (kept own log)
unfolding kept
record_kept own [] fit local =
    record { lives = lives_start own; matching = matching_start own; receives = receives_start own; sends = sends_start own; owed = owed_start own }
record_kept own (d ∷ log) fit local = keeps_step own d log (kept own log) fit local (record_kept own log fit.0 local.0)
