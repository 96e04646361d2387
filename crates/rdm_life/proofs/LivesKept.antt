-- What is kept of lives, regions and counts is what the definitions say, after each deed that a life may do.
use Rattle.std.proofs.Common.{◌≡◌, ℕ, Bool, List, [], ◌∷◌, Option, refl, sym, ◌∙◌, ap, ap₂}
use Rattle.std.specs.Prelude.{◌||◌}
use Rattle.std.specs.List.{list_any}
use Rattle.std.proofs.Math.Path.{fun_ext}
use Rattle.rdm_num.specs.Lives.{same_life}
use Rattle.rdm_num.specs.declared.numbers.Life.{Life}
use Rattle.rdm_model.specs.declared.job.Instr.TheVariants.{Insert, Reg, Send, Recv}
use Rattle.rdm_model.specs.Beginnings.{Own}
use Rattle.rdm_model.specs.Completions.{poll_count}
use Rattle.rdm_model.specs.Currents.{last_inserted, first_seen, current, was_current, is_superseded, forgotten_by}
use Rattle.rdm_model.specs.Deeds.{Deed, Did, Took, Polled, deed_count}
use Rattle.rdm_model.specs.Matches.{receives}
use Rattle.rdm_model.specs.Regions.{regions}
use Rattle.rdm_model.specs.Sends.{known_word, sends, sends_to}
use Rattle.rdm_law.proofs.Lives.Lives.{LifeLocal}
use Rattle.rdm_lists.specs.Lists.{or_else}
use Rattle.rdm_life.specs.Kept.{Kept, nothing_kept}
use Rattle.rdm_life.specs.Keeps.{KeepsLives}
use Rattle.rdm_life.specs.Lives.{with_source, greet, after_insert}
use Rattle.rdm_life.specs.Forgetting.{is_among, forget}
use Rattle.rdm_life.specs.Handling.{after}
use Rattle.rdm_life.proofs.Counted.{receive_count_step, poll_count_step, send_count_step}
use Rattle.rdm_life.proofs.LivesCurrent.{current_by, current_next, superseded_next}
use Rattle.rdm_life.proofs.LivesLight.{light, after_light}
use Rattle.rdm_life.proofs.LivesPeers.{forgot_by, forgot_is, forgot_now, met_step, known_step, messages_step}
use Rattle.rdm_life.proofs.Regions.{region_count_step, region_size_step}
use Rattle.rdm_life.proofs.Tests.{or_none}

-- no deed changes what the life begins with
light_own : (d : Deed) (v : Kept) → (light d v).own ≡ v.own
unfolding light after_insert with_source greet forget
light_own (Did (Insert life)) v = refl
light_own (Did (Reg content)) v = refl
light_own (Did (Send req)) v = refl
light_own (Did (Recv req)) v = refl
light_own (Took from item) v = refl
light_own Polled v = refl
light_own _ v = refl

-- what the life begins with
pub own_step : (own : Own) (d : Deed) (log : List Deed) (v : Kept) → KeepsLives own log v → (after d v).own ≡ own
own_step own d log v k = (after_light d v).own ∙ light_own d v ∙ k.own_is

-- a deed changes the current lives of ports
light_current : (d : Deed) (v : Kept) (port : ℕ) → (light d v).current port ≡ current_by d v.current port
unfolding light current_by after_insert with_source greet forget
light_current (Did (Insert life)) v port = refl
light_current (Did (Reg content)) v port = refl
light_current (Did (Send req)) v port = refl
light_current (Did (Recv req)) v port = refl
light_current (Took from item) v port = refl
light_current Polled v port = refl
light_current _ v port = refl

-- the current life of a port after a deed
pub current_step : (own : Own) (d : Deed) (log : List Deed) (v : Kept) → KeepsLives own log v → (port : ℕ) → (after d v).current port ≡ current (d ∷ log) port
current_step own d log v k port =
    let is : v.current ≡ current log = fun_ext (λ n. k.current_is n) in
    ap (λ (f : ℕ → Option Life). f port) (after_light d v).current
    ∙ light_current d v port
    ∙ ap (λ (f : ℕ → Option Life). current_by d f port) is
    ∙ current_next d log port

-- the lives that a deed forgets are superseded
light_superseded : (d : Deed) (v : Kept) (life : Life) → (light d v).superseded life ≡ (v.superseded life || list_any (same_life life) (forgot_by d v.current))
unfolding light forgot_by after_insert with_source greet forget is_among
light_superseded (Did (Insert new)) v life = refl
light_superseded (Did (Reg content)) v life = sym (or_none (v.superseded life))
light_superseded (Did (Send req)) v life = sym (or_none (v.superseded life))
light_superseded (Did (Recv req)) v life = sym (or_none (v.superseded life))
light_superseded (Took from item) v life = sym (or_none (v.superseded life))
light_superseded Polled v life = sym (or_none (v.superseded life))
light_superseded _ v life = sym (or_none (v.superseded life))

-- the superseded lives after a deed
pub superseded_step : (own : Own) (d : Deed) (log : List Deed) (v : Kept) → LifeLocal own (d ∷ log) → KeepsLives own log v → (life : Life)
    → (after d v).superseded life ≡ is_superseded (d ∷ log) life
superseded_step own d log v local k life =
    let lost : forgot_by d v.current ≡ forgotten_by log d = forgot_now own d log v k ∙ sym (forgot_is d log) in
    ap (λ (f : Life → Bool). f life) (after_light d v).superseded
    ∙ light_superseded d v life
    ∙ ap₂ (λ (b : Bool) (ls : List Life). b || list_any (same_life life) ls) (k.superseded_is life) lost
    ∙ superseded_next own d log life local

-- what is kept of lives, regions and counts after a deed is what the definitions say
pub lives_step : (own : Own) (d : Deed) (log : List Deed) (v : Kept) → LifeLocal own (d ∷ log) → KeepsLives own log v → KeepsLives own (d ∷ log) (after d v)
lives_step own d log v local k =
    record {
      own_is = own_step own d log v k;
      region_count_is = region_count_step own d log v local k;
      region_size_is = region_size_step own d log v local k;
      current_is = current_step own d log v k;
      superseded_is = superseded_step own d log v local k;
      met_is = met_step own d log v k;
      known_is = known_step own d log v k;
      messages_are = messages_step own d log v k;
      send_count_is = send_count_step own d log v k;
      receive_count_is = receive_count_step own d log v k;
      poll_count_is = poll_count_step own d log v k;
    }

-- and so it is before any deed
pub lives_start : (own : Own) → KeepsLives own [] (nothing_kept own)
unfolding regions current last_inserted first_seen or_else is_superseded was_current known_word sends sends_to receives poll_count deed_count
lives_start own =
    record {
      own_is = refl;
      region_count_is = refl;
      region_size_is = λ region. refl;
      current_is = λ port. refl;
      superseded_is = λ life. refl;
      met_is = λ life h. refl;
      known_is = λ life h. refl;
      messages_are = λ life h. refl;
      send_count_is = refl;
      receive_count_is = refl;
      poll_count_is = refl;
    }
