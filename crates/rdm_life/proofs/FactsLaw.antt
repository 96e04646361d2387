-- What is kept answers all that the scene of an open life does.
use Rattle.std.proofs.Common.{◌≡◌, ℕ, zero, suc, false, List, [], ◌∷◌, drop, None, refl, sym, ◌∙◌, ap, subst}
use Rattle.std.specs.Prelude.{slice_get}
use Rattle.rdm_num.specs.declared.numbers.Life.{Life}
use Rattle.rdm_num.specs.declared.numbers.Connid.{Connid}
use Rattle.rdm_model.specs.Beginnings.{Own, own_of, life_at, port_count}
use Rattle.rdm_model.specs.Classes.{item_class}
use Rattle.rdm_model.specs.Completions.{completions, poll_count}
use Rattle.rdm_model.specs.Currents.{is_forgotten}
use Rattle.rdm_model.specs.Deeds.{Deed, Item, item_of, of_life}
use Rattle.rdm_model.specs.Scenes.{Scene, deeds_at}
use Rattle.rdm_law.proofs.Lives.Lives.{life_scene, life_of, LifeLocal, life_local, opened_scene}
use Rattle.rdm_law.proofs.Lives.Replaced.{not_forgotten}
use Rattle.rdm_law.proofs.Classes.Classed.{taken_parts}
use Rattle.rdm_life.specs.Kept.{Kept}
use Rattle.rdm_life.specs.Keeps.{told, Keeps}
use Rattle.rdm_life.specs.Handling.{kept}
use Rattle.rdm_life.specs.Laws.{RecordIsKept, FactsAreKept, AnswersAs, kept_in}
use Rattle.rdm_life.proofs.TakenRead.{item_has_bytes, load_fits, deeds_fit}
use Rattle.rdm_life.proofs.FactsKept.{answer_kept}
use Rattle.rdm_life.proofs.EnteredKept.{entered_is}
use Rattle.rdm_life.proofs.Goes.{goes}
use Rattle.rdm_life.proofs.Classed.{class_is}
use Rattle.rdm_life.proofs.Placed.{needs_place_is, is_full_is}
use Rattle.rdm_life.proofs.RecordKept.{record_kept}

-- an item that no class fits is of a life that was not forgotten
known_life : (own : Own) (ports : ℕ) (port_log log : List Deed) (from : Life) (to : Connid) (item : Item) → LifeLocal own log
    → item_class (life_scene ports own port_log log) from to item ≡ None → is_forgotten log from ≡ false
known_life own ports port_log log from to item local none =
    not_forgotten own log from local (taken_parts (life_scene ports own port_log log) from to item none).from_current

-- the first element of what is left
first_left : {A : Type 0} (n : ℕ) (xs : List A) → slice_get (drop n xs) 0 ≡ slice_get xs n
first_left zero xs = refl
first_left (suc n) [] = refl
first_left (suc n) (x ∷ xs) = first_left n xs

-- of an open life
pub answers_as : (own : Own) (ports : ℕ) (port_log log : List Deed) (v : Kept) → LifeLocal own log → Keeps own log v → AnswersAs (life_scene ports own port_log log) v
answers_as own ports port_log log v local k =
    record {
      answers = λ instr. answer_kept ports own port_log log v instr local k;
      classes = λ from to load. class_is own ports port_log log v from to (item_of load) (item_has_bytes (item_of load) (load_fits load)) local k;
      places = λ from to load none. needs_place_is own ports port_log log v from (item_of load) (known_life own ports port_log log from to (item_of load) local none) k;
      fulls = is_full_is own ports port_log log v k;
      enters = λ from to load none. entered_is own log v from (item_of load) (known_life own ports port_log log from to (item_of load) local none) k.matching;
      goes = goes own log v local k;
      polls =
          ap (λ (cs : List _). slice_get cs 0) k.owed.completions_are ∙ first_left (poll_count log) (completions own (told own log) log);
    }

-- each field is kept after every local log
pub record_is_kept : RecordIsKept
unfolding life_at
record_is_kept job port connid log local =
    record_kept (own_of job (life_of port connid)) (of_life connid (deeds_at job port log)) (deeds_fit job port connid log) (life_local job port connid log local)

-- and answers all that the scene of an open life does
pub facts_are_kept : FactsAreKept
facts_are_kept job port connid log local is =
    let own = own_of job (life_of port connid) in
    let deeds = of_life connid (deeds_at job port log) in
    let there = life_local job port connid log local in
    subst (λ (s : Scene). AnswersAs s (kept_in s)) (sym (opened_scene job port connid (deeds_at job port log) is))
    (answers_as own (port_count job) (deeds_at job port log) deeds (kept own deeds) there (record_kept own deeds (deeds_fit job port connid log) there))
