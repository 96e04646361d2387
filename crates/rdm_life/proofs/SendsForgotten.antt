-- An insert that takes the place of a life ends the sends to that one.
use Rattle.std.proofs.Common.{◌≡◌, Bool, true, false, not, List, [], ◌∷◌, map, length, refl, sym, ◌∙◌, ap}
use Rattle.std.specs.Prelude.{◌||◌, ◌&&◌, filter}
use Rattle.std.specs.List.{list_any}
use Rattle.std.proofs.lemmas.Bool.{and_parts, not-true}
use Rattle.rdm_lists.specs.Lists.{Member}
use Rattle.rdm_lists.proofs.Filters.{filter_both}
use Rattle.rdm_lists.proofs.Same.{filter_same}
use Rattle.rdm_num.specs.Lives.{same_life}
use Rattle.rdm_num.specs.declared.numbers.Life.{Life}
use Rattle.rdm_num.proofs.Lives.{same_life-true}
use Rattle.rdm_model.specs.declared.job.Instr.TheVariants.{Insert}
use Rattle.rdm_model.specs.Beginnings.{Own}
use Rattle.rdm_model.specs.ClassFacts.{is_number}
use Rattle.rdm_model.specs.Currents.{current, other_life, forgotten_by}
use Rattle.rdm_model.specs.Deeds.{Deed, Did}
use Rattle.rdm_model.specs.Dues.{is_read, ends_send, confirms}
use Rattle.rdm_model.specs.Grants.{grants_by}
use Rattle.rdm_model.specs.Reads.{asked_by}
use Rattle.rdm_model.specs.Replies.{Reply, given_by, without_lives, without_forgotten}
use Rattle.rdm_model.specs.Sends.{Sent, sent_by}
use Rattle.rdm_law.proofs.Replies.Queue.{popped}
use Rattle.rdm_life.specs.Forgetting.{is_among, forget}
use Rattle.rdm_life.specs.Handling.{after, after_instr}
use Rattle.rdm_life.specs.Kept.{Kept, LiveSend}
use Rattle.rdm_life.specs.Keeps.{own_progress, kept_send, KeepsLives, KeepsSends}
use Rattle.rdm_life.specs.Lives.{greet, after_insert}
use Rattle.rdm_life.proofs.OwnSends.{own_live, own_over}
use Rattle.rdm_life.proofs.SendLists.{none_either, filter_kept}
use Rattle.rdm_life.proofs.SendsQuiet.{live_was, live_left, count_nothing}
use Rattle.rdm_life.proofs.SendWords.{answers, answer_count, kept_still, ends_by, over_now}
use Rattle.rdm_life.proofs.Tests.{or_none}

-- an answer goes to the life of its send
unlost : (s : Sent) (lives : List Life) (r : Reply) (b : Bool) → answers s r ≡ b → list_any (same_life s.to) lives ≡ false
    → (not (list_any (same_life r.to) lives) && b) ≡ b
unfolding answers
unlost s lives r true e none =
    let to : r.to ≡ s.to = same_life-true r.to s.to (and_parts (same_life r.to s.to) (is_number s.number r.gives) e).0 in
    rw (to, none) refl
unlost s lives r false e none =
    elim (not (list_any (same_life r.to) lives)) as (λ b. (b && false) ≡ false) [ true ↦ refl | false ↦ refl ]

-- what is owed to other lives are no answers of the send
count_without : (s : Sent) (lives : List Life) (rs : List Reply) → list_any (same_life s.to) lives ≡ false → answer_count s (without_lives lives rs) ≡ answer_count s rs
unfolding answer_count without_lives
count_without s lives rs none =
    let stays : Reply → Bool = λ r. not (list_any (same_life r.to) lives) in
    ap length (sym (filter_both stays (answers s) rs) ∙ filter_same (λ r. stays r && answers s r) (answers s) rs (λ r. unlost s lives r (answers s r) refl none))

-- a send is over by an insert where its life is forgotten
over_by_insert : (life : Life) (log : List Deed) (s : Sent) → ends_by log (Did (Insert life)) s ≡ list_any (same_life s.to) (other_life life (current log life.port.0))
unfolding ends_by forgotten_by ends_send confirms
over_by_insert life log s =
    ap (λ (b : Bool). list_any (same_life s.to) (other_life life (current log life.port.0)) || b) (none_either (is_read s.kind) s.message.confirm)
    ∙ or_none (list_any (same_life s.to) (other_life life (current log life.port.0)))

-- a send to a life that is not forgotten is kept as it was
insert_kept : (own : Own) (life : Life) (log : List Deed) (s : Sent) → list_any (same_life s.to) (other_life life (current log life.port.0)) ≡ false
    → kept_send own (Did (Insert life) ∷ log) s ≡ kept_send own log s
unfolding grants_by asked_by given_by without_forgotten forgotten_by popped
insert_kept own life log s none =
    let rs = (own_progress own log).replies in
    let lives = other_life life (current log life.port.0) in
    kept_still own (Did (Insert life)) log s (λ e. cc) refl refl (count_nothing s [] (answer_count s (without_lives lives rs)) refl ∙ count_without s lives rs none)

-- the sends that are left
insert_left : (life : Life) (v : Kept)
    → (after (Did (Insert life)) v).sends ≡ filter (λ (s : LiveSend). not (is_among (other_life life (v.current life.port.0)) s.sent.to)) v.sends
unfolding after after_instr after_insert greet forget
insert_left life v = refl

-- after an insert
pub insert_sends : (own : Own) (life : Life) (log : List Deed) (v : Kept) → KeepsLives own log v → KeepsSends own log v
    → KeepsSends own (Did (Insert life) ∷ log) (after (Did (Insert life)) v)
unfolding is_among kept_send sent_by
insert_sends own life log v lives k =
    let d = Did (Insert life) in
    let lost = other_life life (current log life.port.0) in
    let over : (s : Sent) → Member s (own_live own log) → own_over own (d ∷ log) s ≡ list_any (same_life s.to) lost =
    λ s m. over_now own d log s (λ e. cc) (live_was own log s m) ∙ over_by_insert life log s in
    record {
      sends_are =
          insert_left life v
          ∙ ap (λ o. filter (λ (s : LiveSend). not (is_among (other_life life o) s.sent.to)) v.sends) (lives.current_is life.port.0)
          ∙ ap (filter (λ (s : LiveSend). not (is_among lost s.sent.to))) k.sends_are
          ∙ filter_kept (λ (s : LiveSend). not (is_among lost s.sent.to)) (kept_send own log) (kept_send own (d ∷ log)) (λ s. not (own_over own (d ∷ log) s)) (own_live own log)
          (λ s m. ap not (sym (over s m)))
          (λ s m h. insert_kept own life log s (sym (over s m) ∙ not-true (own_over own (d ∷ log) s) h))
          ∙ ap (map (kept_send own (d ∷ log))) (sym (live_left own d log refl));
    }
