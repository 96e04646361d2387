-- Lives that are inserted.
use Rattle.std.proofs.Common.{◌≡◌, Bool, true, false, not, List, [], ◌∷◌, refl, sym, ap, ◌∙◌, subst}
use Rattle.std.specs.Prelude.{◌||◌}
use Rattle.rdm_lists.proofs.Same.{filter_same}
use Rattle.rdm_num.specs.Lives.{same_life}
use Rattle.rdm_num.specs.declared.numbers.Life.{Life}
use Rattle.rdm_av.specs.Lives.{is_superseded, with_spent, after_insert, reserved_answer}
use Rattle.rdm_model.specs.Currents.{other_life}
use Rattle.rdm_model.specs.Replies.{without_lives}
use Rattle.rdm_held.specs.Held.{IsHeldIn}
use Rattle.rdm_held.proofs.Leaving.{forgets as held_forgets}
use Rattle.rdm_life.specs.Kept.{Kept}
use Rattle.rdm_life.specs.Forgetting.{forget}
use Rattle.rdm_life.specs.Lives as Record
use Rattle.rdm_life.specs.Lives.{with_current, greet}
use Rattle.rdm_window.specs.Early.{without_life}
use Rattle.rdm_peers.specs.Table.{without_account}
use Rattle.rdm_peers.specs.Shown.{ShowsPeers}
use Rattle.rdm_peers.proofs.ShownLaws.{forgetting_shows}
use Rattle.rdm_shown.specs.Lives.{ShowsLives}
use Rattle.rdm_shown.proofs.Lives.{insert_shows}
use Rattle.rdm_sound.specs.Forgets.{lose_life}
use Rattle.rdm_sound.proofs.Forgotten.{forgets_none}
use Rattle.rdm_sound.proofs.ForgottenNext.{forgets_rest}
use Rattle.rdm_tie.specs.Laws.{waits_in}
use Rattle.rdm_tie.proofs.Forgotten.{forget_forgets}
use Rattle.rdm_match.specs.Waiting.{Waiting, waiting_after}
use Rattle.rdm_match.specs.Matcher.{Forget}
use Rattle.rdm_state.specs.State.{State}
use Rattle.rdm_state.specs.Shows.{Shows, bytes_of}
use Rattle.rdm_state.specs.Steps.{inserted}
use Rattle.rdm_state.specs.LifeLaws.{Inserts, Supersedes}

-- the lives of an insert, before the life is met
lives_are : (e : State) (v : Kept) (life : Life) (others : List Life) → Shows e v → is_superseded e.lives life ≡ false → other_life life (v.current life.port.0) ≡ others
    → ShowsLives (with_spent (after_insert e.lives life (reserved_answer e.lives life))) (with_current life (forget others v)).current (with_current life (forget others v)).superseded
unfolding greet Record.after_insert
lives_are e v life others s fresh is =
    let shows = (insert_shows e.lives life v s.lives fresh).2 in
    let same : ShowsLives (with_spent (after_insert e.lives life (reserved_answer e.lives life))) (with_current life (forget (other_life life (v.current life.port.0)) v)).current (with_current life (forget (other_life life (v.current life.port.0)) v)).superseded =
    record { current_is = shows.current_is; superseded_is = shows.superseded_is } in
    subst (λ os. ShowsLives (with_spent (after_insert e.lives life (reserved_answer e.lives life))) (with_current life (forget os v)).current (with_current life (forget os v)).superseded) is same

pub inserts : Inserts
inserts e v life s fresh none =
    let lives = subst (λ (w : Kept). ShowsLives (with_spent (after_insert e.lives life (reserved_answer e.lives life))) (with_current life w).current (with_current life w).superseded) (forgets_none v) (lives_are e v life [] s fresh none) in
    record {
      own = s.own;
      regions = s.regions;
      leases = s.leases;
      holds = s.holds;
      lives = lives;
      peers = s.peers;
      first = s.first;
      posted = s.posted;
      arrived = s.arrived;
      early = s.early;
      sends = s.sends;
      sends_made = s.sends_made;
      receives = s.receives;
      each_receive = s.each_receive;
      receives_made = s.receives_made;
      owed = s.owed;
      completed = s.completed;
      reserved = s.reserved;
      polled = s.polled;
    }

-- what waits, on both sides
waiting_same : (e : State) (v : Kept) → Shows e v → e.matcher.waiting ≡ waits_in v
waiting_same e v s = λ i. record { posted = s.posted i; arrived = s.arrived i }

pub supersedes : Supersedes
unfolding lose_life without_lives
supersedes e v life old owed s o fresh is no_receive no_send becomes =
    let rest : forget (old ∷ []) v ≡ lose_life old v = forgets_rest old v o no_receive no_send in
    let lives = subst (λ (w : Kept). ShowsLives (with_spent (after_insert e.lives life (reserved_answer e.lives life))) (with_current life w).current (with_current life w).superseded) rest (lives_are e v life (old ∷ []) s fresh is) in
    let peers : ShowsPeers (without_account e.peers old) (lose_life old v).peers = subst (λ (w : Kept). ShowsPeers (without_account e.peers old) w.peers) rest (forgetting_shows e.peers old v s.peers s.first) in
    let early : IsHeldIn (without_life e.early old) (lose_life old v) = subst (IsHeldIn (without_life e.early old)) rest (held_forgets e.early v old s.early) in
    let waits : waiting_after e.matcher.waiting (Forget old) ≡ waits_in (lose_life old v) = ap (λ w. waiting_after w (Forget old)) (waiting_same e v s) ∙ sym (forget_forgets old v) ∙ ap waits_in rest in
    subst (λ (w : Kept). Shows (inserted life old (with_spent (after_insert e.lives life (reserved_answer e.lives life))) owed e) (with_current life w)) (sym rest)
    (record {
      own = s.own;
      regions = s.regions;
      leases = s.leases;
      holds = s.holds;
      lives = lives;
      peers = peers;
      first = s.first;
      posted = ap (λ (w : Waiting). w.posted) waits;
      arrived = ap (λ (w : Waiting). w.arrived) waits;
      early = early;
      sends = s.sends;
      sends_made = s.sends_made;
      receives = s.receives;
      each_receive = s.each_receive;
      receives_made = s.receives_made;
      owed = becomes v.own (bytes_of v.sends) ∙ ap (without_lives (old ∷ [])) s.owed ∙ filter_same _ _ v.owed (λ r. ap not (or_nothing (same_life r.to old)));
      completed = s.completed;
      reserved = s.reserved;
      polled = s.polled;
    })
  where
    or_nothing : (b : Bool) → (b || false) ≡ b
    or_nothing true = refl
    or_nothing false = refl
