-- What an endpoint keeps after deeds that bring it no message and make no send.
use Rattle.std.proofs.Common.{◌≡◌, ◌<◌, ℕ, zero, suc, ◌+◌, inl, inr, true, false, cond, List, [], ◌∷◌, ◌++◌, length, drop, Option, Some, None, refl, arith, ap, ◌∙◌, sym, subst}
use Rattle.std.specs.Prelude.{◌==◌, ◌&&◌, ◌||◌, nat_le, nat_lt, is_none}
use Rattle.std.proofs.lemmas.Bool.{eqb-true, cases_lt, le-leb, lt-leb, le-ltb}
use Rattle.std.proofs.Math.Seq.{drop-nil}
use Rattle.rdm_lists.specs.Lists.{or_else}
use Rattle.rdm_num.specs.declared.numbers.Life.{Life}
use Rattle.rdm_num.specs.declared.completion.Completion.{Completion}
use Rattle.rdm_model.specs.declared.job.Instr.TheVariants.{Insert, Reg, Note, Await, Wait}
use Rattle.rdm_model.specs.Deeds.{Deed, Did, PushedNote, TookNote, Polled, Nothing, deed_count}
use Rattle.rdm_model.specs.Beginnings.{Own}
use Rattle.rdm_model.specs.Currents.{last_inserted, first_seen, current}
use Rattle.rdm_model.specs.Heard.{heard_head, is_heard}
use Rattle.rdm_model.specs.Matches.{receives, matching}
use Rattle.rdm_model.specs.Receives.{live_receives}
use Rattle.rdm_model.specs.Regions.{after_ends, region_by, regions}
use Rattle.rdm_model.specs.Sends.{sends_to, sends, known_by, known_word}
use Rattle.rdm_model.specs.Dues.{progress, live_of, live_sends}
use Rattle.rdm_model.specs.Completions.{completions, polls_by, poll_count, heard_names}
use Rattle.rdm_ep.specs.View.{EndpointView, new_endpoint, current_in}
use Rattle.rdm_ep.specs.Peers.{peer_in}
use Rattle.rdm_ep.specs.Sending.{after_reg, after_insert}
use Rattle.rdm_ep.specs.Going.{polled_by, after_poll}
use Rattle.rdm_ep.specs.Eager.{IsEagerDeed, IsEager}
use Rattle.rdm_ep.specs.Keeps.{is_from, Keeps}
use Rattle.rdm_ep.proofs.Options.{find-push}
use Rattle.rdm_ep.proofs.Currents.{of_port, shown_by, current_step}
use Rattle.rdm_ep.proofs.Completed.{own_completions, regions_step}
use Rattle.rdm_ep.proofs.Groups.{current_of, kept_of, keeps_by}
use Rattle.rdm_ep.proofs.Still.{ShowsNoLife, SendsNothing, MeetsNothing, GreetsNobody, lives_still, sends_still, receives_still, messages_still, held_still, owed_still, no_pairs, regions_still, none_completed, completions_still}
use Rattle.rdm_lists.proofs.Options.{or_else-none}

-- no number is from the first one on and below it
none_below : (first n : ℕ) → ((nat_le first n && nat_lt n (first + 0)) || false) ≡ false
none_below first n =
    elim (cases_lt n first) [
      | inl low ↦ (let a : nat_le first n ≡ false = lt-leb first n low in rw a refl)
      | inr from ↦ (
          let a : nat_le first n ≡ true = le-leb first n from in
          let b : nat_lt n (first + 0) ≡ false = le-ltb n (first + 0) (omega arith) in
          rw (a, b) refl)
    ]

-- before any deed
pub keeps_new : (own : Own) → Keeps [] (new_endpoint own)
unfolding new_endpoint current last_inserted first_seen or_else peer_in known_word sends_to sends poll_count deed_count receives live_receives matching heard_head is_heard progress live_of live_sends completions heard_names regions
keeps_new own =
    keeps_by [] (new_endpoint own) tt
    (record {
      lives = record { currents_are = λ port. refl; greeted_are = λ life. refl; known_are = λ life. refl };
      sends = record { sent_are = λ life. refl; sends_are = refl; outgoing_are = refl };
      receives = record { receives_are = refl; posted_are = refl };
      messages = record { arrived_are = refl; heads_are = λ i m. elim m [ ]; bytes_are = λ i m. elim m [ ] };
      held = record {
        heads_are = λ i m. elim m [ ];
        bytes_are = λ i m. elim m [ ];
        heard_are = λ life n. none_below own.limits.first n;
        next_are = λ life. refl;
        within = λ life. omega arith;
        count = refl;
      };
      owed = refl;
      regions = refl;
      completions = record { polled_are = refl; polled_within = omega arith; completions_are = refl };
    })

-- a deed that does nothing to the endpoint: a note, a wait, or nothing
abbrev pub IsQuiet : Deed → Type 0
IsQuiet (Did (Note to what)) = Unit {0}
IsQuiet (Did (Await from what)) = Unit {0}
IsQuiet (Did (Wait count)) = Unit {0}
IsQuiet PushedNote = Unit {0}
IsQuiet (TookNote from note) = Unit {0}
IsQuiet Nothing = Unit {0}
IsQuiet _ = ⊥

-- what such a deed leaves out
record LeavesOut (own : Own) (log : List Deed) (d : Deed) : Type 0 where
  plain : IsEagerDeed own log d
  life : ShowsNoLife d
  send : SendsNothing d
  message : MeetsNothing d
  greeting : GreetsNobody d
  region : region_by d ≡ []
  poll : polls_by d ≡ 0

-- a quiet deed leaves out all the rest
quiet_leaves : (own : Own) (log : List Deed) (d : Deed) → IsQuiet d → LeavesOut own log d
unfolding region_by polls_by
quiet_leaves own log (Did (Note to what)) q = record { plain = tt; life = tt; send = tt; message = tt; greeting = tt; region = refl; poll = refl }
quiet_leaves own log (Did (Await from what)) q = record { plain = tt; life = tt; send = tt; message = tt; greeting = tt; region = refl; poll = refl }
quiet_leaves own log (Did (Wait count)) q = record { plain = tt; life = tt; send = tt; message = tt; greeting = tt; region = refl; poll = refl }
quiet_leaves own log PushedNote q = record { plain = tt; life = tt; send = tt; message = tt; greeting = tt; region = refl; poll = refl }
quiet_leaves own log (TookNote from note) q = record { plain = tt; life = tt; send = tt; message = tt; greeting = tt; region = refl; poll = refl }
quiet_leaves own log Nothing q = record { plain = tt; life = tt; send = tt; message = tt; greeting = tt; region = refl; poll = refl }
quiet_leaves own log d q = elim q [ ]

-- after such a deed
pub keeps_quiet : (d : Deed) (log : List Deed) (v : EndpointView) → IsQuiet d → IsEager v.own log → Keeps log v → Keeps (d ∷ log) v
keeps_quiet d log v q h keeps =
    let k = kept_of log v keeps in
    let l = quiet_leaves v.own log d q in
    let g : IsEager v.own (d ∷ log) = (h, l.plain) in
    keeps_by (d ∷ log) v g
    (record {
      lives = lives_still v.own d log v.currents v.peers l.plain l.life k.lives;
      sends = sends_still v.own d log v.sends v.peers v.outgoing g l.send k.sends;
      receives = receives_still v.own d log v.receives v.posted g l.message k.receives;
      messages = messages_still v.own d log v.arrived g l.message k.messages;
      held = held_still v.own d log v.peers v.arrived v.held g l.message k.held;
      owed = owed_still v.own d log v.owed g l.greeting k.owed;
      regions = regions_still v.own d log v.regions g l.message l.region k.regions;
      completions = completions_still v.own d log v.polled v.completions g l.message l.send l.poll k.completions;
    })

-- after a region was registered
pub keeps_reg : (content : List ℕ) (log : List Deed) (v : EndpointView) → IsEager v.own log → Keeps log v → Keeps (Did (Reg content) ∷ log) (after_reg v content)
unfolding after_reg after_ends region_by polls_by
keeps_reg content log v h keeps =
    let k = kept_of log v keeps in
    let d = Did (Reg content) in
    let g : IsEager v.own (d ∷ log) = (h, tt) in
    keeps_by (d ∷ log) (after_reg v content) g
    (record {
      lives = lives_still v.own d log v.currents v.peers tt tt k.lives;
      sends = sends_still v.own d log v.sends v.peers v.outgoing g tt k.sends;
      receives = receives_still v.own d log v.receives v.posted g tt k.receives;
      messages = messages_still v.own d log v.arrived g tt k.messages;
      held = held_still v.own d log v.peers v.arrived v.held g tt k.held;
      owed = owed_still v.own d log v.owed g tt k.owed;
      regions = ap (λ (rs : List (List ℕ)). rs ++ content ∷ []) k.regions ∙ sym (regions_step v.own d log g ∙ (let p = no_pairs v.own d log tt in rw p refl));
      completions = completions_still v.own d log v.polled v.completions g tt tt refl k.completions;
    })

-- the current lives with one more, where its port has none
abbrev pub with_current : Life → List Life → List Life
with_current life currents = cond (is_none (current_of currents life.port.0)) (currents ++ life ∷ []) currents

-- which lives are then current
pub with_current_is : (life : Life) (currents : List Life) (port : ℕ) → current_of (with_current life currents) port ≡ or_else (current_of currents port) (of_port port life)
unfolding or_else
with_current_is life currents port =
    (elim (current_of currents life.port.0) as (λ o. current_of currents life.port.0 ≡ o
    → current_of (cond (is_none o) (currents ++ life ∷ []) currents) port ≡ or_else (current_of currents port) (of_port port life)) [
      | None ↦ λ e. find-push (λ (l : Life). l.port.0 == port) currents life
      | Some old ↦ λ e.
          (elim (life.port.0 == port) as (λ b. (life.port.0 == port) ≡ b → current_of currents port ≡ or_else (current_of currents port) (of_port port life)) [
            | true ↦ λ q.
                let is : current_of currents port ≡ Some old = subst (λ (n : ℕ). current_of currents n ≡ Some old) (eqb-true life.port.0 port q) e in
                is ∙ ap (λ (x : Option Life). or_else x (of_port port life)) (sym is)
            | false ↦ λ q. rw q (sym (or_else-none (current_of currents port)))
          ]) refl
    ]) refl

-- the lives after an insert
insert_is : (v : EndpointView) (life : Life) → after_insert v life ≡ record v { currents = with_current life v.currents }
unfolding after_insert current_in
insert_is v life =
    elim (is_none (current_of v.currents life.port.0)) as (λ b.
    cond b (record v { currents = v.currents ++ life ∷ [] }) v ≡ record v { currents = cond b (v.currents ++ life ∷ []) v.currents }) [
      | true ↦ refl
      | false ↦ refl
    ]

-- after an insert of a life that takes the place of no other
pub keeps_insert : (life : Life) (log : List Deed) (v : EndpointView) → IsEager v.own (Did (Insert life) ∷ log) → Keeps log v
    → Keeps (Did (Insert life) ∷ log) (after_insert v life)
unfolding shown_by region_by polls_by known_word known_by is_from or_else
keeps_insert life log v g keeps =
    let k = kept_of log v keeps in
    let d = Did (Insert life) in
    let w : EndpointView = record v { currents = with_current life v.currents } in
    subst (Keeps (d ∷ log)) (sym (insert_is v life))
    (keeps_by (d ∷ log) w g
    (record {
      lives = record {
        currents_are = λ port.
            with_current_is life v.currents port ∙ ap (λ (x : Option Life). or_else x (of_port port life)) (k.lives.currents_are port) ∙ sym (current_step v.own d log port g.1);
        greeted_are = k.lives.greeted_are;
        known_are = λ l. k.lives.known_are l ∙ sym (or_else-none (known_word log l));
      };
      sends = sends_still v.own d log v.sends v.peers v.outgoing g tt k.sends;
      receives = receives_still v.own d log v.receives v.posted g tt k.receives;
      messages = messages_still v.own d log v.arrived g tt k.messages;
      held = held_still v.own d log v.peers v.arrived v.held g tt k.held;
      owed = owed_still v.own d log v.owed g tt k.owed;
      regions = regions_still v.own d log v.regions g tt refl k.regions;
      completions = completions_still v.own d log v.polled v.completions g tt tt refl k.completions;
    }))

-- the rest of a list after the first element that is left
drop_next : {A : Type 0} (k : ℕ) (xs : List A) (y : A) (ys : List A) → drop k xs ≡ y ∷ ys → (k < length xs) × (ys ≡ drop (k + 1) xs)
drop_next {A} k [] y ys e = cc (drop-nil {A = A} k)
drop_next zero (x ∷ xs) y ys e = (omega arith, cc)
drop_next (suc k) (x ∷ xs) y ys e = let r = drop_next k xs y ys e in let s : suc k + 1 ≡ suc (k + 1) = omega arith in ((let f = r.0 in omega arith), rw s r.1)

-- after the first completion was polled
pub keeps_polled : (log : List Deed) (v : EndpointView) (c : Completion) (cs : List Completion) → IsEager v.own log → v.completions ≡ c ∷ cs → Keeps log v
    → Keeps (Polled ∷ log) (after_poll v)
unfolding after_poll polled_by region_by polls_by poll_count deed_count
keeps_polled log v c cs h e keeps =
    let k = kept_of log v keeps in
    let d = Polled in
    let g : IsEager v.own (d ∷ log) = (h, tt) in
    let w : EndpointView = record v { completions = cs; polled = v.polled + 1 } in
    let n = drop_next (poll_count log) (own_completions v.own log) c cs (sym k.completions.completions_are ∙ e) in
    let same = none_completed v.own d log g tt tt in
    subst (λ (xs : List Completion). Keeps (d ∷ log) (polled_by v xs)) (sym e)
    (keeps_by (d ∷ log) w g
    (record {
      lives = lives_still v.own d log v.currents v.peers tt tt k.lives;
      sends = sends_still v.own d log v.sends v.peers v.outgoing g tt k.sends;
      receives = receives_still v.own d log v.receives v.posted g tt k.receives;
      messages = messages_still v.own d log v.arrived g tt k.messages;
      held = held_still v.own d log v.peers v.arrived v.held g tt k.held;
      owed = owed_still v.own d log v.owed g tt k.owed;
      regions = regions_still v.own d log v.regions g tt refl k.regions;
      completions = record {
        polled_are = ap (λ (x : ℕ). x + 1) k.completions.polled_are;
        polled_within = rw same (let f = n.0 in omega arith);
        completions_are = rw same n.1;
      };
    }))
