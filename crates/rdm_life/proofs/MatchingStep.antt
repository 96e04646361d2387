-- What is kept of messages and of the matcher is what the definitions say, after each deed.
use Rattle.std.proofs.Common.{◌≡◌, ℕ, Bool, true, false, cond, not, ◌&&◌, ◌||◌, List, [], ◌∷◌, ◌++◌, map, Option, None, refl, arith, le-leb, nat_le, nat_lt, ◌-◌, sym, ◌∙◌, ap, subst, append-nil}
use Rattle.std.specs.Prelude.{◌==◌, option_map, is_some}
use Rattle.rdm_lists.specs.Lists.{each_below}
use Rattle.rdm_model.specs.Grants.{first_part_in}
use Rattle.std.proofs.lemmas.Bool.{and_parts, or_parts, eqb-true}
use Rattle.rdm_num.specs.Lives.{same_life}
use Rattle.rdm_num.specs.declared.numbers.Life.{Life}
use Rattle.rdm_num.specs.declared.numbers.MsgNo.{MsgNo}
use Rattle.rdm_num.proofs.Lives.{same_life-true}
use Rattle.rdm_hdr.specs.declared.Opt.{Opt}
use Rattle.rdm_pkt.specs.declared.Packet.TheVariants.{Rtm, Cts, CtsData, Eor, Handshake, Receipt}
use Rattle.rdm_pkt.specs.declared.Form.{Form}
use Rattle.rdm_pkt.specs.Heads.{head_of, piece_of}
use Rattle.rdm_match.specs.Matcher.{Matching, Pair}
use Rattle.rdm_model.specs.declared.job.Instr.TheVariants.{OpenLife, Insert, Reg, Send, Recv, Cancel, Note, Await, Wait, CloseLife}
use Rattle.rdm_model.specs.Beginnings.{Own}
use Rattle.rdm_model.specs.ClassFacts.{class_facts}
use Rattle.rdm_model.specs.Classes.{is_overlap, repeats}
use Rattle.rdm_model.specs.Completions.{Name, heard_names, is_matched, early_count}
use Rattle.rdm_model.specs.Currents.{is_forgotten, forgotten_by}
use Rattle.rdm_model.specs.Deeds.{Deed, Did, PushedNote, Pushed, TookNote, Took, Polled, Nothing, Spelled, Asks, Gives, Garbled}
use Rattle.rdm_num.specs.declared.head.Head.{Head}
use Rattle.rdm_model.specs.Heard.{is_heard, is_next_message, heard_below, heard_head}
use Rattle.rdm_model.specs.Matches.{events_by, arrival, matching}
use Rattle.rdm_law.proofs.Classes.Classed.{taken_parts}
use Rattle.rdm_law.proofs.Lives.Lives.{life_scene, LifeStep, LifeLocal}
use Rattle.rdm_law.proofs.Lives.Replaced.{not_forgotten}
use Rattle.rdm_law.proofs.Matching.Enters.{reach}
use Rattle.rdm_life.specs.Kept.{Kept, nothing_kept}
use Rattle.rdm_life.specs.Keeps.{told, own_pairs, early_message, KeepsLives, KeepsMatching}
use Rattle.rdm_life.specs.Receiving.{hear, enter}
use Rattle.rdm_life.specs.Handling.{opened_by, with_more, add, after_rtm, after_item, after}
use Rattle.rdm_life.proofs.MatchingCancel.{cancel_matching}
use Rattle.rdm_life.proofs.MatchingInsert.{insert_matching}
use Rattle.rdm_life.proofs.MatchingMeets.{meets_matching, recv_matching}
use Rattle.rdm_life.proofs.MatchingOpened.{met_by, named_none, heard_of, facing, new_faces, segment_form, add_early, add_same}
use Rattle.rdm_life.proofs.MatchingQuiet.{still_matching, none_enter}
use Rattle.rdm_life.proofs.MatchingSilent.{still_forgotten, silent_matching}
use Rattle.rdm_life.proofs.MatchingStill.{matching_left}
use Rattle.rdm_life.proofs.MatchingSteps.{met_same}
use Rattle.rdm_life.proofs.MatchingTaken.{other_early, more_early}
use Rattle.rdm_life.proofs.MessageFacts.{named}
use Rattle.rdm_life.proofs.NewEntered.{rtm_entered}
use Rattle.rdm_life.proofs.Pairs.{own_events}
use Rattle.rdm_life.proofs.Tests.{or_none}

-- a packet of a segment brings no first part that is to be granted
abbrev IsSegment : Form → Type 0
IsSegment form = first_part_in form ≡ None

-- the first number is next before any was heard
start_next : (first : ℕ) → (nat_le first first && each_below (λ k. is_some {T = Head} None) (first - first) && not (is_some {T = Head} None)) ≡ true
unfolding each_below
start_next first =
    let none : first - first ≡ 0 = omega arith in
    let low : nat_le first first ≡ true = le-leb first first (omega arith) in
    rw (low, none)

-- before any deed
pub matching_start : (own : Own) → KeepsMatching own [] (nothing_kept own)
unfolding is_heard heard_head is_next_message heard_below matching early_message heard_names early_count
matching_start own = record {
  heard_is = λ life kept n. refl;
  next_is = λ life kept. start_next own.limits.first;
  posted_is = refl;
  arrived_is = refl;
  early_is = λ life kept n. refl;
  early_of_is = λ life kept. refl;
  early_count_is = refl;
}

-- a packet of a message that was heard of changes nothing that was heard
pub same_heard : (from : Life) (number : MsgNo) (tag : Option ℕ) (confirm : Bool) (opt : Opt) (form : Form) (before : List Deed) → is_heard before from number.0 ≡ true
    → (life : Life) (n : ℕ) → is_heard (Took from (Spelled (Rtm number tag confirm opt form)) ∷ before) life n ≡ is_heard before life n
same_heard from number tag confirm opt form before heard life n =
    heard_of from life number tag confirm opt form before n
    ∙ (elim (same_life life from) as (λ b. same_life life from ≡ b → cond b (is_heard before life n || n == number.0) (is_heard before life n) ≡ is_heard before life n) [
      | false ↦ λ is. refl
      | true ↦ λ is. (elim (n == number.0) as (λ c. (n == number.0) ≡ c → (is_heard before life n || c) ≡ is_heard before life n) [
        | false ↦ λ e. or_none (is_heard before life n)
        | true ↦ λ e. (let there : is_heard before life n ≡ true = ap (λ (x : Life). is_heard before x n) (same_life-true life from is) ∙ ap (is_heard before from) (eqb-true n number.0 e) ∙ heard in
            ap (λ (b : Bool). b || true) there ∙ sym there)
      ]) refl
    ])
    refl

-- a packet of a message that was heard of
more_matching : (own : Own) (from : Life) (number : MsgNo) (tag : Option ℕ) (confirm : Bool) (opt : Opt) (form : Form) (before : List Deed) (v : Kept) → is_forgotten before from ≡ false
    → IsSegment form → KeepsMatching own before v → is_heard before from number.0 ≡ true
    → KeepsMatching own (Took from (Spelled (Rtm number tag confirm opt form)) ∷ before) (add from number.0 (piece_of form) (met_by from v))
unfolding heard_names events_by forgotten_by
more_matching own from number tag confirm opt form before v kept segment k heard =
    let d : Deed = Took from (Spelled (Rtm number tag confirm opt form)) in
    let w = met_by from v in
    let m = met_same from v in
    let a = add_same from number.0 (piece_of form) w in
    let same = same_heard from number tag confirm opt form before heard in
    let none : own_events own d before ≡ [] = ap (map (arrival (told own (d ∷ before)).head from)) (none_enter own.limits.first d before from (same from)) in
    let matching = still_matching own d before none in
    let pairs : own_pairs own (d ∷ before) ≡ own_pairs own before = ap (λ (x : Matching). x.pairs) matching in
    matching_left own d before v (add from number.0 (piece_of form) w)
    (record {
      heard = same;
      pairs = pairs;
      names = ap (λ (ns : List Name). heard_names before ++ ns) (named_none from number tag confirm opt form before heard) ∙ append-nil (heard_names before);
      forgotten = λ life. still_forgotten before d life refl;
      posted_kept = a.2 ∙ m.posted ∙ k.posted_is ∙ ap (λ (x : Matching). x.posted) (sym matching);
      arrived_kept = a.3 ∙ m.arrived ∙ k.arrived_is ∙ ap (λ (x : Matching). x.arrived) (sym matching);
      early_of_kept = λ life. a.4 life ∙ m.early_of life;
      early_count_kept = a.5 ∙ m.early_count;
      heard_kept = λ life n. a.0 life n ∙ m.heard life n;
      next_kept = λ life. a.1 life ∙ m.next life;
    })
    (λ life kept' n.
    add_early from number.0 (piece_of form) w life n
    ∙ (elim (same_life life from && n == number.0) as (λ b. (same_life life from && n == number.0) ≡ b → cond b (option_map (with_more (piece_of form)) (w.early life n)) (w.early life n) ≡ early_message own (d ∷ before) life n) [
      | true ↦ λ is.
          let p = and_parts (same_life life from) (n == number.0) is in
          let here : named life n ≡ named from number.0 = ap (λ (x : Life). named x n) (same_life-true life from p.0) ∙ ap (named from) (eqb-true n number.0 p.1) in
          ap (option_map (with_more (piece_of form))) (m.early life n ∙ k.early_is life kept' n ∙ ap (λ (x : Name). early_message own before x.life x.number) here)
          ∙ sym (more_early own from number tag confirm opt form before heard segment (ap (λ (ps : List Pair). is_matched ps (named from number.0)) pairs))
          ∙ ap (λ (x : Name). early_message own (d ∷ before) x.life x.number) (sym here)
      | false ↦ λ is.
          m.early life n ∙ k.early_is life kept' n
          ∙ sym (other_early own from life number tag confirm opt form before n is (ap (λ (ps : List Pair). is_matched ps (named life n)) pairs))
    ])
    refl)
    k

-- a packet that opens a message
opened_matching : (own : Own) (from : Life) (number : MsgNo) (tag : Option ℕ) (confirm : Bool) (opt : Opt) (form : Form) (before : List Deed) (v : Kept)
    → LifeLocal own (Took from (Spelled (Rtm number tag confirm opt form)) ∷ before) → KeepsMatching own before v
    → KeepsMatching own (Took from (Spelled (Rtm number tag confirm opt form)) ∷ before) (after_rtm from number.0 (head_of tag confirm opt form) form (met_by from v))
unfolding after_rtm is_overlap
opened_matching own from number tag confirm opt form before v local k =
    let d : Deed = Took from (Spelled (Rtm number tag confirm opt form)) in
    let step : LifeStep own before d = local.1 in
    let s = life_scene step.0 own step.1 before in
    let taken = taken_parts s from own.life.connid (Spelled (Rtm number tag confirm opt form)) step.2 in
    let kept = not_forgotten own before from local.0 taken.from_current in
    let w = met_by from v in
    let known : (w.peers from).heard number.0 ≡ is_heard before from number.0 = (met_same from v).heard from number.0 ∙ k.heard_is from kept number.0 in
    subst (λ (b : Bool). KeepsMatching own (d ∷ before) (cond b (add from number.0 (piece_of form) w) (enter from (hear from number.0 (opened_by (head_of tag confirm opt form) form) w)))) (sym known)
    ((elim (is_heard before from number.0) as (λ b. is_heard before from number.0 ≡ b
    → KeepsMatching own (d ∷ before) (cond b (add from number.0 (piece_of form) w) (enter from (hear from number.0 (opened_by (head_of tag confirm opt form) form) w)))) [
      | true ↦ λ heard.
          let fresh = or_parts (nat_lt number.0 own.limits.first) (is_heard before from number.0 && repeats (class_facts s) from number.0 form) taken.new in
          let segment : repeats (class_facts s) from number.0 form ≡ false = sym (ap (λ (b : Bool). b && repeats (class_facts s) from number.0 form) heard) ∙ fresh.1 in
          more_matching own from number tag confirm opt form before v kept (segment_form (class_facts s) from number.0 form segment) k heard
      | false ↦ λ unheard.
          let r = reach own.limits.first before from in
          let t = reach own.limits.first (d ∷ before) from in
          subst (KeepsMatching own (d ∷ before)) (sym (rtm_entered own before w from number tag confirm opt form (opened_by (head_of tag confirm opt form) form) (facing own before v from kept k) unheard refl r t))
          (meets_matching own d before _ local (new_faces own before v from number tag confirm opt form kept k unheard r t))
    ])
    refl)

-- each deed
pub matching_step : (own : Own) (d : Deed) (before : List Deed) (v : Kept) → LifeLocal own (d ∷ before) → KeepsLives own before v → KeepsMatching own before v → KeepsMatching own (d ∷ before) (after d v)
unfolding after after_item
matching_step own (Did (Insert life)) before v local lives k = insert_matching own life before v local.0 lives.current_is k
matching_step own (Did (Recv req)) before v local lives k = recv_matching own req before v local lives k
matching_step own (Did (Cancel recv)) before v local lives k = cancel_matching own recv before v k
matching_step own (Did (OpenLife connid)) before v local lives k = silent_matching own (Did (OpenLife connid)) before v tt k
matching_step own (Did (Reg content)) before v local lives k = silent_matching own (Did (Reg content)) before v tt k
matching_step own (Did (Send req)) before v local lives k = silent_matching own (Did (Send req)) before v tt k
matching_step own (Did (Note to what)) before v local lives k = silent_matching own (Did (Note to what)) before v tt k
matching_step own (Did (Await from what)) before v local lives k = silent_matching own (Did (Await from what)) before v tt k
matching_step own (Did (Wait count)) before v local lives k = silent_matching own (Did (Wait count)) before v tt k
matching_step own (Did CloseLife) before v local lives k = silent_matching own (Did CloseLife) before v tt k
matching_step own PushedNote before v local lives k = silent_matching own PushedNote before v tt k
matching_step own Pushed before v local lives k = silent_matching own Pushed before v tt k
matching_step own (TookNote from note) before v local lives k = silent_matching own (TookNote from note) before v tt k
matching_step own (Took from (Spelled (Rtm number tag confirm opt form))) before v local lives k = opened_matching own from number tag confirm opt form before v local k
matching_step own (Took from (Spelled (Cts send recv size connid))) before v local lives k = silent_matching own (Took from (Spelled (Cts send recv size connid))) before v tt k
matching_step own (Took from (Spelled (CtsData recv offset connid bytes))) before v local lives k = silent_matching own (Took from (Spelled (CtsData recv offset connid bytes))) before v tt k
matching_step own (Took from (Spelled (Eor send recv connid))) before v local lives k = silent_matching own (Took from (Spelled (Eor send recv connid))) before v tt k
matching_step own (Took from (Spelled (Handshake words connid raw))) before v local lives k = silent_matching own (Took from (Spelled (Handshake words connid raw))) before v tt k
matching_step own (Took from (Spelled (Receipt number connid))) before v local lives k = silent_matching own (Took from (Spelled (Receipt number connid))) before v tt k
matching_step own (Took from (Asks ask)) before v local lives k = silent_matching own (Took from (Asks ask)) before v tt k
matching_step own (Took from (Gives g)) before v local lives k = silent_matching own (Took from (Gives g)) before v tt k
matching_step own (Took from Garbled) before v local lives k = silent_matching own (Took from Garbled) before v tt k
matching_step own Polled before v local lives k = silent_matching own Polled before v tt k
matching_step own Nothing before v local lives k = silent_matching own Nothing before v tt k
