-- A packet of a message that was not heard of: it is early, and messages enter by it that may meet receives that were posted.
use Rattle.std.proofs.Common.{◌≡◌, ℕ, ◌+◌, ◌-◌, Bool, true, false, cond, ◌&&◌, List, [], ◌∷◌, ◌++◌, map, Option, Some, None, refl, sym, ◌∙◌, ap}
use Rattle.std.specs.Prelude.{◌==◌}
use Rattle.std.specs.List.{list_any}
use Rattle.std.proofs.lemmas.Bool.{and_parts, eqb-true}
use Rattle.std.proofs.lemmas.List.{append-nil}
use Rattle.rdm_lists.specs.Lists.{Member}
use Rattle.rdm_num.specs.Lives.{same_life}
use Rattle.rdm_num.specs.declared.numbers.Life.{Life}
use Rattle.rdm_num.specs.declared.numbers.MsgNo.{MsgNo}
use Rattle.rdm_num.proofs.Lives.{same_life-true}
use Rattle.rdm_hdr.specs.declared.Opt.{Opt}
use Rattle.rdm_pkt.specs.declared.Packet.TheVariants.{Rtm}
use Rattle.rdm_pkt.specs.declared.Form.{Form}
use Rattle.rdm_pkt.specs.Heads.{head_of, piece_of}
use Rattle.rdm_match.specs.Matcher.{Pair}
use Rattle.rdm_model.specs.Beginnings.{Own}
use Rattle.rdm_model.specs.Deeds.{Deed, Took, Spelled}
use Rattle.rdm_model.specs.Heard.{is_heard}
use Rattle.rdm_model.specs.Matches.{Receive, received_by}
use Rattle.rdm_model.specs.Replies.{Reply, handshake_by}
use Rattle.rdm_law.proofs.Classes.Classed.{taken_parts}
use Rattle.rdm_law.proofs.Lives.Lives.{LifeLocal, LifeStep, life_scene}
use Rattle.rdm_law.proofs.Lives.Replaced.{not_forgotten}
use Rattle.rdm_law.proofs.Matching.Enters.{reach}
use Rattle.rdm_life.specs.Kept.{Kept, Peer, with_peer}
use Rattle.rdm_life.specs.Keeps.{own_pairs, own_live_receives, region_byte, is_out, kept_receive, Keeps}
use Rattle.rdm_life.specs.Lives.{greet, with_source}
use Rattle.rdm_life.specs.Memory.{is_place_of}
use Rattle.rdm_life.specs.Receiving.{hear, enter}
use Rattle.rdm_life.specs.Handling.{opened_by, add, after_rtm, after_item, after}
use Rattle.rdm_life.proofs.EarlyWords.{so_far, so_far_still, early_where}
use Rattle.rdm_life.proofs.MadePairs.{made_after, made_unmatched, made_kept}
use Rattle.rdm_life.proofs.MatchingOpened.{met_by, facing}
use Rattle.rdm_life.proofs.MatchingQuiet.{still_heard}
use Rattle.rdm_life.proofs.MatchingSteps.{met_same}
use Rattle.rdm_life.proofs.MatchingTaken.{other_head, other_part, other_bytes, new_so_far}
use Rattle.rdm_life.proofs.Made.{made}
use Rattle.rdm_life.proofs.Meets.{Meeting, Meets, pair_known}
use Rattle.rdm_life.proofs.NewEntered.{rtm_entered}
use Rattle.rdm_life.proofs.OwedIdle.{took_greets}
use Rattle.rdm_life.proofs.TakenBy.{false_unless}

-- a message that was heard of is another one
known_other : (log : List Deed) (from life : Life) (number : MsgNo) (n : ℕ) → is_heard log from number.0 ≡ false → is_heard log life n ≡ true → (same_life life from && n == number.0) ≡ false
known_other log from life number n unheard heard =
    false_unless (same_life life from && n == number.0) (λ is.
    let p = and_parts (same_life life from) (n == number.0) is in
    let there : is_heard log life n ≡ is_heard log from number.0 = ap (λ (x : Life). is_heard log x n) (same_life-true life from p.0) ∙ ap (is_heard log from) (eqb-true n number.0 p.1) in
    let wrong : true ≡ false = sym heard ∙ there ∙ unheard in
    cc)

-- what is kept before messages meet receives
abbrev opened : Own → Life → MsgNo → Option ℕ → Bool → Opt → Form → (more : ℕ) → Kept → Kept
opened own from number tag confirm opt form more v =
    with_peer from (λ (p : Peer). record p { next = p.next + more }) (hear from number.0 (opened_by (head_of tag confirm opt form) form) (met_by from v))

-- the message of a pair that is made is early as far as it came
opened_early : (own : Own) (from : Life) (number : MsgNo) (tag : Option ℕ) (confirm : Bool) (opt : Opt) (form : Form) (more : ℕ) (log : List Deed) (v : Kept)
    → LifeLocal own (Took from (Spelled (Rtm number tag confirm opt form)) ∷ log) → Keeps own log v → is_heard log from number.0 ≡ false
    → (p : Pair) → Member p (made own (Took from (Spelled (Rtm number tag confirm opt form))) log)
    → (opened own from number tag confirm opt form more v).early p.message.life p.message.no.0 ≡ Some (so_far own (Took from (Spelled (Rtm number tag confirm opt form)) ∷ log) p.message.life p.message.no.0)
unfolding hear
opened_early own from number tag confirm opt form more log v local keeps unheard p m =
    let d : Deed = Took from (Spelled (Rtm number tag confirm opt form)) in
    let e = opened_by (head_of tag confirm opt form) form in
    let life = p.message.life in
    let n = p.message.no.0 in
    (elim (same_life life from && n == number.0) as (λ b. (same_life life from && n == number.0) ≡ b → cond b (Some e) ((met_by from v).early life n) ≡ Some (so_far own (d ∷ log) life n)) [
      | true ↦ λ is.
          let q = and_parts (same_life life from) (n == number.0) is in
          ap Some (sym (ap (λ (x : Life). so_far own (d ∷ log) x n) (same_life-true life from q.0) ∙ ap (so_far own (d ∷ log) from) (eqb-true n number.0 q.1)
          ∙ new_so_far own from number tag confirm opt form log unheard))
      | false ↦ λ is.
          let told = other_head from life number tag confirm opt form n is in
          let heard : is_heard log life n ≡ true = sym (still_heard log d life n told) ∙ pair_known own (d ∷ log) p (made_after own d log p m) in
          (met_same from v).early life n
          ∙ keeps.matching.early_is life (made_kept own d log p local m) n
          ∙ early_where own log life n heard (made_unmatched own d log p m)
          ∙ ap Some (sym (so_far_still own d log life n told (other_part from life number tag confirm opt form n is) (other_bytes (own_pairs own log) from life number tag confirm opt form n is)))
    ])
    refl

-- so that is what meets
packet_meeting : (own : Own) (from : Life) (number : MsgNo) (tag : Option ℕ) (confirm : Bool) (opt : Opt) (form : Form) (more : ℕ) (log : List Deed) (v : Kept)
    → LifeLocal own (Took from (Spelled (Rtm number tag confirm opt form)) ∷ log) → Keeps own log v → is_heard log from number.0 ≡ false
    → Meeting own (Took from (Spelled (Rtm number tag confirm opt form))) log (opened own from number tag confirm opt form more v)
unfolding hear greet with_source received_by is_out
packet_meeting own from number tag confirm opt form more log v local keeps unheard =
    let d : Deed = Took from (Spelled (Rtm number tag confirm opt form)) in
    let outs : own_live_receives own log ≡ own_live_receives own log ++ [] = sym (append-nil (own_live_receives own log)) in
    record {
      own_is = keeps.lives.own_is;
      home_is = λ region place.
          keeps.receives.home_is region place
          ∙ ap (λ (rs : List Receive). cond (list_any (λ (r : Receive). is_place_of r.req region place) rs) None (region_byte own log region place)) outs;
      receives_are = keeps.receives.receives_are ∙ ap (map (kept_receive own log)) outs;
      early_are = λ p m. opened_early own from number tag confirm opt form more log v local keeps unheard p m;
      quiet = λ p m.
          other_bytes (own_pairs own log) from p.message.life number tag confirm opt form p.message.no.0 (known_other log from p.message.life number p.message.no.0 unheard (pair_known own log p m));
    }

-- what a packet makes of a message that was not heard of
pub packet_meets : (own : Own) (from : Life) (number : MsgNo) (tag : Option ℕ) (confirm : Bool) (opt : Opt) (form : Form) (log : List Deed) (v : Kept)
    → LifeLocal own (Took from (Spelled (Rtm number tag confirm opt form)) ∷ log) → Keeps own log v → is_heard log from number.0 ≡ false
    → Meets own (Took from (Spelled (Rtm number tag confirm opt form))) log v
unfolding after after_item after_rtm hear greet with_source
packet_meets own from number tag confirm opt form log v local keeps unheard =
    let d : Deed = Took from (Spelled (Rtm number tag confirm opt form)) in
    let step : LifeStep own log d = local.1 in
    let taken = taken_parts (life_scene step.0 own step.1 log) from own.life.connid (Spelled (Rtm number tag confirm opt form)) step.2 in
    let kept = not_forgotten own log from local.0 taken.from_current in
    let e = opened_by (head_of tag confirm opt form) form in
    let w = met_by from v in
    let known : (w.peers from).heard number.0 ≡ false = (met_same from v).heard from number.0 ∙ keeps.matching.heard_is from kept number.0 ∙ unheard in
    let r = reach own.limits.first log from in
    let s = reach own.limits.first (d ∷ log) from in
    record {
      before = opened own from number tag confirm opt form (s.count - r.count) v;
      meeting = packet_meeting own from number tag confirm opt form (s.count - r.count) log v local keeps unheard;
      after_is =
          ap (λ (b : Bool). cond b (add from number.0 (piece_of form) w) (enter from (hear from number.0 e w))) known
          ∙ rtm_entered own log w from number tag confirm opt form e (facing own log v from kept keeps.matching) unheard refl r s;
      owed_is = ap (λ (rs : List Reply). v.owed ++ rs) (took_greets own log v from (Spelled (Rtm number tag confirm opt form)) keeps.lives local) ∙ ap (λ (rs : List Reply). rs ++ handshake_by own log d) keeps.owed.owed_is;
      completions_are = keeps.owed.completions_are;
    }
