-- How a message of a life that was not forgotten stands, and what that says of its head and its bytes.
use Rattle.std.proofs.Common.{◌≡◌, ℕ, true, false, not, ◌&&◌, List, Option, Some, None, refl, sym, ◌∙◌, ap, subst}
use Rattle.std.specs.Prelude.{option_map, is_some}
use Rattle.std.proofs.lemmas.Bool.{and_parts}
use Rattle.rdm_lists.specs.Lists.{Member}
use Rattle.rdm_num.specs.Pieces.{byte_at, covers}
use Rattle.rdm_num.specs.declared.numbers.Life.{Life}
use Rattle.rdm_num.specs.declared.head.Head.{Head}
use Rattle.rdm_match.specs.Matcher.{Pair}
use Rattle.rdm_model.specs.Beginnings.{Own}
use Rattle.rdm_model.specs.ClassFacts.{is_received, awaited_head}
use Rattle.rdm_model.specs.Completions.{is_matched}
use Rattle.rdm_model.specs.Currents.{is_forgotten}
use Rattle.rdm_model.specs.Deeds.{Deed}
use Rattle.rdm_model.specs.Grants.{first_part}
use Rattle.rdm_model.specs.Heard.{heard_head, is_heard}
use Rattle.rdm_model.specs.Parts.{carried_pieces, has_landed}
use Rattle.rdm_model.specs.Receives.{is_filled}
use Rattle.rdm_model.proofs.Matches.{pair_heard}
use Rattle.rdm_law.proofs.Lives.Lives.{life_scene, LifeLocal}
use Rattle.rdm_law.proofs.Ends.Live.{live_unless}
use Rattle.rdm_life.specs.Kept.{Kept, EarlyMessage}
use Rattle.rdm_life.specs.Keeps.{told, own_pairs, early_message, kept_receive, matched_of, KeepsMatching, KeepsReceives}
use Rattle.rdm_life.specs.Handling.{receive_of}
use Rattle.rdm_life.specs.Facts.{head_in_receive, head_or_matched}
use Rattle.rdm_life.proofs.TakenBy.{false_unless, LiveOf, live_of, receive_of_is, pair_of_message, none_takes, done_takes, live_takes}
use Rattle.rdm_life.proofs.MessageFacts.{named, received_matched, filled_received, unfilled_received, told_head, Stands, Unheard, IsEarly, IsLanding, IsDone}
use Rattle.rdm_life.proofs.Apart.{own_ended}

-- a message that was matched was heard of
pub matched_heard : (own : Own) (log : List Deed) (source : Life) (n : ℕ) → is_matched (own_pairs own log) (named source n) ≡ true → is_heard log source n ≡ true
unfolding is_heard
matched_heard own log source n matched =
    let p = pair_of_message own log source n matched in
    let h = pair_heard own.limits.first (told own log).head log p.0 p.1 in
    let there : heard_head log source n ≡ Some h.0 =
    ap (λ (l : Life). heard_head log l n) (sym p.2) ∙ ap (λ (k : ℕ). heard_head log p.0.message.life k) (sym p.3) ∙ h.1 in
    ap is_some there

-- so one that was not heard of was not matched
pub unheard_unmatched : (own : Own) (log : List Deed) (source : Life) (n : ℕ) → is_heard log source n ≡ false → is_matched (own_pairs own log) (named source n) ≡ false
unheard_unmatched own log source n unheard =
    false_unless (is_matched (own_pairs own log) (named source n)) (λ is. (let heard = matched_heard own log source n is in let wrong : true ≡ false = sym heard ∙ unheard in cc))

-- the early message of a number, by what is known of it
pub early_none : (own : Own) (log : List Deed) (source : Life) (n : ℕ) → (is_heard log source n && not (is_matched (own_pairs own log) (named source n))) ≡ false → early_message own log source n ≡ None
unfolding early_message
early_none own log source n h = rw h

-- a message that was heard of and not matched is early
pub early_some : (own : Own) (log : List Deed) (source : Life) (n : ℕ) → is_heard log source n ≡ true → is_matched (own_pairs own log) (named source n) ≡ false
    → (e : EarlyMessage) × (early_message own log source n ≡ Some e) × (e.head ≡ (told own log).head source n)
    × ((place : ℕ) → e.came place ≡ byte_at (carried_pieces own.limits.first (told own log).head log source n) place)
unfolding early_message
early_some own log source n heard unmatched =
    let both : (is_heard log source n && not (is_matched (own_pairs own log) (named source n))) ≡ true = rw (heard, unmatched) in (
      record {
        head = (told own log).head source n;
        came = λ place. byte_at (carried_pieces own.limits.first (told own log).head log source n) place;
        first_part = first_part log source n;
      },
      rw both,
      refl,
      λ place. refl,
    )

-- a message that was matched, whose receive is live
landing : (own : Own) (ports : ℕ) (port_log log : List Deed) (v : Kept) (source : Life) (n : ℕ) → KeepsReceives own log v → is_heard log source n ≡ true → v.early source n ≡ None
    → (p : Pair) → Member p (own_pairs own log) → p.message.life ≡ source → p.message.no.0 ≡ n → own_ended own log p.recv.id.0 ≡ false → Stands own ports port_log log v source n
unfolding kept_receive
landing own ports port_log log v source n k heard none p m life number going =
    let l : LiveOf own log p = live_of own log p m going in
    let found = receive_of_is own log v source n k ∙ ap (option_map (kept_receive own log)) (live_takes own log source n p m life number l) in
    let received : is_received (life_scene ports own port_log log) source n ≡ false =
    subst (λ (j : ℕ). is_received (life_scene ports own port_log log) source j ≡ false) number
    (subst (λ (x : Life). is_received (life_scene ports own port_log log) x p.message.no.0 ≡ false) life (unfilled_received own ports port_log log p m going)) in
    IsLanding heard none (kept_receive own log l.recv) found p (ap (option_map (matched_of own log)) l.pair_is) life number received

-- a message that was matched, and filled its receive
done : (own : Own) (ports : ℕ) (port_log log : List Deed) (v : Kept) (source : Life) (n : ℕ) → KeepsReceives own log v → is_heard log source n ≡ true → v.early source n ≡ None
    → (p : Pair) → Member p (own_pairs own log) → p.message.life ≡ source → p.message.no.0 ≡ n → is_filled own.limits.first (told own log).head log p ≡ true → Stands own ports port_log log v source n
unfolding is_filled has_landed
done own ports port_log log v source n k heard none p m life number filled =
    let f = filled_received own ports port_log log p m filled in
    let found = receive_of_is own log v source n k ∙ ap (option_map (kept_receive own log)) (done_takes own log source n p m life number f.1) in
    let received : is_received (life_scene ports own port_log log) source n ≡ true =
    subst (λ (j : ℕ). is_received (life_scene ports own port_log log) source j ≡ true) number
    (subst (λ (x : Life). is_received (life_scene ports own port_log log) x p.message.no.0 ≡ true) life f.0) in
    let all = (and_parts _ _ filled).1 in
    let landed : covers (carried_pieces own.limits.first (told own log).head log source n) ((told own log).head source n).length ≡ true =
    subst (λ (j : ℕ). covers (carried_pieces own.limits.first (told own log).head log source j) ((told own log).head source j).length ≡ true) number
    (subst (λ (x : Life). covers (carried_pieces own.limits.first (told own log).head log x p.message.no.0) ((told own log).head x p.message.no.0).length ≡ true) life all) in
    IsDone heard none found landed received

-- a message that was matched
matched_stands : (own : Own) (ports : ℕ) (port_log log : List Deed) (v : Kept) (source : Life) (n : ℕ) → LifeLocal own log → KeepsReceives own log v → is_forgotten log source ≡ false
    → is_heard log source n ≡ true → v.early source n ≡ None → is_matched (own_pairs own log) (named source n) ≡ true → Stands own ports port_log log v source n
matched_stands own ports port_log log v source n local k kept heard none matched =
    let p = pair_of_message own log source n matched in
    let first = own.limits.first in
    let hs = (told own log).head in
    (elim (is_filled first hs log p.0) as (λ b. is_filled first hs log p.0 ≡ b → Stands own ports port_log log v source n) [
      | true ↦ λ filled. done own ports port_log log v source n k heard none p.0 p.1 p.2 p.3 filled
      | false ↦ λ unfilled.
          landing own ports port_log log v source n k heard none p.0 p.1 p.2 p.3
          (live_unless own log p.0 local p.1 unfilled (ap (is_forgotten log) p.2 ∙ kept))
    ])
    refl

-- how a message stands
pub stands : (own : Own) (ports : ℕ) (port_log log : List Deed) (v : Kept) (source : Life) (n : ℕ) → LifeLocal own log → KeepsMatching own log v → KeepsReceives own log v
    → is_forgotten log source ≡ false → Stands own ports port_log log v source n
stands own ports port_log log v source n local m k kept =
    let early = m.early_is source kept n in
    (elim (is_heard log source n) as (λ b. is_heard log source n ≡ b → Stands own ports port_log log v source n) [
      | false ↦ λ unheard.
          let unmatched = unheard_unmatched own log source n unheard in
          Unheard unheard (early ∙ early_none own log source n (rw unheard))
          (receive_of_is own log v source n k ∙ ap (option_map (kept_receive own log)) (none_takes own log source n unmatched))
          (received_matched own ports port_log log source n unmatched)
      | true ↦ λ heard.
          (elim (is_matched (own_pairs own log) (named source n)) as (λ b. is_matched (own_pairs own log) (named source n) ≡ b → Stands own ports port_log log v source n) [
            | true ↦ λ matched. matched_stands own ports port_log log v source n local k kept heard (early ∙ early_none own log source n (rw (heard, matched))) matched
            | false ↦ λ unmatched.
                let e = early_some own log source n heard unmatched in
                IsEarly heard e.0 (early ∙ e.1) e.2 e.3 (received_matched own ports port_log log source n unmatched)
          ]) refl
    ])
    refl

-- no head is none
none_head : (o : Option Head) → is_some o ≡ false → None ≡ o
none_head None h = refl
none_head (Some x) h = cc

-- the head of a message, as long as no receive has completed with it
pub head_is : (own : Own) (ports : ℕ) (port_log log : List Deed) (v : Kept) (source : Life) (n : ℕ) → Stands own ports port_log log v source n
    → head_or_matched (v.early source n) (receive_of v source n) ≡ awaited_head (life_scene ports own port_log log) source n
unfolding head_or_matched head_in_receive awaited_head is_heard
head_is own ports port_log log v source n (Unheard unheard early receive received) = rw (early, receive, received) (none_head (heard_head log source n) unheard)
head_is own ports port_log log v source n (IsEarly heard e early head came received) = rw (early, received) (ap Some head ∙ sym (told_head own log source n heard))
head_is own ports port_log log v source n (IsLanding heard early r receive p matched life number received) =
    rw (early, receive, received, matched)
    (ap (λ (l : Life). Some ((told own log).head l p.message.no.0)) life ∙ ap (λ (k : ℕ). Some ((told own log).head source k)) number ∙ sym (told_head own log source n heard))
head_is own ports port_log log v source n (IsDone heard early receive landed received) = rw (early, receive, received)
