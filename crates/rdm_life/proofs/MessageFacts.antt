-- What is known of a message that was heard of, as it is kept: its head, and which of its bytes came.
use Rattle.std.proofs.Common.{◌≡◌, ℕ, true, false, ◌&&◌, List, Some, None, refl, sym, ◌∙◌, ap}
use Rattle.std.specs.Prelude.{◌==◌, is_some, unwrap_or}
use Rattle.std.proofs.lemmas.Bool.{and_parts, and_from}
use Rattle.rdm_lists.specs.Lists.{Member}
use Rattle.rdm_lists.proofs.Filters.{list_any_none}
use Rattle.rdm_lists.proofs.Members.{member_list_any}
use Rattle.rdm_num.specs.Lives.{same_life}
use Rattle.rdm_num.specs.Pieces.{byte_at, covers}
use Rattle.rdm_num.specs.declared.numbers.Life.{Life}
use Rattle.rdm_match.specs.Matcher.{Pair}
use Rattle.rdm_model.specs.Beginnings.{Own, no_head}
use Rattle.rdm_model.specs.ClassFacts.{is_filled_end, is_received}
use Rattle.rdm_model.specs.Completions.{Name, is_matched}
use Rattle.rdm_model.specs.Deeds.{Deed}
use Rattle.rdm_model.specs.Heard.{heard_head, is_heard}
use Rattle.rdm_model.specs.Local.{heads_by, heard_by}
use Rattle.rdm_model.specs.Parts.{carried_pieces}
use Rattle.rdm_model.specs.Receives.{RecvEnd, Filled, Withdrawn, Gone, ended_recv, recv_ends, has_ended, is_filled}
use Rattle.rdm_law.proofs.Lives.Lives.{life_scene}
use Rattle.rdm_law.proofs.Ends.EndKinds.{end_is}
use Rattle.rdm_law.proofs.Ends.FilledEnds.{filled_ended}
use Rattle.rdm_law.proofs.Matching.Distinct.{matching_distinct}
use Rattle.rdm_num.proofs.Lives.{same_life-true, same_life-refl}
use Rattle.std.proofs.lemmas.Bool.{eqb-true, eq-eqb}
use Rattle.rdm_life.specs.Kept.{Kept, EarlyMessage, LiveReceive}
use Rattle.rdm_life.specs.Keeps.{told, own_pairs, matched_of}
use Rattle.rdm_life.specs.Handling.{receive_of}
use Rattle.rdm_life.proofs.TakenBy.{false_unless, message_of_pair}
use Rattle.rdm_life.proofs.Apart.{own_ended}

-- the message of that number
abbrev pub named : Life → ℕ → Name
named source n = record { life = source; number = n }

-- a message whose receive completed with it was matched
pub received_matched : (own : Own) (ports : ℕ) (port_log log : List Deed) (source : Life) (n : ℕ) → is_matched (own_pairs own log) (named source n) ≡ false
    → is_received (life_scene ports own port_log log) source n ≡ false
unfolding is_received is_filled_end
received_matched own ports port_log log source n unmatched =
    let first = own.limits.first in
    let hs = (told own log).head in
    list_any_none (is_filled_end source n) (recv_ends first hs log) (λ e m.
    (elim e as (λ x. Member x (recv_ends first hs log) → is_filled_end source n x ≡ false) [
      | Filled p ↦ λ k. false_unless (same_life p.message.life source && p.message.no.0 == n) (λ is.
          let parts = and_parts (same_life p.message.life source) (p.message.no.0 == n) is in
          let matched = message_of_pair own log source n p (end_is first hs log (Filled p) k) (same_life-true p.message.life source parts.0) (eqb-true p.message.no.0 n parts.1) in
          let wrong : true ≡ false = sym matched ∙ unmatched in
          cc)
      | Withdrawn k ↦ λ m. refl
      | Gone k ↦ λ m. refl
    ]) m)

-- a receive that was filled completed with its message, and has ended
pub filled_received : (own : Own) (ports : ℕ) (port_log log : List Deed) (p : Pair) → Member p (own_pairs own log) → is_filled own.limits.first (told own log).head log p ≡ true
    → (is_received (life_scene ports own port_log log) p.message.life p.message.no.0 ≡ true) × (own_ended own log p.recv.id.0 ≡ true)
unfolding is_received is_filled_end has_ended ended_recv
filled_received own ports port_log log p m filled =
    let first = own.limits.first in
    let hs = (told own log).head in
    let e = filled_ended first hs log p m filled in (
      member_list_any (is_filled_end p.message.life p.message.no.0) (Filled p) (recv_ends first hs log) e
          (and_from (same_life p.message.life p.message.life) (p.message.no.0 == p.message.no.0) (same_life-refl p.message.life) (eq-eqb p.message.no.0 p.message.no.0 refl)),
      member_list_any (λ (x : RecvEnd). ended_recv x == p.recv.id.0) (Filled p) (recv_ends first hs log) e (eq-eqb p.recv.id.0 p.recv.id.0 refl),
    )

-- a message that was matched but not filled was not received
pub unfilled_received : (own : Own) (ports : ℕ) (port_log log : List Deed) (p : Pair) → Member p (own_pairs own log) → own_ended own log p.recv.id.0 ≡ false
    → is_received (life_scene ports own port_log log) p.message.life p.message.no.0 ≡ false
unfolding is_received is_filled_end has_ended ended_recv
unfilled_received own ports port_log log p m not_ended =
    let first = own.limits.first in
    let hs = (told own log).head in
    let once = (matching_distinct first hs log).once in
    list_any_none (is_filled_end p.message.life p.message.no.0) (recv_ends first hs log) (λ e k.
    (elim e as (λ x. Member x (recv_ends first hs log) → is_filled_end p.message.life p.message.no.0 x ≡ false) [
      | Filled q ↦ λ l. false_unless (same_life q.message.life p.message.life && q.message.no.0 == p.message.no.0) (λ is.
          let parts = and_parts (same_life q.message.life p.message.life) (q.message.no.0 == p.message.no.0) is in
          let same : q ≡ p = once q p (end_is first hs log (Filled q) l) m (same_life-true q.message.life p.message.life parts.0) (eqb-true q.message.no.0 p.message.no.0 parts.1) in
          let ended : own_ended own log q.recv.id.0 ≡ true = member_list_any (λ (x : RecvEnd). ended_recv x == q.recv.id.0) (Filled q) (recv_ends first hs log) l (eq-eqb q.recv.id.0 q.recv.id.0 refl) in
          let wrong : true ≡ false = sym ended ∙ ap (λ (x : Pair). own_ended own log x.recv.id.0) same ∙ not_ended in
          cc)
      | Withdrawn j ↦ λ l. refl
      | Gone j ↦ λ l. refl
    ]) k)

-- what the account of a message that was heard of tells of its head
pub told_head : (own : Own) (log : List Deed) (source : Life) (n : ℕ) → is_heard log source n ≡ true → heard_head log source n ≡ Some ((told own log).head source n)
unfolding is_heard heads_by heard_by
told_head own log source n heard =
    (elim (heard_head log source n) as (λ o. is_some o ≡ true → o ≡ Some (unwrap_or o no_head)) [
      | Some h ↦ λ k. refl
      | None ↦ λ k. cc
    ]) heard

-- what is known of a message of a life that was not forgotten
pub data Stands (own : Own) (ports : ℕ) (port_log log : List Deed) (v : Kept) (source : Life) (n : ℕ) : Type 0 where
  -- it was not heard of
  Unheard : is_heard log source n ≡ false → v.early source n ≡ None → receive_of v source n ≡ None → is_received (life_scene ports own port_log log) source n ≡ false → Stands own ports port_log log v source n
  -- it is early
  IsEarly : is_heard log source n ≡ true → (e : EarlyMessage) → v.early source n ≡ Some e → e.head ≡ (told own log).head source n
      → ((place : ℕ) → e.came place ≡ byte_at (carried_pieces own.limits.first (told own log).head log source n) place)
      → is_received (life_scene ports own port_log log) source n ≡ false → Stands own ports port_log log v source n
  -- a live receive takes it
  IsLanding : is_heard log source n ≡ true → v.early source n ≡ None → (r : LiveReceive) → receive_of v source n ≡ Some r → (p : Pair) → r.matched ≡ Some (matched_of own log p)
      → p.message.life ≡ source → p.message.no.0 ≡ n → is_received (life_scene ports own port_log log) source n ≡ false → Stands own ports port_log log v source n
  -- a receive has completed with it
  IsDone : is_heard log source n ≡ true → v.early source n ≡ None → receive_of v source n ≡ None
      → covers (carried_pieces own.limits.first (told own log).head log source n) ((told own log).head source n).length ≡ true
      → is_received (life_scene ports own port_log log) source n ≡ true → Stands own ports port_log log v source n
