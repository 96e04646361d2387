-- A grant or granted bytes that arrive agree with what was granted.
use Rattle.std.proofs.Common.{◌≡◌, ℕ, ◌+◌, ◌-◌, ◌<◌, ◌≤◌, true, false, List, length, Option, Some, None, refl, arith, inl, inr, sym, ◌∙◌, ap, subst}
use Rattle.std.specs.Prelude.{◌==◌, ◌||◌, not, nat_lt}
use Rattle.std.specs.List.{list_any}
use Rattle.std.proofs.lemmas.Bool.{cases_lt, eq-eqb, not-true, le-ltb, or_from}
use Rattle.rdm_lists.specs.Lists.{Member}
use Rattle.rdm_num.specs.Lives.{op_id}
use Rattle.rdm_num.specs.Pieces.{piece_bytes}
use Rattle.rdm_num.specs.declared.numbers.Connid.{Connid}
use Rattle.rdm_num.specs.declared.numbers.Life.{Life}
use Rattle.rdm_num.specs.declared.numbers.OpId.{OpId}
use Rattle.rdm_num.specs.declared.head.Head.{Head}
use Rattle.rdm_pkt.specs.declared.Kind.{Kind}
use Rattle.rdm_pkt.specs.declared.Kind.TheVariants.{LongCts}
use Rattle.rdm_pkt.specs.declared.Packet.TheVariants.{Cts, CtsData}
use Rattle.rdm_pkt.specs.Openings.{openings}
use Rattle.rdm_wire.specs.declared.Datagram.{Datagram}
use Rattle.rdm_match.specs.Matcher.{Pair}
use Rattle.rdm_model.specs.declared.job.Job.{Job}
use Rattle.rdm_model.specs.declared.entry.Entry.{Entry}
use Rattle.rdm_model.specs.Deeds.{Deed, Spelled}
use Rattle.rdm_model.specs.Beginnings.{own_of}
use Rattle.rdm_model.specs.Currents.{is_forgotten}
use Rattle.rdm_model.specs.Grants.{Grant, grants}
use Rattle.rdm_model.specs.Sends.{Sent}
use Rattle.rdm_model.specs.Dues.{pieces_in}
use Rattle.rdm_model.specs.Scenes.{Scene}
use Rattle.rdm_model.specs.Targets.{live_send, live_pair, is_long, is_long_send}
use Rattle.rdm_model.specs.ClassFacts.{passes_grants, allowed_bytes, is_wrong_grant, class_facts}
use Rattle.rdm_model.specs.Classes.{is_mismatch, is_no_op}
use Rattle.rdm_model.specs.Lawful.{life_deeds}
use Rattle.rdm_law.proofs.Accounts.Wired.{Played, own_life}
use Rattle.rdm_law.proofs.Accounts.Known.{account, sends_of}
use Rattle.rdm_law.proofs.Accounts.Named.{send_number, head_length}
use Rattle.rdm_law.proofs.Accounts.Chains.{GrantKnown, grants_known, data_went, data_known, pair_one}
use Rattle.rdm_law.proofs.Accounts.Arrives.{Arrives, arriving_scene}
use Rattle.rdm_law.proofs.Classes.ClassKeys.{not_forgotten_here}
use Rattle.rdm_law.proofs.Ends.LiveSends.{live_send_is}
use Rattle.rdm_law.proofs.Classes.Landed.{live_pair_parts}
use Rattle.rdm_law.proofs.Matching.Distinct.{matching_distinct}
use Rattle.rdm_law.proofs.Replies.Owed.{recv_in}
use Rattle.rdm_law.proofs.Windows.Windows.{reach}
use Rattle.rdm_law.proofs.Windows.WindowsAt.{window_in}
use Rattle.rdm_law.proofs.Windows.Granted.{Granting, allowed_of, own_tells}
use Rattle.rdm_law.proofs.Windows.FirstPart.{first_part_opened}
use Rattle.rdm_law.proofs.Windows.Granting.{cts_went}
use Rattle.rdm_law.proofs.Windows.Tiled.{starts_at, tiled}
use Rattle.rdm_law.proofs.Windows.Pushing.{long_live}
use Rattle.rdm_lists.proofs.Members.{list_any_member}

-- a grant that arrives: its send, of which it grants what comes next
pub record GrantHere (job : Job) (history : List Entry) (j i : Life) (send recv : OpId) (size : ℕ) : Type 0 where
  pub pair : Pair
  pub sent : Sent
  pub granting : Granting job history i j pair sent
  pub number_is : sent.number ≡ send.0
  pub recv_is : recv ≡ recv_in pair
  pub has_byte : 0 < size
  pub within : allowed_of (own_of job j) (life_deeds job history j) sent + size ≤ length sent.message.bytes

-- a grant that arrives is of what comes next of its send, and lies inside the message
pub grant_here : (job : Job) (history : List Entry) (j i : Life) (send recv : OpId) (size : ℕ) (connid : Connid) (d : Datagram)
    → Arrives job history j i (Spelled (Cts send recv size connid)) d → GrantHere job history j i send recv size
grant_here job history j i send recv size connid d a =
    let w = cts_went job history i j send recv size connid d a.played a.taken in
    let own = own_of job i in
    let ms = account job history i in
    let log = life_deeds job history i in
    let start = starts_at job history i j w.pair w.sent w.start size w.answer a.taken.place d a.played w.granting (tiled job history i j w.pair w.sent a.played w.granting)
    w.window' w.answered a.taken.placed a.fresh in
    let in' = window_in own ms log w.pair w.start size w.answer.place (own_tells own.limits.first log) w.window' in
    let l = in'.within in
    let head : (ms.head w.pair.message.life w.pair.message.no.0).length ≡ length w.sent.message.bytes =
    ap (λ (h : Head). h.length) w.granting.head_is ∙ head_length job.limits w.sent.message w.sent.kind in
    let n : op_id w.sent.number ≡ send = sym (send_number job history j w.sent w.granting.sent) ∙ w.send_is in
    record {
      pair = w.pair;
      sent = w.sent;
      granting = w.granting;
      number_is = ap (λ (x : OpId). x.0) n;
      recv_is = w.recv_is;
      has_byte = in'.has_byte;
      within = omega arith;
    }

-- the send of a grant that arrives is live
pub grant_live : (job : Job) (history : List Entry) (j i : Life) (send recv : OpId) (size : ℕ) (connid : Connid) (d : Datagram) (ports : ℕ) (port_log : List Deed)
    → (a : Arrives job history j i (Spelled (Cts send recv size connid)) d) → (g : GrantHere job history j i send recv size)
    → live_send (arriving_scene job history j ports port_log) i send.0 ≡ Some g.sent
grant_live job history j i send recv size connid d ports port_log a g =
    let log = life_deeds job history j in
    let kept = not_forgotten_here job history j i (Spelled (Cts send recv size connid)) d a in
    let f : is_forgotten log g.sent.to ≡ false = subst (λ (x : Life). is_forgotten log x ≡ false) (sym g.granting.to_is) kept in
    let w = g.within in
    let b = g.has_byte in
    live_send_is (arriving_scene job history j ports port_log) g.sent i send.0 g.granting.sent g.granting.to_is g.number_is
    (long_live (own_of job j) log g.sent (own_life job history a.played j) g.granting.sent g.granting.long f (omega arith))

-- a long send is one that takes grants
long_is : (kind : Kind) → kind ≡ LongCts → is_long kind ≡ true
unfolding is_long
long_is kind e = rw e refl

-- a grant that arrives is not NoOp
pub cts_op_free : (job : Job) (history : List Entry) (j i : Life) (send recv : OpId) (size : ℕ) (connid : Connid) (d : Datagram) (ports : ℕ) (port_log : List Deed)
    → Arrives job history j i (Spelled (Cts send recv size connid)) d
    → is_no_op (class_facts (arriving_scene job history j ports port_log)) i (Spelled (Cts send recv size connid)) ≡ false
unfolding is_no_op is_long_send
cts_op_free job history j i send recv size connid d ports port_log a =
    let g = grant_here job history j i send recv size connid d a in
    let live = grant_live job history j i send recv size connid d ports port_log a g in
    ap (λ o. not (is_long_send o)) live ∙ ap not (long_is g.sent.kind g.granting.long)

-- where all grants name one receive, none names another
none_any : (gs : List Grant) (recv : ℕ) → ((g : Grant) → Member g gs → g.recv ≡ recv) → list_any (λ (g : Grant). not (g.recv == recv)) gs ≡ false
none_any gs recv h =
    (elim (list_any (λ (g : Grant). not (g.recv == recv)) gs) as (λ b. list_any (λ (g : Grant). not (g.recv == recv)) gs ≡ b → b ≡ false) [
      | false ↦ λ e. refl
      | true ↦ λ e. (
          let m = list_any_member (λ (g : Grant). not (g.recv == recv)) gs e in
          let t = eq-eqb m.0.recv recv (h m.0 m.1) in
          let f = not-true (m.0.recv == recv) m.2 in
          cc)
    ]) refl

-- each grant of the send names the receive of its pair
grants_name : (job : Job) (history : List Entry) (i j : Life) (p : Pair) (s : Sent) (g : Grant) → Played job history → Granting job history i j p s
    → Member g (grants (life_deeds job history j) s.to s.number) → g.recv ≡ p.recv.id.0
grants_name job history i j p s g played granting m =
    let k = grants_known job history i j s g played granting.sent granting.to_is m in
    let d = matching_distinct (own_of job i).limits.first (account job history i).head (life_deeds job history i) in
    let n : k.pair.message.no.0 ≡ p.message.no.0 = sym k.known.number_is ∙ ap (λ (x : Sent). x.message.no.0) k.sent_is ∙ granting.number_is in
    let same : k.pair ≡ p = d.once k.pair p k.member granting.member (k.life_is ∙ sym granting.life_is) n in
    sym k.recv_is ∙ ap (λ (x : Pair). x.recv.id.0) same

-- a grant that lies inside what is not granted, for the receive as before, is right
grant_right : (s : Scene) (t : Sent) (recv size : ℕ) → allowed_of s.own s.log t + size ≤ length t.message.bytes
    → list_any (λ (g : Grant). not (g.recv == recv)) (grants s.log t.to t.number) ≡ false → is_wrong_grant s recv size (Some t) ≡ false
unfolding is_wrong_grant allowed_bytes
grant_right s t recv size l none =
    or_from (nat_lt (length t.message.bytes - allowed_of s.own s.log t) size) (list_any (λ (g : Grant). not (g.recv == recv)) (grants s.log t.to t.number))
    (le-ltb (length t.message.bytes - allowed_of s.own s.log t) size (omega arith)) none

-- a grant that arrives is no Mismatch
pub cts_agrees : (job : Job) (history : List Entry) (j i : Life) (send recv : OpId) (size : ℕ) (connid : Connid) (d : Datagram) (ports : ℕ) (port_log : List Deed)
    → Arrives job history j i (Spelled (Cts send recv size connid)) d
    → is_mismatch (class_facts (arriving_scene job history j ports port_log)) i (Spelled (Cts send recv size connid)) ≡ false
unfolding is_mismatch
cts_agrees job history j i send recv size connid d ports port_log a =
    let s = arriving_scene job history j ports port_log in
    let g = grant_here job history j i send recv size connid d a in
    let live = grant_live job history j i send recv size connid d ports port_log a g in
    let r : recv.0 ≡ g.pair.recv.id.0 = ap (λ (x : OpId). x.0) g.recv_is in
    let none = none_any (grants (life_deeds job history j) g.sent.to g.sent.number) recv.0
    (λ x m. grants_name job history i j g.pair g.sent x a.played g.granting m ∙ sym r) in
    ap (λ o. is_wrong_grant s recv.0 size o) live ∙ grant_right s g.sent recv.0 size g.within none

-- what is allowed of a send was granted
pub allowed_granted : (job : Job) (history : List Entry) (i j : Life) (p : Pair) (s : Sent) → Played job history → Granting job history i j p s
    → allowed_of (own_of job j) (life_deeds job history j) s ≤ reach (own_of job i).limits (account job history i).head (life_deeds job history i) p
allowed_granted job history i j p s played g =
    let own = own_of job i in
    let ms = account job history i in
    let log = life_deeds job history i in
    let allowed = allowed_of (own_of job j) (life_deeds job history j) s in
    let first = first_part_opened job history i j p s played g in
    elim (cases_lt (piece_bytes (pieces_in (openings (own_of job j).limits s.message s.kind))) allowed) [
      | inr more ↦ omega arith
      | inl less ↦
          let v = tiled job history i j p s played g (allowed - 1) (omega arith) (omega arith) in
          let h = v.high in
          let r = (window_in own ms log p v.start v.size v.answer.place (own_tells own.limits.first log) v.window').reached in
          omega arith
    ]

-- a pair that is granted, as the grant of a send knows it
granting_of : (job : Job) (history : List Entry) (i j : Life) (s : Sent) (recv : ℕ) → Member s (sends_of job history j) → s.to ≡ i → (k : GrantKnown job history i j s recv)
    → Granting job history i j k.pair s
granting_of job history i j s recv m to k =
    record {
      member = k.member;
      life_is = k.life_is;
      sent = m;
      to_is = to;
      number_is = ap (λ (x : Sent). x.message.no.0) (sym k.sent_is) ∙ k.known.number_is;
      long = k.long;
      head_is = k.head_is;
    }

-- granted bytes that end within what was granted do not pass it
passes_none : (s : Scene) (from : Life) (recv end' : ℕ) (o : Option Pair) → live_pair s from recv ≡ o
    → ((p : Pair) → live_pair s from recv ≡ Some p → end' ≤ reach s.own.limits s.ms.head s.log p) → passes_grants s end' o ≡ false
unfolding passes_grants
passes_none s from recv end' None e h = refl
passes_none s from recv end' (Some p) e h = le-ltb (reach s.own.limits s.ms.head s.log p) end' (h p e)

-- granted bytes that arrive are no Mismatch
pub data_agrees : (job : Job) (history : List Entry) (i j : Life) (recv : OpId) (offset : ℕ) (connid : Connid) (bytes : List ℕ) (d : Datagram) (ports : ℕ) (port_log : List Deed)
    → Arrives job history i j (Spelled (CtsData recv offset connid bytes)) d
    → is_mismatch (class_facts (arriving_scene job history i ports port_log)) j (Spelled (CtsData recv offset connid bytes)) ≡ false
unfolding is_mismatch
data_agrees job history i j recv offset connid bytes d ports port_log a =
    let s = arriving_scene job history i ports port_log in
    let w = data_went job history i j recv offset connid bytes d a.taken in
    let k = data_known job history i j recv offset connid bytes a.taken.place a.played w in
    let g = granting_of job history i j w.sent recv.0 w.member w.to_is k in
    let within = w.push.within in
    let is = w.push.is in
    let o : offset ≡ w.push.offset = cc in
    let b : bytes ≡ w.push.bytes = cc in
    let l = ap length b in
    let granted = allowed_granted job history i j k.pair w.sent a.played g in
    passes_none s j recv.0 (offset + length bytes) (live_pair s j recv.0) refl
    (λ p e.
    let live = live_pair_parts s j recv.0 p e in
    let same : p ≡ k.pair = pair_one job history i p k.pair live.member k.member (live.recv_is ∙ sym k.recv_is) in
    subst (λ (x : Pair). offset + length bytes ≤ reach s.own.limits s.ms.head s.log x) (sym same) (omega arith))
