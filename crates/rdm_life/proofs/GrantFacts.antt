-- Whether a grant is wrong, as its send is kept.
use Rattle.std.proofs.Common.{◌≡◌, ℕ, ◌-◌, true, false, cond, not, ◌&&◌, ◌||◌, nat_lt, List, [], ◌∷◌, length, Option, Some, None, refl, eq-eqb, inl, inr, sym, ◌∙◌, ap, subst}
use Rattle.std.specs.Prelude.{◌==◌, option_map, slice_get}
use Rattle.std.specs.List.{list_any}
use Rattle.std.proofs.lemmas.Bool.{and_parts, or_parts, eqb-true, not-false}
use Rattle.rdm_lists.specs.Lists.{Member}
use Rattle.rdm_lists.proofs.Members.{member-append_cases, list_any_false}
use Rattle.rdm_lists.proofs.Filters.{list_any_none}
use Rattle.rdm_num.specs.Lives.{same_life}
use Rattle.rdm_num.specs.declared.numbers.Life.{Life}
use Rattle.rdm_num.specs.declared.numbers.OpId.{OpId}
use Rattle.rdm_num.specs.declared.numbers.Connid.{Connid}
use Rattle.rdm_num.proofs.Lives.{same_life-true}
use Rattle.rdm_pkt.specs.declared.Packet.TheVariants.{Cts}
use Rattle.rdm_model.specs.Beginnings.{Own}
use Rattle.rdm_model.specs.Deeds.{Deed, Took, Spelled}
use Rattle.rdm_model.specs.Grants.{Grant, grants, grants_by}
use Rattle.rdm_model.specs.Scenes.{Scene}
use Rattle.rdm_model.specs.Sends.{Sent}
use Rattle.rdm_model.specs.Targets.{live_send, is_long_send}
use Rattle.rdm_model.specs.ClassFacts.{allowed_bytes, is_wrong_grant}
use Rattle.rdm_model.specs.Classes.{is_mismatch, is_no_op}
use Rattle.rdm_law.proofs.Lives.Lives.{life_scene, LifeStep, LifeLocal}
use Rattle.rdm_law.proofs.Classes.Classed.{IsTaken, taken_parts}
use Rattle.rdm_life.specs.Kept.{Kept}
use Rattle.rdm_life.specs.Keeps.{kept_send, KeepsSends}
use Rattle.rdm_life.specs.Facts.{send_to_life, send_passes, is_wrong_for, is_other_number}
use Rattle.rdm_life.proofs.SendFacts.{send_to_life_is}
use Rattle.rdm_life.proofs.AskFacts.{named}

-- a grant of that send that was taken
record GrantTaken (to : Life) (n : ℕ) (d : Deed) (g : Grant) : Type 0 where
  send : OpId
  recv : OpId
  size : ℕ
  connid : Connid
  is : d ≡ Took to (Spelled (Cts send recv size connid))
  send_is : send.0 ≡ n
  recv_is : g.recv ≡ recv.0

-- the grant of a deed is one that it took
grant_taken : (to : Life) (n : ℕ) (d : Deed) (g : Grant) → Member g (grants_by to n d) → GrantTaken to n d g
unfolding grants_by
grant_taken to n (Took from (Spelled (Cts send recv size connid))) g m =
    (elim (same_life from to && send.0 == n) as (λ b. (same_life from to && send.0 == n) ≡ b → Member g (cond b (record { recv = recv.0; size = size } ∷ []) []) → GrantTaken to n (Took from (Spelled (Cts send recv size connid))) g) [
      | true ↦ λ is k.
          let p = and_parts _ _ is in
          let life = same_life-true from to p.0 in
          let one : g ≡ record { recv = recv.0; size = size } = elim k [ inl e ↦ sym e | inr none ↦ elim none [ ] ] in
          record {
            send = send;
            recv = recv;
            size = size;
            connid = connid;
            is = ap (λ (l : Life). Took l (Spelled (Cts send recv size connid))) life;
            send_is = eqb-true send.0 n p.1;
            recv_is = ap (λ (x : Grant). x.recv) one;
          }
      | false ↦ λ is k. elim k [ ]
    ])
    refl m
grant_taken to n d g m = elim m [ ]

-- all grants of a send that were taken name one receive
abbrev pub OneReceive : List Grant → Type 0
OneReceive gs = (g h : Grant) → Member g gs → Member h gs → g.recv ≡ h.recv

-- a send that takes grants is there
long_there : (o : Option Sent) → not (is_long_send o) ≡ false → (t : Sent) × (o ≡ Some t)
unfolding is_long_send
long_there None h = cc
long_there (Some t) h = (t, refl)

-- a grant that is not wrong names the receive of those before
agrees_with : (s : Scene) (recv size : ℕ) (t : Sent) (g : Grant) → is_wrong_grant s recv size (Some t) ≡ false → Member g (grants s.log t.to t.number) → g.recv ≡ recv
unfolding is_wrong_grant
agrees_with s recv size t g h m =
    let none = (or_parts (nat_lt (length t.message.bytes - allowed_bytes s t) size) (list_any (λ (x : Grant). not (x.recv == recv)) (grants s.log t.to t.number)) h).1 in
    let same = list_any_false (λ (x : Grant). not (x.recv == recv)) (grants s.log t.to t.number) none g m in
    eqb-true g.recv recv (not-false (g.recv == recv) same)

-- so a grant that was taken
taken_agrees : (s : Scene) (to : Life) (own : Connid) (n : ℕ) (send recv : OpId) (size : ℕ) (connid : Connid) (g : Grant) → IsTaken s to own (Spelled (Cts send recv size connid)) → send.0 ≡ n
    → Member g (grants s.log to n) → g.recv ≡ recv.0
unfolding is_no_op is_mismatch
taken_agrees s to own n send recv size connid g i is m =
    let t = long_there (live_send s to send.0) i.has_op in
    let l = named s to send.0 t.0 t.1 in
    let right : is_wrong_grant s recv.0 size (Some t.0) ≡ false = ap (is_wrong_grant s recv.0 size) (sym t.1) ∙ i.agrees in
    let same : grants s.log to n ≡ grants s.log t.0.to t.0.number =
    ap (λ (x : ℕ). grants s.log to x) (sym is ∙ sym l.1) ∙ ap (λ (x : Life). grants s.log x t.0.number) (sym l.0) in
    agrees_with s recv.0 size t.0 g right (subst (λ (gs : List Grant). Member g gs) same m)

-- a grant of a deed names the receive of those before
new_agrees : (own : Own) (d : Deed) (before : List Deed) (to : Life) (n : ℕ) (g h : Grant) → LifeLocal own (d ∷ before) → Member g (grants before to n) → Member h (grants_by to n d)
    → g.recv ≡ h.recv
new_agrees own d before to n g h local old new =
    let t = grant_taken to n d h new in
    let step : LifeStep own before (Took to (Spelled (Cts t.send t.recv t.size t.connid))) = subst (LifeStep own before) t.is local.1 in
    let s = life_scene step.0 own step.1 before in
    taken_agrees s to own.life.connid n t.send t.recv t.size t.connid g (taken_parts s to own.life.connid (Spelled (Cts t.send t.recv t.size t.connid)) step.2) t.send_is old ∙ sym t.recv_is

-- a deed has one grant of a send at most
one_new : (to : Life) (n : ℕ) (d : Deed) (g h : Grant) → Member g (grants_by to n d) → Member h (grants_by to n d) → g.recv ≡ h.recv
one_new to n d g h first second =
    let a = grant_taken to n d g first in
    let b = grant_taken to n d h second in
    let same : Took to (Spelled (Cts a.send a.recv a.size a.connid)) ≡ Took to (Spelled (Cts b.send b.recv b.size b.connid)) = sym a.is ∙ b.is in
    let recv : a.recv ≡ b.recv = cc in
    a.recv_is ∙ ap (λ (o : OpId). o.0) recv ∙ sym b.recv_is

-- so all of them do
pub grants_agree : (own : Own) (log : List Deed) (to : Life) (n : ℕ) → LifeLocal own log → OneReceive (grants log to n)
unfolding grants
grants_agree own [] to n local g h m k = elim m [ ]
grants_agree own (d ∷ before) to n local g h m k =
    elim (member-append_cases g (grants before to n) (grants_by to n d) m) [
      | inl old ↦ elim (member-append_cases h (grants before to n) (grants_by to n d) k) [
        | inl old' ↦ grants_agree own before to n local.0 g h old old'
        | inr new' ↦ new_agrees own d before to n g h local old new'
      ]
      | inr new ↦ elim (member-append_cases h (grants before to n) (grants_by to n d) k) [
        | inl old' ↦ sym (new_agrees own d before to n h g local old' new)
        | inr new' ↦ one_new to n d g h new new'
      ]
    ]

-- where all name one receive, some names another where the first does
any_other : (recv : ℕ) (gs : List Grant) → OneReceive gs
    → is_other_number recv (option_map (λ (g : Grant). g.recv) (slice_get gs 0)) ≡ list_any (λ (g : Grant). not (g.recv == recv)) gs
unfolding is_other_number
any_other recv [] one = refl
any_other recv (g ∷ gs) one =
    (elim (g.recv == recv) as (λ b. (g.recv == recv) ≡ b → not b ≡ (not b || list_any (λ (h : Grant). not (h.recv == recv)) gs)) [
      | true ↦ λ is. sym (list_any_none (λ (h : Grant). not (h.recv == recv)) gs
          (λ h m. ap not (eq-eqb h.recv recv (one h g (inr m) (inl refl) ∙ eqb-true g.recv recv is))))
      | false ↦ λ is. refl
    ])
    refl

-- of a send that is there
wrong_of : (own : Own) (ports : ℕ) (port_log log : List Deed) (recv size : ℕ) (o : Option Sent) → LifeLocal own log
    → send_passes (is_wrong_for recv size) (option_map (kept_send own log) o) ≡ is_wrong_grant (life_scene ports own port_log log) recv size o
unfolding send_passes is_wrong_for is_wrong_grant kept_send allowed_bytes
wrong_of own ports port_log log recv size None local = refl
wrong_of own ports port_log log recv size (Some t) local =
    let other = any_other recv (grants log t.to t.number) (grants_agree own log t.to t.number local) in
    rw other

-- whether a grant is wrong
pub is_wrong_grant_is : (own : Own) (ports : ℕ) (port_log log : List Deed) (v : Kept) (to : Life) (send recv size : ℕ) → LifeLocal own log → KeepsSends own log v
    → send_passes (is_wrong_for recv size) (send_to_life v to send)
    ≡ is_wrong_grant (life_scene ports own port_log log) recv size (live_send (life_scene ports own port_log log) to send)
is_wrong_grant_is own ports port_log log v to send recv size local k =
    ap (send_passes (is_wrong_for recv size)) (send_to_life_is own ports port_log log v to send k)
    ∙ wrong_of own ports port_log log recv size (live_send (life_scene ports own port_log log) to send) local
