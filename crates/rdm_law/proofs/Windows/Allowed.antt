-- A sender is never granted more than its message has.
use Rattle.std.proofs.Common.{◌≡◌, ℕ, ◌+◌, ◌-◌, ◌≤◌, true, false, cond, not, ◌&&◌, List, [], ◌∷◌, ◌++◌, length, Option, Some, None, refl, arith, ◌⊎◌, inl, inr, sym, ◌∙◌, ap, subst}
use Rattle.std.specs.Prelude.{◌==◌, sum_by}
use Rattle.std.proofs.lemmas.Bool.{and_parts, or_parts, ltb-false, eqb-true}
use Rattle.std.proofs.lemmas.List.{append-nil}
use Rattle.std.proofs.lemmas.List.Sums.{sum_by-append}
use Rattle.rdm_lists.specs.Lists.{Member}
use Rattle.rdm_num.specs.Lives.{same_life}
use Rattle.rdm_num.specs.Pieces.{piece_bytes}
use Rattle.rdm_num.specs.declared.numbers.Life.{Life}
use Rattle.rdm_num.specs.declared.numbers.OpId.{OpId}
use Rattle.rdm_num.specs.declared.numbers.Connid.{Connid}
use Rattle.rdm_pkt.specs.declared.Packet.TheVariants.{Cts}
use Rattle.rdm_pkt.specs.Openings.{openings}
use Rattle.rdm_model.specs.Deeds.{Deed, Took, Spelled}
use Rattle.rdm_model.specs.Beginnings.{Own, Messages}
use Rattle.rdm_model.specs.Sends.{Sent, sends}
use Rattle.rdm_model.specs.Grants.{Grant, grants_by, grants, grant_bytes}
use Rattle.rdm_model.specs.Targets.{live_send, is_long_send}
use Rattle.rdm_model.specs.ClassFacts.{allowed_bytes, is_wrong_grant}
use Rattle.rdm_model.specs.Classes.{is_mismatch, is_no_op}
use Rattle.rdm_model.specs.Scenes.{Scene}
use Rattle.rdm_model.specs.Dues.{pieces_in, live_sends}
use Rattle.rdm_model.specs.Local.{heard_by}
use Rattle.rdm_model.proofs.SameRegions.{sends_same}
use Rattle.rdm_model.proofs.Grows.{agree_grows}
use Rattle.rdm_model.proofs.Cuts.{row_within}
use Rattle.rdm_model.proofs.Opens.{openings_in_row}
use Rattle.rdm_model.proofs.Numbers.{sends_one}
use Rattle.rdm_model.proofs.Pushes.{member_later}
use Rattle.rdm_law.proofs.Lives.Lives.{life_scene, LifeStep, LifeLocal}
use Rattle.rdm_law.proofs.Classes.Classed.{IsTaken, taken_parts}
use Rattle.rdm_law.proofs.Ends.LiveSends.{live_parts}
use Rattle.rdm_law.proofs.Accounts.WasDue.{own_sends}
use Rattle.rdm_lists.proofs.Members.{find_member}
use Rattle.rdm_num.proofs.Lives.{same_life-true}

-- how many bytes the openings of a send have together
abbrev pub opened : Own → Sent → ℕ
opened own s = piece_bytes (pieces_in (openings own.limits s.message s.kind))

-- the openings have no more than the message
opened_within : (own : Own) (s : Sent) → opened own s ≤ length s.message.bytes
opened_within own s =
    let r = row_within s.message.bytes 0 (pieces_in (openings own.limits s.message s.kind)) (openings_in_row own.limits s.message s.kind) (omega arith) in
    omega arith

-- a send stays made as its life hears more
pub own_later : (own : Own) (d : Deed) (before : List Deed) (s : Sent) → Member s (own_sends own before) → Member s (own_sends own (d ∷ before))
own_later own d before s m =
    member_later own (heard_by own.limits.first (d ∷ before)) d before s
    (subst (λ (xs : List Sent). Member s xs) (sends_same own (heard_by own.limits.first before) (heard_by own.limits.first (d ∷ before)) before (agree_grows own.limits.first d before)) m)

-- the send of that number, of which no more was granted than it has
pub record Granted (own : Own) (log : List Deed) (to : Life) (n : ℕ) : Type 0 where
  pub sent : Sent
  pub member : Member sent (own_sends own log)
  pub to_is : sent.to ≡ to
  pub number_is : sent.number ≡ n
  pub within : opened own sent + grant_bytes (grants log to n) ≤ length sent.message.bytes

-- the live send that a grant names
pub record LiveLong (own : Own) (ms : Messages) (log : List Deed) (to : Life) (n : ℕ) (t : Sent) : Type 0 where
  pub member : Member t (sends own ms log)
  pub to_is : t.to ≡ to
  pub number_is : t.number ≡ n

-- the live send of a number
live_named : (s : Scene) (to : Life) (n : ℕ) (t : Sent) → live_send s to n ≡ Some t → LiveLong s.own s.ms s.log to n t
unfolding live_send
live_named s to n t h =
    let f = find_member (λ (x : Sent). same_life x.to to && x.number == n) t (live_sends s.own s.ms s.log) h in
    let p = and_parts (same_life t.to to) (t.number == n) f.1 in
    record { member = (live_parts s.own s.ms s.log t f.0).0; to_is = same_life-true t.to to p.0; number_is = eqb-true t.number n p.1 }

-- a send that takes grants is there
some_send : (o : Option Sent) → not (is_long_send o) ≡ false → (t : Sent) × (o ≡ Some t)
unfolding is_long_send
some_send None h = cc
some_send (Some t) h = (t, refl)

-- a right grant is within what is not granted
grant_fits : (s : Scene) (recv size : ℕ) (t : Sent) → is_wrong_grant s recv size (Some t) ≡ false → size ≤ length t.message.bytes - allowed_bytes s t
unfolding is_wrong_grant
grant_fits s recv size t h = ltb-false (length t.message.bytes - allowed_bytes s t) size (or_parts _ _ h).0

-- what is allowed: the openings and the grants
allowed_is : (s : Scene) (t : Sent) → allowed_bytes s t ≡ opened s.own t + grant_bytes (grants s.log t.to t.number)
unfolding allowed_bytes
allowed_is s t = refl

-- a grant that a life took fits
taken_grant : (s : Scene) (from : Life) (to : Connid) (send recv : OpId) (size : ℕ) (connid : Connid) → IsTaken s from to (Spelled (Cts send recv size connid))
    → (t : Sent) × LiveLong s.own s.ms s.log from send.0 t × (size ≤ length t.message.bytes - (opened s.own t + grant_bytes (grants s.log from send.0)))
unfolding is_no_op is_mismatch
taken_grant s from to send recv size connid i =
    let t = some_send (live_send s from send.0) i.has_op in
    let l = live_named s from send.0 t.0 t.1 in
    let wrong : is_wrong_grant s recv.0 size (Some t.0) ≡ false = ap (is_wrong_grant s recv.0 size) (sym t.1) ∙ i.agrees in
    let fit = grant_fits s recv.0 size t.0 wrong in
    let a = allowed_is s t.0 in
    let e : grant_bytes (grants s.log t.0.to t.0.number) ≡ grant_bytes (grants s.log from send.0) =
    ap (λ (l : Life). grant_bytes (grants s.log l t.0.number)) l.to_is ∙ ap (λ (n : ℕ). grant_bytes (grants s.log from n)) l.number_is in
    (t.0, l, omega arith)

-- no grants, no bytes
grants_none : (log : List Deed) (to : Life) (n : ℕ) → grants log to n ≡ [] → grant_bytes (grants log to n) ≡ 0
unfolding grant_bytes
grants_none log to n e = ap (λ (gs : List Grant). grant_bytes gs) e

-- a deed adds its grant
grants_more : (d : Deed) (before : List Deed) (to : Life) (n : ℕ) → grant_bytes (grants (d ∷ before) to n) ≡ grant_bytes (grants before to n) + grant_bytes (grants_by to n d)
unfolding grants grant_bytes
grants_more d before to n = sum_by-append (λ (g : Grant). g.size) (grants before to n) (grants_by to n d)

-- a deed without a grant adds none
grants_empty : (d : Deed) (before : List Deed) (to : Life) (n : ℕ) → grants_by to n d ≡ [] → grants (d ∷ before) to n ≡ grants before to n
unfolding grants
grants_empty d before to n e = ap (λ (gs : List Grant). grants before to n ++ gs) e ∙ append-nil (grants before to n)

-- what was granted of a send: nothing, or no more than it has
abbrev Fits : Own → List Deed → Life → ℕ → Type 0
Fits own log to n = (grants log to n ≡ []) ⊎ Granted own log to n

-- a deed without a grant changes nothing
fits_same : (own : Own) (d : Deed) (before : List Deed) (to : Life) (n : ℕ) → grants_by to n d ≡ [] → Fits own before to n → Fits own (d ∷ before) to n
fits_same own d before to n e (inl h) = inl (grants_empty d before to n e ∙ h)
fits_same own d before to n e (inr g) =
    let same = grants_empty d before to n e in
    inr (record {
      sent = g.sent;
      member = own_later own d before g.sent g.member;
      to_is = g.to_is;
      number_is = g.number_is;
      within = subst (λ (gs : List Grant). opened own g.sent + grant_bytes gs ≤ length g.sent.message.bytes) (sym same) g.within;
    })

-- what was granted before, of a live send
fits_live : (own : Own) (before : List Deed) (to : Life) (n : ℕ) (t : Sent) → LiveLong own (heard_by own.limits.first before) before to n t → Fits own before to n
    → opened own t + grant_bytes (grants before to n) ≤ length t.message.bytes
fits_live own before to n t l (inl h) = let z = grants_none before to n h in let o = opened_within own t in omega arith
fits_live own before to n t l (inr g) =
    let same : g.sent ≡ t = sends_one own (heard_by own.limits.first before) before g.sent t g.member l.member (g.number_is ∙ sym l.number_is) in
    subst (λ (x : Sent). opened own x + grant_bytes (grants before to n) ≤ length x.message.bytes) same g.within

-- a grant adds no more than its size
grants_of : (to : Life) (n : ℕ) (send recv : OpId) (size : ℕ) (connid : Connid) → grant_bytes (grants_by to n (Took to (Spelled (Cts send recv size connid)))) ≤ size
unfolding grants_by grant_bytes
grants_of to n send recv size connid =
    elim (same_life to to && send.0 == n) as (λ b. sum_by (λ (g : Grant). g.size) (cond b (record { recv = recv.0; size = size } ∷ []) []) ≤ size) [ true ↦ omega arith | false ↦ omega arith ]

-- a grant that is taken fits
fits_taken : (own : Own) (before : List Deed) (to : Life) (n : ℕ) (send recv : OpId) (size : ℕ) (connid : Connid)
    → LifeStep own before (Took to (Spelled (Cts send recv size connid))) → send.0 ≡ n → Fits own before to n → Fits own (Took to (Spelled (Cts send recv size connid)) ∷ before) to n
fits_taken own before to n send recv size connid step e f =
    let s = life_scene step.0 own step.1 before in
    let t = taken_grant s to own.life.connid send recv size connid (taken_parts s to own.life.connid (Spelled (Cts send recv size connid)) step.2) in
    let l : LiveLong own (heard_by own.limits.first before) before to n t.0 = subst (λ (k : ℕ). LiveLong own (heard_by own.limits.first before) before to k t.0) e t.1 in
    let was = fits_live own before to n t.0 l f in
    let fit : size ≤ length t.0.message.bytes - (opened own t.0 + grant_bytes (grants before to n)) = subst (λ (k : ℕ). size ≤ length t.0.message.bytes - (opened own t.0 + grant_bytes (grants before to k))) e t.2 in
    let more = grants_more (Took to (Spelled (Cts send recv size connid))) before to n in
    let by = grants_of to n send recv size connid in
    inr (record {
      sent = t.0;
      member = own_later own (Took to (Spelled (Cts send recv size connid))) before t.0 l.member;
      to_is = l.to_is;
      number_is = l.number_is;
      within = omega arith;
    })

-- a grant of a send is taken by a deed, or none
by_cases : (to : Life) (n : ℕ) (d : Deed) → (grants_by to n d ≡ []) ⊎ ((send recv : OpId) × (size : ℕ) × (connid : Connid) × (d ≡ Took to (Spelled (Cts send recv size connid))) × (send.0 ≡ n))
unfolding grants_by
by_cases to n (Took from (Spelled (Cts s recv size connid))) =
    let one : Grant = record { recv = recv.0; size = size } in
    (elim (same_life from to && s.0 == n) as (λ b. (same_life from to && s.0 == n) ≡ b
    → (◌≡◌ {A = List Grant} (cond b (one ∷ []) []) []) ⊎ ((send r : OpId) × (z : ℕ) × (c : Connid) × (Took from (Spelled (Cts s recv size connid)) ≡ Took to (Spelled (Cts send r z c))) × (send.0 ≡ n))) [
      | true ↦ λ is.
          let p = and_parts (same_life from to) (s.0 == n) is in
          inr (s, recv, size, connid, ap (λ (l : Life). Took l (Spelled (Cts s recv size connid))) (same_life-true from to p.0), eqb-true s.0 n p.1)
      | false ↦ λ is. inl refl
    ]) refl
by_cases to n _ = inl refl

-- what was granted of a send fits after any deeds
grants_fit : (own : Own) (log : List Deed) (to : Life) (n : ℕ) → LifeLocal own log → Fits own log to n
unfolding grants
grants_fit own [] to n local = inl refl
grants_fit own (d ∷ before) to n local =
    let was = grants_fit own before to n local.0 in
    elim (by_cases to n d) [
      | inl a ↦ fits_same own d before to n a was
      | inr a ↦ subst (λ (x : Deed). Fits own (x ∷ before) to n) (sym a.4)
          (fits_taken own before to n a.0 a.1 a.2 a.3 (subst (λ (x : Deed). LifeStep own before x) a.4 local.1) a.5 was)
    ]

-- no more is granted of a send than its message has
pub allowed_within : (own : Own) (log : List Deed) (s : Sent) → LifeLocal own log → Member s (own_sends own log) → opened own s + grant_bytes (grants log s.to s.number) ≤ length s.message.bytes
allowed_within own log s local m =
    elim (grants_fit own log s.to s.number local) [
      | inl a ↦ (let z = grants_none log s.to s.number a in let o = opened_within own s in omega arith)
      | inr a ↦ (
          let same : a.sent ≡ s = sends_one own (heard_by own.limits.first log) log a.sent s a.member m a.number_is in
          subst (λ (x : Sent). opened own x + grant_bytes (grants log s.to s.number) ≤ length x.message.bytes) same a.within)
    ]
