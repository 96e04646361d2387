-- What was pushed of each send: the openings in order, then granted bytes, in a row; and no push twice.
use Rattle.std.proofs.Common.{◌≡◌, ℕ, ◌≤◌, Bool, cond, List, [], ◌∷◌, ◌++◌, length, Option, Some, None, refl, arith, ◌⊎◌, inl, inr, sym, ◌∙◌, ap, subst}
use Rattle.std.proofs.lemmas.Bool.{eq-eqb, ne_eqb, cases_eq}
use Rattle.std.proofs.lemmas.List.{append-nil, length-append}
use Rattle.rdm_lists.specs.Lists.{Member}
use Rattle.rdm_pkt.specs.declared.Packet.{Packet}
use Rattle.rdm_model.specs.Deeds.{Deed, Pushed}
use Rattle.rdm_model.specs.Beginnings.{Own, Messages}
use Rattle.rdm_model.specs.Sends.{Sent, sent_by, with_sent, sends}
use Rattle.rdm_model.specs.Grants.{grants}
use Rattle.rdm_model.specs.Dues.{Due, Replies, Sends, next_packet, after_due, after_push, after_deed, progress, due}
use Rattle.rdm_model.proofs.Numbers.{sends_step, sends_one, send_below, new_number}
use Rattle.rdm_model.proofs.Dues.{SendDue, due_cases, Underway, next_is, next_underway, none_underway}
use Rattle.rdm_lists.proofs.Members.{member-append_left, member-append_cases}

-- the packets of the send of that number that were pushed
abbrev pub pushed_of : Own → Messages → List Deed → ℕ → List Packet
pushed_of own ms log n = (progress own ms log).packets n

-- a deed that pushes a packet of a send
pub record PushesOf (own : Own) (ms : Messages) (d : Deed) (before : List Deed) : Type 0 where
  pub by : d ≡ Pushed
  pub served : Due
  pub now : due own ms before ≡ Some served
  pub of : SendDue own before (pushed_of own ms before) (sends own ms before) served

-- a send that was made stays made
pub member_later : (own : Own) (ms : Messages) (d : Deed) (before : List Deed) (s : Sent) → Member s (sends own ms before) → Member s (sends own ms (d ∷ before))
unfolding sends with_sent
member_later own ms d before s m = member-append_left s (sends own ms before) (sent_by own ms before (sends own ms before) d) m

-- sends are only added
sends_rise : (own : Own) (ms : Messages) (d : Deed) (before : List Deed) → length (sends own ms before) ≤ length (sends own ms (d ∷ before))
sends_rise own ms d before =
    elim (sends_step own ms d before) [
      | inl a ↦ (let e = ap length a in omega arith)
      | inr a ↦ (let e = ap length a.2 in let l = length-append (sends own ms before) (a.0 ∷ []) in omega arith)
    ]

-- one packet more, for the send that was due
packets_by : (own : Own) (ms : Messages) (before : List Deed) (n : ℕ) (s : Sent) (packet : Packet) → due own ms before ≡ Some (Sends s packet)
    → (t : PushesOf own ms Pushed before) × (t.of.sent ≡ s) × (t.of.packet ≡ packet)
packets_by own ms before n s packet e =
    elim (due_cases own ms before (Sends s packet) e) [
      | inl a ↦ (let x = a.2 in cc)
      | inr a ↦ (record { by = refl; served = Sends s packet; now = e; of = a.1 }, (let x = a.1.is in cc), (let x = a.1.is in cc))
    ]

-- what a due item adds to the packets of a send
due_step : (own : Own) (ms : Messages) (before : List Deed) (n : ℕ) (o : Option Due) → due own ms before ≡ o
    → ((after_due o (progress own ms before)).packets n ≡ pushed_of own ms before n)
    ⊎ ((t : PushesOf own ms Pushed before) × (t.of.sent.number ≡ n) × ((after_due o (progress own ms before)).packets n ≡ pushed_of own ms before n ++ t.of.packet ∷ []))
unfolding after_due
due_step own ms before n None e = inl refl
due_step own ms before n (Some (Replies r)) e = inl refl
due_step own ms before n (Some (Sends s packet)) e =
    let by = packets_by own ms before n s packet e in
    elim (cases_eq n s.number) [
      | inl a ↦ inr (
        by.0,
        ap (λ (x : Sent). x.number) by.1 ∙ sym a,
        ap (λ (b : Bool). pushed_of own ms before n ++ cond b (packet ∷ []) []) (eq-eqb n s.number a) ∙ ap (λ (x : Packet). pushed_of own ms before n ++ x ∷ []) (sym by.2),
      )
      | inr a ↦ inl (ap (λ (b : Bool). pushed_of own ms before n ++ cond b (packet ∷ []) []) (ne_eqb n s.number a) ∙ append-nil (pushed_of own ms before n))
    ]

-- what was pushed of a send after a deed: what was before, or one packet more
pub pushed_step : (own : Own) (ms : Messages) (d : Deed) (before : List Deed) (n : ℕ)
    → (pushed_of own ms (d ∷ before) n ≡ pushed_of own ms before n)
    ⊎ ((t : PushesOf own ms d before) × (t.of.sent.number ≡ n) × (pushed_of own ms (d ∷ before) n ≡ pushed_of own ms before n ++ t.of.packet ∷ []))
unfolding progress after_deed after_push due
pushed_step own ms Pushed before n = due_step own ms before n (due own ms before) refl
pushed_step own ms _ before n = inl refl

-- the packet of a push stands after those before it
pub pushed_here : (own : Own) (ms : Messages) (before : List Deed) (t : PushesOf own ms Pushed before)
    → pushed_of own ms (Pushed ∷ before) t.of.sent.number ≡ pushed_of own ms before t.of.sent.number ++ t.of.packet ∷ []
unfolding progress after_deed after_push due after_due
pushed_here own ms before t =
    let now : due own ms before ≡ Some (Sends t.of.sent t.of.packet) = t.now ∙ ap Some t.of.is in
    ap (λ (o : Option Due). (after_due o (progress own ms before)).packets t.of.sent.number) now
    ∙ ap (λ (b : Bool). pushed_of own ms before t.of.sent.number ++ cond b (t.of.packet ∷ []) []) (eq-eqb t.of.sent.number t.of.sent.number refl)

-- nothing was pushed of a send that was not made
pub none_pushed : (own : Own) (ms : Messages) (log : List Deed) (n : ℕ) → length (sends own ms log) ≤ n → pushed_of own ms log n ≡ []
unfolding progress
none_pushed own ms [] n h = refl
none_pushed own ms (d ∷ before) n h =
    let less = sends_rise own ms d before in
    elim (pushed_step own ms d before n) [
      | inl a ↦ a ∙ none_pushed own ms before n (omega arith)
      | inr a ↦ (let below = send_below own ms before a.0.of.sent a.0.of.member in let e = a.1 in absurd (omega arith))
    ]

-- each send is underway
pub underway : (own : Own) (ms : Messages) (log : List Deed) (s : Sent) → Member s (sends own ms log) → Underway own s (pushed_of own ms log s.number)
unfolding sends
underway own ms [] s m = elim m [ ]
underway own ms (d ∷ before) s m =
    let was : Underway own s (pushed_of own ms before s.number) = elim (sends_step own ms d before) [
      | inl a ↦ underway own ms before s (subst (λ (xs : List Sent). Member s xs) a m)
      | inr a ↦ elim (member-append_cases s (sends own ms before) (a.0 ∷ []) (subst (λ (xs : List Sent). Member s xs) a.2 m)) [
        | inl b ↦ underway own ms before s b
        | inr b ↦ elim b [
          | inl same ↦ (let e : s.number ≡ length (sends own ms before) = ap (λ (x : Sent). x.number) (sym same) ∙ new_number own ms before (sends own ms before) d a.0 a.1 in
              subst (λ (xs : List Packet). Underway own s xs) (sym (none_pushed own ms before s.number (omega arith))) (none_underway own s))
          | inr never ↦ elim never [ ]
        ]
      ]
    ] in
    elim (pushed_step own ms d before s.number) [
      | inl a ↦ subst (λ (xs : List Packet). Underway own s xs) (sym a) was
      | inr a ↦ (
          let later : Member s (sends own ms (d ∷ before)) = m in
          let same : a.0.of.sent ≡ s = sends_one own ms (d ∷ before) a.0.of.sent s (member_later own ms d before a.0.of.sent a.0.of.member) later a.1 in
          let next : next_packet own before s (pushed_of own ms before s.number) ≡ Some a.0.of.packet =
          subst (λ (x : Sent). next_packet own before x (pushed_of own ms before x.number) ≡ Some a.0.of.packet) same a.0.of.next in
          subst (λ (xs : List Packet). Underway own s xs) (sym a.2)
          (next_underway own (grants before s.to s.number) s (pushed_of own ms before s.number) a.0.of.packet was (next_is own before s (pushed_of own ms before s.number) a.0.of.packet was next)))
    ]
