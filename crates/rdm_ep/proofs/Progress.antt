-- Of eager deeds: what is left to push are handshakes in the order in which they became due, and then sends in order.
use Rattle.std.proofs.Common.{◌≡◌, ℕ, ◌<◌, ◌≤◌, Bool, true, false, cond, not, List, [], ◌∷◌, ◌++◌, length, drop, Option, refl, arith, inl, inr, ap, ◌∙◌, sym, subst}
use Rattle.std.specs.Prelude.{◌==◌, ◌&&◌, ◌||◌, filter, slice_get}
use Rattle.std.proofs.lemmas.Bool.{not-true, eq-eqb, ne_eqb, cases_eq}
use Rattle.std.proofs.lemmas.List.{append-nil, length-append}
use Rattle.rdm_lists.specs.Lists.{Member}
use Rattle.rdm_pkt.specs.declared.Packet.{Packet}
use Rattle.rdm_model.specs.Deeds.{Deed, Pushed}
use Rattle.rdm_model.specs.Beginnings.{Own, Messages}
use Rattle.rdm_model.specs.Sends.{Sent, sent_by, with_sent, sends}
use Rattle.rdm_model.specs.Replies.{Reply}
use Rattle.rdm_model.specs.Dues.{Progress, Due, next_send, reply_due, next_due, after_due, after_push, after_deed, progress}
use Rattle.rdm_model.proofs.Numbers.{sent_by_is, new_number, send_below}
use Rattle.rdm_ep.specs.Eager.{IsEager}
use Rattle.rdm_ep.proofs.Options.{not_or}
use Rattle.rdm_ep.proofs.Apart.{ApartBy, apart_filter, apart_one}
use Rattle.rdm_ep.proofs.Currents.{never_forgotten}
use Rattle.rdm_ep.proofs.EagerSends.{send_number, sends_apart, all_eager, opening, has_any, AreOfOne, unsent, ForgetsNone, first_due, next_send_is}
use Rattle.rdm_lists.proofs.Members.{member-append_cases, member-filter}
use Rattle.rdm_lists.proofs.Same.{filter_where}
use Rattle.rdm_lists.proofs.Filters.{filter_all, filter_both}

-- no send has a packet that was pushed under a number to come
abbrev pub NoneBeyond : (ℕ → List Packet) → ℕ → Type 0
NoneBeyond packets count = (n : ℕ) → count ≤ n → packets n ≡ []

-- the sends of a life are of one packet each
pub record SendsAre (packets : ℕ → List Packet) (sents : List Sent) : Type 0 where
  pub each : AreOfOne packets sents
  pub beyond : NoneBeyond packets (length sents)
  pub apart : ApartBy send_number sents
  pub below : (s : Sent) → Member s sents → s.number < length sents

-- the sends and the packets after a deed that pushes nothing
sends_more : (own : Own) (ms : Messages) (d : Deed) (before : List Deed) (packets : ℕ → List Packet) → IsEager own (d ∷ before)
    → SendsAre packets (sends own ms before) → SendsAre packets (sends own ms (d ∷ before))
unfolding sends with_sent
sends_more own ms d before packets h are =
    let sents = sends own ms before in
    record {
      each = record {
        eager = λ s m. all_eager own ms (d ∷ before) s h m;
        pushed = λ s m. elim (sent_by_is own ms before sents d) [
          | inl e ↦ are.each.pushed s (subst (λ (xs : List Sent). Member s xs) (ap (λ (xs : List Sent). sents ++ xs) e ∙ append-nil sents) m)
          | inr n ↦ elim (member-append_cases s sents (sent_by own ms before sents d) m) [
            | inl k ↦ are.each.pushed s k
            | inr k ↦ elim (subst (λ (xs : List Sent). Member s xs) n.2 k) [
              | inl is ↦ inl (let f : s.number ≡ length sents = sym (ap (λ (x : Sent). x.number) is) ∙ new_number own ms before sents d n.0 n.1 in are.beyond s.number (omega arith))
              | inr never ↦ elim never [ ]
            ]
          ]
        ];
      };
      beyond = λ n l. are.beyond n (let e = length-append sents (sent_by own ms before sents d) in omega arith);
      apart = sends_apart own ms (d ∷ before);
      below = λ s m. send_below own ms (d ∷ before) s m;
    }

-- the packets of a send with one more
abbrev pub with_packet : (ℕ → List Packet) → Sent → Packet → ℕ → List Packet
with_packet packets s p = λ n. packets n ++ cond (n == s.number) (p ∷ []) []

-- the first one of a filtered list
first_unsent : (packets : ℕ → List Packet) (sents : List Sent) (s : Sent) (ss : List Sent) → unsent packets sents ≡ s ∷ ss
    → Member s sents × (has_any (packets s.number) ≡ false)
first_unsent packets sents s ss e =
    let m : Member s (unsent packets sents) = subst (λ (xs : List Sent). Member s xs) (sym e) (inl refl) in
    let f = member-filter (λ (x : Sent). not (has_any (packets x.number))) s sents m in
    (f.0, not-true (has_any (packets s.number)) f.1)

-- the sends are of one packet each after one was pushed
pushed_more : (packets : ℕ → List Packet) (sents : List Sent) (s : Sent) → SendsAre packets sents → Member s sents → packets s.number ≡ []
    → SendsAre (with_packet packets s (opening s)) sents
pushed_more packets sents s are m none =
    record {
      each = record {
        eager = are.each.eager;
        pushed = λ t k. elim (cases_eq t.number s.number) [
          | inl e ↦
              let same : t ≡ s = apart_one send_number sents t s are.apart k m e in
              let b : (t.number == s.number) ≡ true = eq-eqb t.number s.number e in
              let is : packets t.number ≡ [] = rw e none in
              inr (ap (λ (ps : List Packet). ps ++ cond (t.number == s.number) (opening s ∷ []) []) is
              ∙ ap (λ (x : Bool). cond x (opening s ∷ []) []) b ∙ ap (λ (x : Sent). opening x ∷ []) (sym same))
          | inr ne ↦
              let b : (t.number == s.number) ≡ false = ne_eqb t.number s.number ne in
              let is : with_packet packets s (opening s) t.number ≡ packets t.number =
              ap (λ (x : Bool). packets t.number ++ cond x (opening s ∷ []) []) b ∙ append-nil (packets t.number) in
              elim (are.each.pushed t k) [ inl a ↦ inl (is ∙ a) | inr a ↦ inr (is ∙ a) ]
        ];
      };
      beyond = λ n l.
          let f = are.below s m in
          let b : (n == s.number) ≡ false = ne_eqb n s.number (λ e. omega arith) in
          ap (λ (x : Bool). packets n ++ cond x (opening s ∷ []) []) b ∙ append-nil (packets n) ∙ are.beyond n l;
      apart = are.apart;
      below = are.below;
    }

-- where there is none there is nothing
none_pushed : (ps : List Packet) → has_any ps ≡ false → ps ≡ []
unfolding has_any
none_pushed [] h = refl
none_pushed (p ∷ ps) h = cc

-- whether some packet was pushed, with one more or none
any_more : (ps : List Packet) (b : Bool) (p : Packet) → has_any (ps ++ cond b (p ∷ []) []) ≡ (has_any ps || b)
unfolding has_any
any_more [] true p = refl
any_more [] false p = refl
any_more (q ∷ ps) b p = refl

-- once the first send that was not pushed is, the others are left
unsent_rest : (packets : ℕ → List Packet) (sents : List Sent) (s : Sent) (ss : List Sent) → ApartBy send_number sents → unsent packets sents ≡ s ∷ ss
    → unsent (with_packet packets s (opening s)) sents ≡ ss
unsent_rest packets sents s ss a e =
    filter_where (λ (x : Sent). not (has_any (with_packet packets s (opening s) x.number))) (λ (x : Sent). not (has_any (packets x.number)) && not (x.number == s.number)) sents
    (λ x m. ap not (any_more (packets x.number) (x.number == s.number) (opening s)) ∙ not_or (has_any (packets x.number)) (x.number == s.number))
    ∙ filter_both (λ (x : Sent). not (has_any (packets x.number))) (λ (x : Sent). not (x.number == s.number)) sents
    ∙ ap (filter (λ (x : Sent). not (x.number == s.number))) e
    ∙ (let apart : ApartBy send_number (s ∷ ss) = subst (ApartBy send_number) e (apart_filter send_number (λ (x : Sent). not (has_any (packets x.number))) sents a) in
    let own : (s.number == s.number) ≡ true = eq-eqb s.number s.number refl in
    let others = filter_all (λ (x : Sent). not (x.number == s.number)) ss (λ x m. let b : (x.number == s.number) ≡ false = ne_eqb x.number s.number (apart.0 x m) in rw b refl) in
    rw (own, others) refl)

-- what is left of replies and sends after what goes out first was pushed
pub record Left (rs : List Reply) (live : List Sent) (sents : List Sent) (p : Progress) : Type 0 where
  pub replies_are : p.replies ≡ drop 1 rs
  pub sends_are : SendsAre p.packets sents
  pub live_are : unsent p.packets sents ≡ live

-- the sends that are left after a push
unfoldable pub sends_left : List Reply → List Sent → List Sent
sends_left [] live = drop 1 live
sends_left (r ∷ rs) live = live

-- what is left once the first send was pushed
send_left : (sents : List Sent) (p : Progress) (live : List Sent) → SendsAre p.packets sents → unsent p.packets sents ≡ live → p.replies ≡ []
    → Left [] (drop 1 live) sents (after_due (first_due live) p)
unfolding after_due first_due
send_left sents p [] are e r = record { replies_are = r; sends_are = are; live_are = e }
send_left sents p (s ∷ ss) are e r =
    let f = first_unsent p.packets sents s ss e in
    record {
      replies_are = r;
      sends_are = pushed_more p.packets sents s are f.0 (none_pushed (p.packets s.number) f.1);
      live_are = unsent_rest p.packets sents s ss are.apart e;
    }

-- what is left once what goes out first was pushed
due_left : (own : Own) (log : List Deed) (sents : List Sent) (p : Progress) (rs : List Reply) → ForgetsNone log → SendsAre p.packets sents → p.replies ≡ rs
    → Left rs (sends_left rs (unsent p.packets sents)) sents (after_due (reply_due (slice_get rs 0) (next_send own log p.packets sents)) p)
unfolding sends_left reply_due after_due
due_left own log sents p [] none are e =
    subst (λ (t : Option Due). Left [] (drop 1 (unsent p.packets sents)) sents (after_due t p)) (sym (next_send_is own log p.packets sents none are.each))
    (send_left sents p (unsent p.packets sents) are refl e)
due_left own log sents p (r ∷ rs) none are e = record { replies_are = ap (drop 1) e; sends_are = are; live_are = refl }

-- what is left after a push of eager deeds
pub push_left : (own : Own) (ms : Messages) (before : List Deed) → IsEager own before → SendsAre (progress own ms before).packets (sends own ms before)
    → Left (progress own ms before).replies (sends_left (progress own ms before).replies (unsent (progress own ms before).packets (sends own ms before))) (sends own ms before)
    (after_push own ms before Pushed (progress own ms before))
unfolding after_push next_due
push_left own ms before h are =
    due_left own before (sends own ms before) (progress own ms before) (progress own ms before).replies (λ l. never_forgotten own before l h) are refl

-- what is left after a deed that pushes nothing
after_other : (own : Own) (ms : Messages) (d : Deed) (before : List Deed) → after_push own ms before d (progress own ms before) ≡ progress own ms before
    → (progress own ms (d ∷ before)).packets ≡ (progress own ms before).packets
unfolding progress after_deed
after_other own ms d before e = ap (λ (p : Progress). p.packets) e

-- the sends are of one packet each after a deed that pushes nothing
other_sends : (own : Own) (ms : Messages) (d : Deed) (before : List Deed) → IsEager own (d ∷ before)
    → after_push own ms before d (progress own ms before) ≡ progress own ms before
    → SendsAre (progress own ms before).packets (sends own ms before) → SendsAre (progress own ms (d ∷ before)).packets (sends own ms (d ∷ before))
other_sends own ms d before h e are =
    subst (λ (packets : ℕ → List Packet). SendsAre packets (sends own ms (d ∷ before))) (sym (after_other own ms d before e))
    (sends_more own ms d before (progress own ms before).packets h are)

-- the sends of eager deeds are of one packet each
pub sends_are : (own : Own) (ms : Messages) (log : List Deed) → IsEager own log → SendsAre (progress own ms log).packets (sends own ms log)
unfolding progress after_deed after_push sends with_sent sent_by
sends_are own ms [] h =
    record {
      each = record { eager = λ s m. elim m [ ]; pushed = λ s m. elim m [ ] };
      beyond = λ n l. refl;
      apart = tt;
      below = λ s m. elim m [ ];
    }
sends_are own ms (Pushed ∷ before) h =
    let are = sends_are own ms before h.0 in
    rw (append-nil (sends own ms before)) (push_left own ms before h.0 are).sends_are
sends_are own ms (d ∷ before) h = other_sends own ms d before h refl (sends_are own ms before h.0)
