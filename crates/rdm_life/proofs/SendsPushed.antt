-- A push of a packet of a send: the send goes on, or is over.
use Rattle.std.proofs.Common.{◌≡◌, ℕ, Bool, true, false, cond, not, List, [], ◌∷◌, ◌++◌, map, drop, Option, Some, None, refl, arith, inl, inr, sym, ◌∙◌, ap, ap₂, subst}
use Rattle.std.specs.Prelude.{slice_get, option_map, flat_map}
use Rattle.std.proofs.lemmas.Bool.{eq-eqb, ne_eqb, cases_eq}
use Rattle.std.proofs.lemmas.List.{append-nil, length-append}
use Rattle.rdm_lists.specs.Lists.{Member}
use Rattle.rdm_lists.proofs.Members.{find_member}
use Rattle.rdm_pkt.specs.declared.Packet.{Packet}
use Rattle.rdm_model.specs.Beginnings.{Own}
use Rattle.rdm_model.specs.Deeds.{Deed, Pushed}
use Rattle.rdm_model.specs.Dues.{Due, Sends, next_packet, send_due, next_send, reply_due, next_due, after_due, due, is_over}
use Rattle.rdm_model.specs.Grants.{grants}
use Rattle.rdm_model.specs.Reads.{asks_of}
use Rattle.rdm_model.specs.Replies.{Reply}
use Rattle.rdm_model.specs.Sends.{Sent, sent_by}
use Rattle.rdm_model.proofs.Dues.{next_is, next_underway}
use Rattle.rdm_model.proofs.Numbers.{sends_one}
use Rattle.rdm_model.proofs.Pushes.{underway}
use Rattle.rdm_law.proofs.Lives.Lives.{LifeLocal}
use Rattle.rdm_law.proofs.Windows.Allowed.{allowed_within}
use Rattle.rdm_life.specs.Handling.{after}
use Rattle.rdm_life.specs.Kept.{Kept, LiveSend, is_send}
use Rattle.rdm_life.specs.Keeps.{told, own_sends, own_progress, kept_send, Keeps, KeepsSends}
use Rattle.rdm_life.specs.Sending.{after_packet, ends_by_push, pushed, push_send, push_first}
use Rattle.rdm_life.proofs.GoesSends.{has_next, first_next, send_next_is, due_of, own_next_send}
use Rattle.rdm_life.proofs.OwnSends.{own_live, own_over, own_packets}
use Rattle.rdm_life.proofs.SendLists.{flat_kept}
use Rattle.rdm_life.proofs.SendPackets.{ends_is, pushed_is}
use Rattle.rdm_life.proofs.SendsAnswered.{packets_after, kept_pushed, still_live, reply_sends}
use Rattle.rdm_life.proofs.SendsQuiet.{live_was, live_left}
use Rattle.rdm_life.proofs.SendTargets.{live_sent}
use Rattle.rdm_life.proofs.SendWords.{answer_count, kept_by, kept_is}

-- the send whose packet is due
pub record FirstSend (own : Own) (log : List Deed) : Type 0 where
  pub sent : Sent
  pub packet : Packet
  pub found : first_next own log ≡ Some sent
  pub next : next_packet own log sent (own_packets own log sent.number) ≡ Some packet
  pub is_due : due own (told own log) log ≡ Some (Sends sent packet)

-- a packet that is due
packet_found : (s : Sent) (t : Due) (o : Option Packet) → send_due s o None ≡ Some t → (p : Packet) × (o ≡ Some p) × (t ≡ Sends s p)
unfolding send_due
packet_found s t None h = cc
packet_found s t (Some p) h = (p, refl, cc)

-- a send that is due
send_found : (own : Own) (log : List Deed) (t : Due) (o : Option Sent) → first_next own log ≡ o → due_of own log (own_progress own log).packets o ≡ Some t → due own (told own log) log ≡ Some t
    → FirstSend own log
unfolding due_of
send_found own log t None e h d = cc
send_found own log t (Some s) e h d =
    let p = packet_found s t (next_packet own log s (own_packets own log s.number)) h in
    record { sent = s; packet = p.0; found = e; next = p.1; is_due = d ∙ ap Some p.2 }

-- where no reply is owed, what is due is of a send
pub first_send : (own : Own) (log : List Deed) (t : Due) → slice_get (own_progress own log).replies 0 ≡ None → due own (told own log) log ≡ Some t → FirstSend own log
unfolding due next_due reply_due
first_send own log t none h =
    let e = ap (λ (o : Option Reply). reply_due o (next_send own log (own_progress own log).packets (own_sends own log))) none ∙ own_next_send own log in
    send_found own log t (first_next own log) refl (sym e ∙ h) h

-- an empty list
nothing_first : {A : Type 0} (xs : List A) → slice_get xs 0 ≡ None → xs ≡ []
nothing_first [] h = refl
nothing_first (x ∷ xs) h = cc

-- another send gets no packet
pub others_same : (own : Own) (log : List Deed) (s : Sent) (p : Packet) (n : ℕ) → due own (told own log) log ≡ Some (Sends s p) → (n ≡ s.number → ⊥) → own_packets own (Pushed ∷ log) n ≡ own_packets own log n
unfolding after_due
others_same own log s p n h other =
    packets_after own log (Sends s p) n h
    ∙ ap (λ (b : Bool). own_packets own log n ++ cond b (p ∷ []) []) (ne_eqb n s.number other) ∙ append-nil (own_packets own log n)

-- the send gets its packet
packet_more : (own : Own) (log : List Deed) (s : Sent) (p : Packet) → due own (told own log) log ≡ Some (Sends s p) → own_packets own (Pushed ∷ log) s.number ≡ own_packets own log s.number ++ p ∷ []
unfolding after_due
packet_more own log s p h =
    packets_after own log (Sends s p) s.number h ∙ ap (λ (b : Bool). own_packets own log s.number ++ cond b (p ∷ []) []) (eq-eqb s.number s.number refl)

-- one or nothing
one_or_none : {A : Type 0} (b : Bool) (x : A) → cond b [] (x ∷ []) ≡ cond (not b) (x ∷ []) []
one_or_none true x = refl
one_or_none false x = refl

-- the send whose packet goes out goes on so, or is over
pub sent_goes : (own : Own) (log : List Deed) (s : Sent) (p : Packet) → LifeLocal own log → slice_get (own_progress own log).replies 0 ≡ None → Member s (own_live own log)
    → next_packet own log s (own_packets own log s.number) ≡ Some p → due own (told own log) log ≡ Some (Sends s p)
    → after_packet own (kept_send own log s) ≡ cond (not (own_over own (Pushed ∷ log) s)) (kept_send own (Pushed ∷ log) s ∷ []) []
unfolding after_packet
sent_goes own log s p l none m next h =
    let rs = (own_progress own log).replies in
    let gs = grants log s.to s.number in
    let asks = asks_of log s.to s.number in
    let ps = own_packets own log s.number in
    let qs = ps ++ p ∷ [] in
    let empty = nothing_first rs none in
    let n = length-append ps (p ∷ []) in
    let u = underway own (told own log) log s (live_sent own log s m) in
    let of = next_is own log s ps p u next in
    let more = packet_more own log s p h in
    let owes : answer_count s rs ≡ answer_count s (drop 1 rs) = ap (answer_count s) (empty ∙ sym (ap (λ (xs : List Reply). drop 1 xs) empty)) in
    let now : kept_send own (Pushed ∷ log) s ≡ kept_by own s qs gs asks (answer_count s (drop 1 rs)) =
    kept_pushed own log s ∙ ap (λ (x : List Packet). kept_by own s x gs asks (answer_count s (drop 1 rs))) more in
    let pushed' : pushed own (kept_send own log s) ≡ kept_by own s qs gs asks (answer_count s (drop 1 rs)) =
    ap (pushed own) (kept_is own log s) ∙ pushed_is own s ps p gs asks (answer_count s rs) of (allowed_within own log s l (live_sent own log s m))
    ∙ ap (λ (k : ℕ). kept_by own s qs gs asks k) owes in
    let over : ends_by_push own (kept_by own s qs gs asks (answer_count s (drop 1 rs))) ≡ own_over own (Pushed ∷ log) s =
    ends_is own log s ps qs gs asks (answer_count s (drop 1 rs)) (next_underway own gs s ps p u of) (omega arith) (live_was own log s m)
    ∙ ap (λ (x : List Packet). is_over (Pushed ∷ log) x s) (sym more) in
    ap (λ (x : LiveSend). cond (ends_by_push own x) [] (x ∷ [])) pushed'
    ∙ ap (λ (b : Bool). cond b [] (kept_by own s qs gs asks (answer_count s (drop 1 rs)) ∷ [])) over
    ∙ one_or_none (own_over own (Pushed ∷ log) s) (kept_by own s qs gs asks (answer_count s (drop 1 rs)))
    ∙ ap (λ (x : LiveSend). cond (not (own_over own (Pushed ∷ log) s)) (x ∷ []) []) (sym now)

-- another send stays as it was
other_stays : (own : Own) (log : List Deed) (s x : Sent) (p : Packet) → slice_get (own_progress own log).replies 0 ≡ None → Member x (own_live own log)
    → due own (told own log) log ≡ Some (Sends s p) → (x.number ≡ s.number → ⊥)
    → ◌≡◌ {A = List LiveSend} (kept_send own log x ∷ []) (cond (not (own_over own (Pushed ∷ log) x)) (kept_send own (Pushed ∷ log) x ∷ []) [])
other_stays own log s x p none m h other =
    let rs = (own_progress own log).replies in
    let gs = grants log x.to x.number in
    let asks = asks_of log x.to x.number in
    let empty = nothing_first rs none in
    let same = others_same own log s p x.number h other in
    let owes : answer_count x rs ≡ answer_count x (drop 1 rs) = ap (answer_count x) (empty ∙ sym (ap (λ (xs : List Reply). drop 1 xs) empty)) in
    let live = still_live own log x same m in
    let kept : kept_send own log x ≡ kept_send own (Pushed ∷ log) x =
    kept_is own log x ∙ ap (λ (k : ℕ). kept_by own x (own_packets own log x.number) gs asks k) owes
    ∙ sym (kept_pushed own log x ∙ ap (λ (ps : List Packet). kept_by own x ps gs asks (answer_count x (drop 1 rs))) same) in
    ap (λ (k : LiveSend). k ∷ []) kept ∙ ap (λ (b : Bool). cond (not b) (kept_send own (Pushed ∷ log) x ∷ []) []) (sym live)

-- what a packet leaves of each live send
each_goes : (own : Own) (log : List Deed) (f : FirstSend own log) → LifeLocal own log → slice_get (own_progress own log).replies 0 ≡ None → (x : Sent) → Member x (own_live own log)
    → cond (is_send f.sent.number (kept_send own log x)) (after_packet own (kept_send own log x)) (kept_send own log x ∷ [])
    ≡ cond (not (own_over own (Pushed ∷ log) x)) (kept_send own (Pushed ∷ log) x ∷ []) []
unfolding kept_send
each_goes own log f l none x m =
    let was = kept_send own log x in
    let here = (find_member (has_next own log) f.sent (own_live own log) f.found).0 in
    elim (cases_eq x.number f.sent.number) [
      | inl e ↦
          let one : f.sent ≡ x = sends_one own (told own log) log f.sent x (live_sent own log f.sent here) (live_sent own log x m) (sym e) in
          ap (λ (b : Bool). cond b (after_packet own was) (was ∷ [])) (eq-eqb x.number f.sent.number e)
          ∙ subst (λ (y : Sent). after_packet own (kept_send own log y) ≡ cond (not (own_over own (Pushed ∷ log) y)) (kept_send own (Pushed ∷ log) y ∷ []) []) one
          (sent_goes own log f.sent f.packet l none here f.next f.is_due)
      | inr e ↦ ap (λ (b : Bool). cond b (after_packet own was) (was ∷ [])) (ne_eqb x.number f.sent.number e)
          ∙ other_stays own log f.sent x f.packet none m f.is_due e
    ]

-- what is left by a packet
packet_left : (s : LiveSend) (v : Kept) → (push_send (Some s) v).sends ≡ flat_map (λ (t : LiveSend). cond (is_send s.sent.number t) (after_packet v.own t) (t ∷ [])) v.sends
unfolding push_send
packet_left s v = refl

-- the number that is kept of a send
kept_number : (own : Own) (log : List Deed) (s : Sent) → (kept_send own log s).sent.number ≡ s.number
unfolding kept_send
kept_number own log s = refl

-- after a packet of a send
packet_sends : (own : Own) (log : List Deed) (v : Kept) (f : FirstSend own log) → LifeLocal own log → slice_get (own_progress own log).replies 0 ≡ None → v.own ≡ own → KeepsSends own log v
    → (push_first None v).sends ≡ map (kept_send own (Pushed ∷ log)) (own_live own (Pushed ∷ log))
unfolding push_first sent_by
packet_sends own log v f l none e k =
    let kept = kept_send own log f.sent in
    ap (λ (o : Option LiveSend). (push_send o v).sends) (send_next_is own log v l e k ∙ ap (option_map (kept_send own log)) f.found)
    ∙ packet_left kept v
    ∙ ap (λ (n : ℕ). flat_map (λ (t : LiveSend). cond (is_send n t) (after_packet v.own t) (t ∷ [])) v.sends) (kept_number own log f.sent)
    ∙ ap₂ (λ (o : Own) (xs : List LiveSend). flat_map (λ (t : LiveSend). cond (is_send f.sent.number t) (after_packet o t) (t ∷ [])) xs) e k.sends_are
    ∙ flat_kept (λ (t : LiveSend). cond (is_send f.sent.number t) (after_packet own t) (t ∷ [])) (kept_send own log) (kept_send own (Pushed ∷ log))
    (λ s. not (own_over own (Pushed ∷ log) s)) (own_live own log) (each_goes own log f l none)
    ∙ ap (map (kept_send own (Pushed ∷ log))) (sym (live_left own Pushed log refl))

-- by the first reply, if there is one
push_by : (own : Own) (log : List Deed) (v : Kept) (t : Due) (o : Option Reply) → slice_get (own_progress own log).replies 0 ≡ o → due own (told own log) log ≡ Some t
    → LifeLocal own log → v.own ≡ own → KeepsSends own log v → (push_first o v).sends ≡ map (kept_send own (Pushed ∷ log)) (own_live own (Pushed ∷ log))
push_by own log v t None h d l e k = packet_sends own log v (first_send own log t h d) l h e k
push_by own log v t (Some r) h d l e k = reply_sends own log v r h k

-- after a push
pub pushed_sends : (own : Own) (log : List Deed) (v : Kept) → LifeLocal own (Pushed ∷ log) → Keeps own log v → KeepsSends own (Pushed ∷ log) (after Pushed v)
unfolding after
pushed_sends own log v l k =
    let rs = (own_progress own log).replies in
    record {
      sends_are =
          ap (λ (xs : List Reply). (push_first (slice_get xs 0) v).sends) k.owed.owed_is
          ∙ push_by own log v l.1.0 (slice_get rs 0) refl l.1.1 l.0 k.lives.own_is k.sends;
    }
