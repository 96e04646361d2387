-- A push of a reply: the send that it answers owes one answer less.
use Rattle.std.proofs.Common.{◌≡◌, ℕ, ◌+◌, ◌-◌, Bool, true, false, cond, ◌&&◌, List, [], ◌∷◌, ◌++◌, map, length, drop, Option, Some, None, refl, arith, inl, sym, ◌∙◌, ap, subst}
use Rattle.std.specs.Prelude.{◌==◌, nat_eq, slice_get, filter}
use Rattle.std.proofs.lemmas.Bool.{and_parts, and_from, and_right, eqb-true, eq-eqb}
use Rattle.std.proofs.lemmas.List.{append-nil}
use Rattle.rdm_lists.specs.Lists.{Member}
use Rattle.rdm_num.specs.Lives.{same_life}
use Rattle.rdm_num.specs.declared.numbers.Life.{Life}
use Rattle.rdm_num.proofs.Lives.{same_life-refl}
use Rattle.rdm_pkt.specs.declared.Packet.{Packet}
use Rattle.rdm_wire.specs.declared.ReadAsk.{ReadAsk}
use Rattle.rdm_model.specs.Beginnings.{Own}
use Rattle.rdm_model.specs.ClassFacts.{is_number}
use Rattle.rdm_model.specs.Currents.{forgotten_by}
use Rattle.rdm_model.specs.Deeds.{Deed, Pushed}
use Rattle.rdm_model.specs.Dues.{Progress, Due, Replies, next_send, reply_due, next_due, after_due, after_push, after_deed, due, is_over, is_read, ends_send, confirms}
use Rattle.rdm_model.specs.Grants.{Grant, grants, grants_by}
use Rattle.rdm_model.specs.Reads.{asks_of, asked_by}
use Rattle.rdm_model.specs.Replies.{Reply, given_by, without_forgotten}
use Rattle.rdm_model.specs.Sends.{Sent, sent_by}
use Rattle.rdm_model.proofs.Numbers.{sends_one}
use Rattle.rdm_law.proofs.Replies.Queue.{popped}
use Rattle.rdm_life.specs.Kept.{Kept, LiveSend, change_where}
use Rattle.rdm_life.specs.Keeps.{told, own_sends, own_progress, kept_send, KeepsSends}
use Rattle.rdm_life.specs.Sending.{gives_of, with_answer, push_first}
use Rattle.rdm_life.proofs.NewSends.{reply_gives}
use Rattle.rdm_life.proofs.OwnSends.{own_live, own_over, own_packets, own_progress_step}
use Rattle.rdm_life.proofs.SendLists.{none_either, change_kept}
use Rattle.rdm_life.proofs.SendsQuiet.{live_was, live_same, count_nothing}
use Rattle.rdm_life.proofs.SendTargets.{live_sent}
use Rattle.rdm_life.proofs.SendWords.{answers, answer_count, kept_by, kept_by_same, kept_is, kept_next, none_forgotten, ends_by, over_deed}
use Rattle.rdm_life.proofs.Tests.{same_test}

-- the packets after a push, by what was due
pub packets_after : (own : Own) (log : List Deed) (t : Due) (n : ℕ) → due own (told own log) log ≡ Some t → own_packets own (Pushed ∷ log) n ≡ (after_due (Some t) (own_progress own log)).packets n
unfolding after_deed after_push due
packets_after own log t n h =
    ap (λ (x : Progress). x.packets n) (own_progress_step own Pushed log) ∙ ap (λ (o : Option Due). (after_due o (own_progress own log)).packets n) h

-- what is kept of a send after a push
pub kept_pushed : (own : Own) (log : List Deed) (s : Sent)
    → kept_send own (Pushed ∷ log) s
    ≡ kept_by own s (own_packets own (Pushed ∷ log) s.number) (grants log s.to s.number) (asks_of log s.to s.number) (answer_count s (drop 1 (own_progress own log).replies))
unfolding grants_by asked_by given_by popped forgotten_by without_forgotten
kept_pushed own log s =
    let rs = (own_progress own log).replies in
    let gs = grants log s.to s.number in
    let asks = asks_of log s.to s.number in
    kept_next own Pushed log s
    ∙ kept_by_same own s (own_packets own (Pushed ∷ log) s.number) (own_packets own (Pushed ∷ log) s.number) (gs ++ []) gs (asks ++ []) asks _ (answer_count s (drop 1 rs))
    refl (append-nil gs) (append-nil asks)
    (count_nothing s [] (answer_count s (without_forgotten log Pushed (popped Pushed rs))) refl ∙ ap (answer_count s) (none_forgotten (drop 1 rs)))

-- a send of which nothing was pushed now is not over
pub still_live : (own : Own) (log : List Deed) (s : Sent) → own_packets own (Pushed ∷ log) s.number ≡ own_packets own log s.number → Member s (own_live own log) → own_over own (Pushed ∷ log) s ≡ false
unfolding ends_by forgotten_by ends_send confirms
still_live own log s same m =
    ap (λ (ps : List Packet). is_over (Pushed ∷ log) ps s) same ∙ over_deed Pushed log (own_packets own log s.number) s (live_was own log s m) ∙ none_either (is_read s.kind) s.message.confirm

-- where there is a first reply, it is due
reply_is_due : (own : Own) (log : List Deed) (r : Reply) → slice_get (own_progress own log).replies 0 ≡ Some r → due own (told own log) log ≡ Some (Replies r)
unfolding due next_due reply_due
reply_is_due own log r h = ap (λ (o : Option Reply). reply_due o (next_send own log (own_progress own log).packets (own_sends own log))) h

-- then no packet of a send goes out
pub reply_packets : (own : Own) (log : List Deed) (r : Reply) (n : ℕ) → slice_get (own_progress own log).replies 0 ≡ Some r → own_packets own (Pushed ∷ log) n ≡ own_packets own log n
unfolding after_due
reply_packets own log r n h = packets_after own log (Replies r) n (reply_is_due own log r h)

-- a list by its first element
first_rest : {A : Type 0} (xs : List A) (x : A) → slice_get xs 0 ≡ Some x → xs ≡ x ∷ drop 1 xs
first_rest [] x h = cc
first_rest (y ∷ xs) x h = let e : y ≡ x = cc in ap (λ z. z ∷ xs) e

-- the first reply counts where it is an answer
count_first : (s : Sent) (r : Reply) (rs : List Reply) → answer_count s (r ∷ rs) ≡ cond (answers s r) (answer_count s rs + 1) (answer_count s rs)
unfolding answer_count
count_first s r rs =
    elim (answers s r) as (λ b. length (cond b (r ∷ filter (answers s) rs) (filter (answers s) rs)) ≡ cond b (length (filter (answers s) rs) + 1) (length (filter (answers s) rs))) [
      | true ↦ omega arith
      | false ↦ refl
    ]

-- a reply gives bytes of the send that it answers
gives_by : (own : Own) (log : List Deed) (s : Sent) (r : Reply) (o : Option ℕ) → r.gives ≡ o → Member s (own_live own log) → Member r (own_progress own log).replies
    → gives_of o (kept_send own log s) ≡ (same_life r.to s.to && is_number s.number o)
unfolding gives_of is_number kept_send
gives_by own log s r None e m k = sym (and_right (same_life r.to s.to) false refl)
gives_by own log s r (Some n) e m k =
    same_test (s.number == n) (same_life r.to s.to && n == s.number)
    (λ h.
    let f = eqb-true s.number n h in
    let g = reply_gives own log r k n e in
    let one : g.0 ≡ s = sends_one own (told own log) log g.0 s g.1 (live_sent own log s m) (g.3 ∙ sym f) in
    let to : r.to ≡ s.to = sym g.2 ∙ ap (λ (x : Sent). x.to) one in
    and_from (same_life r.to s.to) (nat_eq n s.number) (ap (λ (l : Life). same_life l s.to) to ∙ same_life-refl s.to) (eq-eqb n s.number (sym f)))
    (λ h. eq-eqb s.number n (sym (eqb-true n s.number (and_parts (same_life r.to s.to) (nat_eq n s.number) h).1)))

-- a send that owes one answer less
answered : (own : Own) (s : Sent) (ps : List Packet) (gs : List Grant) (asks : List ReadAsk) (was now : ℕ) (b : Bool) → was ≡ cond b (now + 1) now
    → cond b (with_answer (kept_by own s ps gs asks was)) (kept_by own s ps gs asks was) ≡ kept_by own s ps gs asks now
answered own s ps gs asks was now true e = let f : was - 1 ≡ now = omega arith in ap (λ (n : ℕ). kept_by own s ps gs asks n) f
answered own s ps gs asks was now false e = ap (λ (n : ℕ). kept_by own s ps gs asks n) e

-- the first reply changes the send that it answers, and no other
reply_changes : (own : Own) (log : List Deed) (r : Reply) → slice_get (own_progress own log).replies 0 ≡ Some r → (s : Sent) → Member s (own_live own log)
    → cond (gives_of r.gives (kept_send own log s)) (with_answer (kept_send own log s)) (kept_send own log s) ≡ kept_send own (Pushed ∷ log) s
unfolding answers
reply_changes own log r h s m =
    let rs = (own_progress own log).replies in
    let gs = grants log s.to s.number in
    let asks = asks_of log s.to s.number in
    let ps = own_packets own log s.number in
    let split = first_rest rs r h in
    let here : Member r rs = subst (λ (xs : List Reply). Member r xs) (sym split) (inl refl) in
    let test : gives_of r.gives (kept_send own log s) ≡ answers s r = gives_by own log s r r.gives refl m here in
    let count : answer_count s rs ≡ cond (answers s r) (answer_count s (drop 1 rs) + 1) (answer_count s (drop 1 rs)) = ap (answer_count s) split ∙ count_first s r (drop 1 rs) in
    ap (λ (b : Bool). cond b (with_answer (kept_send own log s)) (kept_send own log s)) test
    ∙ ap (λ (x : LiveSend). cond (answers s r) (with_answer x) x) (kept_is own log s)
    ∙ answered own s ps gs asks (answer_count s rs) (answer_count s (drop 1 rs)) (answers s r) count
    ∙ sym (kept_pushed own log s ∙ ap (λ (x : List Packet). kept_by own s x gs asks (answer_count s (drop 1 rs))) (reply_packets own log r s.number h))

-- what a reply leaves
reply_left : (r : Reply) (v : Kept) → (push_first (Some r) v).sends ≡ change_where (gives_of r.gives) with_answer v.sends
unfolding push_first
reply_left r v = refl

-- after a reply
pub reply_sends : (own : Own) (log : List Deed) (v : Kept) (r : Reply) → slice_get (own_progress own log).replies 0 ≡ Some r → KeepsSends own log v
    → (push_first (Some r) v).sends ≡ map (kept_send own (Pushed ∷ log)) (own_live own (Pushed ∷ log))
unfolding sent_by
reply_sends own log v r h k =
    reply_left r v ∙ ap (change_where (gives_of r.gives) with_answer) k.sends_are
    ∙ change_kept (gives_of r.gives) with_answer (kept_send own log) (kept_send own (Pushed ∷ log)) (own_live own log) (reply_changes own log r h)
    ∙ ap (map (kept_send own (Pushed ∷ log))) (sym (live_same own Pushed log refl (λ s m. still_live own log s (reply_packets own log r s.number h) m)))
