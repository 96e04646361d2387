-- Of a number that no send has nothing was granted, asked, ended or owed.
use Rattle.std.proofs.Common.{◌≡◌, ℕ, ◌+◌, ◌-◌, ◌<◌, ◌≤◌, Bool, false, cond, not, List, [], ◌∷◌, ◌++◌, length, Option, Some, None, refl, arith, inl, inr, ◌∙◌, ap, subst}
use Rattle.std.specs.Prelude.{◌||◌, nat_eq}
use Rattle.std.specs.List.{list_any}
use Rattle.std.proofs.lemmas.Bool.{and_right, ne_eqb, false_from_ne_true}
use Rattle.std.proofs.lemmas.List.{length-append}
use Rattle.std.proofs.lemmas.Option.{slice_get_within}
use Rattle.rdm_lists.specs.Lists.{Member}
use Rattle.rdm_lists.proofs.Filters.{filter_nothing}
use Rattle.rdm_lists.proofs.Members.{member-append_cases, member-filter}
use Rattle.rdm_num.specs.Lives.{same_life}
use Rattle.rdm_num.specs.declared.numbers.Life.{Life}
use Rattle.rdm_pkt.specs.declared.Packet.TheVariants.{Cts, Eor}
use Rattle.rdm_wire.specs.declared.ReadAsk.{ReadAsk}
use Rattle.rdm_model.specs.Beginnings.{Own, Messages}
use Rattle.rdm_model.specs.ClassFacts.{is_number}
use Rattle.rdm_model.specs.Currents.{forgotten_by}
use Rattle.rdm_model.specs.Deeds.{Deed, Took, Spelled, Asks, Pushed}
use Rattle.rdm_model.specs.Dues.{progress, after_push, after_deed, ends_send, confirms}
use Rattle.rdm_model.specs.Grants.{Grant, grants, grants_by}
use Rattle.rdm_model.specs.Reads.{asks_of, asked_by}
use Rattle.rdm_model.specs.Replies.{Reply, without_forgotten, without_lives, replies_by}
use Rattle.rdm_model.specs.Sends.{Sent, sends, sends_to}
use Rattle.rdm_model.proofs.Numbers.{send_below, placed}
use Rattle.rdm_model.proofs.Pushes.{member_later}
use Rattle.rdm_law.proofs.Ends.Receipts.{receipt_pushed}
use Rattle.rdm_law.proofs.Lives.Lives.{LifeLocal, LifeStep}
use Rattle.rdm_law.proofs.Replies.Owed.{NewReply, new_from}
use Rattle.rdm_law.proofs.Replies.Queue.{popped, pushed_replies}
use Rattle.rdm_life.specs.Keeps.{told, own_sends, own_progress}
use Rattle.rdm_life.proofs.OwnSends.{new_sends, own_sends_step}
use Rattle.rdm_life.proofs.SendTargets.{Target, grant_target, ask_target, end_target, live_sent}
use Rattle.rdm_life.proofs.SendWords.{answers, answer_count}

-- sends are only added
pub sends_more : (own : Own) (d : Deed) (before : List Deed) → length (own_sends own before) ≤ length (own_sends own (d ∷ before))
sends_more own d before =
    let e = ap length (own_sends_step own d before) in
    let l = length-append (own_sends own before) (new_sends own before d) in
    omega arith

-- a live send that is named has a number below the count
named_below : (own : Own) (log : List Deed) (to : Life) (n : ℕ) → Target own log to n → n < length (own_sends own log)
named_below own log to n t =
    let b = send_below own (told own log) log t.sent (live_sent own log t.sent t.member) in
    let e = t.number_is in
    omega arith

-- no deed grants a number that no send has
no_grant : (own : Own) (before : List Deed) (to : Life) (n : ℕ) (d : Deed) → LifeStep own before d → length (own_sends own before) ≤ n → grants_by to n d ≡ []
unfolding grants_by
no_grant own before to n (Took from (Spelled (Cts send recv size connid))) step le =
    let b = named_below own before from send.0 (grant_target own before from send recv size connid step) in
    let g : Grant = record { recv = recv.0; size = size } in
    let other : send.0 ≡ n → ⊥ = λ e. absurd (omega arith) in
    ap (λ (t : Bool). cond t (g ∷ []) []) (and_right (same_life from to) (nat_eq send.0 n) (ne_eqb send.0 n other))
no_grant own before to n _ step le = refl

-- so none was granted
pub none_granted : (own : Own) (log : List Deed) (to : Life) (n : ℕ) → LifeLocal own log → length (own_sends own log) ≤ n → grants log to n ≡ []
unfolding grants
none_granted own [] to n l le = refl
none_granted own (d ∷ before) to n l le =
    let more = sends_more own d before in
    ap (λ (gs : List Grant). gs ++ grants_by to n d) (none_granted own before to n l.0 (omega arith)) ∙ no_grant own before to n d l.1 (omega arith)

-- no deed asks for one
no_ask : (own : Own) (before : List Deed) (to : Life) (n : ℕ) (d : Deed) → LifeStep own before d → length (own_sends own before) ≤ n → asked_by to n d ≡ []
unfolding asked_by
no_ask own before to n (Took from (Asks ask)) step le =
    let b = named_below own before from ask.send_id.0 (ask_target own before from ask step) in
    let other : ask.send_id.0 ≡ n → ⊥ = λ e. absurd (omega arith) in
    ap (λ (t : Bool). cond t (ask ∷ []) []) (and_right (same_life from to) (nat_eq ask.send_id.0 n) (ne_eqb ask.send_id.0 n other))
no_ask own before to n _ step le = refl

-- so none was asked for
pub none_asked : (own : Own) (log : List Deed) (to : Life) (n : ℕ) → LifeLocal own log → length (own_sends own log) ≤ n → asks_of log to n ≡ []
unfolding asks_of
none_asked own [] to n l le = refl
none_asked own (d ∷ before) to n l le =
    let more = sends_more own d before in
    ap (λ (xs : List ReadAsk). xs ++ asked_by to n d) (none_asked own before to n l.0 (omega arith)) ∙ no_ask own before to n d l.1 (omega arith)

-- no deed ends one
no_end : (own : Own) (before : List Deed) (to : Life) (n : ℕ) (d : Deed) → LifeStep own before d → length (own_sends own before) ≤ n → ends_send to n d ≡ false
unfolding ends_send
no_end own before to n (Took from (Spelled (Eor send recv connid))) step le =
    let b = named_below own before from send.0 (end_target own before from send recv connid step).target in
    let other : send.0 ≡ n → ⊥ = λ e. absurd (omega arith) in
    and_right (same_life from to) (nat_eq send.0 n) (ne_eqb send.0 n other)
no_end own before to n _ step le = refl

-- so none was ended
pub none_ended : (own : Own) (log : List Deed) (to : Life) (n : ℕ) → LifeLocal own log → length (own_sends own log) ≤ n → list_any (ends_send to n) log ≡ false
none_ended own [] to n l le = refl
none_ended own (d ∷ before) to n l le =
    let more = sends_more own d before in
    ap (λ (b : Bool). b || list_any (ends_send to n) before) (no_end own before to n d l.1 (omega arith)) ∙ none_ended own before to n l.0 (omega arith)

-- no receipt was taken of a message that was not made
pub none_confirmed : (own : Own) (log : List Deed) (to : Life) → LifeLocal own log
    → list_any (confirms to (own.limits.first + length (sends_to (own_sends own log) to))) log ≡ false
none_confirmed own log to l =
    let n = own.limits.first + length (sends_to (own_sends own log) to) in
    false_from_ne_true (list_any (confirms to n) log) (λ h.
    let w = receipt_pushed own log to n l h in
    let p = placed own (told own log) log w.0 w.1 in
    let b = slice_get_within (sends_to (own_sends own log) w.0.to) (w.0.message.no.0 - own.limits.first) w.0 p.1 in
    let same : length (sends_to (own_sends own log) w.0.to) ≡ length (sends_to (own_sends own log) to) = ap (λ (x : Life). length (sends_to (own_sends own log) x)) w.2 in
    let e = w.3 in
    absurd (omega arith))

-- ---- what is owed

-- a reply that gives bytes goes to the life of its send
abbrev pub GivesOf : List Sent → Reply → Type 0
GivesOf sents r = (n : ℕ) → r.gives ≡ Some n → (s : Sent) × Member s sents × (s.to ≡ r.to) × (s.number ≡ n)

-- what a push leaves was there
popped_member : (d : Deed) (r : Reply) (rs : List Reply) → Member r (popped d rs) → Member r rs
unfolding popped
popped_member Pushed r [] m = m
popped_member Pushed r (x ∷ rs) m = inr m
popped_member _ r rs m = m

-- a new reply that gives bytes
new_gives : (own : Own) (ms : Messages) (sents : List Sent) (d : Deed) (before : List Deed) (r : Reply) → NewReply own ms.head sents d before r → GivesOf sents r
new_gives own ms sents d before r (inl a) n e = let x = a.gives_is in absurd (cc)
new_gives own ms sents d before r (inr (inl a)) n e = let x = a.gives_is in absurd (cc)
new_gives own ms sents d before r (inr (inr (inl a))) n e = let x = a.gives_is in absurd (cc)
new_gives own ms sents d before r (inr (inr (inr (inl a)))) n e = let x = a.gives_is in absurd (cc)
new_gives own ms sents d before r (inr (inr (inr (inr (inl a))))) n e = let x = a.gives_is in absurd (cc)
new_gives own ms sents d before r (inr (inr (inr (inr (inr a))))) n e = let x = a.gives_is in let same : a.sent.number ≡ n = cc in (a.sent, a.member, a.to_is, same)

-- each reply that is owed is so
reply_gives_by : (own : Own) (ms : Messages) (log : List Deed) (r : Reply) → Member r (progress own ms log).replies → GivesOf (sends own ms log) r
unfolding progress after_deed without_forgotten without_lives
reply_gives_by own ms [] r m n e = elim m [ ]
reply_gives_by own ms (d ∷ before) r m n e =
    let lives = forgotten_by before d in
    let left = after_push own ms before d (progress own ms before) in
    let found : (s : Sent) × Member s (sends own ms before) × (s.to ≡ r.to) × (s.number ≡ n) =
    elim (member-append_cases r (without_lives lives left.replies) (replies_by own ms.head (sends own ms before) d before) m) [
      | inl a ↦
          let b = (member-filter (λ (x : Reply). not (list_any (same_life x.to) lives)) r left.replies a).0 in
          let c = popped_member d r (progress own ms before).replies (subst (λ (rs : List Reply). Member r rs) (pushed_replies own ms before d (progress own ms before)) b) in
          reply_gives_by own ms before r c n e
      | inr a ↦ new_gives own ms (sends own ms before) d before r (new_from own ms.head (sends own ms before) d before r a) n e
    ] in
    (found.0, member_later own ms d before found.0 found.1, found.2, found.3)

-- each reply that a life owes is so
pub reply_gives : (own : Own) (log : List Deed) (r : Reply) → Member r (own_progress own log).replies → GivesOf (own_sends own log) r
reply_gives own log r m = reply_gives_by own (told own log) log r m

-- no reply gives a number that no send has
not_given : (own : Own) (log : List Deed) (n : ℕ) (r : Reply) (o : Option ℕ) → length (own_sends own log) ≤ n → Member r (own_progress own log).replies → r.gives ≡ o → is_number n o ≡ false
unfolding is_number
not_given own log n r None le m e = refl
not_given own log n r (Some k) le m e =
    let s = reply_gives own log r m k e in
    let b = send_below own (told own log) log s.0 s.1 in
    let f = s.3 in
    ne_eqb k n (λ x. absurd (omega arith))

-- so no answer is owed of a send of such a number
pub none_owed : (own : Own) (log : List Deed) (s : Sent) → length (own_sends own log) ≤ s.number → answer_count s (own_progress own log).replies ≡ 0
unfolding answer_count answers
none_owed own log s le =
    ap length (filter_nothing (answers s) (own_progress own log).replies
    (λ r m. and_right (same_life r.to s.to) (is_number s.number r.gives) (not_given own log s.number r r.gives le m refl)))
