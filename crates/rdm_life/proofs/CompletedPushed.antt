-- What a push completes: the send whose packet goes out, once all of it went out and neither its receiver ends it nor a receipt.
use Rattle.std.proofs.Common.{◌≡◌, ℕ, Bool, true, false, cond, not, ◌&&◌, List, [], ◌∷◌, ◌++◌, map, Option, Some, None, refl, arith, inl, inr, sym, ◌∙◌, ap, subst}
use Rattle.std.specs.Prelude.{◌==◌, filter, slice_get, option_map}
use Rattle.std.proofs.Math.Bool.{and-false}
use Rattle.std.proofs.lemmas.Bool.{cases_eq, eq-eqb, ne_eqb}
use Rattle.std.proofs.lemmas.List.{append-nil, map-append}
use Rattle.rdm_lists.specs.Lists.{Member}
use Rattle.rdm_lists.proofs.Filters.{filter_nothing, filter_both}
use Rattle.rdm_lists.proofs.Members.{find_member, map-member, member-map, member-filter}
use Rattle.rdm_lists.proofs.Same.{filter_where}
use Rattle.rdm_num.specs.declared.completion.Completion.{Completion}
use Rattle.rdm_model.specs.Beginnings.{Own, Messages}
use Rattle.rdm_model.specs.Completions.{send_completion, polls_by}
use Rattle.rdm_model.specs.Currents.{forgotten_by, is_forgotten}
use Rattle.rdm_model.specs.Deeds.{Deed, Pushed}
use Rattle.rdm_model.specs.Dues.{Due, live_of, live_sends, due}
use Rattle.rdm_model.specs.Receives.{withdrawn_by}
use Rattle.rdm_model.specs.Replies.{Reply}
use Rattle.rdm_model.specs.Sends.{Sent, sends}
use Rattle.rdm_model.proofs.Numbers.{sends_step, new_number, send_below, sends_one}
use Rattle.rdm_law.proofs.Lives.Lives.{LifeLocal}
use Rattle.rdm_law.proofs.Matching.Others.{NumbersApart, lacks_number, apart_push}
use Rattle.rdm_life.specs.Kept.{Kept, LiveSend}
use Rattle.rdm_life.specs.Keeps.{told, own_sends, own_progress, kept_send, Keeps, KeepsOwed}
use Rattle.rdm_life.specs.Sending.{after_packet, ends_by_push, pushed, completion_of_send, push_send, push_first}
use Rattle.rdm_life.specs.Handling.{after}
use Rattle.rdm_life.proofs.Completing.{new_over, unpolled, live_known, done_of}
use Rattle.rdm_life.proofs.CompletedIdle.{KeepsDone, only_sends}
use Rattle.rdm_life.proofs.GoesSends.{has_next, send_next_is}
use Rattle.rdm_life.proofs.NoWindows.{no_windows}
use Rattle.rdm_life.proofs.OwedIdle.{owed_idle}
use Rattle.rdm_life.proofs.OwnSends.{own_live, own_over}
use Rattle.rdm_life.proofs.SendsAnswered.{still_live, reply_packets}
use Rattle.rdm_life.proofs.SendsPushed.{FirstSend, first_send, others_same, sent_goes}
use Rattle.rdm_life.proofs.SendTargets.{live_sent}

-- ---- each send stands once

-- the numbers of sends are apart
sends_apart : (own : Own) (ms : Messages) (log : List Deed) → NumbersApart (map (λ (s : Sent). s.number) (sends own ms log))
unfolding sends
sends_apart own ms [] = tt
sends_apart own ms (d ∷ before) =
    let was = sends own ms before in
    let number : Sent → ℕ = λ s. s.number in
    let apart = sends_apart own ms before in
    elim (sends_step own ms d before) [
      | inl a ↦ subst (λ (xs : List Sent). NumbersApart (map number xs)) (sym a) apart
      | inr a ↦
          subst (λ (xs : List Sent). NumbersApart (map number xs)) (sym a.2)
          (subst NumbersApart (sym (map-append number was (a.0 ∷ [])))
          (apart_push a.0.number (map number was) apart (λ j m e. (
          let x = member-map number j was m in
          let below = send_below own ms before x.0 x.1 in
          let last = new_number own ms before was d a.0 a.1 in
          let is = x.2 in
          absurd (omega arith)))))
    ]

-- so one of them has its number alone
one_apart : (xs : List Sent) (s : Sent) → NumbersApart (map (λ (x : Sent). x.number) xs) → Member s xs → filter (λ (x : Sent). x.number == s.number) xs ≡ s ∷ []
one_apart [] s a m = elim m [ ]
one_apart (x ∷ xs) s a (inl is) =
    let t : Sent → Bool = λ y. y.number == s.number in
    let here : (x.number == s.number) ≡ true = eq-eqb x.number s.number (ap (λ (y : Sent). y.number) is) in
    let none : filter t xs ≡ [] = filter_nothing t xs (λ y m. ne_eqb y.number s.number (λ e.
    lacks_number x.number y.number (map (λ (z : Sent). z.number) xs) a.0 (map-member (λ (z : Sent). z.number) y xs m) (e ∙ sym (ap (λ (z : Sent). z.number) is)))) in
    rw (here, none) (ap (λ (y : Sent). y ∷ []) is)
one_apart (x ∷ xs) s a (inr m) =
    let there : (x.number == s.number) ≡ false = ne_eqb x.number s.number (λ e.
    lacks_number x.number s.number (map (λ (z : Sent). z.number) xs) a.0 (map-member (λ (z : Sent). z.number) s xs m) (sym e)) in
    rw there (one_apart xs s a.1 m)

-- and so does a live one among the live ones
live_apart : (own : Own) (log : List Deed) (s : Sent) → Member s (own_live own log) → filter (λ (x : Sent). x.number == s.number) (own_live own log) ≡ s ∷ []
unfolding live_sends live_of
live_apart own log s m =
    let sents = own_sends own log in
    let q : Sent → Bool = λ x. not (own_over own log x) in
    let t : Sent → Bool = λ x. x.number == s.number in
    let f = member-filter q s sents m in
    sym (filter_both q t sents)
    ∙ filter_where (λ x. q x && t x) t sents
    (λ x k. (elim (cases_eq x.number s.number) [
      | inl e ↦ (
          let one = sends_one own (told own log) log x s k f.0 e in
          let live : q x ≡ true = ap q one ∙ f.1 in
          rw live refl)
      | inr e ↦ (let no = ne_eqb x.number s.number e in rw no (and-false (q x)))
    ]))
    ∙ one_apart sents s (sends_apart own (told own log) log) f.0

-- ---- which sends are over

-- where a reply goes out, none is
reply_over : (own : Own) (log : List Deed) (r : Reply) → slice_get (own_progress own log).replies 0 ≡ Some r → new_over own Pushed log ≡ []
reply_over own log r h = filter_nothing (own_over own (Pushed ∷ log)) (own_live own log) (λ s m. still_live own log s (reply_packets own log r s.number h) m)

-- of a list that has an element once, one that passes alone
only_one : (t : Sent → Bool) (xs : List Sent) (s : Sent) → ((x : Sent) → Member x xs → x.number ≡ s.number → t x ≡ t s) → ((x : Sent) → Member x xs → (x.number ≡ s.number → ⊥) → t x ≡ false)
    → filter (λ (x : Sent). x.number == s.number) xs ≡ s ∷ [] → filter t xs ≡ cond (t s) (s ∷ []) []
only_one t xs s here others one =
    let n : Sent → Bool = λ x. x.number == s.number in
    (elim (t s) as (λ b. t s ≡ b → filter t xs ≡ cond b (s ∷ []) []) [
      | true ↦ λ e.
          filter_where t n xs
          (λ x m. (elim (cases_eq x.number s.number) [
            | inl k ↦ here x m k ∙ e ∙ sym (eq-eqb x.number s.number k)
            | inr k ↦ others x m k ∙ sym (ne_eqb x.number s.number k)
          ]))
          ∙ one
      | false ↦ λ e.
          filter_nothing t xs
          (λ x m. (elim (cases_eq x.number s.number) [
            | inl k ↦ here x m k ∙ e
            | inr k ↦ others x m k
          ]))
    ]) refl

-- where a packet goes out, its send is, or none
packet_over : (own : Own) (log : List Deed) (f : FirstSend own log) → Member f.sent (own_live own log) → new_over own Pushed log ≡ cond (own_over own (Pushed ∷ log) f.sent) (f.sent ∷ []) []
packet_over own log f m =
    only_one (own_over own (Pushed ∷ log)) (own_live own log) f.sent
    (λ x k e. ap (own_over own (Pushed ∷ log)) (sends_one own (told own log) log x f.sent (live_sent own log x k) (live_sent own log f.sent m) e))
    (λ x k other. still_live own log x (others_same own log f.sent f.packet x.number f.is_due other) k)
    (live_apart own log f.sent m)

-- ---- what that completes

-- of one list or another
same_choice : {A : Type 0} (e o : Bool) (x y : A) → cond e [] (x ∷ []) ≡ cond (not o) (y ∷ []) [] → e ≡ o
same_choice true true x y h = refl
same_choice true false x y h = cc
same_choice false true x y h = cc
same_choice false false x y h = refl

-- it is over where the record says so
over_goes : (own : Own) (log : List Deed) (f : FirstSend own log) → LifeLocal own log → slice_get (own_progress own log).replies 0 ≡ None → Member f.sent (own_live own log)
    → ends_by_push own (pushed own (kept_send own log f.sent)) ≡ own_over own (Pushed ∷ log) f.sent
unfolding after_packet
over_goes own log f l none m =
    same_choice (ends_by_push own (pushed own (kept_send own log f.sent))) (own_over own (Pushed ∷ log) f.sent) _ _ (sent_goes own log f.sent f.packet l none m f.next f.is_due)

-- a live send is not gone by a push
not_gone : (own : Own) (log : List Deed) (s : Sent) → Member s (own_live own log) → send_completion (Pushed ∷ log) s ≡ done_of s
unfolding send_completion is_forgotten forgotten_by
not_gone own log s m = let known = live_known own log s m in rw known refl

-- the completion that is kept is that of the definitions
packet_done : (own : Own) (log : List Deed) (f : FirstSend own log) → LifeLocal own log → slice_get (own_progress own log).replies 0 ≡ None → Member f.sent (own_live own log)
    → completion_of_send own (kept_send own log f.sent) ≡ map (send_completion (Pushed ∷ log)) (new_over own Pushed log)
unfolding completion_of_send kept_send
packet_done own log f l none m =
    let over = own_over own (Pushed ∷ log) f.sent in
    ap (λ (b : Bool). cond b (done_of f.sent ∷ []) []) (over_goes own log f l none m)
    ∙ (elim over as (λ b. cond b (done_of f.sent ∷ []) [] ≡ map (send_completion (Pushed ∷ log)) (cond b (f.sent ∷ []) [])) [
      | true ↦ ap (λ (x : Completion). x ∷ []) (sym (not_gone own log f.sent m))
      | false ↦ refl
    ])
    ∙ ap (map (send_completion (Pushed ∷ log))) (sym (packet_over own log f m))

-- ---- what is kept of it

-- a packet of a send adds its completion
packet_adds : (s : LiveSend) (v : Kept) → (push_send (Some s) v).completions ≡ v.completions ++ completion_of_send v.own s
unfolding push_send
packet_adds s v = refl

-- what was not polled after completions of sends
sends_done : (own : Own) (log : List Deed) (v : Kept) (new : List Completion) → LifeLocal own (Pushed ∷ log) → Keeps own log v → new ≡ map (send_completion (Pushed ∷ log)) (new_over own Pushed log)
    → KeepsDone own Pushed log (v.completions ++ new)
unfolding polls_by withdrawn_by forgotten_by
sends_done own log v new local k e = unpolled own Pushed log v.completions new local.0 refl k.owed.completions_are (only_sends own Pushed log new tt refl refl e)

-- by the first reply, if there is one
done_by : (own : Own) (log : List Deed) (v : Kept) (t : Due) (o : Option Reply) → slice_get (own_progress own log).replies 0 ≡ o → due own (told own log) log ≡ Some t
    → LifeLocal own (Pushed ∷ log) → Keeps own log v → KeepsDone own Pushed log (push_first o v).completions
unfolding push_first
done_by own log v t (Some r) h d local k =
    sym (append-nil v.completions) ∙ sends_done own log v [] local k (sym (ap (map (send_completion (Pushed ∷ log))) (reply_over own log r h)))
done_by own log v t None h d local k =
    let f = first_send own log t h d in
    let kept = kept_send own log f.sent in
    let m = (find_member (has_next own log) f.sent (own_live own log) f.found).0 in
    ap (λ (o : Option LiveSend). (push_send o v).completions) (send_next_is own log v local.0 k.lives.own_is k.sends ∙ ap (option_map (kept_send own log)) f.found)
    ∙ packet_adds kept v
    ∙ ap (λ (o : Own). v.completions ++ completion_of_send o kept) k.lives.own_is
    ∙ sends_done own log v (completion_of_send own kept) local k (packet_done own log f local.0 h m)

-- what is completed after a push
pub done_pushed : (own : Own) (log : List Deed) (v : Kept) → LifeLocal own (Pushed ∷ log) → Keeps own log v → KeepsDone own Pushed log (after Pushed v).completions
unfolding after
done_pushed own log v local k =
    ap (λ (rs : List Reply). (push_first (slice_get rs 0) v).completions) k.owed.owed_is
    ∙ done_by own log v local.1.0 (slice_get (own_progress own log).replies 0) refl local.1.1 local k

-- what goes out and what is polled after a push
pub owed_pushed : (own : Own) (log : List Deed) (v : Kept) → LifeLocal own (Pushed ∷ log) → Keeps own log v → KeepsOwed own (Pushed ∷ log) (after Pushed v)
owed_pushed own log v local k = record { owed_is = owed_idle own Pushed log v (no_windows own log local.0) tt local k; completions_are = done_pushed own log v local k }
