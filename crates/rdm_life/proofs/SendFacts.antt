-- What a live send may still be granted and asked, as it is kept.
use Rattle.std.proofs.Common.{◌≡◌, ℕ, Bool, true, false, cond, not, ◌&&◌, List, [], ◌∷◌, map, Option, Some, None, refl, sym, ◌∙◌, ap}
use Rattle.std.specs.Prelude.{◌==◌, find, option_map}
use Rattle.rdm_num.specs.Lives.{same_life}
use Rattle.rdm_num.specs.declared.numbers.Life.{Life}
use Rattle.rdm_model.specs.Beginnings.{Own}
use Rattle.rdm_model.specs.Deeds.{Deed}
use Rattle.rdm_model.specs.Dues.{is_read, live_sends}
use Rattle.rdm_model.specs.Sends.{Sent}
use Rattle.rdm_model.specs.Targets.{live_send, live_message, is_long, is_long_send, is_read_send, is_confirmed_send}
use Rattle.rdm_law.proofs.Lives.Lives.{life_scene}
use Rattle.rdm_life.specs.Kept.{Kept, LiveSend}
use Rattle.rdm_life.specs.Keeps.{told, kept_send, KeepsSends}
use Rattle.rdm_life.specs.Sending.{is_send_of}
use Rattle.rdm_life.specs.Facts.{send_to_life, send_passes}

-- what is found among what a map gives
pub find_map : {A B : Type 0} (f : A → B) (q : B → Bool) (xs : List A) → find q (map f xs) ≡ option_map f (find (λ x. q (f x)) xs)
find_map f q [] = refl
find_map {A} {B} f q (x ∷ xs) =
    (elim (q (f x)) as (λ b. cond b (Some (f x)) (find q (map f xs)) ≡ option_map f (cond b (Some x) (find (λ y. q (f y)) xs))) [
      | true ↦ refl
      | false ↦ find_map f q xs
    ])

-- the live sends, as they are kept
abbrev kept_sends : Own → List Deed → List LiveSend
kept_sends own log = map (kept_send own log) (live_sends own (told own log) log)

-- the send of a number to a life
pub send_to_life_is : (own : Own) (ports : ℕ) (port_log log : List Deed) (v : Kept) (to : Life) (number : ℕ) → KeepsSends own log v
    → send_to_life v to number ≡ option_map (kept_send own log) (live_send (life_scene ports own port_log log) to number)
unfolding send_to_life live_send kept_send
send_to_life_is own ports port_log log v to number k =
    ap (λ (ss : List LiveSend). find (λ (s : LiveSend). same_life s.sent.to to && s.sent.number == number) ss) k.sends_are
    ∙ find_map (kept_send own log) (λ (s : LiveSend). same_life s.sent.to to && s.sent.number == number) (live_sends own (told own log) log)

-- the send of a message to a life
pub send_of_message_is : (own : Own) (ports : ℕ) (port_log log : List Deed) (v : Kept) (to : Life) (number : ℕ) → KeepsSends own log v
    → find (is_send_of to number) v.sends ≡ option_map (kept_send own log) (live_message (life_scene ports own port_log log) to number)
unfolding live_message kept_send
send_of_message_is own ports port_log log v to number k =
    ap (λ (ss : List LiveSend). find (is_send_of to number) ss) k.sends_are
    ∙ find_map (kept_send own log) (is_send_of to number) (live_sends own (told own log) log)

-- a test of a send that depends on what was sent alone
passes_sent : (own : Own) (log : List Deed) (test : Sent → Bool) (o : Option Sent) (answer : Option Sent → Bool) → answer None ≡ false
    → ((t : Sent) → answer (Some t) ≡ test t) → send_passes (λ (s : LiveSend). test s.sent) (option_map (kept_send own log) o) ≡ answer o
unfolding send_passes kept_send
passes_sent own log test None answer none some = sym none
passes_sent own log test (Some t) answer none some = sym (some t)

-- whether it takes grants
pub takes_grants_is : (own : Own) (ports : ℕ) (port_log log : List Deed) (v : Kept) (to : Life) (number : ℕ) → KeepsSends own log v
    → send_passes (λ (s : LiveSend). is_long s.sent.kind) (send_to_life v to number) ≡ is_long_send (live_send (life_scene ports own port_log log) to number)
unfolding is_long_send
takes_grants_is own ports port_log log v to number k =
    ap (send_passes (λ (s : LiveSend). is_long s.sent.kind)) (send_to_life_is own ports port_log log v to number k)
    ∙ passes_sent own log (λ (t : Sent). is_long t.kind) (live_send (life_scene ports own port_log log) to number) is_long_send refl (λ t. refl)

-- whether it takes an end
pub takes_end_is : (own : Own) (ports : ℕ) (port_log log : List Deed) (v : Kept) (to : Life) (number : ℕ) → KeepsSends own log v
    → send_passes (λ (s : LiveSend). is_read s.sent.kind) (send_to_life v to number) ≡ is_read_send (live_send (life_scene ports own port_log log) to number)
unfolding is_read_send
takes_end_is own ports port_log log v to number k =
    ap (send_passes (λ (s : LiveSend). is_read s.sent.kind)) (send_to_life_is own ports port_log log v to number k)
    ∙ passes_sent own log (λ (t : Sent). is_read t.kind) (live_send (life_scene ports own port_log log) to number) is_read_send refl (λ t. refl)

-- whether it takes a receipt
pub takes_receipt_is : (own : Own) (ports : ℕ) (port_log log : List Deed) (v : Kept) (to : Life) (number : ℕ) → KeepsSends own log v
    → send_passes (λ (s : LiveSend). s.sent.message.confirm && not (is_read s.sent.kind)) (find (is_send_of to number) v.sends)
    ≡ is_confirmed_send (live_message (life_scene ports own port_log log) to number)
unfolding is_confirmed_send
takes_receipt_is own ports port_log log v to number k =
    ap (send_passes (λ (s : LiveSend). s.sent.message.confirm && not (is_read s.sent.kind))) (send_of_message_is own ports port_log log v to number k)
    ∙ passes_sent own log (λ (t : Sent). t.message.confirm && not (is_read t.kind)) (live_message (life_scene ports own port_log log) to number) is_confirmed_send refl (λ t. refl)
