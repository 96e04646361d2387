-- A send that is accepted is kept as the definitions make it.
use Rattle.std.proofs.Common.{◌≡◌, ℕ, ◌+◌, min, max, Bool, false, cond, not, List, [], ◌∷◌, ◌++◌, map, length, Option, Some, None, refl, arith, inl, inr, sym, ◌∙◌, ap, ap₂}
use Rattle.std.specs.Prelude.{◌||◌, is_none, filter}
use Rattle.std.specs.List.{list_any}
use Rattle.std.proofs.lemmas.List.{map-append}
use Rattle.rdm_lists.specs.Lists.{Member}
use Rattle.rdm_lists.proofs.Filters.{filter_all}
use Rattle.rdm_lists.proofs.Members.{member-append_cases}
use Rattle.rdm_lists.proofs.Same.{map_same}
use Rattle.rdm_num.specs.Pieces.{piece_bytes}
use Rattle.rdm_num.specs.declared.numbers.Life.{Life}
use Rattle.rdm_num.specs.declared.request.SendReq.{SendReq}
use Rattle.rdm_num.proofs.Lives.{same_life-refl}
use Rattle.rdm_pkt.specs.declared.Packet.{Packet}
use Rattle.rdm_pkt.specs.Openings.{openings}
use Rattle.rdm_wire.specs.declared.ReadAsk.{ReadAsk}
use Rattle.rdm_model.specs.declared.job.Instr.TheVariants.{Send}
use Rattle.rdm_model.specs.Beginnings.{Own}
use Rattle.rdm_model.specs.Currents.{current, forgotten_by, is_forgotten}
use Rattle.rdm_model.specs.Deeds.{Deed, Did}
use Rattle.rdm_model.specs.Dues.{pieces_in, is_read, is_complete, is_over, is_pushed, ends_send, confirms}
use Rattle.rdm_model.specs.Grants.{Grant, grants, grants_by, grant_bytes}
use Rattle.rdm_model.specs.Reads.{asks_of, asked_by}
use Rattle.rdm_model.specs.Replies.{given_by, without_forgotten}
use Rattle.rdm_model.specs.Sends.{Sent, sends_to, known_word, new_sent, sent_to_current, bytes_of, sent_by}
use Rattle.rdm_model.specs.Sources.{is_other}
use Rattle.rdm_model.proofs.Pushes.{none_pushed}
use Rattle.rdm_law.proofs.Lives.Held.{current_port}
use Rattle.rdm_law.proofs.Lives.Lives.{LifeLocal}
use Rattle.rdm_law.proofs.Lives.Replaced.{not_forgotten}
use Rattle.rdm_law.proofs.Replies.Queue.{popped}
use Rattle.rdm_life.specs.Handling.{after, after_instr}
use Rattle.rdm_life.specs.Kept.{Kept, LiveSend}
use Rattle.rdm_life.specs.Keeps.{told, own_sends, own_progress, own_regions, kept_send, Keeps, KeepsLives, KeepsSends}
use Rattle.rdm_life.specs.Memory.{bytes_home}
use Rattle.rdm_life.specs.Sending.{opening_bytes, begun, sent_in, send_to}
use Rattle.rdm_life.proofs.NewSends.{none_granted, none_asked, none_ended, none_confirmed, none_owed}
use Rattle.rdm_life.proofs.OwnSends.{own_live, own_over, own_packets, new_sends, live_step}
use Rattle.rdm_life.proofs.SendAnswers.{accepted, bytes_there}
use Rattle.rdm_life.proofs.SendsQuiet.{live_was, owed_still, count_nothing}
use Rattle.rdm_life.proofs.SendLists.{none_either}
use Rattle.rdm_life.proofs.SendWords.{answer_count, kept_by, kept_by_same, kept_next, kept_still, packets_still, ends_by, over_now}

-- the current life of a port was not forgotten
current_stands : (own : Own) (log : List Deed) (port : ℕ) (to : Life) → LifeLocal own log → current log port ≡ Some to → is_forgotten log to ≡ false
unfolding is_other
current_stands own log port to l h =
    let p = current_port log port to h in
    let c : current log to.port.0 ≡ Some to = ap (current log) p ∙ h in
    not_forgotten own log to l (ap (λ (o : Option Life). is_other o to) c ∙ ap not (same_life-refl to))

-- the send that the definitions make
abbrev send_of : Own → List Deed → SendReq → Life → Sent
send_of own log req to =
    new_sent own (known_word log to) (length (own_sends own log)) (length (sends_to (own_sends own log) to)) req to (bytes_of (own_regions own log) req.parts)

-- a send by its parts
sent_same : (own' own : Own) (known known' : Option ℕ) (n n' m m' : ℕ) (req : SendReq) (to : Life) (bytes bytes' : List ℕ) → own' ≡ own → known ≡ known' → n ≡ n' → m ≡ m' → bytes ≡ bytes'
    → new_sent own' known n m req to bytes ≡ new_sent own known' n' m' req to bytes'
sent_same own' own known known' n n' m m' req to bytes bytes' a b c d e =
    ap (λ (x : Own). new_sent x known n m req to bytes) a ∙ ap (λ (x : Option ℕ). new_sent own x n m req to bytes) b
    ∙ ap (λ (x : ℕ). new_sent own known' x m req to bytes) c ∙ ap (λ (x : ℕ). new_sent own known' n' x req to bytes) d ∙ ap (new_sent own known' n' m' req to) e

-- the send of the record is that one
sent_is : (own : Own) (log : List Deed) (v : Kept) (req : SendReq) (to : Life) → is_forgotten log to ≡ false → bytes_home v req.parts ≡ bytes_of (own_regions own log) req.parts
    → KeepsLives own log v → sent_in v req to ≡ send_of own log req to
sent_is own log v req to stands bytes k =
    sent_same v.own own (v.peers to).known (known_word log to) v.send_count (length (own_sends own log)) (v.peers to).messages (length (sends_to (own_sends own log) to)) req to
    (bytes_home v req.parts) (bytes_of (own_regions own log) req.parts)
    k.own_is (k.known_is to stands) k.send_count_is (k.messages_are to stands) bytes

-- a send of which nothing is known
begun_is : (own : Own) (s : Sent) → begun own s ≡ kept_by own s [] [] [] 0
unfolding pieces_in piece_bytes grant_bytes
begun_is own s =
    let a : 0 ≡ min 0 (length (openings own.limits s.message s.kind)) = omega arith in
    let b : opening_bytes own s ≡ max (opening_bytes own s) 0 = omega arith in
    let c : opening_bytes own s ≡ opening_bytes own s + 0 = omega arith in
    ap (λ (x : ℕ). record (begun own s) { opened = x }) a
    ∙ ap₂ (λ (x y : ℕ). record (kept_by own s [] [] [] 0) { done = x; allowed = y }) b c

-- the number of the new send
number_is : (own : Own) (log : List Deed) (req : SendReq) (to : Life) → (send_of own log req to).number ≡ length (own_sends own log)
unfolding new_sent
number_is own log req to = refl

-- the life and the message number of the new send
placed_as : (own : Own) (log : List Deed) (req : SendReq) (to : Life)
    → ((send_of own log req to).to ≡ to) × ((send_of own log req to).message.no.0 ≡ own.limits.first + length (sends_to (own_sends own log) to))
unfolding new_sent
placed_as own log req to = (refl, refl)

-- nothing was pushed of it
unpushed : (own : Own) (log : List Deed) (req : SendReq) (s : Sent) → s.number ≡ length (own_sends own log) → own_packets own (Did (Send req) ∷ log) s.number ≡ []
unpushed own log req s e = packets_still own (Did (Send req)) log s.number (λ x. cc) ∙ none_pushed own (told own log) log s.number (omega arith)

-- it is kept as begun
new_kept : (own : Own) (log : List Deed) (req : SendReq) (s : Sent) → LifeLocal own log → s.number ≡ length (own_sends own log) → kept_send own (Did (Send req) ∷ log) s ≡ begun own s
unfolding grants_by asked_by given_by popped forgotten_by
new_kept own log req s l e =
    let d = Did (Send req) in
    let rs = (own_progress own log).replies in
    let gs = grants log s.to s.number in
    let asks = asks_of log s.to s.number in
    kept_next own d log s
    ∙ kept_by_same own s (own_packets own (d ∷ log) s.number) [] (gs ++ []) [] (asks ++ []) [] _ 0
    (unpushed own log req s e)
    (ap (λ (x : List Grant). x ++ []) (none_granted own log s.to s.number l (omega arith)))
    (ap (λ (x : List ReadAsk). x ++ []) (none_asked own log s.to s.number l (omega arith)))
    (count_nothing s [] (answer_count s (without_forgotten log d (popped d rs))) refl ∙ ap (answer_count s) (owed_still log d rs refl refl) ∙ none_owed own log s (omega arith))
    ∙ sym (begun_is own s)

-- it is not over
new_over : (own : Own) (log : List Deed) (req : SendReq) (s : Sent) → LifeLocal own log → s.number ≡ length (own_sends own log)
    → s.message.no.0 ≡ own.limits.first + length (sends_to (own_sends own log) s.to) → is_forgotten log s.to ≡ false → own_over own (Did (Send req) ∷ log) s ≡ false
unfolding is_over is_forgotten is_complete forgotten_by ends_send confirms is_pushed
new_over own log req s l e placed stands =
    let none = none_ended own log s.to s.number l (omega arith) in
    let unconfirmed : list_any (confirms s.to s.message.no.0) log ≡ false = ap (λ (n : ℕ). list_any (confirms s.to n) log) placed ∙ none_confirmed own log s.to l in
    ap (λ (ps : List Packet). is_over (Did (Send req) ∷ log) ps s) (unpushed own log req s e)
    ∙ ap (λ (b : Bool). (b || false) || cond (is_read s.kind) (list_any (ends_send s.to s.number) log) (cond s.message.confirm (list_any (confirms s.to s.message.no.0) log) false)) stands
    ∙ ap (λ (b : Bool). cond (is_read s.kind) b (cond s.message.confirm (list_any (confirms s.to s.message.no.0) log) false)) none
    ∙ ap (λ (b : Bool). cond (is_read s.kind) false (cond s.message.confirm b false)) unconfirmed
    ∙ none_either (is_read s.kind) s.message.confirm

-- the others stay as they were
old_kept : (own : Own) (log : List Deed) (req : SendReq) (s : Sent) → kept_send own (Did (Send req) ∷ log) s ≡ kept_send own log s
unfolding grants_by asked_by given_by popped forgotten_by
old_kept own log req s =
    let d = Did (Send req) in
    let rs = (own_progress own log).replies in
    kept_still own d log s (λ e. cc) refl refl
    (count_nothing s [] (answer_count s (without_forgotten log d (popped d rs))) refl ∙ ap (answer_count s) (owed_still log d rs refl refl))

-- and are over no more than they were
old_over : (own : Own) (log : List Deed) (req : SendReq) (s : Sent) → Member s (own_live own log) → own_over own (Did (Send req) ∷ log) s ≡ false
unfolding ends_by forgotten_by ends_send confirms
old_over own log req s m = over_now own (Did (Send req)) log s (λ e. cc) (live_was own log s m) ∙ none_either (is_read s.kind) s.message.confirm

-- the live sends with the new one
live_more : (own : Own) (log : List Deed) (req : SendReq) (to : Life) → LifeLocal own log → current log req.to.0 ≡ Some to
    → own_live own (Did (Send req) ∷ log) ≡ own_live own log ++ send_of own log req to ∷ []
unfolding sent_by sent_to_current
live_more own log req to l h =
    let d = Did (Send req) in
    let s = send_of own log req to in
    let live = own_live own log in
    let p = placed_as own log req to in
    let stands = current_stands own log req.to.0 to l h in
    let new : own_over own (d ∷ log) s ≡ false =
    new_over own log req s l (number_is own log req to) (p.1 ∙ ap (λ (x : Life). own.limits.first + length (sends_to (own_sends own log) x)) (sym p.0)) (ap (is_forgotten log) p.0 ∙ stands) in
    let made : new_sends own log d ≡ s ∷ [] =
    ap (λ (o : Option Life). sent_to_current own log (own_sends own log) req o (bytes_of (own_regions own log) req.parts)) h in
    live_step own d log
    ∙ ap (λ (xs : List Sent). filter (λ (x : Sent). not (own_over own (d ∷ log) x)) (live ++ xs)) made
    ∙ filter_all (λ (x : Sent). not (own_over own (d ∷ log) x)) (live ++ s ∷ [])
    (λ x m. elim (member-append_cases x live (s ∷ []) m) [
      | inl a ↦ ap not (old_over own log req x a)
      | inr a ↦ elim a [ inl e ↦ ap not (ap (own_over own (d ∷ log)) (sym e) ∙ new) | inr never ↦ elim never [ ] ]
    ])

-- a life that is there
some_life : (o : Option Life) → is_none o ≡ false → (to : Life) × (o ≡ Some to)
some_life None h = cc
some_life (Some to) h = (to, refl)

-- what the record has
send_left : (req : SendReq) (v : Kept) → (after (Did (Send req)) v).sends ≡ (send_to req (v.current req.to.0) v).sends
unfolding after after_instr
send_left req v = refl

-- to a life
send_to_left : (req : SendReq) (to : Life) (v : Kept) → (send_to req (Some to) v).sends ≡ v.sends ++ begun v.own (sent_in v req to) ∷ []
unfolding send_to
send_to_left req to v = refl

-- after a send
pub made_sends : (own : Own) (log : List Deed) (v : Kept) (req : SendReq) → LifeLocal own (Did (Send req) ∷ log) → Keeps own log v
    → KeepsSends own (Did (Send req) ∷ log) (after (Did (Send req)) v)
made_sends own log v req l k =
    let d = Did (Send req) in
    let a = accepted own log req l.1 in
    let t = some_life (current log req.to.0) a.named in
    let to = t.0 in
    let s = send_of own log req to in
    let live = own_live own log in
    let stands = current_stands own log req.to.0 to l.0 t.1 in
    let bytes = bytes_there own log v req k.receives a in
    let same = sent_is own log v req to stands bytes k.lives in
    record {
      sends_are =
          send_left req v
          ∙ ap (λ (o : Option Life). (send_to req o v).sends) (k.lives.current_is req.to.0 ∙ t.1)
          ∙ send_to_left req to v
          ∙ ap (λ (x : LiveSend). v.sends ++ x ∷ []) (ap₂ begun k.lives.own_is same ∙ sym (new_kept own log req s l.0 (number_is own log req to)))
          ∙ ap (λ (xs : List LiveSend). xs ++ kept_send own (d ∷ log) s ∷ [])
          (k.sends.sends_are ∙ map_same (kept_send own log) (kept_send own (d ∷ log)) live (λ x m. sym (old_kept own log req x)))
          ∙ sym (map-append (kept_send own (d ∷ log)) live (s ∷ []))
          ∙ ap (map (kept_send own (d ∷ log))) (sym (live_more own log req to l.0 t.1));
    }
