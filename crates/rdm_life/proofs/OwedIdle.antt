-- What is owed after deeds that make no pair and bring no bytes.
use Rattle.std.proofs.Common.{◌≡◌, ℕ, Bool, true, false, cond, ◌&&◌, not, List, [], ◌∷◌, ◌++◌, drop, Option, Some, None, refl, sym, ◌∙◌, ap}
use Rattle.std.specs.Prelude.{◌==◌, find, option_map, slice_get}
use Rattle.std.specs.List.{list_any}
use Rattle.std.proofs.lemmas.Bool.{and_parts, eqb-true, false_from_ne_true}
use Rattle.std.proofs.lemmas.List.{append-nil, append_assoc}
use Rattle.rdm_lists.specs.Lists.{Member, first_case}
use Rattle.rdm_num.specs.Lives.{same_life}
use Rattle.rdm_num.specs.declared.numbers.Life.{Life}
use Rattle.rdm_num.specs.declared.numbers.PortNo.{PortNo}
use Rattle.rdm_num.specs.declared.request.SendReq.{SendReq}
use Rattle.rdm_num.proofs.Lives.{same_life-true, same_life-refl}
use Rattle.rdm_hdr.specs.Fields.{has_bit}
use Rattle.rdm_pkt.specs.declared.Packet.TheVariants.{Rtm, CtsData, Cts, Eor, Handshake, Receipt}
use Rattle.rdm_wire.specs.declared.ReadAsk.{ReadAsk}
use Rattle.rdm_model.specs.declared.job.Instr.TheVariants.{Insert, Recv, Cancel, Send, Reg}
use Rattle.rdm_model.specs.declared.answer.DidWhat.{DidWhat}
use Rattle.rdm_model.specs.declared.answer.Next.{Next as Answer}
use Rattle.rdm_model.specs.declared.answer.Next.TheVariants.{Did as DidAnswer}
use Rattle.rdm_model.specs.Answers.{answer_of, answer_by, insert_answer}
use Rattle.rdm_model.specs.Deeds.{Deed, Did, PushedNote, Pushed, TookNote, Took, Polled, Nothing, Item, Spelled, Asks, Gives, Garbled}
use Rattle.rdm_model.specs.Beginnings.{Own}
use Rattle.rdm_model.specs.Currents.{other_life, forgotten_by, is_forgotten, is_superseded, current}
use Rattle.rdm_model.specs.Scenes.{Scene}
use Rattle.rdm_model.specs.Classes.{is_bad_key}
use Rattle.rdm_model.specs.Targets.{live_send, is_good_ask}
use Rattle.rdm_model.specs.Sends.{Sent}
use Rattle.rdm_model.specs.Replies.{Reply, reply, meets, confirm_feature, greeting, greets, handshake_by, given_of, given_by, replies_by, without_lives, without_forgotten}
use Rattle.rdm_model.proofs.Numbers.{sends_one}
use Rattle.rdm_law.proofs.Lives.Lives.{LifeLocal, LifeStep, life_scene}
use Rattle.rdm_law.proofs.Lives.Held.{Replaced}
use Rattle.rdm_law.proofs.Lives.Replaced.{forgotten_replaced}
use Rattle.rdm_law.proofs.Classes.Classed.{taken_parts}
use Rattle.rdm_law.proofs.Matching.Forgotten.{took_kept}
use Rattle.rdm_law.proofs.Replies.Queue.{popped, pushed_replies}
use Rattle.rdm_law.proofs.Ends.LiveSends.{live_parts}
use Rattle.rdm_life.specs.Kept.{Kept, LiveSend, is_send, stranger}
use Rattle.rdm_life.specs.Keeps.{told, own_sends, own_progress, kept_send, Keeps, KeepsLives, KeepsSends}
use Rattle.rdm_life.specs.Forgetting.{is_among, forget}
use Rattle.rdm_life.specs.Lives.{after_insert, greet, with_source}
use Rattle.rdm_life.specs.Receiving.{after_cancel}
use Rattle.rdm_life.specs.Sending.{send_to, send_next, push_send, push_first, after_grant, after_ask, end_sends}
use Rattle.rdm_life.specs.Handling.{after_item, after_take, after_instr, after}
use Rattle.rdm_life.proofs.OwnSends.{own_live}
use Rattle.rdm_life.proofs.SendLists.{find-map}
use Rattle.rdm_life.proofs.SendWords.{none_forgotten}
use Rattle.rdm_life.proofs.Owing.{NoWindows, owed_by}
use Rattle.rdm_life.proofs.Idle.{IsIdle, IsIdleItem, idle_replies}
use Rattle.rdm_lists.proofs.Members.{find_member, member_find}
use Rattle.rdm_lists.proofs.Options.{some_of}

-- the replies after such a deed
pub owed_after : (own : Own) (d : Deed) (log : List Deed) → NoWindows own log → IsIdle d
    → (own_progress own (d ∷ log)).replies ≡ without_forgotten log d (popped d (own_progress own log).replies) ++ (handshake_by own log d ++ given_by (own_sends own log) d)
owed_after own d log closed i =
    owed_by own d log
    ∙ ap (λ (rs : List Reply). without_forgotten log d rs ++ replies_by own (told own (d ∷ log)).head (own_sends own log) d log) (pushed_replies own (told own log) log d (own_progress own log))
    ∙ ap (λ (rs : List Reply). without_forgotten log d (popped d (own_progress own log).replies) ++ rs) (idle_replies own d log closed i)

-- nothing more, and nobody is forgotten
plain : (rs : List Reply) → without_lives [] rs ++ ([] ++ []) ≡ rs
plain rs = append-nil (without_lives [] rs) ∙ none_forgotten rs

-- ---- greetings

-- a life that is greeted as it is met
pub met_so : (own : Own) (log : List Deed) (v : Kept) (life : Life) (raw : Option PortNo) → KeepsLives own log v → is_forgotten log life ≡ false
    → cond (not (v.peers life).met) (reply life (greeting v.own raw) ∷ []) [] ≡ cond (not (list_any (meets own life) log)) (reply life (greeting own raw) ∷ []) []
met_so own log v life raw k f =
    ap (λ b. cond (not b) (reply life (greeting v.own raw) ∷ []) []) (k.met_is life f)
    ∙ ap (λ (o : Own). cond (not (list_any (meets own life) log)) (reply life (greeting o raw) ∷ []) []) k.own_is

-- a datagram greets its life
pub took_greets : (own : Own) (log : List Deed) (v : Kept) (from : Life) (item : Item) → KeepsLives own log v → LifeLocal own (Took from item ∷ log)
    → cond (not (v.peers from).met) (reply from (greeting v.own None) ∷ []) [] ≡ handshake_by own log (Took from item)
unfolding handshake_by greets meets
took_greets own log v from item k local =
    let f : is_forgotten log from ≡ false = false_from_ne_true (is_forgotten log from) (λ t. took_kept own log from from item local t refl) in
    let same = same_life-refl from in
    met_so own log v from None k f ∙ (rw same refl)

-- a life isn't another than itself
not_among : (life : Life) (o : Option Life) → is_among (other_life life o) life ≡ false
unfolding is_among other_life
not_among life None = refl
not_among life (Some old) =
    (elim (same_life old life) as (λ b. same_life old life ≡ b → list_any (same_life life) (cond b [] (old ∷ [])) ≡ false) [
      | true ↦ λ e. refl
      | false ↦ λ e. (
          let n : same_life life old ≡ false = false_from_ne_true (same_life life old) (λ t.
          let is = same_life-true life old t in
          let r = ap (λ (l : Life). same_life old l) is ∙ same_life-refl old in
          cc) in
          rw n refl)
    ]) refl

-- an instruction that did passed the tests before
second_false : (a b : Bool) (x y z : Answer) (what : DidWhat) → first_case ((a, x) ∷ (b, y) ∷ []) z ≡ DidAnswer what → ((w : DidWhat) → y ≡ DidAnswer w → ⊥)
    → ((w : DidWhat) → x ≡ DidAnswer w → ⊥) → b ≡ false
unfolding first_case
second_false true b x y z what h ny nx = absurd (nx what h)
second_false false true x y z what h ny nx = absurd (ny what h)
second_false false false x y z what h ny nx = refl

-- an insert that did was of no life that was replaced
insert_fresh : (ports : ℕ) (own : Own) (port_log log : List Deed) (l : Life) (what : DidWhat) → answer_of (life_scene ports own port_log log) (Insert l) ≡ DidAnswer what
    → is_superseded log l ≡ false
unfolding answer_by insert_answer
insert_fresh ports own port_log log l what h = second_false _ (is_superseded log l) _ _ _ what h (λ w e. cc) (λ w e. cc)

-- a life that was replaced is superseded
superseded : (log : List Deed) (l : Life) → Replaced log l → is_superseded log l ≡ true
unfolding is_superseded
superseded log l r = rw (r.once, r.not_now) refl

-- so it wasn't forgotten
inserted_known : (own : Own) (log : List Deed) (life : Life) → LifeLocal own (Did (Insert life) ∷ log) → is_forgotten log life ≡ false
inserted_known own log life local =
    let step : LifeStep own log (Did (Insert life)) = local.1 in
    let fresh = insert_fresh step.0 own step.1 log life step.2 step.3 in
    false_from_ne_true (is_forgotten log life) (λ f. (let s = superseded log life (forgotten_replaced own log life local.0 f) in cc))

-- what is met where the own life can confirm
greets_where : (c m : Bool) (r : Reply) → cond (c && not m) (r ∷ []) [] ≡ cond c (cond (not m) (r ∷ []) []) []
greets_where true m r = refl
greets_where false m r = refl

-- an insert greets its life
insert_greets : (own : Own) (log : List Deed) (v : Kept) (life : Life) → KeepsLives own log v → LifeLocal own (Did (Insert life) ∷ log)
    → cond (has_bit confirm_feature v.own.features && not (cond (is_among (other_life life (v.current life.port.0)) life) (stranger v.own.limits.first) (v.peers life)).met)
    (reply life (greeting v.own (Some v.own.life.port)) ∷ []) []
    ≡ handshake_by own log (Did (Insert life))
unfolding handshake_by greets meets
insert_greets own log v life k local =
    let f = inserted_known own log life local in
    let none = not_among life (v.current life.port.0) in
    let same = same_life-refl life in
    let confirms = has_bit confirm_feature own.features in
    rw (none, k.own_is, k.met_is life f, same)
    (ap (λ b. cond (b && not (list_any (meets own life) log)) (reply life (greeting own (Some own.life.port)) ∷ []) []) (and_true confirms))
  where
    and_true : (b : Bool) → b ≡ (b && true)
    and_true true = refl
    and_true false = refl

-- after an insert
insert_owed : (own : Own) (log : List Deed) (v : Kept) (life : Life) → NoWindows own log → LifeLocal own (Did (Insert life) ∷ log) → Keeps own log v
    → (after_insert life v).owed ≡ (own_progress own (Did (Insert life) ∷ log)).replies
unfolding after_insert greet forget forgotten_by popped given_by without_forgotten
insert_owed own log v life closed local k =
    let g = insert_greets own log v life k.lives local in
    let lives : other_life life (v.current life.port.0) ≡ other_life life (current log life.port.0) = ap (other_life life) (k.lives.current_is life.port.0) in
    ap (λ (rs : List Reply). without_lives (other_life life (v.current life.port.0)) v.owed ++ rs) (g ∙ sym (append-nil (handshake_by own log (Did (Insert life)))))
    ∙ ap (λ (ls : List Life). without_lives ls v.owed ++ (handshake_by own log (Did (Insert life)) ++ [])) lives
    ∙ ap (λ (rs : List Reply). without_lives (other_life life (current log life.port.0)) rs ++ (handshake_by own log (Did (Insert life)) ++ [])) k.owed.owed_is
    ∙ sym (owed_after own (Did (Insert life)) log closed tt)

-- ---- answers to asks

-- what was sent of what is kept
sent_of : (own : Own) (log : List Deed) (o : Option Sent) → option_map (λ (s : LiveSend). s.sent) (option_map (kept_send own log) o) ≡ o
unfolding kept_send
sent_of own log None = refl
sent_of own log (Some s) = refl

-- an ask that is good is of a send
asked_some : (s : Scene) (from : Life) (a : ReadAsk) (o : Option Sent) → is_good_ask s from a o ≡ true → (t : Sent) × (o ≡ Some t)
unfolding is_good_ask
asked_some s from a None h = cc
asked_some s from a (Some t) h = (t, refl)

-- what is found is the one that passes
found_one : (t : Sent → Bool) (xs : List Sent) (x : Sent) → Member x xs → t x ≡ true → ((y : Sent) → Member y xs → t y ≡ true → y ≡ x) → find t xs ≡ Some x
found_one t xs x m is one =
    let f = some_of (find t xs) (member_find t x xs m is) in
    let g = find_member t f.0 xs f.1 in
    f.1 ∙ ap Some (one f.0 g.0 g.1)

-- the live send that an ask names is found by its number alone, and among all sends
ask_found : (own : Own) (log : List Deed) (from : Life) (ask : ReadAsk) → LifeLocal own (Took from (Asks ask) ∷ log)
    → find (λ (s : Sent). s.number == ask.send_id.0) (own_live own log) ≡ find (λ (s : Sent). same_life s.to from && s.number == ask.send_id.0) (own_sends own log)
unfolding is_bad_key live_send
ask_found own log from ask local =
    let step : LifeStep own log (Took from (Asks ask)) = local.1 in
    let s = life_scene step.0 own step.1 log in
    let good = (taken_parts s from own.life.connid (Asks ask) step.2).good_key in
    let is : is_good_ask s from ask (live_send s from ask.send_id.0) ≡ true = unnot (is_good_ask s from ask (live_send s from ask.send_id.0)) good in
    let named : Sent → Bool = λ x. same_life x.to from && x.number == ask.send_id.0 in
    let t = asked_some s from ask (live_send s from ask.send_id.0) is in
    let found = find_member named t.0 (own_live own log) t.1 in
    let parts = and_parts (same_life t.0.to from) (t.0.number == ask.send_id.0) found.1 in
    let all = (live_parts own (told own log) log t.0 found.0).0 in
    let n = eqb-true t.0.number ask.send_id.0 parts.1 in
    found_one (λ (x : Sent). x.number == ask.send_id.0) (own_live own log) t.0 found.0 parts.1
    (λ y m e. sends_one own (told own log) log y t.0 (live_parts own (told own log) log y m).0 all (eqb-true y.number ask.send_id.0 e ∙ sym n))
    ∙ sym (found_one named (own_sends own log) t.0 all found.1
    (λ y m e. sends_one own (told own log) log y t.0 m all (eqb-true y.number ask.send_id.0 (and_parts (same_life y.to from) (y.number == ask.send_id.0) e).1 ∙ sym n)))
  where
    unnot : (b : Bool) → not b ≡ false → b ≡ true
    unnot true h = refl
    unnot false h = cc

-- so the answer is of the same send
ask_given : (own : Own) (log : List Deed) (v : Kept) (from : Life) (ask : ReadAsk) → LifeLocal own (Took from (Asks ask) ∷ log) → KeepsSends own log v
    → given_of from ask (option_map (λ (s : LiveSend). s.sent) (find (is_send ask.send_id.0) v.sends)) ≡ given_by (own_sends own log) (Took from (Asks ask))
unfolding given_by kept_send
ask_given own log v from ask local k =
    let n = ask.send_id.0 in
    ap (λ (ss : List LiveSend). given_of from ask (option_map (λ (s : LiveSend). s.sent) (find (is_send n) ss))) k.sends_are
    ∙ ap (λ (o : Option LiveSend). given_of from ask (option_map (λ (s : LiveSend). s.sent) o)) (find-map (kept_send own log) (is_send n) (own_live own log))
    ∙ ap (given_of from ask) (sent_of own log (find (λ (s : Sent). s.number == n) (own_live own log)))
    ∙ ap (given_of from ask) (ask_found own log from ask local)

-- ---- what was taken

-- what is owed to a life from which something was taken that makes nothing else owed
took_plain : (own : Own) (log : List Deed) (v : Kept) (from : Life) (item : Item) → NoWindows own log → IsIdleItem item → given_by (own_sends own log) (Took from item) ≡ []
    → LifeLocal own (Took from item ∷ log) → Keeps own log v
    → v.owed ++ cond (not (v.peers from).met) (reply from (greeting v.own None) ∷ []) [] ≡ (own_progress own (Took from item ∷ log)).replies
unfolding forgotten_by popped without_forgotten
took_plain own log v from item closed i none local k =
    let shakes = handshake_by own log (Took from item) in
    let same : shakes ++ given_by (own_sends own log) (Took from item) ≡ shakes = ap (λ (rs : List Reply). shakes ++ rs) none ∙ append-nil shakes in
    ap (λ (rs : List Reply). v.owed ++ rs) (took_greets own log v from item k.lives local)
    ∙ ap (λ (rs : List Reply). rs ++ shakes) (k.owed.owed_is ∙ sym (none_forgotten (own_progress own log).replies))
    ∙ ap (λ (rs : List Reply). without_lives [] (own_progress own log).replies ++ rs) (sym same)
    ∙ sym (owed_after own (Took from item) log closed i)

-- ---- each deed

-- what is owed after each packet that makes nothing owed but a greeting
item_owed : (own : Own) (log : List Deed) (v : Kept) (from : Life) (item : Item) → NoWindows own log → IsIdleItem item → LifeLocal own (Took from item ∷ log) → Keeps own log v
    → (after_take from item v).owed ≡ (own_progress own (Took from item ∷ log)).replies
unfolding after_item greet with_source after_grant end_sends after_ask given_by without_lives without_forgotten popped forgotten_by
item_owed own log v from (Spelled (Rtm number tag confirm opt form)) closed i local k = absurd i
item_owed own log v from (Spelled (CtsData recv offset connid bytes)) closed i local k = absurd i
item_owed own log v from (Gives g) closed i local k = absurd i
item_owed own log v from (Asks ask) closed i local k =
    let item = Asks ask in
    let shakes = handshake_by own log (Took from item) in
    let given = given_by (own_sends own log) (Took from item) in
    ap (λ (rs : List Reply). v.owed ++ rs ++ given_of from ask (option_map (λ (s : LiveSend). s.sent) (find (is_send ask.send_id.0) v.sends))) (took_greets own log v from item k.lives local)
    ∙ ap (λ (rs : List Reply). v.owed ++ shakes ++ rs) (ask_given own log v from ask local k.sends)
    ∙ append_assoc v.owed shakes given
    ∙ ap (λ (rs : List Reply). rs ++ (shakes ++ given)) (k.owed.owed_is ∙ sym (none_forgotten (own_progress own log).replies))
    ∙ sym (owed_after own (Took from item) log closed i)
item_owed own log v from (Spelled (Cts send recv size connid)) closed i local k = took_plain own log v from (Spelled (Cts send recv size connid)) closed i refl local k
item_owed own log v from (Spelled (Eor send recv connid)) closed i local k = took_plain own log v from (Spelled (Eor send recv connid)) closed i refl local k
item_owed own log v from (Spelled (Handshake words connid raw)) closed i local k = took_plain own log v from (Spelled (Handshake words connid raw)) closed i refl local k
item_owed own log v from (Spelled (Receipt number connid)) closed i local k = took_plain own log v from (Spelled (Receipt number connid)) closed i refl local k
item_owed own log v from Garbled closed i local k = took_plain own log v from Garbled closed i refl local k

-- a packet of a send leaves what is owed
send_owed : (o : Option LiveSend) (v : Kept) → (push_send o v).owed ≡ v.owed
unfolding push_send
send_owed None v = refl
send_owed (Some s) v = refl

-- a push takes the first of what is owed
push_owed : (v : Kept) (rs : List Reply) → v.owed ≡ rs → (push_first (slice_get rs 0) v).owed ≡ drop 1 rs
unfolding push_first
push_owed v [] e = send_owed (send_next v) v ∙ e
push_owed v (r ∷ rs) e = ap (drop 1) e

-- an instruction that sends
sent_owed : (req : SendReq) (o : Option Life) (v : Kept) → (send_to req o v).owed ≡ v.owed
unfolding send_to
sent_owed req None v = refl
sent_owed req (Some to) v = refl

-- nothing is owed anew by a deed that meets nobody and is asked nothing
still_owed : (own : Own) (d : Deed) (log : List Deed) (v : Kept) → NoWindows own log → IsIdle d → forgotten_by log d ≡ [] → popped d (own_progress own log).replies ≡ (own_progress own log).replies
    → handshake_by own log d ≡ [] → given_by (own_sends own log) d ≡ [] → Keeps own log v → v.owed ≡ (own_progress own (d ∷ log)).replies
unfolding without_forgotten
still_owed own d log v closed i none stays nobody nothing k =
    k.owed.owed_is
    ∙ sym (owed_after own d log closed i
    ∙ ap (λ (rs : List Reply). without_lives (forgotten_by log d) rs ++ (handshake_by own log d ++ given_by (own_sends own log) d)) stays
    ∙ (rw (none, nobody, nothing) (plain (own_progress own log).replies)))

-- what is owed after a deed that makes no pair and brings no bytes
pub owed_idle : (own : Own) (d : Deed) (log : List Deed) (v : Kept) → NoWindows own log → IsIdle d → LifeLocal own (d ∷ log) → Keeps own log v
    → (after d v).owed ≡ (own_progress own (d ∷ log)).replies
unfolding after after_instr after_cancel forgotten_by popped handshake_by given_by without_forgotten
owed_idle own (Took from item) log v closed i local k = item_owed own log v from item closed i local k
owed_idle own (Did (Recv req)) log v closed i local k = absurd i
owed_idle own (Did (Insert life)) log v closed i local k = insert_owed own log v life closed local k
owed_idle own (Did (Send req)) log v closed i local k = sent_owed req (v.current req.to.0) v ∙ still_owed own (Did (Send req)) log v closed i refl refl refl refl k
owed_idle own (Did (Reg content)) log v closed i local k = still_owed own (Did (Reg content)) log v closed i refl refl refl refl k
owed_idle own (Did (Cancel recv)) log v closed i local k = still_owed own (Did (Cancel recv)) log v closed i refl refl refl refl k
owed_idle own (Did instr) log v closed i local k = still_owed own (Did instr) log v closed i refl refl refl refl k
owed_idle own Pushed log v closed i local k =
    push_owed v v.owed refl ∙ ap (drop 1) k.owed.owed_is ∙ sym (owed_after own Pushed log closed i ∙ plain (drop 1 (own_progress own log).replies))
owed_idle own PushedNote log v closed i local k = still_owed own PushedNote log v closed i refl refl refl refl k
owed_idle own (TookNote from note) log v closed i local k = still_owed own (TookNote from note) log v closed i refl refl refl refl k
owed_idle own Polled log v closed i local k = still_owed own Polled log v closed i refl refl refl refl k
owed_idle own Nothing log v closed i local k = still_owed own Nothing log v closed i refl refl refl refl k
