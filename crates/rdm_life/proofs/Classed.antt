-- The class of a datagram, as it follows from what is kept.
use Rattle.std.proofs.Common.{◌≡◌, ℕ, ◌+◌, ◌<◌, Bool, true, false, not, ◌&&◌, ◌||◌, nat_lt, List, [], ◌∷◌, length, Option, Some, None, refl, ◌∙◌, ap}
use Rattle.std.specs.Prelude.{◌==◌, is_none, is_some, find, option_map}
use Rattle.rdm_lists.specs.Lists.{Member, first_case}
use Rattle.rdm_num.specs.declared.numbers.Life.{Life}
use Rattle.rdm_num.specs.declared.numbers.Connid.{Connid}
use Rattle.rdm_num.specs.declared.head.Head.{Head}
use Rattle.rdm_pkt.specs.declared.Packet.TheVariants.{Rtm, Cts, CtsData, Eor, Handshake, Receipt}
use Rattle.rdm_pkt.specs.declared.Form.{Form}
use Rattle.rdm_pkt.specs.declared.Form.TheVariants.{Eager, Medium, LongCts, LongRead, Runt}
use Rattle.rdm_pkt.specs.Heads.{head_of}
use Rattle.rdm_model.specs.declared.answer.Class.{Class}
use Rattle.rdm_model.specs.declared.answer.Class.TheVariants.{ToOther, FromOther, Malformed, Unknown, BadKey, NoOp, Mismatch, Overlap}
use Rattle.rdm_model.specs.Beginnings.{Own}
use Rattle.rdm_model.specs.ClassFacts.{class_facts, is_early_receipt, came_in_part}
use Rattle.rdm_model.specs.Classes.{is_bad_key, is_no_op, is_other_head, is_mismatch, repeats, is_overlap, item_class_by, item_class}
use Rattle.rdm_model.specs.Currents.{current, is_forgotten}
use Rattle.rdm_model.specs.Deeds.{Deed, is_connid, Item, Spelled, Asks, Gives, Garbled}
use Rattle.rdm_model.specs.Dues.{live_sends}
use Rattle.rdm_model.specs.Heard.{is_heard}
use Rattle.rdm_model.specs.Scenes.{Scene}
use Rattle.rdm_model.specs.Sends.{Sent, sends}
use Rattle.rdm_model.specs.Sources.{is_other, is_malformed, has_raw}
use Rattle.rdm_model.specs.Targets.{live_message, is_long_shape, is_read_shape}
use Rattle.rdm_law.proofs.Lives.Lives.{life_scene, LifeLocal}
use Rattle.rdm_law.proofs.Lives.Replaced.{not_forgotten}
use Rattle.rdm_law.proofs.Ends.LiveSends.{live_parts}
use Rattle.rdm_lists.proofs.Members.{find_member}
use Rattle.rdm_num.specs.Lives.{same_life}
use Rattle.rdm_life.specs.Kept.{Kept, LiveSend}
use Rattle.rdm_life.specs.Keeps.{told, kept_send, Keeps, KeepsSends}
use Rattle.rdm_life.specs.Sending.{is_sent, is_send_of}
use Rattle.rdm_life.specs.Facts.{send_passes, class_facts_in}
use Rattle.rdm_life.proofs.TakenRead.{FormHasBytes, HasBytes}
use Rattle.rdm_life.proofs.SendFacts.{send_of_message_is, takes_grants_is, takes_end_is, takes_receipt_is}
use Rattle.rdm_life.proofs.AskFacts.{may_be_asked_is}
use Rattle.rdm_life.proofs.GrantFacts.{is_wrong_grant_is}
use Rattle.rdm_life.proofs.EndFacts.{is_early_end_is}
use Rattle.rdm_life.proofs.SentWhole.{is_sent_is}
use Rattle.rdm_life.proofs.MessageStands.{stands, head_is}
use Rattle.rdm_life.proofs.CameFacts.{came_in_part_is}
use Rattle.rdm_life.proofs.ReceiveFacts.{has_shape_is, passes_grants_is, came_in_part_of_is}

-- whether a receipt comes too early, of a send that is there
receipt_of : (own : Own) (ports : ℕ) (port_log log : List Deed) (o : Option Sent) → ((t : Sent) → o ≡ Some t → Member t (sends own (told own log) log))
    → send_passes (λ (s : LiveSend). not (is_sent own s)) (option_map (kept_send own log) o) ≡ is_early_receipt (life_scene ports own port_log log) o
unfolding send_passes is_early_receipt
receipt_of own ports port_log log None there = refl
receipt_of own ports port_log log (Some t) there = ap not (is_sent_is own log t (there t refl))

-- the live send of a message was accepted
message_sent : (s : Scene) (to : Life) (n : ℕ) (t : Sent) → live_message s to n ≡ Some t → Member t (sends s.own s.ms s.log)
unfolding live_message
message_sent s to n t is =
    let f = find_member (λ (x : Sent). same_life x.to to && x.message.no.0 == n) t (live_sends s.own s.ms s.log) is in
    (live_parts s.own s.ms s.log t f.0).0

-- whether a receipt comes too early
is_early_receipt_is : (own : Own) (ports : ℕ) (port_log log : List Deed) (v : Kept) (to : Life) (number : ℕ) → v.own ≡ own → KeepsSends own log v
    → send_passes (λ (s : LiveSend). not (is_sent v.own s)) (find (is_send_of to number) v.sends)
    ≡ is_early_receipt (life_scene ports own port_log log) (live_message (life_scene ports own port_log log) to number)
is_early_receipt_is own ports port_log log v to number is k =
    let s = life_scene ports own port_log log in
    ap (λ (o : Own). send_passes (λ (x : LiveSend). not (is_sent o x)) (find (is_send_of to number) v.sends)) is
    ∙ ap (send_passes (λ (x : LiveSend). not (is_sent own x))) (send_of_message_is own ports port_log log v to number k)
    ∙ receipt_of own ports port_log log (live_message s to number) (message_sent s to number)

-- what is kept, and where it is asked about: a datagram from a life that was not forgotten
record Asked (own : Own) (ports : ℕ) (port_log log : List Deed) (v : Kept) (from : Life) : Type 0 where
  keeps : Keeps own log v
  local : LifeLocal own log
  kept : is_forgotten log from ≡ false

-- an ask
key_is : (own : Own) (ports : ℕ) (port_log log : List Deed) (v : Kept) (from : Life) (item : Item) → Asked own ports port_log log v from
    → is_bad_key (class_facts_in v) from item ≡ is_bad_key (class_facts (life_scene ports own port_log log)) from item
unfolding is_bad_key
key_is own ports port_log log v from (Asks a) k = ap not (may_be_asked_is own ports port_log log v from a k.keeps.sends)
key_is own ports port_log log v from (Spelled p) k = refl
key_is own ports port_log log v from (Gives g) k = refl
key_is own ports port_log log v from Garbled k = refl

-- what names a live operation
op_is : (own : Own) (ports : ℕ) (port_log log : List Deed) (v : Kept) (from : Life) (item : Item) → Asked own ports port_log log v from
    → is_no_op (class_facts_in v) from item ≡ is_no_op (class_facts (life_scene ports own port_log log)) from item
unfolding is_no_op
op_is own ports port_log log v from (Spelled (Rtm number tag confirm opt form)) k = refl
op_is own ports port_log log v from (Spelled (Cts send recv size connid)) k = ap not (takes_grants_is own ports port_log log v from send.0 k.keeps.sends)
op_is own ports port_log log v from (Spelled (CtsData recv offset connid bytes)) k = ap not (has_shape_is own ports port_log log v from recv.0 is_long_shape k.keeps.receives)
op_is own ports port_log log v from (Spelled (Eor send recv connid)) k = ap not (takes_end_is own ports port_log log v from send.0 k.keeps.sends)
op_is own ports port_log log v from (Spelled (Handshake words connid raw)) k = refl
op_is own ports port_log log v from (Spelled (Receipt number connid)) k = ap not (takes_receipt_is own ports port_log log v from number.0 k.keeps.sends)
op_is own ports port_log log v from (Asks a) k = refl
op_is own ports port_log log v from (Gives g) k = ap not (has_shape_is own ports port_log log v from g.recv_id.0 is_read_shape k.keeps.receives)
op_is own ports port_log log v from Garbled k = refl

-- what contradicts
mismatch_is : (own : Own) (ports : ℕ) (port_log log : List Deed) (v : Kept) (from : Life) (item : Item) → Asked own ports port_log log v from
    → is_mismatch (class_facts_in v) from item ≡ is_mismatch (class_facts (life_scene ports own port_log log)) from item
unfolding is_mismatch
mismatch_is own ports port_log log v from (Spelled (Rtm number tag confirm opt form)) k =
    ap (λ (o : Option Head). is_other_head o (head_of tag confirm opt form))
    (head_is own ports port_log log v from number.0 (stands own ports port_log log v from number.0 k.local k.keeps.matching k.keeps.receives k.kept))
mismatch_is own ports port_log log v from (Spelled (Cts send recv size connid)) k = is_wrong_grant_is own ports port_log log v from send.0 recv.0 size k.local k.keeps.sends
mismatch_is own ports port_log log v from (Spelled (CtsData recv offset connid bytes)) k = passes_grants_is own ports port_log log v from recv.0 (offset + length bytes) k.keeps.receives
mismatch_is own ports port_log log v from (Spelled (Eor send recv connid)) k = is_early_end_is own ports port_log log v from send.0 k.local k.keeps.sends
mismatch_is own ports port_log log v from (Spelled (Handshake words connid raw)) k = ap is_some (k.keeps.lives.known_is from k.kept)
mismatch_is own ports port_log log v from (Spelled (Receipt number connid)) k = is_early_receipt_is own ports port_log log v from number.0 k.keeps.lives.own_is k.keeps.sends
mismatch_is own ports port_log log v from (Asks a) k = refl
mismatch_is own ports port_log log v from (Gives g) k = refl
mismatch_is own ports port_log log v from Garbled k = refl

-- a segment of a message that was heard of
came_is : (own : Own) (ports : ℕ) (port_log log : List Deed) (v : Kept) (from : Life) (n offset : ℕ) (bytes : List ℕ) → Asked own ports port_log log v from → is_heard log from n ≡ true → 0 < length bytes
    → (class_facts_in v).came_in_part from n offset (length bytes) ≡ came_in_part (life_scene ports own port_log log) from n offset (length bytes)
came_is own ports port_log log v from n offset bytes k heard some =
    came_in_part_is own ports port_log log v from n offset (length bytes) (stands own ports port_log log v from n k.local k.keeps.matching k.keeps.receives k.kept) heard some

-- a packet that opens a message that was heard of
repeats_is : (own : Own) (ports : ℕ) (port_log log : List Deed) (v : Kept) (from : Life) (n : ℕ) (form : Form) → FormHasBytes form → Asked own ports port_log log v from → is_heard log from n ≡ true
    → repeats (class_facts_in v) from n form ≡ repeats (class_facts (life_scene ports own port_log log)) from n form
unfolding repeats
repeats_is own ports port_log log v from n (Eager bytes) some k heard = refl
repeats_is own ports port_log log v from n (Medium size offset bytes) some k heard = came_is own ports port_log log v from n offset bytes k heard some
repeats_is own ports port_log log v from n (LongCts size send credits bytes) some k heard = refl
repeats_is own ports port_log log v from n (LongRead size send iov) some k heard = refl
repeats_is own ports port_log log v from n (Runt size send iov runt offset bytes) some k heard = came_is own ports port_log log v from n offset bytes k heard some

-- two tests of which the second counts where the first holds
and_where : (a x y : Bool) → (a ≡ true → x ≡ y) → (a && x) ≡ (a && y)
and_where true x y same = same refl
and_where false x y same = refl

-- bytes that came already
overlap_is : (own : Own) (ports : ℕ) (port_log log : List Deed) (v : Kept) (from : Life) (item : Item) → HasBytes item → Asked own ports port_log log v from
    → is_overlap (class_facts_in v) from item ≡ is_overlap (class_facts (life_scene ports own port_log log)) from item
unfolding is_overlap
overlap_is own ports port_log log v from (Spelled (Rtm number tag confirm opt form)) some k =
    let heard : (v.peers from).heard number.0 ≡ is_heard log from number.0 = k.keeps.matching.heard_is from k.kept number.0 in
    let first : v.own.limits.first ≡ own.limits.first = ap (λ (o : Own). o.limits.first) k.keeps.lives.own_is in
    ap (λ (n : ℕ). nat_lt number.0 n || ((v.peers from).heard number.0 && repeats (class_facts_in v) from number.0 form)) first
    ∙ ap (λ (b : Bool). nat_lt number.0 own.limits.first || (b && repeats (class_facts_in v) from number.0 form)) heard
    ∙ ap (λ (b : Bool). nat_lt number.0 own.limits.first || b)
    (and_where (is_heard log from number.0) (repeats (class_facts_in v) from number.0 form) (repeats (class_facts (life_scene ports own port_log log)) from number.0 form)
    (repeats_is own ports port_log log v from number.0 form some k))
overlap_is own ports port_log log v from (Spelled (Cts send recv size connid)) some k = refl
overlap_is own ports port_log log v from (Spelled (CtsData recv offset connid bytes)) some k = came_in_part_of_is own ports port_log log v from recv.0 offset (length bytes) k.keeps.receives
overlap_is own ports port_log log v from (Spelled (Eor send recv connid)) some k = refl
overlap_is own ports port_log log v from (Spelled (Handshake words connid raw)) some k = refl
overlap_is own ports port_log log v from (Spelled (Receipt number connid)) some k = refl
overlap_is own ports port_log log v from (Asks a) some k = refl
overlap_is own ports port_log log v from (Gives g) some k = came_in_part_of_is own ports port_log log v from g.recv_id.0 g.at (length g.bytes) k.keeps.receives
overlap_is own ports port_log log v from Garbled some k = refl

-- the first of eight tests that holds gives the class
abbrev class_by : (a b c d e f g h : Bool) → Option Class
class_by a b c d e f g h =
    first_case ((a, Some ToOther) ∷ (b, Some FromOther) ∷ (c, Some Malformed) ∷ (d, Some Unknown) ∷ (e, Some BadKey) ∷ (f, Some NoOp) ∷ (g, Some Mismatch) ∷ (h, Some Overlap) ∷ []) None

-- of a datagram from another life the first two tests say all
other_class : (a c d e f g h c' d' e' f' g' h' : Bool) → class_by a true c d e f g h ≡ class_by a true c' d' e' f' g' h'
unfolding first_case
other_class true c d e f g h c' d' e' f' g' h' = refl
other_class false c d e f g h c' d' e' f' g' h' = refl

-- the class of a datagram is the one that the definitions say
pub class_is : (own : Own) (ports : ℕ) (port_log log : List Deed) (v : Kept) (from : Life) (to : Connid) (item : Item) → HasBytes item → LifeLocal own log → Keeps own log v
    → item_class_by (class_facts_in v) from to item ≡ item_class (life_scene ports own port_log log) from to item
unfolding item_class_by
class_is own ports port_log log v from to item some local keeps =
    let g = class_facts (life_scene ports own port_log log) in
    let f = class_facts_in v in
    let now : is_connid (Some v.own.life.connid) to ≡ is_connid (Some own.life.connid) to = ap (λ (o : Own). is_connid (Some o.life.connid) to) keeps.lives.own_is in
    let cur : v.current from.port.0 ≡ current log from.port.0 = keeps.lives.current_is from.port.0 in
    let a : Bool = not (is_connid (Some own.life.connid) to) in
    let c : Bool = is_malformed from item in
    let d : Bool = is_none (current log from.port.0) && not (has_raw item) in
    ap (λ (b : Bool). class_by (not b) (is_other (v.current from.port.0) from) c (is_none (v.current from.port.0) && not (has_raw item)) (is_bad_key f from item) (is_no_op f from item) (is_mismatch f from item) (is_overlap f from item)) now
    ∙ ap (λ (o : Option Life). class_by a (is_other o from) c (is_none o && not (has_raw item)) (is_bad_key f from item) (is_no_op f from item) (is_mismatch f from item) (is_overlap f from item)) cur
    ∙ (elim (is_other (current log from.port.0) from) as (λ b. is_other (current log from.port.0) from ≡ b
    → class_by a b c d (is_bad_key f from item) (is_no_op f from item) (is_mismatch f from item) (is_overlap f from item)
    ≡ class_by a b c d (is_bad_key g from item) (is_no_op g from item) (is_mismatch g from item) (is_overlap g from item)) [
      | true ↦ λ is. other_class a c d (is_bad_key f from item) (is_no_op f from item) (is_mismatch f from item) (is_overlap f from item) c d (is_bad_key g from item) (is_no_op g from item) (is_mismatch g from item) (is_overlap g from item)
      | false ↦ λ is.
          let k : Asked own ports port_log log v from = record { keeps = keeps; local = local; kept = not_forgotten own log from local is } in
          ap (λ (x : Bool). class_by a false c d x (is_no_op f from item) (is_mismatch f from item) (is_overlap f from item)) (key_is own ports port_log log v from item k)
          ∙ ap (λ (x : Bool). class_by a false c d (is_bad_key g from item) x (is_mismatch f from item) (is_overlap f from item)) (op_is own ports port_log log v from item k)
          ∙ ap (λ (x : Bool). class_by a false c d (is_bad_key g from item) (is_no_op g from item) x (is_overlap f from item)) (mismatch_is own ports port_log log v from item k)
          ∙ ap (λ (x : Bool). class_by a false c d (is_bad_key g from item) (is_no_op g from item) (is_mismatch g from item) x) (overlap_is own ports port_log log v from item some k)
    ])
    refl
