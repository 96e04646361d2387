-- The class of a datagram by the endpoint is the one that the definitions give it.
use Rattle.std.proofs.Common.{◌≡◌, ◌≤◌, ℕ, Bool, true, false, cond, not, List, [], ◌∷◌, Option, Some, None, refl, arith, ap, ◌∙◌, sym}
use Rattle.std.specs.Prelude.{◌&&◌, ◌||◌, ◌==◌, nat_le, nat_lt, is_none, is_some}
use Rattle.std.proofs.lemmas.Bool.{and_parts, false_from_ne_true, eqb-true, le-leb, le-ltb}
use Rattle.rdm_lists.specs.Lists.{Member, first_case}
use Rattle.rdm_num.specs.Lives.{same_life}
use Rattle.rdm_num.specs.declared.numbers.Life.{Life}
use Rattle.rdm_num.specs.declared.numbers.Connid.{Connid}
use Rattle.rdm_num.specs.declared.head.Head.{Head}
use Rattle.rdm_pkt.specs.declared.Packet.TheVariants.{Rtm, Handshake}
use Rattle.rdm_pkt.specs.declared.Form.TheVariants.{Eager}
use Rattle.rdm_pkt.specs.Heads.{head_of}
use Rattle.rdm_model.specs.declared.answer.Class.{Class}
use Rattle.rdm_model.specs.declared.answer.Class.TheVariants.{ToOther, FromOther, Malformed, Unknown, BadKey, NoOp, Mismatch, Overlap}
use Rattle.rdm_model.specs.Deeds.{Deed, Item, Spelled, is_connid}
use Rattle.rdm_model.specs.Currents.{current}
use Rattle.rdm_model.specs.Heads.{same_head}
use Rattle.rdm_model.specs.Heard.{heard_head, is_heard}
use Rattle.rdm_model.specs.Sources.{is_other, is_malformed, has_raw}
use Rattle.rdm_model.specs.ClassFacts.{is_received, awaited_head, class_facts}
use Rattle.rdm_model.specs.Classes.{is_other_head, is_mismatch, is_overlap, item_class, is_bad_key, is_no_op, item_class_by}
use Rattle.rdm_model.specs.Scenes.{Scene}
use Rattle.rdm_ep.specs.declared.state.Inbound.{Inbound}
use Rattle.rdm_ep.specs.View.{EndpointView, current_in}
use Rattle.rdm_ep.specs.Entering.{next_in, is_message, is_held_in, is_heard_in}
use Rattle.rdm_ep.specs.Handling.{inbound_head, is_other_message, is_eager, rtm_class, load_class, item_class_in}
use Rattle.rdm_ep.specs.Answers.{life_scene}
use Rattle.rdm_ep.specs.Eager.{IsEagerItem}
use Rattle.rdm_ep.specs.Keeps.{Keeps}
use Rattle.rdm_ep.proofs.Groups.{kept_of}
use Rattle.rdm_ep.proofs.Still.{waiting_heard, held_heard}
use Rattle.rdm_ep.proofs.Told.{unheard}
use Rattle.rdm_lists.proofs.Filters.{list_any_none}
use Rattle.rdm_num.proofs.Lives.{same_life-true}

-- the class by lives and by what the packet says of its source, or else that one
unfoldable pub by_source : (a b c d : Bool) → Option Class → Option Class
by_source a b c d rest = first_case ((a, Some ToOther) ∷ (b, Some FromOther) ∷ (c, Some Malformed) ∷ (d, Some Unknown) ∷ []) rest

-- the class by what the life expects
unfoldable expected_class : Scene → Life → Item → Option Class
expected_class s from item =
    first_case
    ((is_bad_key (class_facts s) from item, Some BadKey) ∷ (is_no_op (class_facts s) from item, Some NoOp) ∷ (is_mismatch (class_facts s) from item, Some Mismatch) ∷ (is_overlap (class_facts s) from item, Some Overlap) ∷ [])
    None

-- the class in a scene is by the source, and then by what the life expects
class_is : (s : Scene) (from : Life) (to : Connid) (item : Item)
    → item_class s from to item
    ≡ by_source (not (is_connid s.now to)) (is_other (current s.log from.port.0) from) (is_malformed from item)
    (is_none (current s.log from.port.0) && not (has_raw item)) (expected_class s from item)
unfolding item_class_by by_source expected_class first_case
class_is s from to item = refl

-- the class by the endpoint is by the source, and then by what it expects
pub class_in_is : (v : EndpointView) (from : Life) (to : Connid) (item : Item)
    → item_class_in v from to item
    ≡ by_source (not (v.own.life.connid.0 == to.0)) (is_other (current_in v from.port.0) from) (is_malformed from item)
    (is_none (current_in v from.port.0) && not (has_raw item)) (load_class v from item)
unfolding item_class_in by_source first_case
class_in_is v from to item = refl

-- no message that was heard of has the name of one that was not
other_none : (log : List Deed) (messages : List Inbound) (from : Life) (number : ℕ) (head : Head) → ((i : Inbound) → Member i messages → (h : Head) × (heard_head log i.life i.no.0 ≡ Some h))
    → is_heard log from number ≡ false → is_other_message messages from number head ≡ false
unfolding is_other_message is_heard
other_none log messages from number head heard h =
    list_any_none (λ (i : Inbound). is_message from number i && not (same_head (inbound_head i) head)) messages
    (λ i m. false_from_ne_true (is_message from number i && not (same_head (inbound_head i) head))
    (λ e.
    let a = and_parts (is_message from number i) (not (same_head (inbound_head i) head)) e in
    let b = and_parts (same_life i.life from) (i.no.0 == number) a.0 in
    let x = heard i m in
    let y : heard_head log from number ≡ Some x.0 =
    ap (λ (l : Life). heard_head log l number) (sym (same_life-true i.life from b.0)) ∙ ap (heard_head log i.life) (sym (eqb-true i.no.0 number b.1)) ∙ x.1 in
    let z = ap (λ (o : Option Head). is_some o) y in
    cc))

-- a number that was not heard of has not entered, and its message is not held
pub not_heard_in : (log : List Deed) (v : EndpointView) (from : Life) (number : ℕ) → Keeps log v → v.own.limits.first ≤ number → is_heard log from number ≡ false
    → (nat_lt number (next_in v from) || is_held_in v from number) ≡ false
unfolding is_heard_in
not_heard_in log v from number keeps low h =
    let a : nat_le v.own.limits.first number ≡ true = le-leb v.own.limits.first number low in
    let e : ((nat_le v.own.limits.first number && nat_lt number (next_in v from)) || is_held_in v from number) ≡ false = keeps.heard_are from number ∙ h in
    rw a at e

-- a message in one packet that was not heard of and asks for no receipt has no class
message_class : (log : List Deed) (v : EndpointView) (from : Life) (number : ℕ) (head : Head) (bytes : List ℕ) → Keeps log v → head.confirm ≡ false → v.own.limits.first ≤ number
    → is_heard log from number ≡ false → rtm_class v from number head (Eager bytes) ≡ None
unfolding rtm_class first_case is_eager
message_class log v from number head bytes keeps u low h =
    let k = kept_of log v keeps in
    let a = other_none log v.arrived from number head (λ i m. waiting_heard v.own log v.arrived i k.messages.arrived_are m) h in
    let b = other_none log v.held from number head (λ i m. held_heard v.own log v.peers v.arrived v.held i k.held m) h in
    let c = not_heard_in log v from number keeps low h in
    rw (a, b, c, u) refl

-- a message that was not heard of has no other head
unheard_no_other : (received : Bool) (o : Option Head) (head : Head) → o ≡ None → is_other_head (cond received None o) head ≡ false
unfolding is_other_head
unheard_no_other true o head e = refl
unheard_no_other false o head e = rw e refl

-- what the life expects of an eager item is what the endpoint does
expected_agrees : (ports : ℕ) (port_log log : List Deed) (v : EndpointView) (from : Life) (item : Item) → IsEagerItem v.own log from item → Keeps log v
    → expected_class (life_scene ports v.own port_log log) from item ≡ load_class v from item
unfolding expected_class first_case load_class head_of is_bad_key is_no_op is_mismatch is_overlap awaited_head
expected_agrees ports port_log log v from (Spelled (Rtm number tag confirm opt (Eager bytes))) h keeps =
    let no : heard_head log from number.0 ≡ None = unheard log from from number.0 number.0 refl refl h.2 in
    let a = unheard_no_other (is_received (life_scene ports v.own port_log log) from number.0) (heard_head log from number.0) (head_of tag confirm opt (Eager bytes)) no in
    let b : nat_lt number.0 v.own.limits.first ≡ false = le-ltb number.0 v.own.limits.first (let e = h.1 in omega arith) in
    let c = h.2 in
    (rw (a, b, c) refl) ∙ sym (message_class log v from number.0 (head_of tag confirm opt (Eager bytes)) bytes keeps h.0 h.1 h.2)
expected_agrees ports port_log log v from (Spelled (Handshake words connid raw)) h keeps = let e = keeps.known_are from in rw e refl
expected_agrees ports port_log log v from item h keeps = elim h [ ]

-- an eager datagram has the same class
pub class_agrees : (ports : ℕ) (port_log log : List Deed) (v : EndpointView) (from : Life) (to : Connid) (item : Item) → IsEagerItem v.own log from item → Keeps log v
    → item_class (life_scene ports v.own port_log log) from to item ≡ item_class_in v from to item
unfolding is_connid
class_agrees ports port_log log v from to item h keeps =
    let cur : current log from.port.0 ≡ current_in v from.port.0 = sym (keeps.currents_are from.port.0) in
    let rest = expected_agrees ports port_log log v from item h keeps in
    class_is (life_scene ports v.own port_log log) from to item ∙ (rw (cur, rest) refl) ∙ sym (class_in_is v from to item)

-- the class by lives alone, of what comes from one life to another
abbrev pub class_by_lives : Scene → Life → Connid → Option Class
class_by_lives s from to = first_case ((not (is_connid s.now to), Some ToOther) ∷ (is_other (current s.log from.port.0) from, Some FromOther) ∷ []) None
