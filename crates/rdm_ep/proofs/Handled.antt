-- What an endpoint answers to a datagram is what the definitions say, and what it keeps then.
use Rattle.std.proofs.Common.{◌≡◌, ℕ, Bool, true, false, cond, List, [], ◌∷◌, Option, Some, None, refl, arith, ap, ◌∙◌, sym}
use Rattle.std.specs.Prelude.{◌||◌, nat_le, nat_lt, is_some}
use Rattle.std.proofs.lemmas.Bool.{true≢false, or_parts, ltb-false, and_right}
use Rattle.rdm_lists.specs.Lists.{first_case}
use Rattle.rdm_num.specs.declared.numbers.Life.{Life}
use Rattle.rdm_num.specs.declared.numbers.Connid.{Connid}
use Rattle.rdm_num.specs.declared.numbers.MsgNo.{MsgNo}
use Rattle.rdm_hdr.specs.declared.Opt.{Opt}
use Rattle.rdm_pkt.specs.declared.Packet.TheVariants.{Rtm, Handshake}
use Rattle.rdm_pkt.specs.declared.Form.{Form}
use Rattle.rdm_pkt.specs.declared.Form.TheVariants.{Eager}
use Rattle.rdm_pkt.specs.Heads.{head_of}
use Rattle.rdm_model.specs.declared.answer.Class.{Class}
use Rattle.rdm_model.specs.declared.answer.Class.TheVariants.{Malformed, Mismatch, Overlap}
use Rattle.rdm_model.specs.Deeds.{Deed, Took, Item, Spelled, Garbled}
use Rattle.rdm_model.specs.Sources.{is_malformed}
use Rattle.rdm_ep.specs.View.{EndpointView}
use Rattle.rdm_ep.specs.Peers.{peer_in}
use Rattle.rdm_ep.specs.Entering.{next_in, is_held_in, is_heard_in}
use Rattle.rdm_ep.specs.Handling.{is_eager, rtm_class, load_class, item_class_in, after_take}
use Rattle.rdm_ep.specs.Eager.{IsEagerItem, IsEager}
use Rattle.rdm_ep.specs.Keeps.{Keeps}
use Rattle.rdm_ep.proofs.Classed.{by_source, class_in_is}
use Rattle.rdm_ep.proofs.KeepsTook.{keeps_message, keeps_handshake}

-- what has no class is well formed, and the life expects it
none_by_source : (a b c d : Bool) (rest : Option Class) → by_source a b c d rest ≡ None → (c ≡ false) × (rest ≡ None)
unfolding by_source first_case
none_by_source true b c d rest h = cc
none_by_source false true c d rest h = cc
none_by_source false false true d rest h = cc
none_by_source false false false true rest h = cc
none_by_source false false false false rest h = (refl, h)

-- where no case holds, the last two do not
none_of_three : (a b c : Bool) → first_case ((a, Some Mismatch) ∷ (b, Some Overlap) ∷ (c, Some Malformed) ∷ []) None ≡ None → (b ≡ false) × (c ≡ false)
unfolding first_case
none_of_three true b c h = cc
none_of_three false true c h = cc
none_of_three false false true h = cc
none_of_three false false false h = (refl, refl)

-- a packet that the endpoint takes is a message in one packet that was not heard of and asks for no receipt
eager_rtm : (log : List Deed) (v : EndpointView) (from : Life) (number : MsgNo) (tag : Option ℕ) (confirm : Bool) (opt : Opt) (form : Form) → Keeps log v
    → rtm_class v from number.0 (head_of tag confirm opt form) form ≡ None → IsEagerItem v.own log from (Spelled (Rtm number tag confirm opt form))
unfolding rtm_class is_eager is_heard_in head_of
eager_rtm log v from number tag confirm opt (Eager bytes) k h =
    let t = none_of_three _ (nat_lt number.0 (next_in v from) || is_held_in v from number.0) (confirm || false) h in
    let p = or_parts (nat_lt number.0 (next_in v from)) (is_held_in v from number.0) t.0 in
    let l = ltb-false number.0 (next_in v from) p.0 in (
      (or_parts confirm false t.1).0,
      omega arith,
      sym (k.heard_are from number.0) ∙ (rw (p.0, p.1) (ap (λ b. b || false) (and_right (nat_le v.own.limits.first number.0) false refl))),
    )
eager_rtm log v from number tag confirm opt form k h = let t = none_of_three _ (nat_lt number.0 (next_in v from) || is_held_in v from number.0) (confirm || true) h in absurd (true≢false (or_parts confirm true t.1).1)

-- what the endpoint expects is eager
eager_load : (log : List Deed) (v : EndpointView) (from : Life) (item : Item) → Keeps log v → is_malformed from item ≡ false → load_class v from item ≡ None
    → IsEagerItem v.own log from item
unfolding load_class is_malformed
eager_load log v from (Spelled (Rtm number tag confirm opt form)) k m h = eager_rtm log v from number tag confirm opt form k h
eager_load log v from (Spelled (Handshake words connid raw)) k m h = tt
eager_load log v from Garbled k m h = absurd (true≢false m)
eager_load log v from item k m h = cc

-- what has no class is eager
pub taken_is_eager : (log : List Deed) (v : EndpointView) (from : Life) (to : Connid) (item : Item) → Keeps log v → item_class_in v from to item ≡ None
    → IsEagerItem v.own log from item
taken_is_eager log v from to item k h =
    let n = none_by_source _ _ (is_malformed from item) _ (load_class v from item) (sym (class_in_is v from to item) ∙ h) in
    eager_load log v from item k n.0 n.1

-- a handshake has no class where nothing is known
known_none : (o : Option ℕ) → cond (is_some o) (Some Mismatch) None ≡ None → o ≡ None
known_none None h = refl
known_none (Some x) h = cc

-- the same, of an eager item
took_kept : (log : List Deed) (v : EndpointView) (from : Life) (item : Item) → IsEager v.own log → IsEagerItem v.own log from item → load_class v from item ≡ None → Keeps log v
    → Keeps (Took from item ∷ log) (after_take from item v)
unfolding load_class
took_kept log v from (Spelled (Rtm number tag confirm opt (Eager bytes))) h p c k = keeps_message from number tag confirm opt bytes log v (h, p) k
took_kept log v from (Spelled (Handshake words connid raw)) h p c k = keeps_handshake from words connid raw log v h (known_none (peer_in v.peers from).known c) k
took_kept log v from item h p c k = elim p [ ]

-- after a datagram that has no class was taken
pub keeps_took : (log : List Deed) (v : EndpointView) (from : Life) (to : Connid) (item : Item) → IsEager v.own log → item_class_in v from to item ≡ None → Keeps log v
    → Keeps (Took from item ∷ log) (after_take from item v)
keeps_took log v from to item h c k =
    let n = none_by_source _ _ (is_malformed from item) _ (load_class v from item) (sym (class_in_is v from to item) ∙ c) in
    took_kept log v from item h (eager_load log v from item k n.0 n.1) n.1 k
