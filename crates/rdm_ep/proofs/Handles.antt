-- What an endpoint answers to a datagram is what the definitions say.
use Rattle.std.proofs.Common.{◌≡◌, ℕ, suc, ◌+◌, inl, inr, Bool, true, false, cond, List, [], ◌∷◌, map, length, Option, Some, None, refl, ap, ◌∙◌, sym}
use Rattle.std.proofs.lemmas.Bool.{cases_eq, eq-eqb, ne_eqb}
use Rattle.std.proofs.lemmas.List.{length-map}
use Rattle.std.proofs.Math.Bool.{and_assoc}
use Rattle.std.specs.Prelude.{◌&&◌, ◌||◌, ◌==◌, nat_le, is_none, is_some, find, option_map}
use Rattle.std.specs.List.{list_any}
use Rattle.rdm_lists.specs.Lists.{below}
use Rattle.rdm_num.specs.Lives.{life}
use Rattle.rdm_num.specs.declared.numbers.Life.{Life}
use Rattle.rdm_num.specs.declared.numbers.Connid.{Connid}
use Rattle.rdm_num.specs.declared.numbers.MsgNo.{MsgNo}
use Rattle.rdm_hdr.specs.declared.Opt.{Opt}
use Rattle.rdm_pkt.specs.declared.Packet.TheVariants.{Rtm, Handshake}
use Rattle.rdm_pkt.specs.declared.Form.TheVariants.{Eager}
use Rattle.rdm_wire.specs.declared.Datagram.{Datagram}
use Rattle.rdm_wire.specs.declared.Body.{Body}
use Rattle.rdm_wire.specs.declared.Body.TheVariants.{Note, Between}
use Rattle.rdm_wire.specs.declared.Load.{Load}
use Rattle.rdm_match.specs.declared.PostedRecv.{PostedRecv}
use Rattle.rdm_match.specs.Matcher.{accepts}
use Rattle.rdm_model.specs.declared.answer.Class.{Class}
use Rattle.rdm_model.specs.declared.answer.Handled.TheVariants.{Took as TookAnswer}
use Rattle.rdm_model.specs.Deeds.{Deed, Took, Item, Spelled, item_of}
use Rattle.rdm_model.specs.Heard.{head_by, entering, entered_of}
use Rattle.rdm_model.specs.Matches.{Receive, receives}
use Rattle.rdm_model.specs.Completions.{early_count}
use Rattle.rdm_model.specs.Classes.{body_class, class_of}
use Rattle.rdm_model.specs.Takes.{taken_answer, class_answer, handled_answer, is_met, needs_place, needs_place_by, body_needs_place, is_again_early}
use Rattle.rdm_model.specs.Local.{heard_by}
use Rattle.rdm_ep.specs.declared.answer.HandleAnswer.TheVariants as HandleA
use Rattle.rdm_ep.specs.declared.state.Posted.{Posted}
use Rattle.rdm_ep.specs.View.{EndpointView}
use Rattle.rdm_ep.specs.Receiving.{arrived_message, takes}
use Rattle.rdm_ep.specs.Entering.{next_in, following, entered_by}
use Rattle.rdm_ep.specs.Handling.{item_class_in, inbound, is_met_in, enters_at_once, early_is_full, needs_place_in, taken_in, class_answer_in, item_answer, body_answer}
use Rattle.rdm_ep.specs.Answers.{handled_of, life_scene, is_early, IsEagerBody, IsAnswerTo}
use Rattle.rdm_ep.specs.Eager.{IsEagerItem, IsEager}
use Rattle.rdm_ep.specs.Keeps.{posted_of, Keeps}
use Rattle.rdm_ep.proofs.Entering.{next_is}
use Rattle.rdm_ep.proofs.Pairs.{own_matching}
use Rattle.rdm_ep.proofs.Live.{own_live, seen, met_found, waiting_are}
use Rattle.rdm_ep.proofs.Arrivals.{takes_found}
use Rattle.rdm_ep.proofs.Runs.{rising, next_kept, entering_next, entering_ahead}
use Rattle.rdm_ep.proofs.Still.{none_enter}
use Rattle.rdm_ep.proofs.KeepsMessage.{live_among}
use Rattle.rdm_ep.proofs.Groups.{kept_of}
use Rattle.rdm_ep.proofs.Counts.{early_agrees}
use Rattle.rdm_ep.proofs.Classed.{class_agrees}
use Rattle.rdm_lists.proofs.Below.{length-below}

-- some element passes where one is found
any_is_found : {A : Type 0} (t : A → Bool) (xs : List A) → list_any t xs ≡ is_some (find t xs)
any_is_found t [] = refl
any_is_found t (x ∷ xs) =
    elim (t x) as (λ b. (b || list_any t xs) ≡ is_some (cond b (Some x) (find t xs))) [ true ↦ refl | false ↦ any_is_found t xs ]

-- two maps of what is found
both_found : {A B C : Type 0} (f : A → B) (g : A → C) (o : Option A) → is_some (option_map f o) ≡ is_some (option_map g o)
both_found f g None = refl
both_found f g (Some x) = refl

-- a posted receive accepts the message, that is next, here and in the matcher
met_agrees : (ports : ℕ) (port_log log : List Deed) (v : EndpointView) (from : Life) (number : MsgNo) (tag : Option ℕ) (confirm : Bool) (opt : Opt) (bytes : List ℕ)
    → IsEager v.own log → Keeps log v
    → is_met (life_scene ports v.own port_log log) from number.0 tag ≡ enters_at_once v (inbound from number.0 tag confirm opt bytes)
unfolding is_met is_met_in enters_at_once heard_by
met_agrees ports port_log log v from number tag confirm opt bytes h keeps =
    let k = kept_of log v keeps in
    let next = next_kept v.own log v.peers v.arrived v.held from k.held in
    let n = next_is v.own.limits.first log from (next_in v from) number.0 next in
    let i = inbound from number.0 tag confirm opt bytes in
    let a = arrived_message i in
    let live = own_live v.own log in
    let m = own_matching v.own log in
    let there = met_found live m a (waiting_are v.own log h) in
    let here : find (λ (p : Posted). takes p i) v.posted ≡ option_map posted_of (find (λ (r : Receive). accepts r.posted a) live) =
    ap (find (λ (p : Posted). takes p i)) k.receives.posted_are ∙ takes_found (receives log) live i (live_among v.own log) in
    ap (λ (b : Bool). b && list_any (λ (r : PostedRecv). accepts r a) m.posted) n
    ∙ ap (λ (b : Bool). (number.0 == next_in v from) && b)
    (any_is_found (λ (r : PostedRecv). accepts r a) m.posted
    ∙ ap (λ (o : Option PostedRecv). is_some o) there
    ∙ both_found seen posted_of (find (λ (r : Receive). accepts r.posted a) live)
    ∙ ap (λ (o : Option Posted). is_some o) (sym here))

-- an eager item needs a place, and there is none, by the definitions and by the endpoint
places_agree : (ports : ℕ) (port_log log : List Deed) (v : EndpointView) (from : Life) (item : Item) → IsEager v.own log → IsEagerItem v.own log from item → Keeps log v
    → (needs_place (life_scene ports v.own port_log log) from item && nat_le v.own.limits.early (early_count v.own (heard_by v.own.limits.first log).head log))
    ≡ needs_place_in v from item
unfolding needs_place_by needs_place_in early_is_full
places_agree ports port_log log v from (Spelled (Rtm number tag confirm opt (Eager bytes))) h p k =
    let a = p.2 in
    let m = met_agrees ports port_log log v from number tag confirm opt bytes h k in
    let e = early_agrees log v h k in
    rw (a, m, e) refl
places_agree ports port_log log v from (Spelled (Handshake words connid raw)) h p k = refl
places_agree ports port_log log v from item h p k = elim p [ ]

-- the least of numbers in a row, and their count
entered_row : (n k : ℕ) → entered_of (map (λ i. n + i) (below (suc k))) ≡ Some (record { first = record { 0 = n }; count = suc k })
unfolding entered_of
entered_row n k =
    let r = rising n k in
    let l : length (map (λ (i : ℕ). n + 1 + i) (below k)) ≡ k = length-map (below k) (λ (i : ℕ). n + 1 + i) ∙ length-below k in
    rw (r, l) refl

-- no numbers enter
none_entered : entered_of [] ≡ None
unfolding entered_of
none_entered = refl

-- what enters by an eager item
entered_agrees : (log : List Deed) (v : EndpointView) (from : Life) (item : Item) → IsEager v.own log → IsEagerItem v.own log from item → Keeps log v
    → TookAnswer (entered_of (entering v.own.limits.first (Took from item) log from)) ≡ handled_of (taken_in v from item)
unfolding handled_of taken_in entered_by head_by
entered_agrees log v from (Spelled (Rtm number tag confirm opt (Eager bytes))) h p keeps =
    let k = kept_of log v keeps in
    let next = next_in v from in
    elim (cases_eq number.0 next) [
      | inl same ↦
          let q : (number.0 == next) ≡ true = eq-eqb number.0 next same in
          let e = entering_next v.own log v.peers v.arrived v.held from number tag confirm opt bytes (record { kept = k.held; is_next = same }) in
          let row = entered_row next (length (following (length v.held) v.held from (number.0 + 1))) in
          rw (q, e, row) (ap (λ (n : ℕ). TookAnswer (Some (record { first = record { 0 = n }; count = suc (length (following (length v.held) v.held from (number.0 + 1))) }))) (sym same))
      | inr other ↦
          let q : (number.0 == next) ≡ false = ne_eqb number.0 next other in
          let e = entering_ahead v.own log v.peers v.arrived v.held from number tag confirm opt bytes k.held other in
          rw (q, e) (ap TookAnswer none_entered)
    ]
entered_agrees log v from (Spelled (Handshake words connid raw)) h p keeps =
    let e = none_enter v.own.limits.first (Took from (Spelled (Handshake words connid raw))) log from (λ life n. refl) in rw e (ap TookAnswer none_entered)
entered_agrees log v from item h p keeps = elim p [ ]

-- what is taken does not stay
taken_not_early : (v : EndpointView) (from : Life) (item : Item) → is_early (taken_in v from item) ≡ false
unfolding is_early taken_in
taken_not_early v from (Spelled (Rtm number tag confirm opt (Eager bytes))) = refl
taken_not_early v from item = refl

-- what has no class stays where it needs a place
early_by_class : (b : Bool) (v : EndpointView) (from : Life) (item : Item) → b ≡ is_early (cond b HandleA.AgainEarly (taken_in v from item))
unfolding is_early
early_by_class true v from item = refl
early_by_class false v from item = sym (taken_not_early v from item)

-- the answers to what comes from one life to another, by its class
handles_by : (ports : ℕ) (port_log log : List Deed) (v : EndpointView) (d : Datagram) (from to : Connid) (load : Load) (o : Option Class)
    → IsEager v.own log → IsEagerItem v.own log (life d.src from) (item_of load) → Keeps log v
    → ((is_none o && (needs_place (life_scene ports v.own port_log log) (life d.src from) (item_of load)
    && nat_le v.own.limits.early (early_count v.own (heard_by v.own.limits.first log).head log))) ≡ is_early (class_answer_in v (life d.src from) (item_of load) o))
    × (is_early (class_answer_in v (life d.src from) (item_of load) o) ≡ false
    → class_answer (life_scene ports v.own port_log log) (record d { body = Between from to load }) o ≡ handled_of (class_answer_in v (life d.src from) (item_of load) o))
unfolding class_answer class_answer_in taken_answer handled_of is_early
handles_by ports port_log log v d from to load (Some class') h p k = (refl, λ e. refl)
handles_by ports port_log log v d from to load None h p k =
    let source = life d.src from in
    let item = item_of load in (
      places_agree ports port_log log v source item h p k ∙ early_by_class (needs_place_in v source item) v source item,
      λ e.
          let q : needs_place_in v source item ≡ false = early_by_class (needs_place_in v source item) v source item ∙ e in
          entered_agrees log v source item h p k ∙ ap (λ (b : Bool). handled_of (cond b HandleA.AgainEarly (taken_in v source item))) (sym q),
    )

-- the same, by what the datagram has in it
body_handles : (ports : ℕ) (port_log log : List Deed) (v : EndpointView) (d : Datagram) (body : Body) → d.body ≡ body
    → IsEager v.own log → IsEagerBody v.own log d body → Keeps log v
    → IsAnswerTo (life_scene ports v.own port_log log) d (body_answer v d body)
unfolding is_again_early handled_answer class_of body_class body_needs_place class_answer taken_answer body_answer item_answer is_early handled_of
body_handles ports port_log log v d (Note note) e h p k =
    let s = life_scene ports v.own port_log log in
    record { early = rw e refl; handled = λ x. rw e refl }
body_handles ports port_log log v d (Between from to load) e h p k =
    let s = life_scene ports v.own port_log log in
    let source = life d.src from in
    let item = item_of load in
    let c = class_agrees ports port_log log v source to item p k in
    let r = handles_by ports port_log log v d from to load (item_class_in v source to item) h p k in
    record {
      early =
          ap (λ (b : Body). is_none (body_class s d b) && body_needs_place s d b && nat_le v.own.limits.early (early_count v.own (heard_by v.own.limits.first log).head log)) e
          ∙ ap (λ (o : Option Class). is_none o && needs_place s source item && nat_le v.own.limits.early (early_count v.own (heard_by v.own.limits.first log).head log)) c
          ∙ and_assoc (is_none (item_class_in v source to item)) (needs_place s source item)
          (nat_le v.own.limits.early (early_count v.own (heard_by v.own.limits.first log).head log)) ∙ r.0;
      handled = λ x.
          ap (λ (b : Body). class_answer s (record d { body = b }) (body_class s d b)) e
          ∙ ap (λ (o : Option Class). class_answer s (record d { body = Between from to load }) o) c
          ∙ r.1 x;
    }

-- the handling of an eager datagram answers the same
pub handle_agrees : (ports : ℕ) (port_log log : List Deed) (v : EndpointView) (d : Datagram) → IsEager v.own log → IsEagerBody v.own log d d.body → Keeps log v
    → IsAnswerTo (life_scene ports v.own port_log log) d (body_answer v d d.body)
handle_agrees ports port_log log v d h p k = body_handles ports port_log log v d d.body refl h p k
