-- When an instruction yields to the end of the clock, and how many places for completions one takes.
use Rattle.std.proofs.Common.{◌≡◌, ◌<◌, ◌≤◌, ◌+◌, Bool, true, false, cond, [], ◌∷◌, ◌++◌, Option, Some, None, refl, ap, ◌∙◌, sym, arith, ◌⊎◌, inl, inr}
use Rattle.std.specs.Prelude.{◌&&◌, nat_le, is_none, option_map}
use Rattle.std.proofs.lemmas.Bool.{leb-false, le-leb}
use Rattle.rdm_num.specs.declared.numbers.Life.{Life}
use Rattle.rdm_num.specs.declared.request.SendReq.{SendReq}
use Rattle.rdm_model.specs.declared.job.Instr.{Instr}
use Rattle.rdm_model.specs.declared.job.Instr.TheVariants.{OpenLife, Insert, Reg, Send, Recv, Cancel}
use Rattle.rdm_model.specs.declared.answer.Next.{Next}
use Rattle.rdm_model.specs.declared.answer.Next.TheVariants.{Did, Worn, Memory}
use Rattle.rdm_model.specs.Answers.{is_entry}
use Rattle.rdm_ep.specs.declared.state.Posted.{Posted}
use Rattle.rdm_ep.specs.declared.state.Inbound.{Inbound}
use Rattle.rdm_ep.specs.View.{EndpointView, new_endpoint, current_in, cq_in}
use Rattle.rdm_ep.specs.Sending.{after_reg, after_insert, after_send_to, after_send}
use Rattle.rdm_ep.specs.Receiving.{after_post, landed, after_recv}
use Rattle.rdm_ep.specs.Cancelling.{after_cancel}
use Rattle.rdm_port.specs.Views.{PortView}
use Rattle.rdm_port.specs.Kept.{Kept, places_of}
use Rattle.rdm_port.specs.Machine.{after_did, after_entry, unless_worn, takes_memory, extra_places}

-- an entry yields to the end of the clock
pub worn_entry : (k : Kept) (answer machine : Next) → answer ≡ machine → is_entry answer ≡ true → 9223372036854775807 ≤ k.clock → Worn ≡ unless_worn k machine
unfolding unless_worn
worn_entry k answer machine a e late =
    let enters : is_entry machine ≡ true = sym (ap is_entry a) ∙ e in
    let worn = le-leb 9223372036854775807 k.clock late in
    rw (enters, worn) refl

-- an answer that would be an entry yields to the end of the clock
pub worn_answer : (k : Kept) (answer machine : Next) → (answer ≡ Memory) ⊎ (answer ≡ machine) → is_entry answer ≡ true → 9223372036854775807 ≤ k.clock
    → (Worn ≡ Memory) ⊎ (Worn ≡ unless_worn k machine)
unfolding unless_worn is_entry
worn_answer k answer machine (inl m) e late = cc (ap is_entry m)
worn_answer k answer machine (inr a) e late = inr (worn_entry k answer machine a e late)

-- where the answer is an entry by the tests of the clock, the clock is not at its end
early_by : (entry late : Bool) (x : Next) → is_entry x ≡ entry → is_entry (cond (entry && late) Worn x) ≡ true → late ≡ false
unfolding is_entry
early_by true true x e h = cc
early_by true false x e h = refl
early_by false late x e h = cc

-- where the answer is an entry, the clock is not at its end
pub entry_early : (k : Kept) (answer machine : Next) → (answer ≡ Memory) ⊎ (answer ≡ unless_worn k machine) → is_entry answer ≡ true → k.clock < 9223372036854775807
unfolding unless_worn is_entry
entry_early k answer machine (inl m) e = cc (ap is_entry m)
entry_early k answer machine (inr a) e =
    leb-false 9223372036854775807 k.clock (early_by (is_entry machine) (nat_le 9223372036854775807 k.clock) machine refl (sym (ap is_entry a) ∙ e))

-- the places that an insert takes
insert_places : (e : EndpointView) (l : Life) → cq_in (after_insert e l) ≡ cq_in e
unfolding after_insert cq_in
insert_places e l =
    elim (is_none (current_in e l.port.0)) as (λ b. cq_in (cond b (record e { currents = e.currents ++ l ∷ [] }) e) ≡ cq_in e) [
      | true ↦ refl
      | false ↦ refl
    ]

-- the places that a send takes
send_places : (e : EndpointView) (req : SendReq) (o : Option Life) → cq_in (after_send_to e req o) ≤ cq_in e + 1
unfolding after_send_to cq_in
send_places e req None = omega arith
send_places e req (Some to) = omega arith

-- the places that a receive takes
post_places : (e : EndpointView) (p : Posted) (o : Option Inbound) → cq_in (after_post (record e { receives = e.receives + 1 }) p o) ≤ cq_in e + 1
unfolding after_post landed cq_in
post_places e p None = omega arith
post_places e p (Some i) = omega arith

-- a change of the endpoint that takes no place
stays : (f : EndpointView → EndpointView) (o : Option EndpointView) → ((e : EndpointView) → cq_in (f e) ≡ cq_in e) → places_of (option_map f o) ≡ places_of o
unfolding places_of
stays f None h = refl
stays f (Some e) h = h e

-- what a change of the endpoint takes
mapped : (f : EndpointView → EndpointView) (o : Option EndpointView) → ((e : EndpointView) → cq_in (f e) ≤ cq_in e + 1) → places_of (option_map f o) ≤ places_of o + 1
unfolding places_of
mapped f None h = omega arith
mapped f (Some e) h = h e

-- an instruction that did takes one place at most, and none where it takes no memory
did_places : (v : PortView) (k : Kept) (instr : Instr) → places_of (after_did v instr k).endpoint ≤ places_of k.endpoint + extra_places instr
unfolding after_did places_of new_endpoint after_reg after_send after_recv after_cancel cq_in takes_memory
did_places v k (OpenLife connid) = omega arith
did_places v k (Insert l) = mapped (λ e. after_insert e l) k.endpoint (λ e. let i = insert_places e l in omega arith)
did_places v k (Reg content) = mapped (λ e. after_reg e content) k.endpoint (λ e. omega arith)
did_places v k (Send req) = mapped (λ e. after_send e req) k.endpoint (λ e. send_places e req (current_in e req.to.0))
did_places v k (Recv req) = mapped (λ e. after_recv e req) k.endpoint (λ e. post_places e _ _)
did_places v k (Cancel recv) = let s = stays (λ e. after_cancel e recv) k.endpoint (λ e. refl) in omega arith
did_places v k _ = omega arith

-- an entry of an instruction takes one place at most, and none where it takes no memory
pub entry_places : (v : PortView) (k : Kept) (instr : Instr) (answer : Next) → places_of (after_entry v instr answer k).endpoint ≤ places_of k.endpoint + extra_places instr
unfolding after_entry
entry_places v k instr (Did what) = did_places v k instr
entry_places v k instr _ = omega arith
