-- What a port keeps after each instruction that did, in the life that is open.
use Rattle.std.proofs.Common.{◌≡◌, ℕ, ◌+◌, Bool, true, false, cond, List, [], ◌∷◌, ◌++◌, map, Option, Some, None, refl, ap, ◌∙◌, sym, subst}
use Rattle.std.specs.Prelude.{not, ◌||◌, is_none, option_map}
use Rattle.std.proofs.lemmas.Bool.{or_parts}
use Rattle.std.proofs.lemmas.List.{append-nil}
use Rattle.rdm_hdr.specs.Fields.{has_bit}
use Rattle.rdm_num.specs.Lives.{same_life}
use Rattle.rdm_num.specs.declared.numbers.Connid.{Connid}
use Rattle.rdm_num.specs.declared.numbers.PortNo.{PortNo}
use Rattle.rdm_num.specs.declared.numbers.RecvNo.{RecvNo}
use Rattle.rdm_num.specs.declared.numbers.Life.{Life}
use Rattle.rdm_num.specs.declared.request.SendReq.{SendReq}
use Rattle.rdm_num.specs.declared.request.RecvReq.{RecvReq}
use Rattle.rdm_model.specs.declared.job.Instr.TheVariants.{Insert, Reg, Send, Recv, Cancel, Note, Await, Wait}
use Rattle.rdm_model.specs.declared.answer.Next.{Next}
use Rattle.rdm_model.specs.declared.answer.Next.TheVariants.{Did as DidAnswer, Refused, NotYet, Memory}
use Rattle.rdm_model.specs.declared.answer.Why.TheVariants.{NotPosted}
use Rattle.rdm_model.specs.declared.answer.DidWhat.{DidWhat}
use Rattle.rdm_model.specs.declared.answer.DidWhat.TheVariants.{Plain}
use Rattle.rdm_model.specs.declared.answer.Yet.TheVariants as Yet
use Rattle.rdm_model.specs.Deeds.{Deed, Did, Nothing, open_after, of_life}
use Rattle.rdm_model.specs.Beginnings.{Own}
use Rattle.rdm_model.specs.Replies.{confirm_feature}
use Rattle.rdm_model.specs.Currents.{other_life, forgotten_by}
use Rattle.rdm_model.specs.Notes.{notes_by, note_pushes_by, tells_open, opens, says}
use Rattle.rdm_ep.specs.declared.state.Posted.{Posted}
use Rattle.rdm_ep.specs.declared.state.Inbound.{Inbound}
use Rattle.rdm_ep.specs.View.{EndpointView, current_in}
use Rattle.rdm_ep.specs.Sending as Ep
use Rattle.rdm_ep.specs.Sending.{after_reg, after_insert, after_send_to, after_send}
use Rattle.rdm_ep.specs.Receiving.{after_post, landed, after_recv}
use Rattle.rdm_ep.specs.Cancelling.{waits_for_message, after_cancel}
use Rattle.rdm_ep.specs.Eager.{IsEagerDeed}
use Rattle.rdm_ep.specs.Answers.{next_of_send}
use Rattle.rdm_ep.proofs.KeepsQuiet.{keeps_reg, keeps_insert}
use Rattle.rdm_ep.proofs.KeepsSend.{keeps_send}
use Rattle.rdm_ep.proofs.KeepsRecv.{keeps_recv}
use Rattle.rdm_ep.proofs.KeepsCancel.{keeps_cancel}
use Rattle.rdm_ep.proofs.Instructed.{posted_agrees}
use Rattle.rdm_port.specs.Views.{PortView}
use Rattle.rdm_port.specs.Kept.{Kept, IsKept, deeds_of, own_at, queued_of, is_opened}
use Rattle.rdm_port.specs.Machine.{with_endpoint, is_built_send, greets_inserted, insert_answer_in, machine_answer, after_did}
use Rattle.rdm_port.specs.Built.{IsBuiltDeed}
use Rattle.rdm_port.proofs.Counted.{OpenFacts}
use Rattle.rdm_port.proofs.BuiltDeeds.{room_fits}
use Rattle.rdm_port.proofs.NextAgrees.{open_eager}
use Rattle.rdm_port.proofs.NextDeeds.{KeepsDeeds, IsStill, still_kept, changed_by, quiet_after}

-- an insert leaves the lives of the port as they were, and pushes and brings no note
still_insert : (l : Life) → IsStill (Did (Insert l))
unfolding note_pushes_by tells_open opens says open_after
still_insert l = record { push = refl; tells = λ m. refl; opens_none = λ m. refl; says_none = λ a b. refl; still = λ was. refl }

-- so does a register
still_reg : (content : List ℕ) → IsStill (Did (Reg content))
unfolding note_pushes_by tells_open opens says open_after
still_reg content = record { push = refl; tells = λ m. refl; opens_none = λ m. refl; says_none = λ a b. refl; still = λ was. refl }

-- so does a send
still_send : (req : SendReq) → IsStill (Did (Send req))
unfolding note_pushes_by tells_open opens says open_after
still_send req = record { push = refl; tells = λ m. refl; opens_none = λ m. refl; says_none = λ a b. refl; still = λ was. refl }

-- so does a receive
still_recv : (req : RecvReq) → IsStill (Did (Recv req))
unfolding note_pushes_by tells_open opens says open_after
still_recv req = record { push = refl; tells = λ m. refl; opens_none = λ m. refl; says_none = λ a b. refl; still = λ was. refl }

-- so does a cancel
still_cancel : (recv : RecvNo) → IsStill (Did (Cancel recv))
unfolding note_pushes_by tells_open opens says open_after
still_cancel recv = record { push = refl; tells = λ m. refl; opens_none = λ m. refl; says_none = λ a b. refl; still = λ was. refl }

-- so does a note
still_note : (to : PortNo) (what : ℕ) → IsStill (Did (Note to what))
unfolding note_pushes_by tells_open opens says open_after
still_note to what = record { push = refl; tells = λ m. refl; opens_none = λ m. refl; says_none = λ a b. refl; still = λ was. refl }

-- so does an await
still_await : (from : PortNo) (what : ℕ) → IsStill (Did (Await from what))
unfolding note_pushes_by tells_open opens says open_after
still_await from what = record { push = refl; tells = λ m. refl; opens_none = λ m. refl; says_none = λ a b. refl; still = λ was. refl }

-- so does a wait
still_wait : (count : ℕ) → IsStill (Did (Wait count))
unfolding note_pushes_by tells_open opens says open_after
still_wait count = record { push = refl; tells = λ m. refl; opens_none = λ m. refl; says_none = λ a b. refl; still = λ was. refl }

-- so does an instruction that was refused
pub still_nothing : IsStill Nothing
unfolding note_pushes_by tells_open opens says open_after
still_nothing = record { push = refl; tells = λ m. refl; opens_none = λ m. refl; says_none = λ a b. refl; still = λ was. refl }

-- a register leaves what the endpoint began with
own_reg : (e : EndpointView) (content : List ℕ) → (after_reg e content).own ≡ e.own
unfolding after_reg
own_reg e content = refl

-- so does an insert
own_insert : (e : EndpointView) (l : Life) → (after_insert e l).own ≡ e.own
unfolding after_insert
own_insert e l =
    elim (is_none (current_in e l.port.0)) as (λ b. (cond b (record e { currents = e.currents ++ l ∷ [] }) e).own ≡ e.own) [
      | true ↦ refl
      | false ↦ refl
    ]

-- so does a send to a life
own_send_to : (e : EndpointView) (req : SendReq) (o : Option Life) → (after_send_to e req o).own ≡ e.own
unfolding after_send_to
own_send_to e req None = refl
own_send_to e req (Some to) = refl

-- so does a send
own_send : (e : EndpointView) (req : SendReq) → (after_send e req).own ≡ e.own
unfolding after_send
own_send e req = own_send_to e req (current_in e req.to.0)

-- so does a receive that is posted
own_post : (e : EndpointView) (p : Posted) (o : Option Inbound) → (after_post e p o).own ≡ e.own
unfolding after_post landed
own_post e p None = refl
own_post e p (Some i) = refl

-- so does a receive
own_recv : (e : EndpointView) (req : RecvReq) → (after_recv e req).own ≡ e.own
unfolding after_recv
own_recv e req = own_post (record e { receives = e.receives + 1 }) _ _

-- so does a cancel
own_cancel : (e : EndpointView) (recv : RecvNo) → (after_cancel e recv).own ≡ e.own
unfolding after_cancel
own_cancel e recv = refl

-- an instruction that did where it needs an endpoint has one
has_endpoint : (o : Option EndpointView) (answer : EndpointView → Next) (what : DidWhat) → with_endpoint o answer ≡ DidAnswer what
    → (e : EndpointView) × (o ≡ Some e) × (answer e ≡ DidAnswer what)
has_endpoint None answer what h = cc
has_endpoint (Some e) answer what h = (e, refl, h)

-- no note is queued
pub no_notes : (v : PortView) (k : Kept) (d : Deed) → notes_by v.ports v.number d ≡ [] → k.notes ≡ k.notes ++ map queued_of (notes_by v.ports v.number d)
no_notes v k d e = sym (append-nil k.notes) ∙ ap (λ (ns : List _). k.notes ++ map queued_of ns) (sym e)

-- after a region was registered
pub reg_kept : (v : PortView) (k : Kept) (content : List ℕ) (what : DidWhat) → IsKept v k → machine_answer v k (Reg content) ≡ DidAnswer what
    → KeepsDeeds v (Did (Reg content) ∷ deeds_of v) (after_did v (Reg content) k)
unfolding machine_answer after_did notes_by
reg_kept v k content what h a =
    let d = Did (Reg content) in
    let f = λ (e : EndpointView). after_reg e content in
    let x = has_endpoint k.endpoint _ what a in
    still_kept v k (record k { endpoint = option_map f k.endpoint }) d h (still_reg content) (no_notes v k d refl) refl refl
    (changed_by v k d f x.0 h x.1 (own_reg x.0 content) (λ connid is. tt)
    (λ connid is all. keeps_reg content (of_life connid (deeds_of v)) x.0 all.0 is.keeps))

-- an insert that did takes the place of no other life, by its tests
takes_no_place : (opened other : Bool) (what : DidWhat) → cond (not opened) (NotYet Yet.Opened) (cond other Memory (DidAnswer Plain)) ≡ DidAnswer what → other ≡ false
takes_no_place true true what h = cc
takes_no_place true false what h = refl
takes_no_place false other what h = cc

-- a life that takes the place of no other one leaves none
none_other : (l : Life) (o : Option Life) → Ep.supersedes l o ≡ false → other_life l o ≡ []
unfolding Ep.supersedes other_life
none_other l None h = refl
none_other l (Some old) h =
    (elim (same_life old l) as (λ b. not b ≡ false → cond b [] (old ∷ []) ≡ []) [
      | true ↦ λ e. refl
      | false ↦ λ e. cc
    ]) h

-- an insert that did forgets no life, and greets none
insert_eager : (v : PortView) (k : Kept) (l : Life) (what : DidWhat) (connid : Connid) (e : EndpointView) → OpenFacts v k connid e → insert_answer_in k l e ≡ DidAnswer what
    → IsEagerDeed (own_at v connid) (of_life connid (deeds_of v)) (Did (Insert l))
unfolding insert_answer_in forgotten_by
insert_eager v k l what connid e f a =
    let none = takes_no_place (is_opened k.opened l) (Ep.supersedes l (current_in e l.port.0) || greets_inserted e) what a in
    let p = or_parts (Ep.supersedes l (current_in e l.port.0)) (greets_inserted e) none in (
      subst (λ (o : Option Life). other_life l o ≡ []) (f.keeps.currents_are l.port.0) (none_other l (current_in e l.port.0) p.0),
      subst (λ (o : Own). has_bit confirm_feature o.features ≡ false) f.own_is p.1,
    )

-- after an insert
pub insert_kept : (v : PortView) (k : Kept) (l : Life) (what : DidWhat) → IsKept v k → machine_answer v k (Insert l) ≡ DidAnswer what
    → KeepsDeeds v (Did (Insert l) ∷ deeds_of v) (after_did v (Insert l) k)
unfolding machine_answer after_did notes_by
insert_kept v k l what h a =
    let d = Did (Insert l) in
    let f = λ (e : EndpointView). after_insert e l in
    let x = has_endpoint k.endpoint (insert_answer_in k l) what a in
    still_kept v k (record k { endpoint = option_map f k.endpoint }) d h (still_insert l) (no_notes v k d refl) refl refl
    (changed_by v k d f x.0 h x.1 (own_insert x.0 l) (λ connid is. insert_eager v k l what connid x.0 is x.2)
    (λ connid is all. keeps_insert l (of_life connid (deeds_of v)) x.0 all is.keeps))

-- a send that did has room
did_fit : (b : Bool) (x : Next) (what : DidWhat) → cond b x Memory ≡ DidAnswer what → b ≡ true
did_fit true x what h = refl
did_fit false x what h = cc

-- after a send
pub send_kept : (v : PortView) (k : Kept) (req : SendReq) (what : DidWhat) → IsKept v k → machine_answer v k (Send req) ≡ DidAnswer what
    → KeepsDeeds v (Did (Send req) ∷ deeds_of v) (after_did v (Send req) k)
unfolding machine_answer after_did notes_by
send_kept v k req what h a =
    let d = Did (Send req) in
    let f = λ (e : EndpointView). after_send e req in
    let x = has_endpoint k.endpoint _ what a in
    let fits = did_fit (is_built_send v req) (next_of_send (Ep.send_answer x.0 req)) what x.2 in
    still_kept v k (record k { endpoint = option_map f k.endpoint }) d h (still_send req) (no_notes v k d refl) refl refl
    (changed_by v k d f x.0 h x.1 (own_send x.0 req) (λ connid is. room_fits v connid req fits)
    (λ connid is all. keeps_send req (of_life connid (deeds_of v)) x.0 all is.keeps))

-- after a receive
pub recv_kept : (v : PortView) (k : Kept) (req : RecvReq) (what : DidWhat) → IsKept v k → machine_answer v k (Recv req) ≡ DidAnswer what
    → KeepsDeeds v (Did (Recv req) ∷ deeds_of v) (after_did v (Recv req) k)
unfolding machine_answer after_did notes_by
recv_kept v k req what h a =
    let d = Did (Recv req) in
    let f = λ (e : EndpointView). after_recv e req in
    let x = has_endpoint k.endpoint _ what a in
    still_kept v k (record k { endpoint = option_map f k.endpoint }) d h (still_recv req) (no_notes v k d refl) refl refl
    (changed_by v k d f x.0 h x.1 (own_recv x.0 req) (λ connid is. tt)
    (λ connid is all. keeps_recv req (of_life connid (deeds_of v)) x.0 all.0 is.keeps))

-- a cancel that did is of a receive that waits
did_cancel : (b : Bool) (what : DidWhat) → cond b (DidAnswer Plain) (Refused NotPosted) ≡ DidAnswer what → b ≡ true
did_cancel true what h = refl
did_cancel false what h = cc

-- such a cancel is eager
cancel_eager : (v : PortView) (k : Kept) (connid : Connid) (e : EndpointView) (recv : RecvNo) → IsKept v k → OpenFacts v k connid e → waits_for_message e recv.0 ≡ true
    → IsEagerDeed (own_at v connid) (of_life connid (deeds_of v)) (Did (Cancel recv))
cancel_eager v k connid e recv h f posted =
    let log = of_life connid (deeds_of v) in
    subst (λ (o : Own). IsEagerDeed o log (Did (Cancel recv))) f.own_is (sym (posted_agrees log e recv.0 (open_eager v k connid e h f) f.keeps) ∙ posted)

-- after a cancel
pub cancel_kept : (v : PortView) (k : Kept) (recv : RecvNo) (what : DidWhat) → IsKept v k → machine_answer v k (Cancel recv) ≡ DidAnswer what
    → KeepsDeeds v (Did (Cancel recv) ∷ deeds_of v) (after_did v (Cancel recv) k)
unfolding machine_answer after_did notes_by
cancel_kept v k recv what h a =
    let d = Did (Cancel recv) in
    let f = λ (e : EndpointView). after_cancel e recv in
    let x = has_endpoint k.endpoint _ what a in
    let posted = did_cancel (waits_for_message x.0 recv.0) what x.2 in
    still_kept v k (record k { endpoint = option_map f k.endpoint }) d h (still_cancel recv) (no_notes v k d refl) refl refl
    (changed_by v k d f x.0 h x.1 (own_cancel x.0 recv) (λ connid is. cancel_eager v k connid x.0 recv h is posted)
    (λ connid is all. keeps_cancel recv (of_life connid (deeds_of v)) x.0 all is.keeps))

-- a note is built in each life, and where none is open
built_note : (v : PortView) (to : PortNo) (what : ℕ) (o : Option Connid) → IsBuiltDeed (own_at v) o (deeds_of v) (Did (Note to what))
built_note v to what None = tt
built_note v to what (Some connid) = tt

-- so is an await
built_await : (v : PortView) (from : PortNo) (what : ℕ) (o : Option Connid) → IsBuiltDeed (own_at v) o (deeds_of v) (Did (Await from what))
built_await v from what None = tt
built_await v from what (Some connid) = tt

-- so is a wait
built_wait : (v : PortView) (count : ℕ) (o : Option Connid) → IsBuiltDeed (own_at v) o (deeds_of v) (Did (Wait count))
built_wait v count None = tt
built_wait v count (Some connid) = tt

-- so is an instruction that was refused
pub built_nothing : (v : PortView) (o : Option Connid) → IsBuiltDeed (own_at v) o (deeds_of v) Nothing
built_nothing v None = tt
built_nothing v (Some connid) = tt

-- after a note, which is queued
pub note_kept : (v : PortView) (k : Kept) (to : PortNo) (what : ℕ) → IsKept v k → KeepsDeeds v (Did (Note to what) ∷ deeds_of v) (after_did v (Note to what) k)
unfolding after_did notes_by
note_kept v k to what h =
    still_kept v k (after_did v (Note to what) k) (Did (Note to what)) h (still_note to what) refl refl refl
    (quiet_after v k (Did (Note to what)) h tt (built_note v to what) (λ connid. tt))

-- after an await
pub await_kept : (v : PortView) (k : Kept) (from : PortNo) (what : ℕ) → IsKept v k → KeepsDeeds v (Did (Await from what) ∷ deeds_of v) k
unfolding notes_by
await_kept v k from what h =
    still_kept v k k (Did (Await from what)) h (still_await from what) (no_notes v k (Did (Await from what)) refl) refl refl
    (quiet_after v k (Did (Await from what)) h tt (built_await v from what) (λ connid. tt))

-- after a wait
pub wait_kept : (v : PortView) (k : Kept) (count : ℕ) → IsKept v k → KeepsDeeds v (Did (Wait count) ∷ deeds_of v) k
unfolding notes_by
wait_kept v k count h =
    still_kept v k k (Did (Wait count)) h (still_wait count) (no_notes v k (Did (Wait count)) refl) refl refl
    (quiet_after v k (Did (Wait count)) h tt (built_wait v count) (λ connid. tt))

-- after a refused instruction, which does nothing
pub nothing_kept : (v : PortView) (k : Kept) → IsKept v k → KeepsDeeds v (Nothing ∷ deeds_of v) k
unfolding notes_by
nothing_kept v k h = still_kept v k k Nothing h still_nothing (no_notes v k Nothing refl) refl refl (quiet_after v k Nothing h tt (built_nothing v) (λ connid. tt))
