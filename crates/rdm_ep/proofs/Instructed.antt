-- What an instruction that registers, inserts, cancels or waits answers, by what the endpoint keeps.
use Rattle.std.proofs.Common.{◌≡◌, ℕ, Bool, true, false, cond, List, length, refl, ap, ◌∙◌, sym}
use Rattle.std.specs.Prelude.{◌==◌, not, nat_lt, find, is_some, option_map}
use Rattle.rdm_lists.specs.Lists.{first_case}
use Rattle.rdm_num.specs.declared.numbers.RecvNo.{RecvNo}
use Rattle.rdm_num.specs.declared.numbers.Life.{Life}
use Rattle.rdm_match.specs.Matcher.{is_recv}
use Rattle.rdm_model.specs.declared.job.Instr.TheVariants.{Insert, Reg, Cancel, Wait}
use Rattle.rdm_model.specs.declared.answer.Next.TheVariants.{Did, Refused, NotYet}
use Rattle.rdm_model.specs.declared.answer.DidWhat.TheVariants.{Plain, Region}
use Rattle.rdm_model.specs.declared.answer.Why.TheVariants.{Superseded, NotPosted}
use Rattle.rdm_model.specs.declared.answer.Yet.TheVariants as Yet
use Rattle.rdm_model.specs.Deeds.{Deed}
use Rattle.rdm_model.specs.Notes.{knows_open}
use Rattle.rdm_model.specs.Matches.{Receive}
use Rattle.rdm_model.specs.Facts as F
use Rattle.rdm_model.specs.Local.{heard_by}
use Rattle.rdm_model.specs.Facts.{regions_of}
use Rattle.rdm_model.specs.Answers.{answer_of, answer_by, insert_answer}
use Rattle.rdm_ep.specs.View.{EndpointView}
use Rattle.rdm_ep.specs.Cancelling as Ec
use Rattle.rdm_ep.specs.Answers.{life_scene}
use Rattle.rdm_ep.specs.Eager.{IsEager}
use Rattle.rdm_ep.specs.Keeps.{posted_of, Keeps}
use Rattle.rdm_ep.proofs.Currents.{never_superseded}
use Rattle.rdm_ep.proofs.Options.{find-map, is_some-map}
use Rattle.rdm_ep.proofs.Pairs.{own_matching}
use Rattle.rdm_ep.proofs.Live.{seen, own_live, live_seen, waiting_are, waiting_found}
use Rattle.rdm_ep.proofs.Counts.{regions_agree, polls_agree}

-- a register answers the number of its region
pub reg_agrees : (ports : ℕ) (port_log log : List Deed) (v : EndpointView) (content : List ℕ) → Keeps log v
    → answer_of (life_scene ports v.own port_log log) (Reg content) ≡ Did (Region (record { 0 = length v.regions }))
unfolding answer_by insert_answer regions_of
reg_agrees ports port_log log v content k = ap (λ (rs : List (List ℕ)). Did (Region (record { 0 = length rs }))) (regions_agree log v k)

-- a wait answers by how many completions were polled
pub wait_agrees : (ports : ℕ) (port_log log : List Deed) (v : EndpointView) (count : ℕ) → Keeps log v
    → answer_of (life_scene ports v.own port_log log) (Wait count) ≡ cond (nat_lt v.polled count) (NotYet (Yet.Wait v.polled count)) (Did Plain)
unfolding answer_by insert_answer first_case
wait_agrees ports port_log log v count k = ap (λ (n : ℕ). cond (nat_lt n count) (NotYet (Yet.Wait n count)) (Did Plain)) (polls_agree log v k)

-- a receive waits where the matcher has it
pub posted_agrees : (log : List Deed) (v : EndpointView) (recv : ℕ) → IsEager v.own log → Keeps log v
    → Ec.waits_for_message v recv ≡ is_some (find (is_recv recv) (own_matching v.own log).posted)
unfolding Ec.waits_for_message Ec.has_number heard_by
posted_agrees log v recv h k =
    let live = own_live v.own log in
    let t : Receive → Bool = λ x. x.number == recv in
    let here : find (Ec.has_number recv) v.posted ≡ option_map posted_of (find t live) = ap (find (Ec.has_number recv)) k.posted_are ∙ find-map posted_of (Ec.has_number recv) live in
    let there = waiting_found recv live (own_matching v.own log) (live_seen v.own log) (waiting_are v.own log h) in
    ap is_some here ∙ is_some-map posted_of (find t live) ∙ sym (is_some-map seen (find t live)) ∙ ap is_some (sym there)

-- a cancel does where the receive waits
pub cancel_agrees : (ports : ℕ) (port_log log : List Deed) (v : EndpointView) (recv : RecvNo) → IsEager v.own log → Keeps log v
    → answer_of (life_scene ports v.own port_log log) (Cancel recv) ≡ cond (Ec.waits_for_message v recv.0) (Did Plain) (Refused NotPosted)
unfolding answer_by insert_answer first_case F.is_unmatched heard_by
cancel_agrees ports port_log log v recv h k =
    ap (λ (b : Bool). cond (not b) (Refused NotPosted) (Did Plain)) (sym (posted_agrees log v recv.0 h k))
    ∙ elim (Ec.waits_for_message v recv.0) as (λ b. cond (not b) (Refused NotPosted) (Did Plain) ≡ cond b (Did Plain) (Refused NotPosted)) [
      | true ↦ refl
      | false ↦ refl
    ]

-- an insert waits for the note that the life was opened, and is not refused
pub insert_agrees : (ports : ℕ) (port_log log : List Deed) (v : EndpointView) (life : Life) → IsEager v.own log
    → answer_of (life_scene ports v.own port_log log) (Insert life) ≡ cond (knows_open v.own.life.port.0 port_log life) (Did Plain) (NotYet Yet.Opened)
unfolding answer_by insert_answer first_case
insert_agrees ports port_log log v life h =
    ap (λ (b : Bool). cond (not (knows_open v.own.life.port.0 port_log life)) (NotYet Yet.Opened) (cond b (Refused Superseded) (Did Plain))) (never_superseded v.own log life h)
    ∙ elim (knows_open v.own.life.port.0 port_log life) as (λ b. cond (not b) (NotYet Yet.Opened) (Did Plain) ≡ cond b (Did Plain) (NotYet Yet.Opened)) [
      | true ↦ refl
      | false ↦ refl
    ]
