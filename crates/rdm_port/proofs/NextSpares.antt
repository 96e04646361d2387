-- An instruction that takes no memory is answered and followed without any.
use Rattle.std.proofs.Common.{◌≡◌, ◌≢◌, ℕ, Bool, true, false, cond, Option, Some, None, refl, ap, sym, ◌∙◌, IsTrue}
use Rattle.std.specs.Prelude.{◌&&◌, is_some, nat_le, slice_get}
use Rattle.rdm_num.specs.declared.numbers.Connid.{Connid}
use Rattle.rdm_num.specs.declared.numbers.RecvNo.{RecvNo}
use Rattle.rdm_model.specs.declared.job.Instr.{Instr}
use Rattle.rdm_model.specs.declared.job.Instr.TheVariants.{Await, Cancel, Wait}
use Rattle.rdm_model.specs.declared.answer.Next.{Next}
use Rattle.rdm_model.specs.declared.answer.Next.TheVariants.{Did, Refused, NotYet, Worn, Memory}
use Rattle.rdm_model.specs.declared.answer.DidWhat.{DidWhat}
use Rattle.rdm_model.specs.declared.answer.DidWhat.TheVariants.{Plain}
use Rattle.rdm_model.specs.declared.answer.Why.TheVariants.{NotPosted}
use Rattle.rdm_model.specs.Answers.{is_entry}
use Rattle.rdm_model.specs.Deeds.{open_life}
use Rattle.rdm_ep.specs.View.{EndpointView}
use Rattle.rdm_ep.specs.Cancelling.{waits_for_message}
use Rattle.rdm_port.specs.Views.{PortView}
use Rattle.rdm_port.specs.Kept.{Kept, IsKept, IsOpen, deeds_of}
use Rattle.rdm_port.specs.Machine.{machine_answer, takes_memory, unless_worn, with_endpoint}
use Rattle.rdm_port.specs.Nexts.{TakesNone, NextTakesNone}

-- an answer by a test, or else another
not_wanted : (b : Bool) (x y : Next) → x ≢ Memory → y ≢ Memory → cond b x y ≢ Memory
not_wanted true x y f g = f
not_wanted false x y f g = g

-- what needs an endpoint wants no memory where a life is open
with_life : (v : PortView) (o : Option Connid) (e : Option EndpointView) (f : EndpointView → Next) → IsOpen v o e → IsTrue (is_some o) → ((x : EndpointView) → f x ≢ Memory)
    → with_endpoint e f ≢ Memory
with_life v None e f open' some g = absurd (cc some)
with_life v (Some connid) None f open' some g = absurd open'
with_life v (Some connid) (Some x) f open' some g = g x

-- the instruction takes no memory, and its answer isn't want of it
pub record Spared (v : PortView) (k : Kept) (instr : Instr) : Type 0 where
  pub takes : takes_memory instr ≡ false
  pub answers : machine_answer v k instr ≢ Memory

-- so is each that takes none
spared_by : (v : PortView) (k : Kept) (instr : Instr) → IsKept v k → TakesNone v (Some instr) → Spared v k instr
unfolding machine_answer takes_memory
spared_by v k (Await from what) h t = record { takes = refl; answers = not_wanted _ (Did _) (NotYet _) (λ e. cc e) (λ e. cc e) }
spared_by v k (Cancel recv) h t =
    record {
      takes = refl;
      answers = with_life v (open_life (deeds_of v)) k.endpoint _ h.open_is t (λ x. not_wanted _ (Did _) (Refused _) (λ e. cc e) (λ e. cc e));
    }
spared_by v k (Wait count) h t =
    record {
      takes = refl;
      answers = with_life v (open_life (deeds_of v)) k.endpoint _ h.open_is t (λ x. not_wanted _ (NotYet _) (Did _) (λ e. cc e) (λ e. cc e));
    }
spared_by v k _ h t = absurd t

-- the same of the next instruction of the port
pub spared_next : (v : PortView) (k : Kept) (instr : Instr) → IsKept v k → slice_get v.rank.ops k.done ≡ Some instr → NextTakesNone v → Spared v k instr
spared_next v k instr h e t = let d = h.done in spared_by v k instr h (rw (← d, e) at t)

-- a cancel that did, by the test
did_by : (b : Bool) (what : DidWhat) → cond b (Did Plain) (Refused NotPosted) ≡ Did what → b ≡ true
did_by true what e = refl
did_by false what e = cc

-- a receive that waits for its message in the open life
abbrev pub Waits : Option EndpointView → ℕ → Type 0
Waits o recv = (e : EndpointView) × (o ≡ Some e) × (waits_for_message e recv ≡ true)

-- by the endpoint
waits_by : (o : Option EndpointView) (recv : ℕ) (what : DidWhat) → with_endpoint o (λ e. cond (waits_for_message e recv) (Did Plain) (Refused NotPosted)) ≡ Did what → Waits o recv
waits_by None recv what d = cc
waits_by (Some e) recv what d = (e, refl, did_by (waits_for_message e recv) what d)

-- a cancel that did is of such a receive
pub cancel_waits : (v : PortView) (k : Kept) (recv : RecvNo) (what : DidWhat) → machine_answer v k (Cancel recv) ≡ Did what → Waits k.endpoint recv.0
unfolding machine_answer
cancel_waits v k recv what d = waits_by k.endpoint recv.0 what d

-- an answer that isn't want of memory stays so at the end of the clock
pub unless_not : (k : Kept) (answer machine : Next) → answer ≡ unless_worn k machine → machine ≢ Memory → answer ≢ Memory
unfolding unless_worn
unless_not k answer machine e f = λ m. not_wanted (is_entry machine && nat_le 9223372036854775807 k.clock) Worn machine (λ w. cc w) f (sym e ∙ m)

-- an entry by a test is what comes where the test fails
entry_by : (b : Bool) (answer machine : Next) → answer ≡ cond b Worn machine → is_entry answer ≡ true → answer ≡ machine
unfolding is_entry
entry_by true answer machine e i = cc (sym i ∙ ap is_entry e)
entry_by false answer machine e i = e

-- where the answer is an entry, it's the machine's
pub entry_is : (k : Kept) (answer machine : Next) → answer ≡ unless_worn k machine → is_entry answer ≡ true → answer ≡ machine
unfolding unless_worn
entry_is k answer machine e i = entry_by (is_entry machine && nat_le 9223372036854775807 k.clock) answer machine e i

-- an entry isn't want of memory
pub entry_not : (answer : Next) → is_entry answer ≡ true → answer ≢ Memory
unfolding is_entry
entry_not answer i = λ m. cc (sym i ∙ ap is_entry m)
