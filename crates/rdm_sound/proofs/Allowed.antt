-- An instruction that is accepted may be done.
use Rattle.std.proofs.Common.{◌≡◌, Bool, true, false, List, ◌∷◌, refl}
use Rattle.std.proofs.lemmas.Bool.{or_parts}
use Rattle.rdm_lists.specs.Lists.{first_case}
use Rattle.rdm_num.specs.declared.request.RecvReq.{RecvReq}
use Rattle.rdm_model.specs.declared.answer.DidWhat.{DidWhat}
use Rattle.rdm_model.specs.declared.answer.Next.{Next}
use Rattle.rdm_model.specs.declared.answer.Next.TheVariants.{Did as DidAnswer}
use Rattle.rdm_model.specs.declared.job.Instr.{Instr}
use Rattle.rdm_model.specs.declared.job.Instr.TheVariants.{Recv}
use Rattle.rdm_model.specs.Answers.{recv_answer, answer_by}
use Rattle.rdm_model.specs.Deeds.{Did}
use Rattle.rdm_model.specs.Facts.{Facts, PortFacts}
use Rattle.rdm_life.specs.Facts.{facts_in}
use Rattle.rdm_life.specs.Kept.{Kept}
use Rattle.rdm_sound.specs.Orders.{IsAllowed}

-- an answer that did is none of a refusal
past : (b : Bool) (x : Next) (cs : List (Bool × Next)) (last : Next) (what : DidWhat) → (x ≡ DidAnswer what → ⊥) → first_case ((b, x) ∷ cs) last ≡ DidAnswer what
    → (b ≡ false) × (first_case cs last ≡ DidAnswer what)
unfolding first_case
past true x cs last what other h = absurd (other h)
past false x cs last what other h = (refl, h)

-- a receive that is accepted meets no live one
accepted_free : (f : Facts) (req : RecvReq) (what : DidWhat) → recv_answer f req ≡ DidAnswer what → f.meets_receive req.region.0 req.at req.len ≡ false
unfolding recv_answer
accepted_free f req what h =
    let a = past _ _ _ _ what (λ e. cc) h in
    let b = past _ _ _ _ what (λ e. cc) a.1 in
    let c = past _ _ _ _ what (λ e. cc) b.1 in
    let d = past _ _ _ _ what (λ e. cc) c.1 in
    (or_parts _ _ d.0).0

pub answers_allow : (p : PortFacts) (v : Kept) (instr : Instr) (what : DidWhat) → answer_by p (facts_in v) instr ≡ DidAnswer what → IsAllowed v (Did instr)
unfolding answer_by
answers_allow p v (Recv req) what h = accepted_free (facts_in v) req what h
answers_allow p v _ what h = tt
