-- What a port makes of the answer of its endpoint to a datagram.
use Rattle.std.proofs.Common.{◌≡◌, Option, Some, None, refl, ap, sym, ◌∙◌}
use Rattle.rdm_wire.specs.declared.Datagram.{Datagram}
use Rattle.rdm_model.specs.declared.answer.Handled.TheVariants as H
use Rattle.rdm_model.specs.declared.answer.Class.TheVariants.{ToOther}
use Rattle.rdm_ep.specs.declared.answer.HandleAnswer.{HandleAnswer}
use Rattle.rdm_ep.specs.declared.answer.HandleAnswer.TheVariants as HandleA
use Rattle.rdm_ep.specs.View.{EndpointView}
use Rattle.rdm_ep.specs.Handling.{body_answer, after_body, HandlesAs}
use Rattle.rdm_ep.specs.Answers.{handled_of}
use Rattle.rdm_port.specs.Kept.{Kept}
use Rattle.rdm_port.specs.Machine.{life_answer, after_life, TakesIn}

-- where no life is open, what comes to a life is to another one
pub none_takes : (k : Kept) (d : Datagram) → k.endpoint ≡ None → TakesIn k k d (H.Dropped ToOther)
unfolding life_answer after_life
none_takes k d e = rw e (refl, refl)

-- the endpoint answered
answered : (k : Kept) (d : Datagram) (old new : EndpointView) (answer : HandleAnswer) → k.endpoint ≡ Some old
    → (answer ≡ body_answer old d d.body) × (new ≡ after_body answer d d.body old)
    → (handled_of answer ≡ life_answer k.endpoint d) × (record k { endpoint = Some new } ≡ record k { endpoint = after_life k.endpoint d })
unfolding life_answer after_life
answered k d old new answer e h = let a = h.0 in let b = h.1 in rw (e, ← a) (refl, ap (λ (x : EndpointView). record k { endpoint = Some x }) b)

-- the answer of the endpoint is the port's
pub endpoint_takes : (k : Kept) (d : Datagram) (old new : EndpointView) (answer : HandleAnswer) → k.endpoint ≡ Some old → HandlesAs old new d answer
    → TakesIn k (record k { endpoint = Some new }) d (handled_of answer)
unfolding handled_of
endpoint_takes k d old new (HandleA.Took entered) e h = answered k d old new (HandleA.Took entered) e h
endpoint_takes k d old new (HandleA.Dropped class') e h = answered k d old new (HandleA.Dropped class') e h
endpoint_takes k d old new HandleA.AgainEarly e h = answered k d old new HandleA.AgainEarly e h
endpoint_takes k d old new HandleA.AgainCopy e h = answered k d old new HandleA.AgainCopy e h
endpoint_takes k d old new HandleA.Memory e h = ap (λ (o : Option EndpointView). record k { endpoint = o }) (ap Some h ∙ sym e)
