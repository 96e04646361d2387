-- What a cancel answers, and what it makes of an endpoint.
use Rattle.std.specs.Prelude.{ℕ, ◌==◌, Bool, if◌then◌else◌, [], ◌∷◌, ◌++◌, find, is_some}
use Rattle.rdm_lists.specs.Lists.{without_first}
use Rattle.rdm_num.specs.declared.numbers.RecvNo.{RecvNo}
use Rattle.rdm_num.specs.declared.completion.Completion.TheVariants.{Recv}
use Rattle.rdm_num.specs.declared.completion.Outcome.TheVariants.{Cancelled}
use Rattle.rdm_ep.specs.declared.state.Posted.{Posted}
use Rattle.rdm_ep.specs.declared.answer.CancelAnswer.{CancelAnswer}
use Rattle.rdm_ep.specs.declared.answer.CancelAnswer.TheVariants.{Did, NotPosted}
use Rattle.rdm_ep.specs.View.{EndpointView}

-- the receive has that number
unfoldable pub has_number : ℕ → Posted → Bool
has_number n p = p.number.0 == n

-- the receive of that number waits for its message
unfoldable pub waits_for_message : EndpointView → ℕ → Bool
waits_for_message v n = is_some (find (has_number n) v.posted)

-- what a cancel answers
abbrev pub cancel_answer : EndpointView → RecvNo → CancelAnswer
cancel_answer v recv = if waits_for_message v recv.0 then Did else NotPosted

-- the receive waits no more, and completes as cancelled
unfoldable pub after_cancel : EndpointView → RecvNo → EndpointView
after_cancel v recv = record v { posted = without_first (has_number recv.0) v.posted; completions = v.completions ++ Recv recv Cancelled ∷ [] }

-- a cancel of a receive that does not wait changes nothing
abbrev pub cancelled : EndpointView → RecvNo → EndpointView
cancelled v recv = if waits_for_message v recv.0 then after_cancel v recv else v
