use Rattle.rdm_sound.proofs.losses_law.Goals as goal
use Rattle.rdm_sound.proofs.Forgotten.{forgets_each, forgets_none, losses_orderly}
use Rattle.rdm_sound.proofs.ForgottenNext.{forgets_receive, forgets_send, forgets_rest}

pub returns : goal.returns
returns c = record {
  forgets = forgets_each;
  receives = forgets_receive;
  sends = forgets_send;
  rest = forgets_rest;
  none = forgets_none;
  stays = losses_orderly;
}
