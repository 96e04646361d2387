use Rattle.rdm_sound.proofs.steps_law.Goals as goal
use Rattle.rdm_sound.proofs.SettlesEach.{settles_each}
use Rattle.rdm_sound.proofs.Meets.{meets_each}
use Rattle.rdm_sound.proofs.Orderly.{numbered}
use Rattle.rdm_sound.proofs.Enters.{enters_each}
use Rattle.rdm_sound.proofs.Posts.{posts_one, lands_in_one}

pub returns : goal.returns
returns c = record {
  settles = λ is_new numbers v o once. settles_each is_new numbers v once (numbered v.receives o.once) o.apart;
  meets = λ ps v o numbers names. meets_each ps v numbers names (numbered v.receives o.once) o.apart;
  posts = posts_one;
  lands = lands_in_one;
  enters = λ source v o. enters_each source v o.posted_once (numbered v.receives o.once) o.apart;
}
