use Rattle.std.proofs.Common.{refl}
use Rattle.rdm_tie.proofs.Events.{recv_posts, recv_takes, enter_arrives, enter_takes, each_arrives, cancel_cancels}
use Rattle.rdm_tie.proofs.Forgotten.{forget_forgets, each_is_forgotten}
use Rattle.rdm_tie.proofs.Told.{posted_told, met_told, next_is_free}
use Rattle.rdm_tie.proofs.tie_law.Goals as goal

pub returns : goal.returns
returns c =
    record {
      nothing = λ own. refl;
      posts = recv_posts;
      post_takes = recv_takes;
      arrives = enter_arrives;
      arrival_takes = enter_takes;
      each_arrives = each_arrives;
      cancels = cancel_cancels;
      forgets = forget_forgets;
      each_forgotten = each_is_forgotten;
      posted = posted_told;
      met = met_told;
      free = next_is_free;
    }
