-- What the parts of an endpoint are together, as clauses see each of them.
use Rattle.std.specs.Prelude.{ℕ, List, []}
use Rattle.rdm_num.specs.declared.completion.Completion.{Completion}
use Rattle.rdm_match.specs.Kept as Matcher
use Rattle.rdm_model.specs.Beginnings.{Own}
use Rattle.rdm_regions.specs.Registry as Regions
use Rattle.rdm_av.specs.Lives as Av
use Rattle.rdm_peers.specs.Table as Peers
use Rattle.rdm_window.specs.Early as Early
use Rattle.rdm_pool.specs.Numbered as Pool
use Rattle.rdm_sends.specs.Sending.{SendingView}
use Rattle.rdm_receives.specs.View.{ReceiveView}
use Rattle.rdm_answers.specs.declared.answer.Answer.{Answer}
use Rattle.rdm_owed.specs.Owing as Owed
use Rattle.rdm_cq.specs.Queue as Cq

-- the live receives in the order of their numbers, and how many were ever posted
pub record Receives : Type 0 where
  pub list : List ReceiveView
  pub made : ℕ

-- the life, and each part
pub record State : Type 0 where
  pub own : Own
  pub regions : Regions.Registry
  pub lives : Av.Lives
  pub peers : Peers.Known
  pub matcher : Matcher.Kept
  pub early : Early.Held
  pub sends : Pool.Numbered SendingView
  pub receives : Receives
  pub owed : Owed.Owing Answer
  pub completions : Cq.Queue Completion
  pub polled : ℕ

-- before anything happened
abbrev pub started : Own → State
started own =
    record {
      own = own;
      regions = Regions.nothing;
      lives = Av.no_lives;
      peers = Peers.nobody own.limits.first;
      matcher = Matcher.nothing_kept;
      early = Early.none_held own.limits.early;
      sends = Pool.nothing_put own.limits.tx;
      receives = record { list = []; made = 0 };
      owed = Owed.nothing_owed;
      completions = Cq.no_completions own.limits.cq;
      polled = 0;
    }
