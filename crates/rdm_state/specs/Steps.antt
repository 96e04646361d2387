-- What each step makes of the parts of an endpoint.
use Rattle.std.specs.Prelude.{ℕ, ◌+◌, ◌==◌, not, if◌then◌else◌, Bool, List, [], ◌∷◌, ◌++◌, map, filter}
use denote.RawPtr.{Ptr}
use Rattle.rdm_num.specs.declared.numbers.Life.{Life}
use Rattle.rdm_num.specs.declared.parts.Span.{Span}
use Rattle.rdm_num.specs.declared.completion.Completion.TheVariants.{Send, Recv}
use Rattle.rdm_num.specs.declared.completion.Outcome.{Outcome}
use Rattle.rdm_mr.specs.Part.{Piece}
use Rattle.rdm_match.specs.Kept as Matcher
use Rattle.rdm_match.specs.Matcher.{Cancel, Forget}
use Rattle.rdm_av.specs.Lives as Av
use Rattle.rdm_window.specs.Early as Early
use Rattle.rdm_regions.specs.Registry as Regions
use Rattle.rdm_regions.specs.Holds as Holds
use Rattle.rdm_pool.specs.Numbered as Pool
use Rattle.rdm_peers.specs.Table as Peers
use Rattle.rdm_sends.specs.Sending.{SendingView}
use Rattle.rdm_receives.specs.View.{ReceiveView}
use Rattle.rdm_owed.specs.Owing as Owed
use Rattle.rdm_answers.specs.declared.answer.Answer.{Answer}
use Rattle.rdm_cq.specs.Queue as Cq
use Rattle.rdm_state.specs.State.{State}

-- the receive has that number
abbrev pub has_number : (number : ℕ) → ReceiveView → Bool
has_number number r = r.number.0 == number

-- a region is registered
abbrev pub registered : Ptr → List ℕ → State → State
registered block bytes e = record e { regions = Regions.with_region e.regions block bytes }

-- the first completion is polled
abbrev pub polled : State → State
polled e = record e { completions = Cq.polled e.completions; polled = e.polled + 1 }

-- the receive of a number is changed so
abbrev pub with_receive : (number : ℕ) → (ReceiveView → ReceiveView) → State → State
with_receive number change e = record e { receives = record (e.receives) { list = map (λ r. if has_number number r then change r else r) e.receives.list } }

-- the receive of a number is over: its part is back, and it completes so
abbrev pub without_receive : (number : ℕ) → Piece → Outcome → State → State
without_receive number piece outcome e =
    record e {
      regions = Regions.after_lease_back e.regions number piece;
      receives = record (e.receives) { list = filter (λ r. not (has_number number r)) e.receives.list };
      completions = Cq.written e.completions (Recv (record { 0 = number }) outcome);
    }

-- one that waits is taken back
abbrev pub cancelled : (number : ℕ) → Piece → Outcome → State → State
cancelled number piece outcome e = record (without_receive number piece outcome e) { matcher = Matcher.kept_after e.matcher (Cancel number) }

-- ---- sends

-- the send of a number is as it is now
abbrev pub with_send : (number : ℕ) → SendingView → State → State
with_send number x e = record e { sends = Pool.after_write e.sends (record { 0 = number }) x }

-- the send of a number is over: it holds nothing, and completes so
abbrev pub without_send : (number : ℕ) → (gone : Bool) → State → State
without_send number gone e =
    record e {
      regions = Holds.without_holds e.regions number 4;
      sends = Pool.after_take e.sends (record { 0 = number });
      completions = Cq.written e.completions (Send (record { 0 = number }) gone);
    }

-- other answers are owed
abbrev pub owing : Owed.Owing Answer → State → State
owing owed e = record e { owed = owed }

-- ---- operations that are accepted

-- a receive is accepted: its range goes out with it, and it has a place for its completion
abbrev pub accepted : ReceiveView → Span → State → State
accepted r x e =
    record e {
      regions = Regions.with_lease e.regions r.number.0 x;
      receives = record { list = e.receives.list ++ r ∷ []; made = e.receives.made + 1 };
      completions = record (e.completions) { reserved = e.completions.reserved + 1 };
    }

-- a send is accepted: it holds its ranges, has the next number of its life, and a place for its completion
abbrev pub begun : SendingView → Peers.Known → State → State
begun x peers e =
    record e {
      regions = Holds.with_holds e.regions e.sends.made x.parts;
      peers = peers;
      sends = record (e.sends) { list = e.sends.list ++ (e.sends.made, x) ∷ []; made = e.sends.made + 1 };
      completions = record (e.completions) { reserved = e.completions.reserved + 1 };
    }

-- more is known of lives
abbrev pub knowing : Peers.Known → State → State
knowing peers e = record e { peers = peers }

-- a life takes the place of another one, which is forgotten: nothing is known of it, no message of it is early or waits, no receive
-- that names it waits, and what is owed is so without it
abbrev pub inserted : (life old : Life) → Av.Lives → Owed.Owing Answer → State → State
inserted life old lives owed e =
    record e {
      lives = lives;
      peers = Peers.without_account e.peers old;
      matcher = Matcher.kept_after e.matcher (Forget old);
      early = Early.without_life e.early old;
      owed = owed;
    }
