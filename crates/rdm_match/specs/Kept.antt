-- What a matcher keeps: what waits, and the room for what may have to wait.
use Rattle.std.specs.Prelude.{ℕ, ◌+◌, ◌-◌}
use Rattle.rdm_match.specs.declared.PostedRecv.{PostedRecv}
use Rattle.rdm_match.specs.declared.Arrived.{Arrived}
use Rattle.rdm_match.specs.Matcher.{Event, Post, Arrive}
use Rattle.rdm_match.specs.Waiting.{Waiting, nothing_waits, waiting_after}

-- what waits, and for how many receives and messages more there is memory
pub record Kept : Type 0 where
  pub waiting : Waiting
  pub posts : ℕ
  pub arrivals : ℕ

-- before anything came
abbrev pub nothing_kept : Kept
nothing_kept = record { waiting = nothing_waits; posts = 0; arrivals = 0 }

-- with room for one receive more
abbrev pub with_post : Kept → Kept
with_post k = record k { posts = k.posts + 1 }

-- with room for one message more
abbrev pub with_arrival : Kept → Kept
with_arrival k = record k { arrivals = k.arrivals + 1 }

-- after an event that leaves the room as it was
abbrev pub kept_after : Kept → Event → Kept
kept_after k e = record k { waiting = waiting_after k.waiting e }

-- after a post that used up room for one receive, or gave it back
abbrev pub kept_after_post : Kept → PostedRecv → Kept
kept_after_post k r = record k { waiting = waiting_after k.waiting (Post r); posts = k.posts - 1 }

-- after an arrival that used up room for one message, or gave it back
abbrev pub kept_after_arrive : Kept → Arrived → Kept
kept_after_arrive k a = record k { waiting = waiting_after k.waiting (Arrive a); arrivals = k.arrivals - 1 }
