-- The parts before any deed, and as a region is registered and a completion is polled.
use Rattle.std.proofs.Common.{◌+◌, refl, ap}
use Rattle.std.specs.Prelude.{drop}
use Rattle.rdm_held.proofs.Calls.{none_is_held}
use Rattle.rdm_peers.proofs.ShownLaws.{nobody_shows}
use Rattle.rdm_shown.proofs.Grounds.{nothing_shows, reg_shows}
use Rattle.rdm_shown.proofs.Lives.{none_shows}
use Rattle.rdm_answers.specs.Owing.{owed_in}
use Rattle.rdm_state.specs.Laws.{Starts, Registers, Polls}

pub starts : Starts
unfolding owed_in
starts own =
    let ground = nothing_shows own in
    record {
      own = refl;
      regions = ground.regions;
      leases = ground.leases;
      holds = ground.holds;
      lives = none_shows own;
      peers = nobody_shows own.limits.first;
      first = refl;
      posted = refl;
      arrived = refl;
      early = none_is_held own own.limits.early;
      sends = record { like = tt; rise = tt };
      sends_made = refl;
      receives = tt;
      each_receive = λ r m. absurd m;
      receives_made = refl;
      owed = refl;
      completed = refl;
      reserved = refl;
      polled = refl;
    }

pub registers : Registers
registers e v block bytes s =
    let ground = reg_shows e.regions v block bytes (record { regions = s.regions; leases = s.leases; holds = s.holds }) in
    record {
      own = s.own;
      regions = ground.regions;
      leases = ground.leases;
      holds = ground.holds;
      lives = s.lives;
      peers = s.peers;
      first = s.first;
      posted = s.posted;
      arrived = s.arrived;
      early = s.early;
      sends = s.sends;
      sends_made = s.sends_made;
      receives = s.receives;
      each_receive = s.each_receive;
      receives_made = s.receives_made;
      owed = s.owed;
      completed = s.completed;
      reserved = s.reserved;
      polled = s.polled;
    }

pub polls : Polls
polls e v s =
    record {
      own = s.own;
      regions = s.regions;
      leases = s.leases;
      holds = s.holds;
      lives = s.lives;
      peers = s.peers;
      first = s.first;
      posted = s.posted;
      arrived = s.arrived;
      early = s.early;
      sends = s.sends;
      sends_made = s.sends_made;
      receives = s.receives;
      each_receive = s.each_receive;
      receives_made = s.receives_made;
      owed = s.owed;
      completed = ap (drop 1) s.completed;
      reserved = s.reserved;
      polled = ap (λ n. n + 1) s.polled;
    }
