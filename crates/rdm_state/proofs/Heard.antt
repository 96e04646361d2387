-- Messages that are heard of.
use Rattle.std.proofs.Common.{◌≡◌, Bool, true, false, cond, Option, Some, None, refl, ◌∙◌}
use Rattle.rdm_match.specs.declared.PostedRecv.{PostedRecv}
use Rattle.rdm_match.specs.declared.Arrived.{Arrived}
use Rattle.rdm_match.specs.Matcher.{Pair}
use Rattle.rdm_life.specs.Kept.{Kept, Peer, LiveReceive}
use Rattle.rdm_life.specs.Landing.{is_full}
use Rattle.rdm_sound.specs.Steps.{settle_found, with_replies, with_end, with_next_window, meet_one, arrive_found, next_of}
use Rattle.rdm_num.specs.declared.numbers.Life.{Life}
use Rattle.rdm_held.proofs.Calls.{hears as held_hears}
use Rattle.rdm_held.proofs.Changes.{adds_reserved}
use Rattle.rdm_life.specs.Receiving.{hear, with_early}
use Rattle.rdm_peers.proofs.ShownLaws.{hearing_shows}
use Rattle.rdm_state.specs.MessageLaws.{Hears, Adds, EntersAside}
use Rattle.rdm_state.proofs.Accepted.{first_stays}

pub hears : Hears
unfolding hear
hears e v source number m opened risen s none early there least few =
    let p = hearing_shows e.peers source number.0 risen opened v s.peers there least few in
    let h = held_hears e.early v source number m opened s.early none early in (
      p.0,
      record {
        own = s.own;
        regions = s.regions;
        leases = s.leases;
        holds = s.holds;
        lives = s.lives;
        peers = p.1;
        first = first_stays e.peers source _ ∙ s.first;
        posted = s.posted;
        arrived = s.arrived;
        early = h;
        sends = s.sends;
        sends_made = s.sends_made;
        receives = s.receives;
        each_receive = s.each_receive;
        receives_made = s.receives_made;
        owed = s.owed;
        completed = s.completed;
        reserved = s.reserved;
        polled = s.polled;
      },
    )

pub adds : Adds
unfolding with_early
adds e v source number p s awaits =
    record {
      own = s.own;
      regions = s.regions;
      leases = s.leases;
      holds = s.holds;
      lives = s.lives;
      peers = s.peers;
      first = s.first;
      posted = s.posted;
      arrived = s.arrived;
      early = adds_reserved e.early v source number p s.early awaits;
      sends = s.sends;
      sends_made = s.sends_made;
      receives = s.receives;
      each_receive = s.each_receive;
      receives_made = s.receives_made;
      owed = s.owed;
      completed = s.completed;
      reserved = s.reserved;
      polled = s.polled;
    }

-- ---- a message that enters

-- what a receive settles changes nothing of lives
settled_aside : (is_new : Bool) (o : Option LiveReceive) (v : Kept) (peers : Life → Peer) → record (settle_found is_new o v) { peers = peers } ≡ settle_found is_new o (record v { peers = peers })
unfolding settle_found
settled_aside is_new None v peers = refl
settled_aside is_new (Some r) v peers =
    elim (is_full r.matched) as (λ b. record (with_replies is_new r (cond b (with_end r v) (with_next_window r v))) { peers = peers } ≡ with_replies is_new r (cond b (with_end r (record v { peers = peers })) (with_next_window r (record v { peers = peers })))) [
      | true ↦ refl
      | false ↦ refl
    ]

met_aside : (p : Pair) (v : Kept) (peers : Life → Peer) → record (meet_one p v) { peers = peers } ≡ meet_one p (record v { peers = peers })
unfolding meet_one
met_aside p v peers = settled_aside true _ _ peers

found_aside : (a : Arrived) (o : Option PostedRecv) (v : Kept) (peers : Life → Peer) → record (arrive_found a o v) { peers = peers } ≡ arrive_found a o (record v { peers = peers })
unfolding arrive_found
found_aside a None v peers = refl
found_aside a (Some r) v peers = met_aside _ _ peers

pub enters_aside : EntersAside
enters_aside source v peers = found_aside (next_of v source) _ _ peers
