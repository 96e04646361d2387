-- What is kept of receives, memory, and what is owed and completed, after a receive was posted or a message came that was not heard of.
use Rattle.std.proofs.Common.{◌≡◌, true, false, List, ◌∷◌, ◌++◌, sym, ◌∙◌, subst}
use Rattle.std.specs.Prelude.{drop}
use Rattle.rdm_pkt.specs.declared.Packet.TheVariants.{Rtm}
use Rattle.rdm_model.specs.declared.job.Instr.TheVariants.{Recv}
use Rattle.rdm_model.specs.Beginnings.{Own}
use Rattle.rdm_model.specs.Completions.{poll_count}
use Rattle.rdm_model.specs.Deeds.{Deed, Did, Took, Spelled}
use Rattle.rdm_model.specs.Heard.{is_heard}
use Rattle.rdm_model.specs.Replies.{handshake_by}
use Rattle.rdm_law.proofs.Lives.Lives.{LifeLocal}
use Rattle.rdm_life.specs.Kept.{Kept}
use Rattle.rdm_life.specs.Keeps.{own_progress, Keeps, KeepsReceives, KeepsOwed}
use Rattle.rdm_life.specs.Handling.{after}
use Rattle.rdm_life.specs.Landing.{settle}
use Rattle.rdm_life.proofs.Completing.{own_completions}
use Rattle.rdm_life.proofs.Made.{made}
use Rattle.rdm_life.proofs.Meets.{Meets, entered, with_pairs, meet_is, meeting_entered, meeting_touches, meeting_landed}
use Rattle.rdm_life.proofs.MeetsPacket.{packet_meets}
use Rattle.rdm_life.proofs.MeetsReceive.{recv_meets}
use Rattle.rdm_life.proofs.SettledOwed.{settled_owed}
use Rattle.rdm_life.proofs.SettledReceives.{settled_receives}
use Rattle.rdm_life.proofs.TakenRead.{AllTakenRead}
use Rattle.rdm_life.proofs.Settling.{IsLanding, Touches, Landed, numbers_of}

-- a receive that is posted, and a packet of a message that was not heard of
abbrev pub IsMeeting : List Deed → Deed → Type 0
IsMeeting log (Did (Recv req)) = Unit {0}
IsMeeting log (Took from (Spelled (Rtm number tag confirm opt form))) = is_heard log from number.0 ≡ false
IsMeeting log _ = ⊥

-- each may make pairs
meeting_lands : (log : List Deed) (d : Deed) → IsMeeting log d → IsLanding d
meeting_lands log (Did (Recv req)) m = tt
meeting_lands log (Took from (Spelled (Rtm number tag confirm opt form))) m = tt
meeting_lands log _ m = absurd m

-- by each, messages and receives meet
meeting_meets : (own : Own) (d : Deed) (log : List Deed) (v : Kept) → IsMeeting log d → LifeLocal own (d ∷ log) → Keeps own log v → Meets own d log v
meeting_meets own (Did (Recv req)) log v m local keeps = recv_meets own req log v local keeps
meeting_meets own (Took from (Spelled (Rtm number tag confirm opt form))) log v m local keeps = packet_meets own from number tag confirm opt form log v local keeps m
meeting_meets own _ log v m local keeps = absurd m

-- what is kept after a deed, as its new pairs settle once their bytes landed
record Settles (own : Own) (d : Deed) (log : List Deed) (v : Kept) : Type 0 where
  pub then : Kept
  pub lands : IsLanding d
  pub touches : Touches own d log true (made own d log)
  pub landed : Landed own d log then
  pub owed_is : then.owed ≡ (own_progress own log).replies ++ handshake_by own log d
  pub completions_are : then.completions ≡ drop (poll_count log) (own_completions own log)
  pub after_is : after d v ≡ settle true (numbers_of (made own d log)) then

-- so it is with each
meeting_settles : (own : Own) (d : Deed) (log : List Deed) (v : Kept) → IsMeeting log d → LifeLocal own (d ∷ log) → Keeps own log v → Settles own d log v
meeting_settles own d log v m local keeps =
    let ps = made own d log in
    let meets = meeting_meets own d log v m local keeps in
    let w = entered own d log meets.before in
    let meeting = meeting_entered own d log meets.before meets.meeting in
    record {
      then = with_pairs ps w;
      lands = meeting_lands log d m;
      touches = meeting_touches own d log w local meeting;
      landed = meeting_landed own d log w meeting;
      owed_is = meets.owed_is;
      completions_are = meets.completions_are;
      after_is = meets.after_is ∙ meet_is ps w;
    }

-- so what is kept of receives and memory, and what is owed and completed, is what the definitions say
pub meets_kept : (own : Own) (d : Deed) (log : List Deed) (v : Kept) → IsMeeting log d → LifeLocal own (d ∷ log) → AllTakenRead (d ∷ log) → Keeps own log v
    → KeepsReceives own (d ∷ log) (after d v) × KeepsOwed own (d ∷ log) (after d v)
meets_kept own d log v m local fit keeps =
    let s = meeting_settles own d log v m local keeps in
    let ps = made own d log in (
      subst (KeepsReceives own (d ∷ log)) (sym s.after_is) (settled_receives own d log true ps s.then local fit s.lands s.touches s.landed),
      subst (KeepsOwed own (d ∷ log)) (sym s.after_is) (settled_owed own d log true ps s.then local s.lands s.touches s.landed s.owed_is s.completions_are),
    )
