-- Each operation that was accepted is live, or its completion waits or was polled.
use Rattle.std.specs.Prelude.{◌≡◌, ℕ, ◌+◌, length, IsSome, slice_get}
use Rattle.rdm_model.specs.Beginnings.{Own}
use Rattle.rdm_model.specs.Deeds.{Deed, Polled}
use Rattle.rdm_life.specs.Facts.{facts_in}
use Rattle.rdm_life.specs.Handling.{after}
use Rattle.rdm_life.specs.Kept.{Kept, nothing_kept}
use Rattle.rdm_sound.specs.Orders.{IsAllowed}
use Rattle.rdm_sound.specs.Premises.{IsOrderly}
use Rattle.rdm_state.specs.Shows.{Shows}
use Rattle.rdm_state.specs.State.{State}

-- how many operations were accepted
abbrev pub accepted_count : Kept → ℕ
accepted_count v = v.send_count + v.receive_count

-- how many completions were polled or wait, and how many operations are live
abbrev pub known_count : Kept → ℕ
known_count v = v.poll_count + length v.completions + length v.sends + length v.receives

-- they are as many
abbrev pub IsCounted : Kept → Type 0
IsCounted v = accepted_count v ≡ known_count v

-- something is polled where something waits
abbrev pub PollsSome : Kept → Deed → Type 0
PollsSome v Polled = IsSome (slice_get v.completions 0)
PollsSome v _ = Unit {0}

-- So it is before any deed,
abbrev pub BeginsCounted : Type 0
BeginsCounted = (own : Own) → IsCounted (nothing_kept own)

-- and it stays so by each deed that may be done.
abbrev pub StaysCounted : Type 0
StaysCounted = (d : Deed) (v : Kept) → IsOrderly v → IsCounted v → IsAllowed v d → PollsSome v d → IsCounted (after d v)

-- So the places that are taken are the operations whose completion was not polled.
abbrev pub TellsCounts : Type 0
TellsCounts = (e : State) (v : Kept) → Shows e v → IsCounted v → (facts_in v).cq ≡ e.completions.reserved + length e.completions.list
