-- A length that is counted up to the last number shows whether a message goes in one packet.
use Rattle.std.proofs.Common.{◌≡◌, ◌<◌, ◌≤◌, ℕ, ◌-◌, Bool, true, false, None, refl, sym, ◌∙◌, arith, if◌then◌else◌}
use Rattle.std.specs.Prelude.{◌^◌, nat_le}
use Rattle.std.proofs.lemmas.Bool.{leb-true, leb-false, le-leb, lt-leb}
use Rattle.rdm_num.specs.declared.limits.EpLimits.{EpLimits}
use Rattle.rdm_pkt.specs.declared.Kind.TheVariants.{Eager, Medium, LongCts}
use Rattle.rdm_pkt.specs.Choice.{choose, eager_room, both_have}
use Rattle.rdm_script.specs.Drafts.{capped}
use Rattle.rdm_script.specs.Played.{is_eager}

-- where nothing is known of the peer, what has room goes in one packet, and nothing else
by_room : (fits short : Bool) → is_eager (if fits then Eager else if short then Medium else LongCts) ≡ fits
by_room true short = refl
by_room false true = refl
by_room false false = refl

pub eager_by_room : (n : ℕ) (tagged cq_data : Bool) (limits : EpLimits) → is_eager (choose n tagged cq_data true 0 None limits) ≡ nat_le n (eager_room tagged cq_data true limits)
unfolding choose both_have
eager_by_room n tagged cq_data limits = by_room (nat_le n (eager_room tagged cq_data true limits)) (nat_le n limits.medium)

capped_fits : (n room : ℕ) → room < 2 ^ 64 - 1 → nat_le (capped n) room ≡ nat_le n room
capped_fits n room h =
    elim (nat_le n room) as (λ b. nat_le n room ≡ b → nat_le (capped n) room ≡ b) [
      | true ↦ λ e. le-leb _ _ (omega (arith, leb-true n room e))
      | false ↦ λ e. lt-leb _ _ (omega (arith, leb-false n room e, h))
    ] refl

room_below : (tagged cq_data : Bool) (limits : EpLimits) → eager_room tagged cq_data true limits ≤ limits.mtu
unfolding eager_room
room_below tagged cq_data limits = omega arith

pub eager_capped : (n : ℕ) (tagged cq_data : Bool) (limits : EpLimits) → limits.mtu < 2 ^ 32
    → is_eager (choose (capped n) tagged cq_data true 0 None limits) ≡ is_eager (choose n tagged cq_data true 0 None limits)
eager_capped n tagged cq_data limits h =
    eager_by_room (capped n) tagged cq_data limits ∙ capped_fits n (eager_room tagged cq_data true limits) (omega (arith, h, room_below tagged cq_data limits))
    ∙ sym (eager_by_room n tagged cq_data limits)
