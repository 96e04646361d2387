-- Which sends have room in one packet.
use Rattle.std.proofs.Common.{◌≡◌, ◌≤◌, Bool, true, false, nat_le, le-leb, leb-true, is_some, arith}
use Rattle.rdm_num.specs.declared.request.SendReq.{SendReq}
use Rattle.rdm_num.specs.declared.limits.EpLimits.{EpLimits}
use Rattle.rdm_pkt.specs.Choice.{eager_room}
use Rattle.rdm_model.specs.Jobs.{spans_length}
use Rattle.rdm_law.proofs.Fits.Headers.{common_length, eager_room_is}
use Rattle.rdm_law.proofs.Eager.EagerDeeds.{FitsOnePacket}

-- headers are longest with a raw address
raw_is_longest : (tagged cq_data raw : Bool) → common_length tagged cq_data raw ≤ common_length tagged cq_data true
unfolding common_length
raw_is_longest tagged cq_data true = omega arith
raw_is_longest tagged cq_data false = omega arith

-- what has room beside a raw address has room in one packet, whatever its headers, where it asks for no receipt
pub fits_one_packet : (limits : EpLimits) (req : SendReq) → req.confirm ≡ false → nat_le (spans_length req.parts) (eager_room (is_some req.tag) (is_some req.cq_data) true limits) ≡ true → FitsOnePacket limits req
fits_one_packet limits req silent h = (
  silent,
  λ raw.
      let tagged = is_some req.tag in
      let cq_data = is_some req.cq_data in
      let a = eager_room_is tagged cq_data raw limits in
      let b = eager_room_is tagged cq_data true limits in
      let c = raw_is_longest tagged cq_data raw in
      let d = leb-true (spans_length req.parts) (eager_room tagged cq_data true limits) h in
      le-leb (spans_length req.parts) (eager_room tagged cq_data raw limits) (omega arith),
)
