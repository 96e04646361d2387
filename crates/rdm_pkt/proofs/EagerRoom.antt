-- The room that an eager packet's headers leave.
use Rattle.std.proofs.Common.{◌≡◌, ◌+◌, Bool, true, false, if◌then◌else◌, [], length, refl}
use Rattle.std.specs.Bool.{then_some}
use Rattle.rdm_hdr.specs.Fields.{field_bytes, fields_bytes}
use Rattle.rdm_hdr.specs.Headers.{base_fields, raw_fields, cq_data_fields, connid_fields, opt_fields}
use Rattle.rdm_pkt.specs.declared.Packet.TheVariants.{Rtm}
use Rattle.rdm_pkt.specs.declared.Form.TheVariants.{Eager}
use Rattle.rdm_pkt.specs.Grammar.{head_fields, form_fields, tag_fields, last_fields, layout, spelling}
use Rattle.rdm_pkt.specs.Choice.{opt_like}

-- the size of an eager packet that carries nothing
pub eager_header_size : (tagged cq_data raw : Bool)
    → length (spelling (Rtm (record { 0 = 0 }) (then_some tagged 0) false (opt_like cq_data raw) (Eager []))) ≡ 8 + (if tagged then 8 else 0) + (if cq_data then 8 else 0) + (if raw then 36 else 4)
unfolding spelling layout head_fields base_fields form_fields tag_fields last_fields opt_fields raw_fields cq_data_fields connid_fields fields_bytes field_bytes
eager_header_size true true true = refl
eager_header_size true true false = refl
eager_header_size true false true = refl
eager_header_size true false false = refl
eager_header_size false true true = refl
eager_header_size false true false = refl
eager_header_size false false true = refl
eager_header_size false false false = refl
