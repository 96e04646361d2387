-- The conditions of packets and forms, each case by itself.
use Rattle.std.proofs.Common.{◌≡◌, ◌+◌, ◌^◌, Bool, true, length, refl}
use Rattle.std.specs.Prelude.{nat_le, nat_lt, ◌&&◌}
use Rattle.rdm_pkt.specs.declared.Packet.{Packet}
use Rattle.rdm_pkt.specs.declared.Packet.TheVariants.{Rtm, Cts, CtsData, Eor, Handshake, Receipt}
use Rattle.rdm_pkt.specs.declared.Form.{Form}
use Rattle.rdm_pkt.specs.declared.Form.TheVariants.{Eager, Medium, LongCts, LongRead, Runt}
use Rattle.rdm_pkt.specs.Grammar.{iov_fits, confirm_fits, opt_fits, form_fits, packet_fits}

-- the conditions of a form
abbrev pub form_test : Form → Bool
form_test (Eager bytes) = true
form_test (Medium size offset bytes) = nat_le 1 (length bytes) && nat_le (offset + length bytes) size
form_test (LongCts size send credits bytes) = nat_le 1 (length bytes) && nat_lt (length bytes) size && nat_le 1 credits
form_test (LongRead size send iov) = iov_fits iov size
form_test (Runt size send iov runt offset bytes) =
    iov_fits iov size && nat_le 1 (length bytes) && nat_le (offset + length bytes) runt && nat_le 1 runt && nat_lt runt size

-- they are those of the grammar
pub form_fits_by : (form : Form) → form_fits form ≡ form_test form
unfolding form_fits
form_fits_by (Eager bytes) = refl
form_fits_by (Medium size offset bytes) = refl
form_fits_by (LongCts size send credits bytes) = refl
form_fits_by (LongRead size send iov) = refl
form_fits_by (Runt size send iov runt offset bytes) = refl

pub ruleset form_tests = form_fits_by

-- the conditions of a packet
abbrev pub packet_test : Packet → Bool
packet_test (Rtm number tag confirm opt form) = confirm_fits confirm form && opt_fits opt && form_fits form
packet_test (Cts send recv size connid) = nat_le 1 size
packet_test (CtsData recv offset connid bytes) = nat_le 1 (length bytes) && nat_lt (offset + length bytes) (2 ^ 64)
packet_test (Eor send recv connid) = true
packet_test (Handshake words connid raw) = nat_le 1 (length words) && nat_le (length words) 8
packet_test (Receipt number connid) = true

-- they are those of the grammar
pub packet_fits_by : (p : Packet) → packet_fits p ≡ packet_test p
unfolding packet_fits
packet_fits_by (Rtm number tag confirm opt form) = refl
packet_fits_by (Cts send recv size connid) = refl
packet_fits_by (CtsData recv offset connid bytes) = refl
packet_fits_by (Eor send recv connid) = refl
packet_fits_by (Handshake words connid raw) = refl
packet_fits_by (Receipt number connid) = refl

pub ruleset packet_tests = packet_fits_by
