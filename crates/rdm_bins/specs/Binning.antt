-- In which bin and group a receive or a message waits.
use Rattle.std.specs.Prelude.{ℕ, ◌%◌, ◌^◌, ◌==◌, if◌then◌else◌, Option, Some, None, option_map}
use Rattle.rdm_num.specs.declared.request.Want.{Want}
use Rattle.rdm_num.specs.declared.numbers.Life.{Life}
use Rattle.rdm_match.specs.declared.PostedRecv.{PostedRecv}
use Rattle.rdm_match.specs.declared.Arrived.{Arrived}

-- a tag as a number of 64 bits
abbrev pub tag_bits : ℕ → ℕ
tag_bits tag = tag % 2 ^ 64

-- the bin of a tag that is wanted with each bit compared; all others share the bin without a number
unfoldable pub bin_of_want : Option Want → Option ℕ
bin_of_want None = None
bin_of_want (Some want) = if want.ignore == 0 then Some (tag_bits want.tag) else None

-- a receive from any source with an exact tag waits in the bin of that tag, each other one in the bin without a number
unfoldable pub recv_bin : Option Life → Option Want → Option ℕ
recv_bin None want = bin_of_want want
recv_bin (Some life) want = None

-- where a receive waits
abbrev pub bin_of_recv : PostedRecv → Option ℕ
bin_of_recv r = recv_bin r.from r.want

-- each receive is in a group of its own, that of its number
abbrev pub group_of_recv : PostedRecv → Option ℕ
group_of_recv r = Some r.id.0

-- a message waits in the bin of its tag, and an untagged one in the bin without a number
abbrev pub bin_of_message : Arrived → Option ℕ
bin_of_message a = option_map tag_bits a.tag

-- the messages of one port are a group
abbrev pub group_of_message : Arrived → Option ℕ
group_of_message a = Some a.life.port.0
