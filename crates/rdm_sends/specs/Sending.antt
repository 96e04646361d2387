-- What is kept of a live send.
use Rattle.std.specs.Prelude.{◌≡◌, ℕ, ◌+◌, ◌≤◌, Bool, true, false, List, length, sum_by}
use Rattle.rdm_num.specs.declared.numbers.Life.{Life}
use Rattle.rdm_num.specs.declared.parts.Span.{Span as Range}
use Rattle.rdm_model.specs.Dues.{is_read}
use Rattle.rdm_tx.specs.declared.message.Message.{Message}
use Rattle.rdm_sends.specs.declared.protocol.Protocol.{Protocol}
use Rattle.rdm_sends.specs.declared.protocol.Protocol.TheVariants.{Whole, Granted, Read}

-- the life that it goes to, what its packets say, the ranges that its bytes stand in and how many bytes these are, how many
-- packets that open it were pushed, and what came for it
pub record SendingView : Type 0 where
  pub to : Life
  pub message : Message
  pub parts : List Range
  pub total : ℕ
  pub given : ℕ
  pub protocol : Protocol

-- how many bytes ranges have together
abbrev pub range_bytes : List Range → ℕ
range_bytes parts = sum_by (λ (r : Range). r.len) parts

-- it was begun to be read
unfoldable pub takes_asks : Protocol → Bool
takes_asks (Read a) = true
takes_asks _ = false

-- how long the message is by what came for it, where that says so
unfoldable pub length_by : (total : ℕ) → Protocol → ℕ
length_by total Whole = total
length_by total (Granted g) = g.total
length_by total (Read a) = a.from + length a.unasked.places

-- what is true of each: it takes asks if its kind is one that is read, grants are counted and asks are for bytes up to its
-- length, and a read list has up to four ranges
pub record IsSending (x : SendingView) : Type 0 where
  pub total : x.total ≡ range_bytes x.parts
  pub few : length x.message.iov ≤ 4
  pub read : is_read x.message.kind ≡ takes_asks x.protocol
  pub whole : length_by x.total x.protocol ≡ x.total
