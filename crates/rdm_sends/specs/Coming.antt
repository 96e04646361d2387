-- What comes for a send: grants, asks, and that answers went out.
use Rattle.std.specs.Prelude.{ℕ, ◌<◌, Bool, false, not, ◌&&◌}
use Rattle.rdm_wire.specs.declared.ReadAsk.{ReadAsk}
use Rattle.rdm_model.specs.Dues.{is_read}
use Rattle.rdm_tx.specs.Asks as Asks
use Rattle.rdm_tx.specs.Granting as Granting
use Rattle.rdm_tx.specs.declared.spans.Span.{Span}
use Rattle.rdm_sends.specs.declared.protocol.Protocol.{Protocol}
use Rattle.rdm_sends.specs.declared.protocol.Protocol.TheVariants.{Whole, Granted, Read}
use Rattle.rdm_sends.specs.Sending.{SendingView}

-- ---- grants

-- the receive may grant so many bytes more
unfoldable pub takes_grant : (recv size : ℕ) → Protocol → Bool
takes_grant recv size (Granted g) = not (Granting.is_wrong_for recv size g)
takes_grant recv size _ = false

-- what a grant leaves
unfoldable pub granted_more : (recv size : ℕ) → Protocol → Protocol
granted_more recv size Whole = Whole
granted_more recv size (Granted g) = Granted (Granting.with_grant recv size g)
granted_more recv size (Read a) = Read a

-- the receive may grant so many bytes more of the send
abbrev pub may_grant : (recv size : ℕ) → SendingView → Bool
may_grant recv size x = takes_grant recv size x.protocol

-- the receive granted so many bytes more
abbrev pub with_grant : (recv size : ℕ) → SendingView → SendingView
with_grant recv size x = record x { protocol = granted_more recv size x.protocol }

-- ---- asks

-- the bytes may be asked for
abbrev pub TakesAsk : ReadAsk → Protocol → Type 0
TakesAsk ask (Read a) = Asks.MayAsk a ask
TakesAsk ask _ = ⊥

-- there is room for an ask
abbrev pub HasAskRoom : Protocol → Type 0
HasAskRoom (Read a) = 0 < a.unasked.spare
HasAskRoom _ = ⊥

-- some answer was not pushed
abbrev pub OwesAnswer : Protocol → Type 0
OwesAnswer (Read a) = 0 < a.owes
OwesAnswer _ = ⊥

-- the asks were changed so
unfoldable pub asks_changed : (Asks.Asks → Asks.Asks) → Protocol → Protocol
asks_changed change Whole = Whole
asks_changed change (Granted g) = Granted g
asks_changed change (Read a) = Read (change a)

-- the same of the send
abbrev pub with_asks : (Asks.Asks → Asks.Asks) → SendingView → SendingView
with_asks change x = record x { protocol = asks_changed change x.protocol }

-- an end of the read would come early
unfoldable pub ends_early_by : Protocol → Bool
ends_early_by (Read a) = Asks.ends_early a
ends_early_by _ = false

-- ---- questions

-- a receipt completes it
abbrev pub is_confirmed : SendingView → Bool
is_confirmed x = x.message.confirm && not (is_read x.message.kind)

-- where the bytes that an ask is for stand in the message
abbrev pub given_span : ReadAsk → Span
given_span ask = record { offset = ask.at; length = ask.length }
