-- What goes out from an endpoint, and what is polled.
use Rattle.std.specs.Prelude.{◌≡◌, ◌+◌, false, List, [], ◌∷◌, ◌++◌, Option, Some, None}
use Rattle.rdm_num.specs.declared.numbers.Life.{Life}
use Rattle.rdm_num.specs.declared.numbers.SendNo.{SendNo}
use Rattle.rdm_num.specs.declared.completion.Completion.{Completion}
use Rattle.rdm_num.specs.declared.completion.Completion.TheVariants.{Send}
use Rattle.rdm_pkt.specs.declared.Packet.{Packet}
use Rattle.rdm_pkt.specs.declared.Packet.TheVariants.{Handshake}
use Rattle.rdm_pkt.specs.Grammar.{spelling}
use Rattle.rdm_wire.specs.declared.Load.TheVariants as Load
use Rattle.rdm_ep.specs.declared.state.Outbound.{Outbound}
use Rattle.rdm_ep.specs.declared.answer.Outgoing.{Outgoing}
use Rattle.rdm_ep.specs.View.{EndpointView}

-- a packet and the life that it goes to
pub record Leaving : Type 0 where
  pub to : Life
  pub packet : Packet

-- the next send's packet
unfoldable pub outgoing_out : List Outbound → Option Leaving
outgoing_out [] = None
outgoing_out (o ∷ os) = Some (record { to = o.to; packet = o.packet })

-- the next handshake, or else the next send's packet
unfoldable pub out_by : EndpointView → List Life → Option Leaving
out_by v [] = outgoing_out v.outgoing
out_by v (life ∷ lives) = Some (record { to = life; packet = Handshake (v.own.features ∷ []) v.own.life.connid None })

-- what goes out next
unfoldable pub out_of : EndpointView → Option Leaving
out_of v = out_by v v.owed

-- it goes as the packet's bytes
abbrev pub outgoing_of : Leaving → Outgoing
outgoing_of l = record { to = l.to; load = Load.Packet (spelling l.packet) }

-- the first send was pushed, and completes
unfoldable pub after_outgoing : EndpointView → List Outbound → EndpointView
after_outgoing v [] = v
after_outgoing v (o ∷ os) = record v { outgoing = os; completions = v.completions ++ Send o.number false ∷ [] }

-- the first handshake was pushed, or else the first send
unfoldable pub sent_by : EndpointView → List Life → EndpointView
sent_by v [] = after_outgoing v v.outgoing
sent_by v (life ∷ lives) = record v { owed = lives }

-- the endpoint after what goes out next was pushed
unfoldable pub after_sent : EndpointView → EndpointView
after_sent v = sent_by v v.owed

-- the first completion was polled
unfoldable pub polled_by : EndpointView → List Completion → EndpointView
polled_by v [] = v
polled_by v (c ∷ cs) = record v { completions = cs; polled = v.polled + 1 }

-- the endpoint after a poll
unfoldable pub after_poll : EndpointView → EndpointView
after_poll v = polled_by v v.completions

-- the first send of a list was taken out, and has that number
pub record IsFirst (old new : List Outbound) (number : SendNo) : Type 0 where
  pub first : Outbound
  pub list : old ≡ first ∷ new
  pub number_is : number ≡ first.number
