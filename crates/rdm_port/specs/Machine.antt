-- What the code of a port answers and changes, by what it keeps.
use Rattle.std.specs.Prelude.{◌≡◌, ℕ, ◌+◌, Bool, true, false, not, ◌&&◌, ◌||◌, nat_lt, nat_le, if◌then◌else◌, List, [], ◌∷◌, ◌++◌, map, length, drop, Option, Some, None, is_some, option_map, slice_get, max}
use Rattle.rdm_hdr.specs.Fields.{has_bit}
use Rattle.rdm_num.specs.Lives.{life}
use Rattle.rdm_num.specs.declared.numbers.PortNo.{PortNo}
use Rattle.rdm_num.specs.declared.numbers.Life.{Life}
use Rattle.rdm_num.specs.declared.request.SendReq.{SendReq}
use Rattle.rdm_wire.specs.declared.Body.{Body}
use Rattle.rdm_wire.specs.declared.Body.TheVariants.{Note as NoteBody, Between}
use Rattle.rdm_wire.specs.declared.NoteBody.{NoteBody as NoteType}
use Rattle.rdm_wire.specs.declared.NoteBody.TheVariants.{Opened, Said}
use Rattle.rdm_wire.specs.declared.Datagram.{Datagram}
use Rattle.rdm_model.specs.Jobs.{spans_length}
use Rattle.rdm_model.specs.Replies.{confirm_feature}
use Rattle.rdm_model.specs.declared.job.Instr.{Instr}
use Rattle.rdm_model.specs.declared.job.Instr.TheVariants.{OpenLife, Insert, Reg, Send, Recv, Cancel, Note, Await, Wait, CloseLife}
use Rattle.rdm_model.specs.declared.answer.Next.{Next}
use Rattle.rdm_model.specs.declared.answer.Next.TheVariants.{Did, Refused, NotYet, Ended, Worn, Memory}
use Rattle.rdm_model.specs.declared.answer.DidWhat.TheVariants.{Plain, Region}
use Rattle.rdm_model.specs.declared.answer.Why.TheVariants.{NotPosted}
use Rattle.rdm_model.specs.declared.answer.Yet.TheVariants as Yet
use Rattle.rdm_model.specs.declared.answer.Handled.{Handled}
use Rattle.rdm_model.specs.declared.answer.Handled.TheVariants as H
use Rattle.rdm_model.specs.declared.answer.Class.TheVariants.{ToOther, FromOther}
use Rattle.rdm_model.specs.Notes.{notes_by}
use Rattle.rdm_model.specs.Deeds.{Did as DidDeed}
use Rattle.rdm_ep.specs.View.{EndpointView, new_endpoint, current_in}
use Rattle.rdm_ep.specs.Sending as Ep
use Rattle.rdm_ep.specs.Sending.{after_reg, after_insert, after_send}
use Rattle.rdm_ep.specs.Receiving as EpRecv
use Rattle.rdm_ep.specs.Receiving.{after_recv}
use Rattle.rdm_ep.specs.Cancelling.{waits_for_message, after_cancel}
use Rattle.rdm_ep.specs.Handling.{body_answer, after_body}
use Rattle.rdm_ep.specs.Going.{Leaving, after_sent, after_poll}
use Rattle.rdm_ep.specs.Going as Going
use Rattle.rdm_ep.specs.Answers.{next_of_send, next_of_recv, handled_of}
use Rattle.rdm_port.specs.Views.{PortView}
use Rattle.rdm_port.specs.Kept.{Kept, own_at, queued_of, is_opened, is_told, is_new_life, entry_of}
use Rattle.rdm_port.specs.declared.kept.QueuedNote.{QueuedNote}
use Rattle.rdm_port.specs.declared.effects.Owner.{Owner}
use Rattle.rdm_port.specs.declared.going.Departure.{Departure}
use Rattle.rdm_wire.specs.declared.Load.TheVariants as Load
use Rattle.rdm_pkt.specs.Grammar.{spelling}
use Rattle.rdm_num.specs.declared.completion.Completion.{Completion}
use Rattle.rdm_model.specs.declared.entry.Entry.{Entry}
use Rattle.rdm_model.specs.declared.entry.Act.TheVariants as Act
use Rattle.rdm_model.specs.Answers.{op_of, is_entry}
use Rattle.rdm_ep.specs.Answers.{is_early}

-- the port is the owner's
pub record IsOwnedBy (v : PortView) (owner : Owner) : Type 0 where
  pub number : v.number ≡ owner.number.0
  pub ports : v.ports ≡ owner.ports
  pub features : v.rank.features ≡ owner.features
  pub limits : v.limits ≡ owner.limits

-- an instruction that needs an endpoint, where none is open, is not built
abbrev pub with_endpoint : Option EndpointView → (EndpointView → Next) → Next
with_endpoint None answer = Memory
with_endpoint (Some e) answer = answer e

-- how many bytes of headers a message in one packet has beside a raw address, which is the longest
abbrev pub header_size : SendReq → ℕ
header_size req = 44 + (if is_some req.tag then 8 else 0) + (if is_some req.cq_data then 8 else 0)

-- the send asks for no receipt and has room in one packet, whatever its headers; no other one is built
abbrev pub is_built_send : PortView → SendReq → Bool
is_built_send v req = not req.confirm && nat_le (spans_length req.parts + header_size req) v.limits.mtu

-- the endpoint greets a life that is inserted
abbrev pub greets_inserted : EndpointView → Bool
greets_inserted e = has_bit confirm_feature e.own.features

-- an insert waits for the note that the life was opened; one that would take the place of another life or greet is not built
unfoldable pub insert_answer_in : Kept → Life → EndpointView → Next
insert_answer_in k l e =
    if not (is_opened k.opened l) then NotYet Yet.Opened
    else if Ep.supersedes l (current_in e l.port.0) || greets_inserted e then Memory else Did Plain

-- what an instruction answers by what the port keeps; what is not built wants memory
unfoldable pub machine_answer : PortView → Kept → Instr → Next
machine_answer v k (OpenLife connid) = if is_some k.endpoint || not (is_new_life k.opened v connid) then Memory else Did Plain
machine_answer v k (Insert l) = with_endpoint k.endpoint (insert_answer_in k l)
machine_answer v k (Reg content) = with_endpoint k.endpoint (λ e. Did (Region (record { 0 = length e.regions })))
machine_answer v k (Send req) = with_endpoint k.endpoint (λ e. if is_built_send v req then next_of_send (Ep.send_answer e req) else Memory)
machine_answer v k (Recv req) = with_endpoint k.endpoint (λ e. next_of_recv (EpRecv.recv_answer e req))
machine_answer v k (Cancel recv) = with_endpoint k.endpoint (λ e. if waits_for_message e recv.0 then Did Plain else Refused NotPosted)
machine_answer v k (Note to what) = Did Plain
machine_answer v k (Await from what) = if is_told k.told from.0 what then Did Plain else NotYet Yet.Await
machine_answer v k (Wait count) =
    with_endpoint k.endpoint (λ e. if nat_lt e.polled count then NotYet (Yet.Wait e.polled count) else Did Plain)
machine_answer v k CloseLife = Memory

-- the instruction takes memory beside that of its entry: all but a cancel, an await and a wait do
unfoldable pub takes_memory : Instr → Bool
takes_memory (Cancel recv) = false
takes_memory (Await from what) = false
takes_memory (Wait count) = false
takes_memory _ = true

-- how many completions more an instruction may owe
abbrev pub extra_places : Instr → ℕ
extra_places instr = if takes_memory instr then 1 else 0

-- what an instruction that did makes of what the port keeps
unfoldable pub after_did : PortView → Instr → Kept → Kept
after_did v (OpenLife connid) k =
    record k {
      notes = k.notes ++ map queued_of (notes_by v.ports v.number (DidDeed (OpenLife connid)));
      opened = k.opened ++ record { port = record { 0 = v.number }; connid = connid } ∷ [];
      endpoint = Some (new_endpoint (own_at v connid));
    }
after_did v (Insert l) k = record k { endpoint = option_map (λ e. after_insert e l) k.endpoint }
after_did v (Reg content) k = record k { endpoint = option_map (λ e. after_reg e content) k.endpoint }
after_did v (Send req) k = record k { endpoint = option_map (λ e. after_send e req) k.endpoint }
after_did v (Recv req) k = record k { endpoint = option_map (λ e. after_recv e req) k.endpoint }
after_did v (Cancel recv) k = record k { endpoint = option_map (λ e. after_cancel e recv) k.endpoint }
after_did v (Note to what) k = record k { notes = k.notes ++ record { to = to; body = Said what } ∷ [] }
after_did v _ k = k

-- the counts after an instruction
abbrev pub next_counted : Kept → Kept
next_counted k = record k { done = k.done + 1; clock = k.clock + 1 }

-- the counts after a push
abbrev pub push_counted : Kept → Kept
push_counted k = record k { pushed = k.pushed + 1; clock = k.clock + 1 }

-- an answer that would be an entry yields to the end of the clock
unfoldable pub unless_worn : Kept → Next → Next
unless_worn k answer = if is_entry answer && nat_le 9223372036854775807 k.clock then Worn else answer

-- what the next instruction answers, where one is left
unfoldable pub left_answer_in : PortView → Kept → Option Instr → Next
left_answer_in v k None = Ended
left_answer_in v k (Some instr) = unless_worn k (machine_answer v k instr)

-- the same, by the place in the program
abbrev pub machine_next : PortView → Kept → Next
machine_next v k = left_answer_in v k (slice_get v.rank.ops k.done)

-- an instruction that did has its effect, and one that was refused has none
unfoldable pub after_entry : PortView → Instr → Next → Kept → Kept
after_entry v instr (Did what) k = after_did v instr k
after_entry v instr _ k = k

-- the entry of an instruction
abbrev pub next_entry : PortView → Kept → Instr → Next → Entry
next_entry v k instr answer = entry_of v (k.clock + 1) (Act.Next k.done (op_of instr) answer)

-- what the open life sends
abbrev pub departure_of : EndpointView → Leaving → Departure
departure_of e l =
    record { dst = l.to.port; body = Between e.own.life.connid l.to.connid (Load.Packet (spelling l.packet)) }

-- what goes out next from the open life
unfoldable pub life_departing : Option EndpointView → Option Departure
life_departing None = None
life_departing (Some e) = option_map (departure_of e) (Going.out_of e)

-- a note goes before all else
unfoldable pub departing_by : List QueuedNote → Option EndpointView → Option Departure
departing_by [] endpoint = life_departing endpoint
departing_by (n ∷ ns) endpoint = Some (record { dst = n.to; body = NoteBody n.body })

-- what goes out next
abbrev pub departing : Kept → Option Departure
departing k = departing_by k.notes k.endpoint

-- the datagram that departs
abbrev pub datagram_by : PortView → Kept → Departure → Datagram
datagram_by v k o =
    record { src = record { 0 = v.number }; number = record { 0 = k.pushed }; stamp = record { 0 = k.clock + 1 }; dst = o.dst; body = o.body }

-- what went out is not kept
unfoldable pub after_went : Body → Kept → Kept
after_went (NoteBody note) k = record k { notes = drop 1 k.notes }
after_went (Between from to load) k = record k { endpoint = option_map after_sent k.endpoint }

-- the first completion that was not polled
unfoldable pub completion_in : Option EndpointView → Option Completion
completion_in None = None
completion_in (Some e) = slice_get e.completions 0

-- the first completion was polled
abbrev pub after_polled : Kept → Kept
after_polled k = record k { endpoint = option_map after_poll k.endpoint }

-- the clock after a poll
abbrev pub poll_counted : Kept → Kept
poll_counted k = record k { clock = k.clock + 1 }

-- what a note makes of what the port keeps
unfoldable pub after_note : (src : PortNo) → NoteType → Kept → Kept
after_note src (Opened connid) k = record k { opened = k.opened ++ life src connid ∷ [] }
after_note src (Said what) k = record k { told = k.told ++ record { from = src; what = what } ∷ [] }

-- what the port answers to a datagram between lives
unfoldable pub life_answer : Option EndpointView → Datagram → Handled
life_answer None d = H.Dropped ToOther
life_answer (Some e) d = handled_of (body_answer e d d.body)

-- what the answer to a datagram between lives makes of the endpoint
unfoldable pub after_life : Option EndpointView → Datagram → Option EndpointView
after_life None d = None
after_life (Some e) d = Some (after_body (body_answer e d d.body) d d.body e)

-- a drop is counted
unfoldable pub drop_counted : Handled → Kept → Kept
drop_counted (H.Dropped ToOther) k = record k { to_other = k.to_other + 1 }
drop_counted (H.Dropped FromOther) k = record k { from_other = k.from_other + 1 }
drop_counted _ k = k

-- what the port answers to a datagram; a note is always taken
unfoldable pub machine_handled : Kept → Datagram → Body → Handled
machine_handled k d (NoteBody note) = H.Took None
machine_handled k d (Between from to load) = life_answer k.endpoint d

-- what the answer to a datagram makes of what the port keeps
unfoldable pub after_handled : Kept → Datagram → Body → Kept
after_handled k d (NoteBody note) = after_note d.src note k
after_handled k d (Between from to load) = drop_counted (life_answer k.endpoint d) (record k { endpoint = after_life k.endpoint d })

-- the state is as the answer to a note says
abbrev pub NoteTakenAs : Kept → Kept → PortNo → NoteType → Handled → Type 0
NoteTakenAs old new src note H.Memory = new ≡ old
NoteTakenAs old new src note answer = (answer ≡ H.Took None) × (new ≡ after_note src note old)

-- the same of what comes to a life, but for the count of drops
abbrev pub TakesIn : Kept → Kept → Datagram → Handled → Type 0
TakesIn old new d H.Memory = new ≡ old
TakesIn old new d answer = (answer ≡ life_answer old.endpoint d) × (new ≡ record old { endpoint = after_life old.endpoint d })

-- the state is as the answer to a datagram says
abbrev pub MachineHandles : Kept → Kept → Datagram → Handled → Type 0
MachineHandles old new d H.Memory = new ≡ old
MachineHandles old new d answer = (answer ≡ machine_handled old d d.body) × (new ≡ after_handled old d d.body)

-- the datagram would wait for an early place
unfoldable pub waits_in : Option EndpointView → Datagram → Bool
waits_in None d = false
waits_in (Some e) d = is_early (body_answer e d d.body)

-- the clock after the datagram was handled
abbrev pub handle_counted : Kept → Datagram → Kept
handle_counted k d = record k { clock = max k.clock d.stamp.0 + 1 }
