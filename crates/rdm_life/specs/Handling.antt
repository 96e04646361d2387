-- What a datagram that is taken does, and what each deed does.
use Rattle.std.specs.Prelude.{ℕ, ◌+◌, Bool, true, false, ◌&&◌, ◌==◌, if◌then◌else◌, is_some, drop, find, List, [], ◌∷◌, Option, Some, None, slice_get, unwrap_or}
use Rattle.rdm_num.specs.Lives.{same_life}
use Rattle.rdm_lists.specs.Lists.{or_else}
use Rattle.rdm_num.specs.Pieces.{Piece, byte_in}
use Rattle.rdm_num.specs.declared.numbers.Life.{Life}
use Rattle.rdm_num.specs.declared.head.Head.{Head}
use Rattle.rdm_pkt.specs.declared.Packet.TheVariants.{Rtm, Cts, CtsData, Eor, Handshake, Receipt}
use Rattle.rdm_pkt.specs.declared.Form.{Form}
use Rattle.rdm_pkt.specs.Heads.{head_of, piece_of}
use Rattle.rdm_model.specs.declared.job.Instr.{Instr}
use Rattle.rdm_model.specs.declared.job.Instr.TheVariants.{Insert, Reg, Send, Recv, Cancel}
use Rattle.rdm_model.specs.Beginnings.{Own}
use Rattle.rdm_model.specs.Deeds.{Deed, Did, Pushed, Took, Polled, Item, Spelled, Asks, Gives}
use Rattle.rdm_model.specs.Grants.{first_part_in}
use Rattle.rdm_life.specs.Kept.{Kept, Peer, EarlyMessage, LiveReceive, Matched, nothing_kept, with_peer, is_send}
use Rattle.rdm_life.specs.Memory.{after_reg}
use Rattle.rdm_life.specs.Landing.{land}
use Rattle.rdm_life.specs.Lives.{after_insert, with_source, greet}
use Rattle.rdm_life.specs.Receiving.{after_recv, after_cancel, hear, enter, with_early}
use Rattle.rdm_life.specs.Sending.{after_send, after_push, after_grant, after_ask, is_send_of, end_sends}

-- the byte that a piece has at a place, if there is a piece
unfoldable pub byte_by : Option Piece → ℕ → Option ℕ
byte_by None place = None
byte_by (Some p) place = byte_in p place

-- the message that a packet opens
abbrev pub opened_by : Head → Form → EarlyMessage
opened_by head form = record { head = head; came = byte_by (piece_of form); first_part = unwrap_or (first_part_in form) 0 }

-- more of an early message came
abbrev pub with_more : Option Piece → EarlyMessage → EarlyMessage
with_more p e = record e { came = λ place. or_else (e.came place) (byte_by p place) }

-- the message is that one
unfoldable pub is_message : Life → (number : ℕ) → Option Matched → Bool
is_message source number None = false
is_message source number (Some m) = same_life m.source source && m.number == number

-- the live receive that was matched to the message
abbrev pub receive_of : Kept → Life → (number : ℕ) → Option LiveReceive
receive_of v source number = find (λ (r : LiveReceive). is_message source number r.matched) v.receives

-- a piece lands in a receive, where there are both
unfoldable pub land_found : Option LiveReceive → Option Piece → Kept → Kept
land_found (Some r) (Some p) v = land r.receive.number p v
land_found _ _ v = v

-- more of a message came: it is early, or a receive takes it
unfoldable pub add : Life → (number : ℕ) → Option Piece → Kept → Kept
add source number p v =
    if is_some (v.early source number) then with_early source number (with_more p) v else land_found (receive_of v source number) p v

-- a packet that opens a message: it was heard of, or it is new and lets messages enter
unfoldable pub after_rtm : Life → (number : ℕ) → Head → Form → Kept → Kept
after_rtm source number head form v =
    if (v.peers source).heard number then add source number (piece_of form) v else enter source (hear source number (opened_by head form) v)

-- what was taken does what it says
unfoldable pub after_item : Life → Item → Kept → Kept
after_item from (Spelled (Rtm number tag confirm opt form)) v = after_rtm from number.0 (head_of tag confirm opt form) form v
after_item from (Spelled (Cts send recv size connid)) v = after_grant send.0 recv.0 size v
after_item from (Spelled (CtsData recv offset connid bytes)) v = land recv.0 (record { offset = offset; bytes = bytes }) v
after_item from (Spelled (Eor send recv connid)) v = end_sends (is_send send.0) v
after_item from (Spelled (Handshake words connid raw)) v = with_peer from (λ (p : Peer). record p { known = or_else p.known (slice_get words 0) }) v
after_item from (Spelled (Receipt number connid)) v = end_sends (is_send_of from number.0) v
after_item from (Asks ask) v = after_ask from ask v
after_item from (Gives g) v = land g.recv_id.0 (record { offset = g.at; bytes = g.bytes }) v
after_item from _ v = v

-- a datagram of that life is taken
abbrev pub after_take : Life → Item → Kept → Kept
after_take from item v = after_item from item (greet true from None (with_source from v))

-- an instruction that did
unfoldable pub after_instr : Instr → Kept → Kept
after_instr (Insert life) v = after_insert life v
after_instr (Reg content) v = after_reg content v
after_instr (Send req) v = after_send req v
after_instr (Recv req) v = after_recv req v
after_instr (Cancel recv) v = after_cancel recv.0 v
after_instr _ v = v

-- the first completion was polled
abbrev pub after_poll : Kept → Kept
after_poll v = record v { completions = drop 1 v.completions; poll_count = v.poll_count + 1 }

-- a deed
unfoldable pub after : Deed → Kept → Kept
after (Did instr) v = after_instr instr v
after Pushed v = after_push v
after (Took from item) v = after_take from item v
after Polled v = after_poll v
after _ v = v

-- all that is kept of the deeds of a life
unfoldable pub kept : Own → List Deed → Kept
kept own [] = nothing_kept own
kept own (d ∷ before) = after d (kept own before)
