-- What comes over the wire is read from bytes, so that each packet meets its conditions, and segments have bytes.
use Rattle.std.proofs.Common.{◌≡◌, ℕ, ◌<◌, true, false, ◌&&◌, nat_le, leb-true, List, [], ◌∷◌, length, Option, Some, None, refl, subst}
use Rattle.std.specs.Prelude.{slice_get, option_and_then, bytes_eq}
use Rattle.std.specs.Bool.{then_some}
use Rattle.std.proofs.lemmas.Bool.{and_parts}
use Rattle.rdm_num.specs.declared.numbers.Connid.{Connid}
use Rattle.rdm_num.specs.declared.numbers.PortNo.{PortNo}
use Rattle.rdm_pkt.specs.declared.Packet.{Packet}
use Rattle.rdm_pkt.specs.declared.Packet.TheVariants.{Rtm}
use Rattle.rdm_pkt.specs.declared.Form.{Form}
use Rattle.rdm_pkt.specs.declared.Form.TheVariants.{Eager, Medium, LongCts, LongRead, Runt}
use Rattle.rdm_hdr.specs.Fields.{number_at, fields_fit}
use Rattle.rdm_pkt.specs.Grammar.{form_fits, packet_fits, fits, confirm_fits, opt_fits, layout, spelling}
use Rattle.rdm_pkt.specs.Reading.{Row, packet_in, if_spelled, row_of, values_at}
use Rattle.rdm_wire.specs.declared.Load.{Load}
use Rattle.rdm_wire.specs.declared.Load.TheVariants.{Packet as PacketLoad, Ask, Given}
use Rattle.rdm_wire.specs.declared.Body.{Body}
use Rattle.rdm_wire.specs.declared.Body.TheVariants.{Note, Between}
use Rattle.rdm_model.specs.declared.job.Job.{Job}
use Rattle.rdm_model.specs.declared.job.Instr.{Instr}
use Rattle.rdm_model.specs.declared.answer.Next.{Next as Answer}
use Rattle.rdm_model.specs.declared.answer.Next.TheVariants.{Did as DidAnswer}
use Rattle.rdm_model.specs.declared.answer.Handled.{Handled}
use Rattle.rdm_model.specs.declared.answer.Handled.TheVariants.{Took as TookAnswer}
use Rattle.rdm_model.specs.declared.entry.Entry.{Entry}
use Rattle.rdm_model.specs.declared.entry.Act.{Act}
use Rattle.rdm_model.specs.declared.entry.Act.TheVariants.{Next, Push, Handle, Poll}
use Rattle.rdm_model.specs.Beginnings.{rank_of}
use Rattle.rdm_model.specs.Deeds.{Deed, Took, Item, Spelled, packet_item, item_of, deed_of, deed_by_next, deed_by_push, deed_by_handle, deeds, of_life}
use Rattle.rdm_model.specs.Scenes.{deeds_at}
use Rattle.rdm_law.proofs.Lives.Lives.{at_of_life}

-- a segment that has some byte, as packets have it
abbrev pub FormHasBytes : Form → Type 0
FormHasBytes (Medium size offset bytes) = 0 < length bytes
FormHasBytes (Runt size send iov runt offset bytes) = 0 < length bytes
FormHasBytes _ = Unit {0}

-- what comes has bytes where it is a segment
abbrev pub HasBytes : Item → Type 0
HasBytes (Spelled (Rtm number tag confirm opt form)) = FormHasBytes form
HasBytes _ = Unit {0}

-- an item that is a packet meets its conditions, as one that is read from bytes does
abbrev pub ItemIsRead : Item → Type 0
ItemIsRead (Spelled p) = packet_fits p ≡ true
ItemIsRead _ = Unit {0}

-- what a deed takes does
abbrev pub TakenIsRead : Deed → Type 0
TakenIsRead (Took from item) = ItemIsRead item
TakenIsRead _ = Unit {0}

-- and so does what each of them takes
abbrev pub AllTakenRead : List Deed → Type 0
AllTakenRead [] = Unit {0}
AllTakenRead (d ∷ log) = AllTakenRead log × TakenIsRead d

-- the grammar has no empty segment
form_has_bytes : (form : Form) → form_fits form ≡ true → FormHasBytes form
unfolding form_fits
form_has_bytes (Eager bytes) h = tt
form_has_bytes (Medium size offset bytes) h = leb-true 1 (length bytes) (and_parts (nat_le 1 (length bytes)) _ h).0
form_has_bytes (LongCts size send credits bytes) h = tt
form_has_bytes (LongRead size send iov) h = tt
form_has_bytes (Runt size send iov runt offset bytes) h =
    leb-true 1 (length bytes) (and_parts _ (nat_le 1 (length bytes)) (and_parts _ _ (and_parts _ _ (and_parts _ _ h).0).0).0).1

-- nor a packet that fits it
packet_has_bytes : (p : Packet) → packet_fits p ≡ true → HasBytes (Spelled p)
unfolding packet_fits
packet_has_bytes (Rtm number tag confirm opt form) h = form_has_bytes form (and_parts (confirm_fits confirm form && opt_fits opt) (form_fits form) h).1
packet_has_bytes _ h = tt

-- so what fits it has bytes where it is a segment
pub item_has_bytes : (item : Item) → ItemIsRead item → HasBytes item
item_has_bytes (Spelled p) h = packet_has_bytes p h
item_has_bytes _ h = tt

-- what bytes are read as fits the grammar
spelled_fits : (bytes : List ℕ) (p q : Packet) → if_spelled bytes p ≡ Some q → packet_fits q ≡ true
unfolding if_spelled fits
spelled_fits bytes p q h =
    (elim (fits p && bytes_eq (spelling p) bytes) as (λ b. (fits p && bytes_eq (spelling p) bytes) ≡ b → then_some b p ≡ Some q → packet_fits q ≡ true) [
      | true ↦ λ e k. (
          let f = and_parts (fits p) (bytes_eq (spelling p) bytes) e in
          let same : p ≡ q = cc in
          subst (λ (x : Packet). packet_fits x ≡ true) same (and_parts (packet_fits p) (fields_fit (layout p)) f.0).0)
      | false ↦ λ e k. cc
    ]) refl h

-- by the row of its first byte
row_fits : (bytes : List ℕ) (row : Option Row) (o : Option Packet) → option_and_then (λ (r : Row). if_spelled bytes (values_at r bytes)) row ≡ o → ItemIsRead (packet_item o)
unfolding packet_item
row_fits bytes row None h = tt
row_fits bytes None (Some p) h = cc
row_fits bytes (Some r) (Some p) h = spelled_fits bytes (values_at r bytes) p h

-- whatever comes over the wire
pub load_fits : (load : Load) → ItemIsRead (item_of load)
unfolding item_of packet_in
load_fits (PacketLoad bytes) = row_fits bytes (row_of (number_at 0 1 bytes)) _ refl
load_fits (Ask ask) = tt
load_fits (Given data') = tt

-- what an answer makes of a datagram
handled_fits : (src : PortNo) (body : Body) (answer : Handled) → TakenIsRead (deed_by_handle src body answer)
unfolding deed_by_handle
handled_fits src (Note note) (TookAnswer entered) = tt
handled_fits src (Between from to load) (TookAnswer entered) = load_fits load
handled_fits src _ _ = tt

-- an instruction takes nothing
next_fits : (o : Option Instr) (answer : Answer) → TakenIsRead (deed_by_next o answer)
unfolding deed_by_next
next_fits (Some instr) (DidAnswer what) = tt
next_fits _ _ = tt

-- nor does a push
push_fits : (body : Body) → TakenIsRead (deed_by_push body)
unfolding deed_by_push
push_fits (Note note) = tt
push_fits (Between from to load) = tt

-- so it is with whatever a port does
pub act_fits : (ops : List Instr) (act : Act) → TakenIsRead (deed_of ops act)
unfolding deed_of
act_fits ops (Next index op answer) = next_fits (slice_get ops index) answer
act_fits ops (Push d) = push_fits d.body
act_fits ops (Handle d answer) = handled_fits d.src d.body answer
act_fits ops (Poll c) = tt

-- and with the deeds of each of its lives
pub deeds_fit : (job : Job) (port : ℕ) (connid : Connid) (entries : List Entry) → AllTakenRead (of_life connid (deeds_at job port entries))
unfolding deeds_at deeds of_life
deeds_fit job port connid [] = tt
deeds_fit job port connid (e ∷ before) =
    let rest = deeds_fit job port connid before in
    at_of_life AllTakenRead connid (deed_of (rank_of job port).ops e.act) (deeds_at job port before)
    (λ s. (rest, act_fits (rank_of job port).ops e.act)) (λ s. rest)
