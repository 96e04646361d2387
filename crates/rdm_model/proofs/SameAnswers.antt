-- By two accounts that agree, each instruction has the same answer, the same goes out, and the same takes are early.
use Rattle.std.proofs.Common.{◌≡◌, ℕ, Option, Some, None, refl, ap}
use Rattle.rdm_num.specs.declared.numbers.Life.{Life}
use Rattle.rdm_num.specs.declared.numbers.Connid.{Connid}
use Rattle.rdm_pkt.specs.declared.Packet.TheVariants.{Rtm}
use Rattle.rdm_wire.specs.declared.Datagram.{Datagram}
use Rattle.rdm_wire.specs.declared.Body.{Body}
use Rattle.rdm_wire.specs.declared.Body.TheVariants.{Note, Between}
use Rattle.rdm_model.specs.declared.job.Instr.{Instr}
use Rattle.rdm_model.specs.Deeds.{Item, Spelled, item_of}
use Rattle.rdm_model.specs.Beginnings.{Messages}
use Rattle.rdm_model.specs.Scenes.{Scene}
use Rattle.rdm_model.specs.Facts.{Facts, facts_of, port_facts, regions_of, meets_receive, meets_send, is_unmatched}
use Rattle.rdm_model.specs.Answers.{answer_by, answer_of}
use Rattle.rdm_model.specs.Going.{life_going, going}
use Rattle.rdm_model.specs.Takes.{is_met, needs_place, needs_place_by, body_needs_place}
use Rattle.rdm_model.proofs.SameMatches.{matching_same}
use Rattle.rdm_model.proofs.SameReceives.{live_receives_same}
use Rattle.rdm_model.proofs.SameRegions.{Agree, regions_same, sends_same}
use Rattle.rdm_model.proofs.SameDues.{due_same, live_sends_same}
use Rattle.rdm_model.proofs.SameCompletions.{tx_count_same, rx_count_same, cq_count_same}

-- the scene by another account
abbrev pub by_account : Scene → Messages → Scene
by_account s ns = record s { ms = ns }

-- another account agrees with that of the scene
abbrev pub AgreesIn : Scene → Messages → Type 0
AgreesIn s ns = Agree s.own.limits.first s.ms ns s.log

-- the facts of the life are the same
facts_same : (s : Scene) (ns : Messages) → AgreesIn s ns → facts_of s ≡ facts_of (by_account s ns)
unfolding regions_of meets_receive meets_send is_unmatched
facts_same s ns a =
    let first = s.own.limits.first in
    let regions' = regions_same first s.ms ns s.log a in
    let receives' = live_receives_same first s.ms.head ns.head s.log a.heads in
    let live = live_sends_same s.own s.ms ns s.log a in
    let sents = sends_same s.own s.ms ns s.log a in
    let tx = tx_count_same s.own s.ms ns s.log a in
    let rx = rx_count_same s.own s.ms.head ns.head s.log a.heads in
    let cq = cq_count_same s.own s.ms ns s.log a in
    let posted = matching_same first s.ms.head ns.head s.log a.heads in
    rw (regions', receives', live, sents, tx, rx, cq, posted) refl

-- each instruction has the same answer
pub answer_same : (s : Scene) (ns : Messages) (instr : Instr) → AgreesIn s ns → answer_of s instr ≡ answer_of (by_account s ns) instr
answer_same s ns instr a = ap (λ (f : Facts). answer_by (port_facts s) f instr) (facts_same s ns a)

-- the open life sends the same next
life_going_same : (s : Scene) (ns : Messages) (now : Option Connid) → AgreesIn s ns → life_going now s ≡ life_going now (by_account s ns)
unfolding life_going
life_going_same s ns None a = refl
life_going_same s ns (Some connid) a = let t = due_same s.own s.ms ns s.log a in rw t refl

-- the same goes out next
pub going_same : (s : Scene) (ns : Messages) → AgreesIn s ns → going s ≡ going (by_account s ns)
unfolding going
going_same s ns a = let g = life_going_same s ns s.now a in rw g refl

-- a message is met by both or by neither
is_met_same : (s : Scene) (ns : Messages) (from : Life) (number : ℕ) (tag : Option ℕ) → AgreesIn s ns
    → is_met s from number tag ≡ is_met (by_account s ns) from number tag
unfolding is_met
is_met_same s ns from number tag a = let m = matching_same s.own.limits.first s.ms.head ns.head s.log a.heads in rw m refl

-- an item needs an early place by both or by neither
needs_place_same : (s : Scene) (ns : Messages) (from : Life) (item : Item) → AgreesIn s ns → needs_place s from item ≡ needs_place (by_account s ns) from item
unfolding needs_place_by
needs_place_same s ns from (Spelled (Rtm number tag confirm opt form)) a = let m = is_met_same s ns from number.0 tag a in rw m refl
needs_place_same s ns from _ a = refl

-- so does a datagram
pub body_needs_place_same : (s : Scene) (ns : Messages) (d : Datagram) (body : Body) → AgreesIn s ns
    → body_needs_place s d body ≡ body_needs_place (by_account s ns) d body
unfolding body_needs_place
body_needs_place_same s ns d (Note note) a = refl
body_needs_place_same s ns d (Between from to load) a = needs_place_same s ns _ (item_of load) a
