-- Granted bytes and read bytes land in the receive that they name.
use Rattle.std.proofs.Common.{◌≡◌, ℕ, ◌+◌, ◌-◌, Bool, true, false, cond, not, ◌&&◌, nat_le, eqb-true, List, [], ◌∷◌, map, length, Option, Some, None, refl, arith, sym, ◌∙◌, ap, subst}
use Rattle.std.specs.Bool.{then_some}
use Rattle.std.specs.Prelude.{is_some}
use Rattle.std.proofs.lemmas.Bool.{and_parts, not-false}
use Rattle.rdm_lists.specs.Lists.{each_below}
use Rattle.rdm_lists.proofs.Below.{each_below_at}
use Rattle.rdm_lists.proofs.Members.{find_member}
use Rattle.rdm_num.specs.Lives.{same_life}
use Rattle.rdm_num.specs.Pieces.{Piece, byte_at, byte_in, is_missing}
use Rattle.rdm_num.specs.declared.numbers.Life.{Life}
use Rattle.rdm_num.specs.declared.numbers.OpId.{OpId}
use Rattle.rdm_num.specs.declared.numbers.Connid.{Connid}
use Rattle.rdm_num.specs.declared.head.Shape.{Shape}
use Rattle.rdm_wire.specs.declared.ReadData.{ReadData}
use Rattle.rdm_num.proofs.Lives.{same_life-true, same_life-refl}
use Rattle.rdm_pkt.specs.declared.Packet.TheVariants.{CtsData}
use Rattle.rdm_match.specs.Matcher.{Pair, run, is_recv, is_pair}
use Rattle.rdm_model.specs.Beginnings.{Own}
use Rattle.rdm_model.specs.ClassFacts.{came_in_part, came_in_part_of}
use Rattle.rdm_model.specs.Classes.{is_no_op, is_overlap}
use Rattle.rdm_model.specs.Deeds.{Deed, Took, Item, Spelled, Gives}
use Rattle.rdm_model.specs.Grants.{first_part_by}
use Rattle.rdm_model.specs.Heard.{head_by, entering}
use Rattle.rdm_model.specs.Matches.{received_by, events_by, arrival}
use Rattle.rdm_model.specs.Parts.{piece_by, carried_by}
use Rattle.rdm_model.specs.Receives.{has_ended, recv_ends}
use Rattle.rdm_model.specs.Scenes.{Scene}
use Rattle.rdm_model.specs.Targets.{live_pair, has_shape, is_long_shape, is_read_shape}
use Rattle.rdm_model.proofs.Matches.{is_pair_member, member_is_pair}
use Rattle.rdm_law.proofs.Classes.Classed.{taken_parts}
use Rattle.rdm_law.proofs.Lives.Lives.{life_scene, LifeStep, LifeLocal}
use Rattle.rdm_law.proofs.Matching.Distinct.{matching_distinct}
use Rattle.rdm_law.proofs.Matching.Numbered.{matching_numbered}
use Rattle.rdm_law.proofs.Windows.Granted.{byte_ends}
use Rattle.rdm_life.specs.Keeps.{told, own_pairs}
use Rattle.rdm_life.proofs.CameWithin.{byte_starts}
use Rattle.rdm_life.proofs.EarlyWords.{first_still}
use Rattle.rdm_life.proofs.Made.{made, lists_before}
use Rattle.rdm_life.proofs.MatchingQuiet.{still_heard, none_enter}
use Rattle.rdm_life.proofs.TakenBy.{false_unless}
use Rattle.rdm_life.proofs.LandedPiece.{Brings}
use Rattle.rdm_life.proofs.Tests.{none_either}

-- ---- what a class says

-- what is not there is none
not_some : (o : Option ℕ) → not (is_some o) ≡ true → o ≡ None
not_some None h = refl
not_some (Some b) h = cc

-- no byte of a piece that is missing came before
pub missing_none : (ps : List Piece) (size : ℕ) (x : Piece) (place b : ℕ) → not (is_missing ps size x.offset (length x.bytes)) ≡ false → byte_in x place ≡ Some b → byte_at ps place ≡ None
unfolding is_missing
missing_none ps size x place b h is =
    let m = not-false (nat_le (x.offset + length x.bytes) size && each_below (λ k. not (is_some (byte_at ps (x.offset + k)))) (length x.bytes)) h in
    let parts = and_parts (nat_le (x.offset + length x.bytes) size) (each_below (λ k. not (is_some (byte_at ps (x.offset + k)))) (length x.bytes)) m in
    let low = byte_starts x place b is in
    let high = byte_ends x place b is in
    let k : ℕ = place - x.offset in
    let gone = each_below_at (λ k. not (is_some (byte_at ps (x.offset + k)))) (length x.bytes) k parts.1 (omega arith) in
    let e : x.offset + k ≡ place = omega arith in
    not_some (byte_at ps place) (subst (λ (y : ℕ). not (is_some (byte_at ps y)) ≡ true) e gone)

-- what names a live receive names its pair
live_some : (s : Scene) (t : Shape → Bool) (o : Option Pair) → not (has_shape s t o) ≡ false → (p : Pair) × (o ≡ Some p)
unfolding has_shape
live_some s t None h = cc
live_some s t (Some p) h = (p, refl)

-- ---- a deed that makes no pair

-- an item that lets no message enter makes none
pub made_none : (own : Own) (log : List Deed) (from : Life) (item : Item) → entering own.limits.first (Took from item) log from ≡ [] → made own (Took from item) log ≡ []
unfolding events_by run
made_none own log from item none = ap (λ (ns : List ℕ). (run (lists_before own log) (map (arrival (told own (Took from item ∷ log)).head from) ns)).pairs) none

-- ---- what bytes for a receive bring

-- an item that has a piece for the receive of that number, and tells of no message
record Names (n : ℕ) (x : Piece) (from : Life) (item : Item) : Type 0 where
  piece : (ps : List Pair) (source : Life) (k : ℕ) → piece_by ps source k item ≡ then_some (is_pair ps n source k) x
  silent : (k : ℕ) → head_by from k (Took from item) ≡ None
  first : (source : Life) (k : ℕ) → first_part_by source k (Took from item) ≡ None

-- it brings it for the pair of that receive
names_brings : (own : Own) (ports : ℕ) (port_log log : List Deed) (from : Life) (item : Item) (n : ℕ) (x : Piece) (o : Option Pair) → Names n x from item
    → live_pair (life_scene ports own port_log log) from n ≡ o → (p : Pair) → o ≡ Some p
    → came_in_part_of (life_scene ports own port_log log) x.offset (length x.bytes) o ≡ false → Brings own (Took from item) log p x × (p.recv.id.0 ≡ n)
unfolding carried_by received_by live_pair came_in_part_of came_in_part is_recv
names_brings own ports port_log log from item n x o names live p is fresh =
    let ps = own_pairs own log in
    let d : Deed = Took from item in
    let ended = has_ended (recv_ends own.limits.first (told own log).head log) n in
    let f = find_member (λ (q : Pair). is_recv n q.recv && same_life q.message.life from && not ended) p ps (live ∙ is) in
    let a = and_parts (is_recv n p.recv && same_life p.message.life from) (not ended) f.1 in
    let c = and_parts (is_recv n p.recv) (same_life p.message.life from) a.0 in
    let number : p.recv.id.0 ≡ n = eqb-true p.recv.id.0 n c.0 in
    let life : same_life from p.message.life ≡ true = subst (λ (l : Life). same_life from l ≡ true) (sym (same_life-true p.message.life from c.1)) (same_life-refl from) in
    let paired : is_pair ps n p.message.life p.message.no.0 ≡ true = subst (λ (k : ℕ). is_pair ps k p.message.life p.message.no.0 ≡ true) number (member_is_pair ps p f.0) in
    let whole = subst (λ (q : Option Pair). came_in_part_of (life_scene ports own port_log log) x.offset (length x.bytes) q ≡ false) is fresh in (
      record {
        member = f.0;
        going = subst (λ (k : ℕ). has_ended (recv_ends own.limits.first (told own log).head log) k ≡ false) (sym number) (not-true-false ended a.1);
        carries = ap (λ (b : Bool). cond b (piece_by ps p.message.life p.message.no.0 item) None) life ∙ names.piece ps p.message.life p.message.no.0 ∙ ap (λ (b : Bool). then_some b x) paired;
        fresh = λ place b at. missing_none _ _ x place b whole at;
        first_is = first_still d log p.message.life p.message.no.0 (names.first p.message.life p.message.no.0);
        others = λ q m other.
            let away : is_pair ps n q.message.life q.message.no.0 ≡ false = false_unless (is_pair ps n q.message.life q.message.no.0) (λ h.
            let r = is_pair_member ps n q.message.life q.message.no.0 h in
            let one = (matching_numbered own.limits.first (told own log).head log).once r.0 p r.1 f.0 (r.2 ∙ sym number) in
            let two = (matching_distinct own.limits.first (told own log).head log).once r.0 q r.1 m r.3 r.4 in
            other (sym two ∙ one)) in
            none_either (same_life from q.message.life) (piece_by ps q.message.life q.message.no.0 item) (names.piece ps q.message.life q.message.no.0 ∙ ap (λ (b : Bool). then_some b x) away);
        makes_none = made_none own log from item (none_enter own.limits.first d log from (λ k. still_heard log d from k (names.silent k)));
        accepts_none = refl;
      },
      number,
    )
  where
    not-true-false : (b : Bool) → not b ≡ true → b ≡ false
    not-true-false false h = refl
    not-true-false true h = cc

-- bytes that were granted
pub data_brings : (own : Own) (log : List Deed) (from : Life) (recv : OpId) (offset : ℕ) (connid : Connid) (bytes : List ℕ) → LifeLocal own (Took from (Spelled (CtsData recv offset connid bytes)) ∷ log)
    → (p : Pair) × Brings own (Took from (Spelled (CtsData recv offset connid bytes))) log p (record { offset = offset; bytes = bytes }) × (p.recv.id.0 ≡ recv.0)
unfolding is_no_op is_overlap piece_by head_by first_part_by
data_brings own log from recv offset connid bytes local =
    let item : Item = Spelled (CtsData recv offset connid bytes) in
    let step : LifeStep own log (Took from item) = local.1 in
    let s = life_scene step.0 own step.1 log in
    let taken = taken_parts s from own.life.connid item step.2 in
    let p = live_some s is_long_shape (live_pair s from recv.0) taken.has_op in
    let b = names_brings own step.0 step.1 log from item recv.0 (record { offset = offset; bytes = bytes }) (live_pair s from recv.0)
    (record { piece = λ ps source k. refl; silent = λ k. refl; first = λ source k. refl }) refl p.0 p.1 taken.new in
    (p.0, b.0, b.1)

-- bytes that were asked for
pub gives_brings : (own : Own) (log : List Deed) (from : Life) (g : ReadData) → LifeLocal own (Took from (Gives g) ∷ log)
    → (p : Pair) × Brings own (Took from (Gives g)) log p (record { offset = g.at; bytes = g.bytes }) × (p.recv.id.0 ≡ g.recv_id.0)
unfolding is_no_op is_overlap piece_by head_by first_part_by
gives_brings own log from g local =
    let item : Item = Gives g in
    let step : LifeStep own log (Took from item) = local.1 in
    let s = life_scene step.0 own step.1 log in
    let taken = taken_parts s from own.life.connid item step.2 in
    let p = live_some s is_read_shape (live_pair s from g.recv_id.0) taken.has_op in
    let b = names_brings own step.0 step.1 log from item g.recv_id.0 (record { offset = g.at; bytes = g.bytes }) (live_pair s from g.recv_id.0)
    (record { piece = λ ps source k. refl; silent = λ k. refl; first = λ source k. refl }) refl p.0 p.1 taken.new in
    (p.0, b.0, b.1)
