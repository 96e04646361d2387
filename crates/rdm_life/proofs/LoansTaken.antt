-- A datagram that no class fits, and whose bytes are missing, stays one over each deed that spares them, with the same bytes for the same
-- receive.
use Rattle.std.proofs.Common.{◌≡◌, ℕ, ◌+◌, ◌<◌, ◌≤◌, Bool, true, false, not, ◌&&◌, nat_lt, le-ltb, ltb-false, List, ◌∷◌, length, Option, Some, None, arith, refl, sym, ◌∙◌, ap, subst}
use Rattle.std.specs.Prelude.{option_map, is_none}
use Rattle.std.proofs.lemmas.Bool.{or_parts, or_from}
use Rattle.rdm_lists.proofs.Members.{find_member}
use Rattle.rdm_num.specs.Pieces.{Piece}
use Rattle.rdm_num.specs.declared.numbers.Life.{Life}
use Rattle.rdm_num.specs.declared.numbers.Connid.{Connid}
use Rattle.rdm_num.specs.declared.numbers.MsgNo.{MsgNo}
use Rattle.rdm_num.specs.declared.head.Head.{Head}
use Rattle.rdm_num.specs.declared.head.Shape.{Shape}
use Rattle.rdm_num.proofs.Lives.{same_life-refl}
use Rattle.rdm_hdr.specs.declared.Opt.{Opt}
use Rattle.rdm_pkt.specs.declared.Form.{Form}
use Rattle.rdm_pkt.specs.declared.Form.TheVariants.{Eager, Medium, LongCts, LongRead, Runt}
use Rattle.rdm_pkt.specs.declared.Packet.TheVariants.{Rtm, CtsData}
use Rattle.rdm_pkt.specs.Heads.{head_of, piece_of}
use Rattle.rdm_model.specs.Beginnings.{Own}
use Rattle.rdm_model.specs.ClassFacts.{ClassFacts}
use Rattle.rdm_model.specs.Classes.{is_bad_key, is_no_op, is_other_head, is_mismatch, repeats, is_overlap, item_class_by}
use Rattle.rdm_model.specs.Currents.{current, is_forgotten}
use Rattle.rdm_model.specs.Deeds.{Deed, is_connid, Item, Spelled, Gives}
use Rattle.rdm_model.specs.Sources.{is_other, has_raw}
use Rattle.rdm_model.specs.Targets.{is_long_shape, is_read_shape}
use Rattle.rdm_law.proofs.Lives.Lives.{LifeLocal}
use Rattle.rdm_law.proofs.Lives.Replaced.{not_forgotten}
use Rattle.rdm_life.specs.Kept.{Kept, EarlyMessage, LiveReceive, Matched, is_receive}
use Rattle.rdm_life.specs.Keeps.{Keeps, KeepsMatching, KeepsReceives}
use Rattle.rdm_life.specs.Handling.{receive_of, after}
use Rattle.rdm_life.specs.Facts.{head_in_receive, head_or_matched, came_or_outside, came_in_matched, came_in_receive, came_in_early, receive_from, matched_passes, class_facts_in}
use Rattle.rdm_life.specs.Lending.{Loan, range_of, brought, Spares}
use Rattle.rdm_life.proofs.TakenRead.{AllTakenRead}
use Rattle.rdm_life.proofs.RecordKept.{keeps_step}
use Rattle.rdm_life.proofs.LoansMatched.{IsUnclassed, unclassed, no_class, paired, found_by_message, paired_heard, paired_early}
use Rattle.rdm_life.proofs.LoansBrought.{TakesBytes, named_takes, packet_takes, heard_life}
use Rattle.rdm_life.proofs.LoansStay.{still_current, Stays, stays, found_from, passes_is, range_found}

-- ---- no class fits it then

-- the tests of lives say the same where the own life is the same and the source is current
unclassed_still : (f g : ClassFacts) (from : Life) (to : Connid) (item : Item) → IsUnclassed f from to item → g.now ≡ f.now → g.current from.port.0 ≡ Some from
    → is_bad_key g from item ≡ false → is_no_op g from item ≡ false → is_mismatch g from item ≡ false → is_overlap g from item ≡ false → IsUnclassed g from to item
unfolding is_other
unclassed_still f g from to item u now cur key op agrees new =
    record {
      for_life = ap (λ (o : Option Connid). not (is_connid o to)) now ∙ u.for_life;
      from_current = ap (λ (o : Option Life). is_other o from) cur ∙ ap not (same_life-refl from);
      well_formed = u.well_formed;
      known = ap (λ (o : Option Life). is_none o && not (has_raw item)) cur;
      good_key = key;
      has_op = op;
      agrees = agrees;
      new = new;
    }

-- what is kept before a deed and after it, of a datagram that no class fits and a range that the deed spares
record Lent (own : Own) (d : Deed) (log : List Deed) (v : Kept) (from : Life) (to : Connid) (item : Item) (l : Loan) : Type 0 where
  local : LifeLocal own (d ∷ log)
  fit : AllTakenRead (d ∷ log)
  keeps : Keeps own log v
  none : IsUnclassed (class_facts_in v) from to item
  some : 0 < l.len
  spares : Spares v d l

-- no class fits it after the deed, and its bytes are for the same receive
abbrev IsTakenStill : Own → Deed → List Deed → Kept → Life → Connid → Item → Loan → Type 0
IsTakenStill own d log v from to item l = (item_class_by (class_facts_in (after d v)) from to item ≡ None) × (brought (after d v) from item ≡ Some l)

-- the source is still current
lent_current : (own : Own) (d : Deed) (log : List Deed) (v : Kept) (from : Life) (to : Connid) (item : Item) (l : Loan) → Lent own d log v from to item l → TakesBytes v from l → current (d ∷ log) from.port.0 ≡ Some from
lent_current own d log v from to item l h t = still_current own d log v from l h.keeps t h.none.from_current h.spares

-- so no class fits it, by the tests of operations
lent_still : (own : Own) (d : Deed) (log : List Deed) (v : Kept) (from : Life) (to : Connid) (item : Item) (l : Loan) → Lent own d log v from to item l → TakesBytes v from l
    → is_bad_key (class_facts_in (after d v)) from item ≡ false → is_no_op (class_facts_in (after d v)) from item ≡ false → is_mismatch (class_facts_in (after d v)) from item ≡ false
    → is_overlap (class_facts_in (after d v)) from item ≡ false → item_class_by (class_facts_in (after d v)) from to item ≡ None
lent_still own d log v from to item l h t key op agrees new =
    let now = keeps_step own d log v h.fit h.local h.keeps in
    let same : (after d v).own ≡ v.own = now.lives.own_is ∙ sym h.keeps.lives.own_is in
    let cur = now.lives.current_is from.port.0 ∙ lent_current own d log v from to item l h t in
    no_class (class_facts_in (after d v)) from to item
    (unclassed_still (class_facts_in v) (class_facts_in (after d v)) from to item h.none (ap (λ (o : Own). Some o.life.connid) same) cur key op agrees new)

-- ---- granted bytes and read bytes

-- the range of a piece for a receive
abbrev range_at : (recv : ℕ) → Piece → Loan
range_at recv x = record { recv = recv; offset = x.offset; len = length x.bytes }

-- what the tests say of them after the deed
record NamedStill (v w : Kept) (from : Life) (recv : ℕ) (x : Piece) : Type 0 where
  shapes : (test : Shape → Bool) → matched_passes (λ (m : Matched). test m.head.shape) (receive_from w from recv) ≡ matched_passes (λ (m : Matched). test m.head.shape) (receive_from v from recv)
  grants : (end' : ℕ) → matched_passes (λ (m : Matched). nat_lt m.granted end') (receive_from v from recv) ≡ false → matched_passes (λ (m : Matched). nat_lt m.granted end') (receive_from w from recv) ≡ false
  new : matched_passes (λ (m : Matched). came_or_outside m.came m.head.length x.offset (length x.bytes)) (receive_from w from recv) ≡ false
  range : range_of (receive_from w from recv) (Some x) ≡ Some (range_at recv x)

-- no less is granted
no_less : (a b end' : ℕ) → a ≤ b → nat_lt a end' ≡ false → nat_lt b end' ≡ false
no_less a b end' more h =
    let under : end' ≤ a = ltb-false a end' h in
    let over : end' ≤ b = omega arith in
    le-ltb b end' over

-- by the receive that takes them
named_still : (v w : Kept) (from : Life) (recv : ℕ) (x : Piece) (t : TakesBytes v from (range_at recv x)) → Stays v w from (range_at recv x) t → NamedStill v w from recv x
named_still v w from recv x t s =
    let l = range_at recv x in
    record {
      shapes = λ test.
          passes_is w from l (λ (m : Matched). test m.head.shape) s.takes ∙ ap (λ (h : Head). test h.shape) s.same_head
          ∙ sym (passes_is v from l (λ (m : Matched). test m.head.shape) t);
      grants = λ end' under.
          passes_is w from l (λ (m : Matched). nat_lt m.granted end') s.takes
          ∙ no_less t.message.granted s.takes.message.granted end' s.grants_more (sym (passes_is v from l (λ (m : Matched). nat_lt m.granted end') t) ∙ under);
      new = passes_is w from l (λ (m : Matched). came_or_outside m.came m.head.length x.offset (length x.bytes)) s.takes ∙ s.takes.new;
      range = ap (λ (o : Option LiveReceive). range_of o (Some x)) (found_from w from l s.takes) ∙ range_found w from l s.takes x refl;
    }

-- ---- a packet of a message

-- what is kept of the message of a receive
record HeardOf (v : Kept) (from : Life) (n : ℕ) (l : Loan) (t : TakesBytes v from l) : Type 0 where
  receive : receive_of v from n ≡ Some t.receive
  early : v.early from n ≡ None
  heard : (v.peers from).heard n ≡ true

-- it was heard of, and is not early
heard_of : (own : Own) (log : List Deed) (v : Kept) (from : Life) (n : ℕ) (l : Loan) (t : TakesBytes v from l) → t.message.number ≡ n → KeepsMatching own log v → KeepsReceives own log v → is_forgotten log from ≡ false
    → HeardOf v from n l t
heard_of own log v from n l t number km kr kept =
    let f = find_member (is_receive l.recv) t.receive v.receives t.found in
    let p = paired own log v t.receive t.message kr f.0 t.matched in
    let at : (P : Life → ℕ → Type 0) → P t.message.source t.message.number → P from n = λ P h. subst (λ (j : Life). P j n) t.source_is (subst (λ (k : ℕ). P t.message.source k) number h) in
    let kept' : is_forgotten log t.message.source ≡ false = ap (is_forgotten log) t.source_is ∙ kept in
    record {
      receive = at (λ j k. receive_of v j k ≡ Some t.receive) (found_by_message own log v t.receive t.message kr p);
      early = at (λ j k. v.early j k ≡ None) (paired_early own log v t.receive t.message km kept' p);
      heard = at (λ j k. (v.peers j).heard k ≡ true) (paired_heard own log v t.receive t.message km kept' p);
    }

-- its head
head_is : (v : Kept) (from : Life) (n : ℕ) (l : Loan) (t : TakesBytes v from l) → HeardOf v from n l t → head_or_matched (v.early from n) (receive_of v from n) ≡ Some t.message.head
unfolding head_or_matched head_in_receive
head_is v from n l t h =
    ap (λ (o : Option EarlyMessage). head_or_matched o (receive_of v from n)) h.early ∙ ap head_in_receive h.receive ∙ ap (option_map (λ (m : Matched). m.head)) t.matched

-- which of its bytes came
came_is : (v : Kept) (from : Life) (n : ℕ) (l : Loan) (t : TakesBytes v from l) (offset len : ℕ) → HeardOf v from n l t
    → came_in_early (v.early from n) (receive_of v from n) offset len ≡ came_or_outside t.message.came t.message.head.length offset len
unfolding came_in_early came_in_receive came_in_matched
came_is v from n l t offset len h =
    ap (λ (o : Option EarlyMessage). came_in_early o (receive_of v from n) offset len) h.early
    ∙ ap (λ (o : Option LiveReceive). came_in_receive o offset len) h.receive
    ∙ ap (λ (o : Option Matched). came_in_matched o offset len) t.matched

-- a segment none of whose bytes came repeats nothing
repeats_still : (f g : ClassFacts) (from : Life) (n : ℕ) (form : Form) (x : Piece) → piece_of form ≡ Some x → repeats f from n form ≡ false → g.came_in_part from n x.offset (length x.bytes) ≡ false
    → repeats g from n form ≡ false
unfolding piece_of repeats
repeats_still f g from n (Eager bytes) x is h new = cc
repeats_still f g from n (LongCts size send credits bytes) x is h new = cc
repeats_still f g from n (LongRead size send iov) x is h new = cc
repeats_still f g from n (Medium size offset bytes) x is h new =
    let same : x ≡ record { offset = offset; bytes = bytes } = cc in
    subst (λ (y : Piece). g.came_in_part from n y.offset (length y.bytes) ≡ false) same new
repeats_still f g from n (Runt size send iov runt offset bytes) x is h new =
    let same : x ≡ record { offset = offset; bytes = bytes } = cc in
    subst (λ (y : Piece). g.came_in_part from n y.offset (length y.bytes) ≡ false) same new

-- the packet has no class, and its bytes are for the same receive
packet_still : (own : Own) (d : Deed) (log : List Deed) (v : Kept) (from : Life) (to : Connid) (number : MsgNo) (tag : Option ℕ) (confirm : Bool) (opt : Opt) (form : Form) (l : Loan)
    → Lent own d log v from to (Spelled (Rtm number tag confirm opt form)) l → brought v from (Spelled (Rtm number tag confirm opt form)) ≡ Some l
    → IsTakenStill own d log v from to (Spelled (Rtm number tag confirm opt form)) l
unfolding brought is_other is_bad_key is_no_op is_mismatch is_overlap
packet_still own d log v from to number tag confirm opt form l h is =
    let item : Item = Spelled (Rtm number tag confirm opt form) in
    let n = number.0 in
    let w = after d v in
    let now = keeps_step own d log v h.fit h.local h.keeps in
    let kept = heard_life own log v from to item h.local.0 h.keeps h.none in
    let tests = or_parts (nat_lt n v.own.limits.first) ((v.peers from).heard n && repeats (class_facts_in v) from n form) h.none.new in
    let t = packet_takes own log v from n form l h.keeps.matching h.keeps.receives kept tests.1 is in
    let s = stays own d log v from l h.local h.fit h.keeps h.some t.bytes h.spares in
    let cur = lent_current own d log v from to item l h t.bytes in
    let kept' = not_forgotten own (d ∷ log) from h.local (ap (λ (o : Option Life). is_other o from) cur ∙ ap not (same_life-refl from)) in
    let a = heard_of own log v from n l t.bytes t.number_is h.keeps.matching h.keeps.receives kept in
    let b = heard_of own (d ∷ log) w from n l s.takes (s.same_number ∙ t.number_is) now.matching now.receives kept' in
    let head : (class_facts_in w).head from n ≡ (class_facts_in v).head from n = head_is w from n l s.takes b ∙ ap Some s.same_head ∙ sym (head_is v from n l t.bytes a) in
    let first : w.own.limits.first ≡ v.own.limits.first = ap (λ (o : Own). o.limits.first) (now.lives.own_is ∙ sym h.keeps.lives.own_is) in
    let offset : t.piece.offset ≡ l.offset = ap (λ (k : Loan). k.offset) t.range_is in
    let len : length t.piece.bytes ≡ l.len = ap (λ (k : Loan). k.len) t.range_is in
    let came : (class_facts_in w).came_in_part from n t.piece.offset (length t.piece.bytes) ≡ false =
    ap (λ (k : ℕ). came_in_early (w.early from n) (receive_of w from n) k (length t.piece.bytes)) offset ∙ ap (came_in_early (w.early from n) (receive_of w from n) l.offset) len
    ∙ came_is w from n l s.takes l.offset l.len b ∙ s.takes.new in
    let fresh : repeats (class_facts_in v) from n form ≡ false = sym (ap (λ (c : Bool). c && repeats (class_facts_in v) from n form) a.heard) ∙ tests.1 in
    let new : repeats (class_facts_in w) from n form ≡ false = repeats_still (class_facts_in v) (class_facts_in w) from n form t.piece t.piece_is fresh came in (
      lent_still own d log v from to item l h t.bytes refl refl (ap (λ (o : Option Head). is_other_head o (head_of tag confirm opt form)) head ∙ h.none.agrees)
          (or_from (nat_lt n w.own.limits.first) ((w.peers from).heard n && repeats (class_facts_in w) from n form) (ap (nat_lt n) first ∙ tests.0)
          (ap (λ (c : Bool). c && repeats (class_facts_in w) from n form) b.heard ∙ new)),
      ap (λ (o : Option LiveReceive). range_of o (piece_of form)) b.receive ∙ ap (range_of (Some s.takes.receive)) t.piece_is ∙ range_found w from l s.takes t.piece t.range_is,
    )

-- ---- all of them

-- a datagram that no class fits stays one, with the same bytes for the same receive
pub still_taken : (own : Own) (d : Deed) (log : List Deed) (v : Kept) (from : Life) (to : Connid) (item : Item) (l : Loan) → LifeLocal own (d ∷ log) → AllTakenRead (d ∷ log) → Keeps own log v
    → item_class_by (class_facts_in v) from to item ≡ None → brought v from item ≡ Some l → 0 < l.len → Spares v d l
    → (item_class_by (class_facts_in (after d v)) from to item ≡ None) × (brought (after d v) from item ≡ Some l)
unfolding brought is_bad_key is_no_op is_mismatch is_overlap
still_taken own d log v from to (Spelled (Rtm number tag confirm opt form)) l local fit k none is some spares =
    let u = unclassed (class_facts_in v) from to (Spelled (Rtm number tag confirm opt form)) none in
    packet_still own d log v from to number tag confirm opt form l (record { local = local; fit = fit; keeps = k; none = u; some = some; spares = spares }) is
still_taken own d log v from to (Spelled (CtsData recv offset connid bytes)) l local fit k none is some spares =
    let item : Item = Spelled (CtsData recv offset connid bytes) in
    let x : Piece = record { offset = offset; bytes = bytes } in
    let u = unclassed (class_facts_in v) from to item none in
    let t = named_takes own log v from recv.0 x l k.receives u.new is in
    let at : (P : Loan → Type 0) → P l → P (range_at recv.0 x) = λ P h. subst P (sym t.1) h in
    let b : TakesBytes v from (range_at recv.0 x) = at (TakesBytes v from) t.0 in
    let h : Lent own d log v from to item (range_at recv.0 x) =
    record { local = local; fit = fit; keeps = k; none = u; some = at (λ j. 0 < j.len) some; spares = at (Spares v d) spares } in
    let s = named_still v (after d v) from recv.0 x b (stays own d log v from (range_at recv.0 x) local fit k h.some b h.spares) in (
      lent_still own d log v from to item (range_at recv.0 x) h b refl (ap not (s.shapes is_long_shape) ∙ u.has_op) (s.grants (offset + length bytes) u.agrees) s.new,
      s.range ∙ ap Some t.1,
    )
still_taken own d log v from to (Gives g) l local fit k none is some spares =
    let x : Piece = record { offset = g.at; bytes = g.bytes } in
    let n = g.recv_id.0 in
    let u = unclassed (class_facts_in v) from to (Gives g) none in
    let t = named_takes own log v from n x l k.receives u.new is in
    let at : (P : Loan → Type 0) → P l → P (range_at n x) = λ P h. subst P (sym t.1) h in
    let b : TakesBytes v from (range_at n x) = at (TakesBytes v from) t.0 in
    let h : Lent own d log v from to (Gives g) (range_at n x) = record { local = local; fit = fit; keeps = k; none = u; some = at (λ j. 0 < j.len) some; spares = at (Spares v d) spares } in
    let s = named_still v (after d v) from n x b (stays own d log v from (range_at n x) local fit k h.some b h.spares) in (
      lent_still own d log v from to (Gives g) (range_at n x) h b refl (ap not (s.shapes is_read_shape) ∙ u.has_op) refl s.new,
      s.range ∙ ap Some t.1,
    )
still_taken own d log v from to _ l local fit k none is some spares = cc
