-- What a datagram brings that no class fits: bytes of the message of a live receive, none of which came.
use Rattle.std.proofs.Common.{◌≡◌, ℕ, ◌<◌, Bool, true, false, ◌&&◌, nat_lt, List, length, Option, Some, None, refl, eqb-true, sym, ◌∙◌, ap, subst}
use Rattle.std.specs.Prelude.{◌==◌}
use Rattle.std.proofs.lemmas.Bool.{and_parts, or_parts}
use Rattle.rdm_lists.proofs.Members.{find_member}
use Rattle.rdm_num.specs.Lives.{same_life}
use Rattle.rdm_num.specs.Pieces.{Piece}
use Rattle.rdm_num.specs.declared.numbers.Life.{Life}
use Rattle.rdm_num.specs.declared.numbers.Connid.{Connid}
use Rattle.rdm_num.proofs.Lives.{same_life-true}
use Rattle.rdm_pkt.specs.declared.Form.{Form}
use Rattle.rdm_pkt.specs.declared.Form.TheVariants.{Eager, Medium, LongCts, LongRead, Runt}
use Rattle.rdm_pkt.specs.declared.Packet.TheVariants.{Rtm, CtsData}
use Rattle.rdm_pkt.specs.Heads.{piece_of}
use Rattle.rdm_model.specs.Beginnings.{Own}
use Rattle.rdm_model.specs.ClassFacts.{ClassFacts}
use Rattle.rdm_model.specs.Classes.{repeats, is_overlap, item_class_by}
use Rattle.rdm_model.specs.Currents.{is_forgotten}
use Rattle.rdm_model.specs.Deeds.{Deed, Item, Spelled, Gives}
use Rattle.rdm_model.specs.Sources.{is_other}
use Rattle.rdm_law.proofs.Lives.Lives.{LifeLocal}
use Rattle.rdm_law.proofs.Lives.Replaced.{not_forgotten}
use Rattle.rdm_life.specs.Kept.{Kept, EarlyMessage, LiveReceive, Matched, receive_numbered}
use Rattle.rdm_life.specs.Keeps.{Keeps, KeepsMatching, KeepsReceives}
use Rattle.rdm_life.specs.Handling.{is_message, receive_of}
use Rattle.rdm_life.specs.Facts.{came_or_outside, came_in_matched, came_in_receive, came_in_early, is_of, receive_from, passes, matched_passes, class_facts_in}
use Rattle.rdm_life.specs.Lending.{Loan, range_of, brought, IsMissing}
use Rattle.rdm_life.proofs.LoansMatched.{IsUnclassed, unclassed, new_within, new_missing, paired, found_by_number, paired_heard, paired_early}

-- the live receive of a range, whose message of that life has the range and none of its bytes
pub record TakesBytes (v : Kept) (from : Life) (l : Loan) : Type 0 where
  pub receive : LiveReceive
  pub found : receive_numbered v l.recv ≡ Some receive
  pub message : Matched
  pub matched : receive.matched ≡ Some message
  pub source_is : message.source ≡ from
  pub new : came_or_outside message.came message.head.length l.offset l.len ≡ false

-- so the range is missing
abbrev pub missing_of : (v : Kept) (from : Life) (l : Loan) → 0 < l.len → TakesBytes v from l → IsMissing v l
missing_of v from l some t =
    record {
      receive = t.receive;
      found = t.found;
      message = t.message;
      matched = t.matched;
      some_place = some;
      within = new_within t.message.came t.message.head.length l.offset l.len t.new;
      missing = new_missing t.message.came t.message.head.length l.offset l.len t.new;
    }

-- a range is that of a piece and a receive
range_parts : (o : Option LiveReceive) (p : Option Piece) (l : Loan) → range_of o p ≡ Some l
    → (r : LiveReceive) × (x : Piece) × (o ≡ Some r) × (p ≡ Some x) × (record { recv = r.receive.number; offset = x.offset; len = length x.bytes } ≡ l)
unfolding range_of
range_parts None p l h = cc
range_parts (Some r) None l h = cc
range_parts (Some r) (Some x) l h = (r, x, refl, refl, cc)

-- a message of that life
of_parts : (from : Life) (o : Option Matched) → is_of from o ≡ true → (m : Matched) × (o ≡ Some m) × (m.source ≡ from)
unfolding is_of
of_parts from None h = cc
of_parts from (Some m) h = (m, refl, same_life-true m.source from h)

-- granted bytes and read bytes go to the receive that they name
pub named_takes : (own : Own) (log : List Deed) (v : Kept) (from : Life) (recv : ℕ) (x : Piece) (l : Loan) → KeepsReceives own log v
    → matched_passes (λ (m : Matched). came_or_outside m.came m.head.length x.offset (length x.bytes)) (receive_from v from recv) ≡ false
    → range_of (receive_from v from recv) (Some x) ≡ Some l → TakesBytes v from l × (record { recv = recv; offset = x.offset; len = length x.bytes } ≡ l)
unfolding receive_from matched_passes passes
named_takes own log v from recv x l k new is =
    let test : Matched → Bool = λ m. came_or_outside m.came m.head.length x.offset (length x.bytes) in
    let b = range_parts (receive_from v from recv) (Some x) l is in
    let r = b.0 in
    let f = find_member (λ (q : LiveReceive). q.receive.number == recv && is_of from q.matched) r v.receives b.2 in
    let t = and_parts (r.receive.number == recv) (is_of from r.matched) f.1 in
    let m = of_parts from r.matched t.1 in
    let piece : b.1 ≡ x = cc in
    let number : r.receive.number ≡ recv = eqb-true r.receive.number recv t.0 in
    let same : record { recv = r.receive.number; offset = x.offset; len = length x.bytes } ≡ l =
    ap (λ (y : Piece). record { recv = r.receive.number; offset = y.offset; len = length y.bytes }) (sym piece) ∙ b.4 in
    let came : test m.0 ≡ false = sym (ap (passes test) m.1) ∙ sym (ap (matched_passes test) b.2) ∙ new in (
      subst (TakesBytes v from) same
          (record { receive = r; found = found_by_number own log v r m.0 k (paired own log v r m.0 k f.0 m.1); message = m.0; matched = m.1; source_is = m.2; new = came }),
      ap (λ (n : ℕ). record { recv = n; offset = x.offset; len = length x.bytes }) (sym number) ∙ same,
    )

-- a packet of a message that was heard of has a piece none of whose bytes came
pub repeats_none : (f : ClassFacts) (from : Life) (n : ℕ) (form : Form) (x : Piece) → piece_of form ≡ Some x → repeats f from n form ≡ false → f.came_in_part from n x.offset (length x.bytes) ≡ false
unfolding piece_of repeats
repeats_none f from n (Eager bytes) x is h = cc
repeats_none f from n (LongCts size send credits bytes) x is h = cc
repeats_none f from n (LongRead size send iov) x is h = cc
repeats_none f from n (Medium size offset bytes) x is h =
    let same : record { offset = offset; bytes = bytes } ≡ x = cc in
    subst (λ (y : Piece). f.came_in_part from n y.offset (length y.bytes) ≡ false) same h
repeats_none f from n (Runt size send iov runt offset bytes) x is h =
    let same : record { offset = offset; bytes = bytes } ≡ x = cc in
    subst (λ (y : Piece). f.came_in_part from n y.offset (length y.bytes) ≡ false) same h

-- a message of that number
message_parts : (from : Life) (n : ℕ) (o : Option Matched) → is_message from n o ≡ true → (m : Matched) × (o ≡ Some m) × (m.source ≡ from) × (m.number ≡ n)
unfolding is_message
message_parts from n None h = cc
message_parts from n (Some m) h =
    let t = and_parts (same_life m.source from) (m.number == n) h in
    (m, refl, same_life-true m.source from t.0, eqb-true m.number n t.1)

-- the receive that takes what a packet of a message brings
pub record TakesPacket (v : Kept) (from : Life) (n : ℕ) (form : Form) (l : Loan) : Type 0 where
  pub bytes : TakesBytes v from l
  pub number_is : bytes.message.number ≡ n
  pub piece : Piece
  pub piece_is : piece_of form ≡ Some piece
  pub range_is : record { recv = l.recv; offset = piece.offset; len = length piece.bytes } ≡ l

-- the bytes of a packet go to the live receive that takes its message
pub packet_takes : (own : Own) (log : List Deed) (v : Kept) (from : Life) (n : ℕ) (form : Form) (l : Loan) → KeepsMatching own log v → KeepsReceives own log v → is_forgotten log from ≡ false
    → ((v.peers from).heard n && repeats (class_facts_in v) from n form) ≡ false → range_of (receive_of v from n) (piece_of form) ≡ Some l → TakesPacket v from n form l
unfolding came_in_early came_in_receive came_in_matched
packet_takes own log v from n form l km kr kept new is =
    let b = range_parts (receive_of v from n) (piece_of form) l is in
    let r = b.0 in
    let x = b.1 in
    let f = find_member (λ (q : LiveReceive). is_message from n q.matched) r v.receives b.2 in
    let m = message_parts from n r.matched f.1 in
    let p = paired own log v r m.0 kr f.0 m.1 in
    let at : (P : Life → ℕ → Type 0) → P m.0.source m.0.number → P from n = λ P h. subst (λ (j : Life). P j n) m.2 (subst (λ (k : ℕ). P m.0.source k) m.3 h) in
    let kept' : is_forgotten log m.0.source ≡ false = ap (is_forgotten log) m.2 ∙ kept in
    let heard : (v.peers from).heard n ≡ true = at (λ j k. (v.peers j).heard k ≡ true) (paired_heard own log v r m.0 km kept' p) in
    let early : v.early from n ≡ None = at (λ j k. v.early j k ≡ None) (paired_early own log v r m.0 km kept' p) in
    let none : repeats (class_facts_in v) from n form ≡ false = sym (ap (λ (c : Bool). c && repeats (class_facts_in v) from n form) heard) ∙ new in
    let came : came_in_early (v.early from n) (receive_of v from n) x.offset (length x.bytes) ≡ false = repeats_none (class_facts_in v) from n form x b.3 none in
    let outside : came_or_outside m.0.came m.0.head.length x.offset (length x.bytes) ≡ false =
    sym (ap (λ (o : Option Matched). came_in_matched o x.offset (length x.bytes)) m.1)
    ∙ sym (ap (λ (o : Option LiveReceive). came_in_receive o x.offset (length x.bytes)) b.2)
    ∙ sym (ap (λ (o : Option EarlyMessage). came_in_early o (receive_of v from n) x.offset (length x.bytes)) early) ∙ came in
    subst (TakesPacket v from n form) b.4
    (record {
      bytes = record { receive = r; found = found_by_number own log v r m.0 kr p; message = m.0; matched = m.1; source_is = m.2; new = outside };
      number_is = m.3;
      piece = x;
      piece_is = b.3;
      range_is = refl;
    })

-- a datagram that no class fits is of a life that was not forgotten
pub heard_life : (own : Own) (log : List Deed) (v : Kept) (from : Life) (to : Connid) (item : Item) → LifeLocal own log → Keeps own log v → IsUnclassed (class_facts_in v) from to item → is_forgotten log from ≡ false
heard_life own log v from to item local k u =
    not_forgotten own log from local (ap (λ (o : Option Life). is_other o from) (sym (k.lives.current_is from.port.0)) ∙ u.from_current)

-- what it brings, a live receive takes
pub takes_bytes : (own : Own) (log : List Deed) (v : Kept) (from : Life) (to : Connid) (item : Item) (l : Loan) → LifeLocal own log → Keeps own log v
    → item_class_by (class_facts_in v) from to item ≡ None → brought v from item ≡ Some l → TakesBytes v from l
unfolding brought is_overlap
takes_bytes own log v from to (Spelled (Rtm number tag confirm opt form)) l local k none is =
    let u = unclassed (class_facts_in v) from to (Spelled (Rtm number tag confirm opt form)) none in
    let new = or_parts (nat_lt number.0 v.own.limits.first) ((v.peers from).heard number.0 && repeats (class_facts_in v) from number.0 form) u.new in
    (packet_takes own log v from number.0 form l k.matching k.receives (heard_life own log v from to (Spelled (Rtm number tag confirm opt form)) local k u) new.1 is).bytes
takes_bytes own log v from to (Spelled (CtsData recv offset connid bytes)) l local k none is =
    let u = unclassed (class_facts_in v) from to (Spelled (CtsData recv offset connid bytes)) none in
    (named_takes own log v from recv.0 (record { offset = offset; bytes = bytes }) l k.receives u.new is).0
takes_bytes own log v from to (Gives g) l local k none is =
    let u = unclassed (class_facts_in v) from to (Gives g) none in
    (named_takes own log v from g.recv_id.0 (record { offset = g.at; bytes = g.bytes }) l k.receives u.new is).0
takes_bytes own log v from to _ l local k none is = cc

-- so it is missing
pub brings_missing : (own : Own) (log : List Deed) (v : Kept) (from : Life) (to : Connid) (item : Item) (l : Loan) → LifeLocal own log → Keeps own log v
    → item_class_by (class_facts_in v) from to item ≡ None → brought v from item ≡ Some l → 0 < l.len → IsMissing v l
brings_missing own log v from to item l local k none is some = missing_of v from l some (takes_bytes own log v from to item l local k none is)
