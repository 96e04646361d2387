-- What a life takes comes for the first time.
use Rattle.std.proofs.Common.{◌≡◌, ℕ, ◌+◌, ◌-◌, ◌<◌, ◌≤◌, Bool, true, false, ◌&&◌, not, List, [], ◌∷◌, length, Option, Some, None, refl, arith, ◌⊎◌, inl, inr, sym, ◌∙◌, ap, subst}
use Rattle.std.specs.Prelude.{◌==◌, is_some, IsFalse, nat_le, nat_lt}
use Rattle.std.proofs.lemmas.Bool.{and_parts, not-true, cases_lt, eqb-true, or_parts, not-false}
use Rattle.rdm_lists.specs.Lists.{Member, or_else, each_below}
use Rattle.rdm_num.specs.Lives.{same_life}
use Rattle.rdm_num.specs.Pieces.{Piece, overlaps, byte_in, byte_at, is_missing}
use Rattle.rdm_num.specs.declared.numbers.Life.{Life}
use Rattle.rdm_num.specs.declared.numbers.MsgNo.{MsgNo}
use Rattle.rdm_num.specs.declared.head.Shape.{Shape}
use Rattle.rdm_num.specs.declared.numbers.OpId.{OpId}
use Rattle.rdm_num.specs.declared.numbers.Connid.{Connid}
use Rattle.rdm_wire.specs.declared.ReadData.{ReadData}
use Rattle.rdm_hdr.specs.declared.Opt.{Opt}
use Rattle.rdm_pkt.specs.declared.Form.{Form}
use Rattle.rdm_pkt.specs.declared.Form.TheVariants.{Eager, Medium, LongCts, LongRead, Runt}
use Rattle.rdm_pkt.specs.declared.Packet.TheVariants.{Rtm, CtsData}
use Rattle.rdm_pkt.specs.Heads.{piece_of}
use Rattle.rdm_match.specs.Matcher.{Pair, is_pair, is_recv}
use Rattle.rdm_model.specs.Deeds.{Deed, Took, Item, Spelled, Gives}
use Rattle.rdm_model.specs.Beginnings.{Own}
use Rattle.rdm_model.specs.Heard.{is_heard, heard_head}
use Rattle.rdm_model.specs.Matches.{pairs}
use Rattle.rdm_model.specs.Receives.{recv_ends, has_ended}
use Rattle.rdm_model.specs.Parts.{carried_by, carried_pieces}
use Rattle.rdm_model.specs.Scenes.{Scene}
use Rattle.rdm_model.specs.Targets.{live_pair, has_shape, is_long_shape, is_read_shape}
use Rattle.rdm_model.specs.ClassFacts.{came_in_part, came_in_part_of, class_facts}
use Rattle.rdm_model.specs.Classes.{repeats, is_overlap, is_no_op}
use Rattle.rdm_model.specs.Lawful.{IsApart}
use Rattle.rdm_model.specs.Local.{heard_by}
use Rattle.rdm_model.proofs.Matches.{is_pair_member}
use Rattle.rdm_model.proofs.Rows.{byte_in_some, overlap_parts}
use Rattle.rdm_law.proofs.Lives.Lives.{LifeStep, life_scene}
use Rattle.rdm_law.proofs.Classes.Classed.{taken_parts}
use Rattle.rdm_law.proofs.Matching.Numbered.{matching_numbered}
use Rattle.rdm_law.proofs.Accounts.Carried.{Brought, carried_parts, carried_heard}
use Rattle.rdm_lists.proofs.Members.{find_member}
use Rattle.rdm_lists.proofs.Below.{each_below_at}
use Rattle.rdm_num.proofs.Lives.{same_life-true}

-- a byte of one of the pieces is there
pub piece_at : (ps : List Piece) (q : Piece) (place : ℕ) → Member q ps → q.offset ≤ place → place < q.offset + length q.bytes → is_some (byte_at ps place) ≡ true
unfolding byte_at or_else
piece_at [] q place h l u = elim h [ ]
piece_at (p ∷ ps) q place h l u =
    (elim (byte_in p place) as (λ o. byte_in p place ≡ o → is_some (or_else o (byte_at ps place)) ≡ true) [
      | Some b ↦ λ e. refl
      | None ↦ λ e. elim h [
        | inl is ↦ (let s = byte_in_some q place l u in let f : byte_in q place ≡ None = ap (λ (x : Piece). byte_in x place) (sym is) ∙ e in cc)
        | inr m ↦ piece_at ps q place m l u
      ]
    ]) refl

-- what is missing is apart from what came
pub missing_apart : (ps : List Piece) (size offset len : ℕ) (q : Piece) → is_missing ps size offset len ≡ true → Member q ps → IsFalse (overlaps offset len q.offset (length q.bytes))
unfolding is_missing
missing_apart ps size offset len q m h =
    let missing = (and_parts (nat_le (offset + len) size) (each_below (λ k. not (is_some (byte_at ps (offset + k)))) len) m).1 in
    (elim (overlaps offset len q.offset (length q.bytes)) as (λ b. overlaps offset len q.offset (length q.bytes) ≡ b → b ≡ false) [
      | false ↦ λ e. refl
      | true ↦ λ e.
          let o = overlap_parts offset len q.offset (length q.bytes) e in
          let a = o.0 in
          let b = o.1 in
          let c = o.2 in
          let d = o.3 in
          elim (cases_lt q.offset offset) [
            | inr low ↦ absurd (
                let gone = not-true (is_some (byte_at ps (offset + (q.offset - offset)))) (each_below_at (λ k. not (is_some (byte_at ps (offset + k)))) len (q.offset - offset) missing (omega arith)) in
                let here = piece_at ps q (offset + (q.offset - offset)) h (omega arith) (omega arith) in
                cc)
            | inl high ↦ absurd (
                let gone = not-true (is_some (byte_at ps (offset + 0))) (each_below_at (λ k. not (is_some (byte_at ps (offset + k)))) len 0 missing (omega arith)) in
                let here = piece_at ps q (offset + 0) h (omega arith) (omega arith) in
                cc)
          ]
    ]) refl

-- bytes that are not taken are missing
not_taken : (s : Scene) (source : Life) (n offset len : ℕ) → came_in_part s source n offset len ≡ false
    → is_missing (carried_pieces s.own.limits.first s.ms.head s.log source n) (s.ms.head source n).length offset len ≡ true
unfolding came_in_part
not_taken s source n offset len h = not-false (is_missing (carried_pieces s.own.limits.first s.ms.head s.log source n) (s.ms.head source n).length offset len) h

-- the pair of a live receive is of that receive and life, and the receive has not ended
pub record LivePair (s : Scene) (from : Life) (n : ℕ) (p : Pair) : Type 0 where
  pub member : Member p (pairs s.own.limits.first s.ms.head s.log)
  pub recv_is : p.recv.id.0 ≡ n
  pub life_is : p.message.life ≡ from
  pub live : has_ended (recv_ends s.own.limits.first s.ms.head s.log) n ≡ false

-- the pair that is found is of that receive and life
pub live_pair_parts : (s : Scene) (from : Life) (n : ℕ) (p : Pair) → live_pair s from n ≡ Some p → LivePair s from n p
unfolding live_pair is_recv
live_pair_parts s from n p h =
    let m = find_member (λ (p : Pair). is_recv n p.recv && same_life p.message.life from && not (has_ended (recv_ends s.own.limits.first s.ms.head s.log) n)) p
    (pairs s.own.limits.first s.ms.head s.log) h in
    let a = and_parts (is_recv n p.recv && same_life p.message.life from) (not (has_ended (recv_ends s.own.limits.first s.ms.head s.log) n)) m.1 in
    let b = and_parts (p.recv.id.0 == n) (same_life p.message.life from) a.0 in
    record { member = m.0; recv_is = eqb-true p.recv.id.0 n b.0; life_is = same_life-true p.message.life from b.1; live = not-true _ a.1 }

-- a shape that passes is of a pair
shaped : (s : Scene) (test : Shape → Bool) (o : Option Pair) → has_shape s test o ≡ true → (p : Pair) × (o ≡ Some p)
unfolding has_shape
shaped s test None h = cc
shaped s test (Some p) h = (p, refl)

-- bytes for the pair of a live receive that are not taken are missing from the message that the receive was matched to
pair_missing : (s : Scene) (from : Life) (recv n offset len : ℕ) (p : Pair) → live_pair s from recv ≡ Some p → is_pair (pairs s.own.limits.first s.ms.head s.log) recv from n ≡ true
    → came_in_part_of s offset len (Some p) ≡ false → is_missing (carried_pieces s.own.limits.first s.ms.head s.log from n) (s.ms.head from n).length offset len ≡ true
unfolding came_in_part_of
pair_missing s from recv n offset len p h k t =
    let l = live_pair_parts s from recv p h in
    let q = is_pair_member (pairs s.own.limits.first s.ms.head s.log) recv from n k in
    let same : p ≡ q.0 = (matching_numbered s.own.limits.first s.ms.head s.log).once p q.0 l.member q.1 (l.recv_is ∙ sym q.2) in
    let life : p.message.life ≡ from = l.life_is in
    let number : p.message.no.0 ≡ n = ap (λ (x : Pair). x.message.no.0) same ∙ q.4 in
    let P : Life → ℕ → Type 0 = λ l o. is_missing (carried_pieces s.own.limits.first s.ms.head s.log l o) (s.ms.head l o).length offset len ≡ true in
    subst (λ o. P from o) number (subst (λ l. P l p.message.no.0) life (not_taken s p.message.life p.message.no.0 offset len t))

-- bytes for a live receive that are not taken are missing
data_missing : (s : Scene) (from : Life) (recv n offset len : ℕ) (test : Shape → Bool) (o : Option Pair) → live_pair s from recv ≡ o
    → has_shape s test o ≡ true → is_pair (pairs s.own.limits.first s.ms.head s.log) recv from n ≡ true → came_in_part_of s offset len o ≡ false
    → is_missing (carried_pieces s.own.limits.first s.ms.head s.log from n) (s.ms.head from n).length offset len ≡ true
data_missing s from recv n offset len test None h sh k t = (let x = shaped s test None sh in let e = x.1 in cc)
data_missing s from recv n offset len test (Some p) h sh k t = pair_missing s from recv n offset len p h k t

-- a piece of an opening that is not a repeat is missing, where its message was heard of before
opening_missing : (s : Scene) (from : Life) (n : ℕ) (form : Form) (x : Piece) → repeats (class_facts s) from n form ≡ false → piece_of form ≡ Some x
    → is_missing (carried_pieces s.own.limits.first s.ms.head s.log from n) (s.ms.head from n).length x.offset (length x.bytes) ≡ true
unfolding repeats piece_of
opening_missing s from n (Medium size offset bytes) x h e =
    let P : Piece → Type 0 = λ y. is_missing (carried_pieces s.own.limits.first s.ms.head s.log from n) (s.ms.head from n).length y.offset (length y.bytes) ≡ true in
    let f : record { offset = offset; bytes = bytes } ≡ x = cc in
    subst P f (not_taken s from n offset (length bytes) h)
opening_missing s from n (Runt size send iov runt offset bytes) x h e =
    let P : Piece → Type 0 = λ y. is_missing (carried_pieces s.own.limits.first s.ms.head s.log from n) (s.ms.head from n).length y.offset (length y.bytes) ≡ true in
    let f : record { offset = offset; bytes = bytes } ≡ x = cc in
    subst P f (not_taken s from n offset (length bytes) h)
opening_missing s from n (Eager bytes) x h e = cc
opening_missing s from n (LongCts size send credits bytes) x h e = cc
opening_missing s from n (LongRead size send iov) x h e = cc

-- where not both of two tests hold
and_false : (a b : Bool) → (a && b) ≡ false → (a ≡ false) ⊎ ((a ≡ true) × (b ≡ false))
and_false true b h = inr (refl, h)
and_false false b h = inl refl

-- a packet that opens a message and is taken has new bytes
rtm_new : (s : Scene) (from : Life) (n : ℕ) (tag : Option ℕ) (confirm : Bool) (opt : Opt) (number : MsgNo) (form : Form) (x : Piece) → number.0 ≡ n
    → is_overlap (class_facts s) from (Spelled (Rtm number tag confirm opt form)) ≡ false → piece_of form ≡ Some x
    → IsApart x (carried_pieces s.own.limits.first s.ms.head s.log from n)
unfolding is_overlap is_heard
rtm_new s from n tag confirm opt number form x e h is q m =
    let o = (or_parts (nat_lt number.0 s.own.limits.first) (is_some (heard_head s.log from number.0) && repeats (class_facts s) from number.0 form) h).1 in
    elim (and_false (is_some (heard_head s.log from number.0)) (repeats (class_facts s) from number.0 form) o) [
      | inl a ↦ absurd (
          let heard = carried_heard s.own.limits.first s.ms.head s.log from n q m in
          let not_heard : is_some (heard_head s.log from n) ≡ false = subst (λ k. is_some (heard_head s.log from k) ≡ false) e a in
          cc)
      | inr a ↦
          let r : repeats (class_facts s) from n form ≡ false = subst (λ k. repeats (class_facts s) from k form ≡ false) e a.1 in
          missing_apart (carried_pieces s.own.limits.first s.ms.head s.log from n) (s.ms.head from n).length x.offset (length x.bytes) q (opening_missing s from n form x r is) m
    ]

-- granted bytes that are taken are missing
granted_missing : (s : Scene) (from : Life) (n : ℕ) (x : Piece) (recv : OpId) (connid : Connid) → is_no_op (class_facts s) from (Spelled (CtsData recv x.offset connid x.bytes)) ≡ false
    → is_overlap (class_facts s) from (Spelled (CtsData recv x.offset connid x.bytes)) ≡ false → is_pair (pairs s.own.limits.first s.ms.head s.log) recv.0 from n ≡ true
    → is_missing (carried_pieces s.own.limits.first s.ms.head s.log from n) (s.ms.head from n).length x.offset (length x.bytes) ≡ true
unfolding is_no_op is_overlap
granted_missing s from n x recv connid op over paired =
    data_missing s from recv.0 n x.offset (length x.bytes) is_long_shape (live_pair s from recv.0) refl (not-false (has_shape s is_long_shape (live_pair s from recv.0)) op) paired over

-- read bytes that are taken are missing
given_missing : (s : Scene) (from : Life) (n : ℕ) (g : ReadData) → is_no_op (class_facts s) from (Gives g) ≡ false → is_overlap (class_facts s) from (Gives g) ≡ false
    → is_pair (pairs s.own.limits.first s.ms.head s.log) g.recv_id.0 from n ≡ true
    → is_missing (carried_pieces s.own.limits.first s.ms.head s.log from n) (s.ms.head from n).length g.at (length g.bytes) ≡ true
unfolding is_no_op is_overlap
given_missing s from n g op over paired =
    data_missing s from g.recv_id.0 n g.at (length g.bytes) is_read_shape (live_pair s from g.recv_id.0) refl (not-false (has_shape s is_read_shape (live_pair s from g.recv_id.0)) op) paired over

-- a piece that is brought is apart from those that came
brought_new : (s : Scene) (from : Life) (n : ℕ) (item : Item) (x : Piece) → is_no_op (class_facts s) from item ≡ false → is_overlap (class_facts s) from item ≡ false
    → Brought (pairs s.own.limits.first s.ms.head s.log) from n item x → IsApart x (carried_pieces s.own.limits.first s.ms.head s.log from n)
brought_new s from n item x op over (inl b) q m =
    rtm_new s from n b.tag b.confirm b.opt b.number b.form x b.number_is (subst (λ (i : Item). is_overlap (class_facts s) from i ≡ false) b.is over) b.piece_is q m
brought_new s from n item x op over (inr (inl b)) q m =
    let o : is_no_op (class_facts s) from (Spelled (CtsData b.recv x.offset b.connid x.bytes)) ≡ false = subst (λ (i : Item). is_no_op (class_facts s) from i ≡ false) b.is op in
    let v : is_overlap (class_facts s) from (Spelled (CtsData b.recv x.offset b.connid x.bytes)) ≡ false = subst (λ (i : Item). is_overlap (class_facts s) from i ≡ false) b.is over in
    missing_apart (carried_pieces s.own.limits.first s.ms.head s.log from n) (s.ms.head from n).length x.offset (length x.bytes) q
    (granted_missing s from n x b.recv b.connid o v b.paired) m
brought_new s from n item x op over (inr (inr b)) q m =
    let o : is_no_op (class_facts s) from (Gives b.data') ≡ false = subst (λ (i : Item). is_no_op (class_facts s) from i ≡ false) b.is op in
    let v : is_overlap (class_facts s) from (Gives b.data') ≡ false = subst (λ (i : Item). is_overlap (class_facts s) from i ≡ false) b.is over in
    let g = given_missing s from n b.data' o v b.paired in
    let P : ℕ → List ℕ → Type 0 = λ at bytes. is_missing (carried_pieces s.own.limits.first s.ms.head s.log from n) (s.ms.head from n).length at (length bytes) ≡ true in
    missing_apart (carried_pieces s.own.limits.first s.ms.head s.log from n) (s.ms.head from n).length x.offset (length x.bytes) q
    (subst (λ bytes. P x.offset bytes) b.bytes_are (subst (λ at. P at b.data'.bytes) b.at_is g)) m

-- each byte of a message that a life takes comes for the first time
pub carried_new : (own : Own) (d : Deed) (before : List Deed) (source : Life) (n : ℕ) (x : Piece) → LifeStep own before d
    → carried_by (pairs own.limits.first (heard_by own.limits.first before).head before) source n d ≡ Some x
    → IsApart x (carried_pieces own.limits.first (heard_by own.limits.first before).head before source n)
carried_new own d before source n x step h =
    let p = carried_parts (pairs own.limits.first (heard_by own.limits.first before).head before) source n d x h in
    let taken : LifeStep own before (Took source p.0) = subst (λ (y : Deed). LifeStep own before y) p.1 step in
    let s = life_scene taken.0 own taken.1 before in
    let t = taken_parts s source own.life.connid p.0 taken.2 in
    brought_new s source n p.0 x t.has_op t.new p.2
