-- The bytes that a life took: which datagram brought each piece.
use Rattle.std.proofs.Common.{Bool, ◌≡◌, ℕ, true, false, cond, ◌&&◌, List, [], ◌∷◌, Option, Some, None, refl, ◌⊎◌, inl, inr, ◌∙◌, ap, subst}
use Rattle.std.specs.Prelude.{◌==◌, is_some, option_to_list}
use Rattle.std.proofs.lemmas.Bool.{eqb-true, eq-eqb, and_from}
use Rattle.rdm_lists.specs.Lists.{Member}
use Rattle.rdm_num.specs.Lives.{same_life}
use Rattle.rdm_num.specs.Pieces.{Piece}
use Rattle.rdm_num.specs.declared.numbers.Connid.{Connid}
use Rattle.rdm_num.specs.declared.numbers.Life.{Life}
use Rattle.rdm_num.specs.declared.numbers.MsgNo.{MsgNo}
use Rattle.rdm_num.specs.declared.numbers.OpId.{OpId}
use Rattle.rdm_hdr.specs.declared.Opt.{Opt}
use Rattle.rdm_pkt.specs.declared.Form.{Form}
use Rattle.rdm_pkt.specs.declared.Packet.TheVariants.{Rtm, Cts, CtsData, Eor, Handshake, Receipt}
use Rattle.rdm_pkt.specs.Heads.{piece_of, head_of}
use Rattle.rdm_wire.specs.declared.ReadData.{ReadData}
use Rattle.rdm_match.specs.Matcher.{Pair, is_pair}
use Rattle.rdm_model.specs.Deeds.{Deed, Did, PushedNote, Pushed, TookNote, Took, Polled, Nothing, Item, Spelled, Asks, Gives, Garbled}
use Rattle.rdm_model.specs.Beginnings.{Heads}
use Rattle.rdm_model.specs.Heard.{heard_head, head_by}
use Rattle.rdm_model.specs.Matches.{pairs}
use Rattle.rdm_model.specs.Parts.{piece_by, carried_by, carried_pieces}
use Rattle.rdm_model.proofs.Matches.{is_pair_still, is_pair_member, pair_heard}
use Rattle.rdm_lists.proofs.Members.{member-append_cases, option_member}
use Rattle.rdm_lists.proofs.Options.{is_some_from, then_some_parts, some-or_else_left, some-or_else_right}
use Rattle.rdm_num.proofs.Lives.{same_life-true, same_life-refl}

-- a packet that opens the message brought the piece
pub record FromRtm (n : ℕ) (item : Item) (x : Piece) : Type 0 where
  pub number : MsgNo
  pub tag : Option ℕ
  pub confirm : Bool
  pub opt : Opt
  pub form : Form
  pub is : item ≡ Spelled (Rtm number tag confirm opt form)
  pub number_is : number.0 ≡ n
  pub piece_is : piece_of form ≡ Some x

-- granted bytes of the receive that was matched to the message brought it
pub record FromData (ps : List Pair) (source : Life) (n : ℕ) (item : Item) (x : Piece) : Type 0 where
  pub recv : OpId
  pub connid : Connid
  pub is : item ≡ Spelled (CtsData recv x.offset connid x.bytes)
  pub paired : is_pair ps recv.0 source n ≡ true

-- read bytes of the receive that was matched to the message brought it
pub record FromGiven (ps : List Pair) (source : Life) (n : ℕ) (item : Item) (x : Piece) : Type 0 where
  pub data' : ReadData
  pub is : item ≡ Gives data'
  pub at_is : data'.at ≡ x.offset
  pub bytes_are : data'.bytes ≡ x.bytes
  pub paired : is_pair ps data'.recv_id.0 source n ≡ true

-- what brought a piece
abbrev pub Brought : List Pair → Life → ℕ → Item → Piece → Type 0
Brought ps source n item x = FromRtm n item x ⊎ (FromData ps source n item x ⊎ FromGiven ps source n item x)

-- a piece is brought by one of three kinds
pub piece_cases : (ps : List Pair) (source : Life) (n : ℕ) (item : Item) (x : Piece) → piece_by ps source n item ≡ Some x → Brought ps source n item x
unfolding piece_by
piece_cases ps source n (Spelled (Rtm number tag confirm opt form)) x h =
    (elim (number.0 == n) as (λ b. (number.0 == n) ≡ b → cond b (piece_of form) None ≡ Some x → Brought ps source n (Spelled (Rtm number tag confirm opt form)) x) [
      | true ↦ λ t k. inl (record { number = number; tag = tag; confirm = confirm; opt = opt; form = form; is = refl; number_is = eqb-true number.0 n t; piece_is = k })
      | false ↦ λ t k. cc
    ]) refl h
piece_cases ps source n (Spelled (CtsData recv offset connid bytes)) x h =
    let t = then_some_parts (is_pair ps recv.0 source n) (record { offset = offset; bytes = bytes }) x h in
    inr (inl (record { recv = recv; connid = connid; is = ap (λ (y : Piece). Spelled (CtsData recv y.offset connid y.bytes)) t.1; paired = t.0 }))
piece_cases ps source n (Gives g) x h =
    let t = then_some_parts (is_pair ps g.recv_id.0 source n) (record { offset = g.at; bytes = g.bytes }) x h in
    inr (inr (record { data' = g; is = refl; at_is = ap (λ (y : Piece). y.offset) t.1; bytes_are = ap (λ (y : Piece). y.bytes) t.1; paired = t.0 }))
piece_cases ps source n (Spelled (Cts send recv size connid)) x h = cc
piece_cases ps source n (Spelled (Eor send recv connid)) x h = cc
piece_cases ps source n (Spelled (Handshake words connid raw)) x h = cc
piece_cases ps source n (Spelled (Receipt number connid)) x h = cc
piece_cases ps source n (Asks a) x h = cc
piece_cases ps source n Garbled x h = cc

-- bytes of a message are taken from its life
pub carried_parts : (ps : List Pair) (source : Life) (n : ℕ) (d : Deed) (x : Piece) → carried_by ps source n d ≡ Some x
    → (item : Item) × (d ≡ Took source item) × Brought ps source n item x
unfolding carried_by
carried_parts ps source n (Took from item) x h =
    (elim (same_life from source) as (λ b. same_life from source ≡ b → cond b (piece_by ps source n item) None ≡ Some x
    → (i : Item) × (Took from item ≡ Took source i) × Brought ps source n i x) [
      | true ↦ λ t k. (item, ap (λ (l : Life). Took l item) (same_life-true from source t), piece_cases ps source n item x k)
      | false ↦ λ t k. cc
    ]) refl h
carried_parts ps source n (Did i) x h = cc
carried_parts ps source n PushedNote x h = cc
carried_parts ps source n Pushed x h = cc
carried_parts ps source n (TookNote p b) x h = cc
carried_parts ps source n Polled x h = cc
carried_parts ps source n Nothing x h = cc

-- a datagram that a life took brought the piece
pub record CarriedBy (first : ℕ) (heads : Heads) (log : List Deed) (source : Life) (n : ℕ) (x : Piece) : Type 0 where
  pub item : Item
  pub took : Member (Took source item) log
  pub brought : Brought (pairs first heads log) source n item x

-- what brought a piece still names the pair
brought_still : (first : ℕ) (heads : Heads) (d : Deed) (before : List Deed) (source : Life) (n : ℕ) (item : Item) (x : Piece)
    → Brought (pairs first heads before) source n item x → Brought (pairs first heads (d ∷ before)) source n item x
brought_still first heads d before source n item x (inl b) = inl b
brought_still first heads d before source n item x (inr (inl b)) =
    inr (inl (record { recv = b.recv; connid = b.connid; is = b.is; paired = is_pair_still first heads d before b.recv.0 source n b.paired }))
brought_still first heads d before source n item x (inr (inr b)) =
    inr (inr (record { data' = b.data'; is = b.is; at_is = b.at_is; bytes_are = b.bytes_are; paired = is_pair_still first heads d before b.data'.recv_id.0 source n b.paired }))

-- each piece of a message was brought by a datagram that was taken
pub carried_from : (first : ℕ) (heads : Heads) (log : List Deed) (source : Life) (n : ℕ) (x : Piece) → Member x (carried_pieces first heads log source n)
    → CarriedBy first heads log source n x
unfolding carried_pieces
carried_from first heads [] source n x h = elim h [ ]
carried_from first heads (d ∷ before) source n x h =
    elim (member-append_cases x (carried_pieces first heads before source n) (option_to_list (carried_by (pairs first heads before) source n d)) h) [
      | inl a ↦
          let c = carried_from first heads before source n x a in
          record { item = c.item; took = inr c.took; brought = brought_still first heads d before source n c.item x c.brought }
      | inr a ↦
          let p = carried_parts (pairs first heads before) source n d x (option_member (carried_by (pairs first heads before) source n d) x a) in
          record { item = p.0; took = inl p.1; brought = brought_still first heads d before source n p.0 x p.2 }
    ]

-- a packet that opens a message tells its head
rtm_heard : (source : Life) (n : ℕ) (item : Item) (number : MsgNo) (tag : Option ℕ) (confirm : Bool) (opt : Opt) (form : Form) → item ≡ Spelled (Rtm number tag confirm opt form) → number.0 ≡ n
    → head_by source n (Took source item) ≡ Some (head_of tag confirm opt form)
unfolding head_by
rtm_heard source n item number tag confirm opt form is number_is =
    let t : (same_life source source && number.0 == n) ≡ true = and_from _ _ (same_life-refl source) (eq-eqb number.0 n number_is) in
    rw (is, t) refl

-- the message of a pair was heard of
pub paired_heard : (first : ℕ) (heads : Heads) (log : List Deed) (recv : ℕ) (source : Life) (n : ℕ) → is_pair (pairs first heads log) recv source n ≡ true
    → is_some (heard_head log source n) ≡ true
paired_heard first heads log recv source n h =
    let m = is_pair_member (pairs first heads log) recv source n h in
    let k = pair_heard first heads log m.0 m.1 in
    let P : Life → ℕ → Type 0 = λ l o. is_some (heard_head log l o) ≡ true in
    subst (λ o. P source o) m.4 (subst (λ l. P l m.0.message.no.0) m.3 (is_some_from (heard_head log m.0.message.life m.0.message.no.0) k.0 k.1))

-- a message of which a piece was brought is heard of
brought_heard : (first : ℕ) (heads : Heads) (before : List Deed) (source : Life) (n : ℕ) (d : Deed) (item : Item) (x : Piece) → d ≡ Took source item
    → Brought (pairs first heads before) source n item x → is_some (heard_head (d ∷ before) source n) ≡ true
unfolding heard_head
brought_heard first heads before source n d item x t (inl b) =
    let e = rtm_heard source n item b.number b.tag b.confirm b.opt b.form b.is b.number_is in
    some-or_else_right (heard_head before source n) (head_by source n d) (is_some_from (head_by source n d) (head_of b.tag b.confirm b.opt b.form) (ap (head_by source n) t ∙ e))
brought_heard first heads before source n d item x t (inr (inl b)) =
    some-or_else_left (heard_head before source n) (head_by source n d) (paired_heard first heads before b.recv.0 source n b.paired)
brought_heard first heads before source n d item x t (inr (inr b)) =
    some-or_else_left (heard_head before source n) (head_by source n d) (paired_heard first heads before b.data'.recv_id.0 source n b.paired)

-- a message that was heard of stays so
heard_longer : (d : Deed) (before : List Deed) (source : Life) (n : ℕ) → is_some (heard_head before source n) ≡ true → is_some (heard_head (d ∷ before) source n) ≡ true
unfolding heard_head
heard_longer d before source n h = some-or_else_left (heard_head before source n) (head_by source n d) h

-- a message of which bytes came was heard of
pub carried_heard : (first : ℕ) (heads : Heads) (log : List Deed) (source : Life) (n : ℕ) (x : Piece) → Member x (carried_pieces first heads log source n)
    → is_some (heard_head log source n) ≡ true
unfolding carried_pieces
carried_heard first heads [] source n x h = elim h [ ]
carried_heard first heads (d ∷ before) source n x h =
    elim (member-append_cases x (carried_pieces first heads before source n) (option_to_list (carried_by (pairs first heads before) source n d)) h) [
      | inl a ↦ heard_longer d before source n (carried_heard first heads before source n x a)
      | inr a ↦
          let p = carried_parts (pairs first heads before) source n d x (option_member (carried_by (pairs first heads before) source n d) x a) in
          brought_heard first heads before source n d p.0 x p.1 p.2
    ]
