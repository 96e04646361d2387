-- The bytes of what a life took are among the pieces that came of the message.
use Rattle.std.proofs.Common.{◌≡◌, ℕ, Bool, true, false, not, List, [], ◌∷◌, Option, Some, None, refl, inl, inr, sym, ◌∙◌, ap, subst}
use Rattle.std.specs.Prelude.{option_to_list}
use Rattle.std.proofs.lemmas.Bool.{eq-eqb}
use Rattle.rdm_lists.specs.Lists.{Member}
use Rattle.rdm_num.specs.Pieces.{Piece}
use Rattle.rdm_num.specs.declared.numbers.Life.{Life}
use Rattle.rdm_num.specs.declared.numbers.MsgNo.{MsgNo}
use Rattle.rdm_num.specs.declared.numbers.OpId.{OpId}
use Rattle.rdm_num.specs.declared.numbers.Connid.{Connid}
use Rattle.rdm_num.specs.declared.head.Shape.{Shape}
use Rattle.rdm_hdr.specs.declared.Opt.{Opt}
use Rattle.rdm_pkt.specs.declared.Packet.TheVariants.{Rtm, CtsData}
use Rattle.rdm_pkt.specs.declared.Form.{Form}
use Rattle.rdm_pkt.specs.Heads.{piece_of}
use Rattle.rdm_match.specs.Matcher.{Pair, is_pair}
use Rattle.rdm_wire.specs.declared.ReadData.{ReadData}
use Rattle.rdm_model.specs.Deeds.{Deed, Took, Item, Spelled, Gives}
use Rattle.rdm_model.specs.Beginnings.{Own, Heads}
use Rattle.rdm_model.specs.Matches.{pairs}
use Rattle.rdm_model.specs.Parts.{piece_by, carried_by, carried_pieces}
use Rattle.rdm_model.specs.Targets.{live_pair, has_shape, is_long_shape, is_read_shape}
use Rattle.rdm_model.specs.Classes.{is_no_op}
use Rattle.rdm_model.specs.Scenes.{Scene}
use Rattle.rdm_model.specs.Local.{heard_by}
use Rattle.rdm_model.proofs.Matches.{pair_still, pair_passes, heard_still}
use Rattle.rdm_model.proofs.SameMatches.{HeadsAgree, matching_same}
use Rattle.rdm_model.proofs.Grows.{agree_grows}
use Rattle.rdm_law.proofs.Lives.Lives.{life_scene, LifeStep, LifeLocal}
use Rattle.rdm_law.proofs.Classes.Classed.{IsTaken, taken_parts}
use Rattle.rdm_law.proofs.Classes.Landed.{live_pair_parts}
use Rattle.rdm_lists.proofs.Members.{member-append_left, member-append_right}
use Rattle.rdm_num.proofs.Lives.{same_life-refl}

-- the pair of a receive for a message of that life
pub record PairOf (first : ℕ) (heads : Heads) (log : List Deed) (from : Life) (recv : ℕ) : Type 0 where
  pub pair : Pair
  pub member : Member pair (pairs first heads log)
  pub recv_is : pair.recv.id.0 ≡ recv
  pub life_is : pair.message.life ≡ from

-- a receive of that shape is there
some_pair : (s : Scene) (test : Shape → Bool) (o : Option Pair) → not (has_shape s test o) ≡ false → (p : Pair) × (o ≡ Some p)
unfolding has_shape
some_pair s test None h = cc
some_pair s test (Some p) h = (p, refl)

-- the pair of a live receive
live_of : (s : Scene) (from : Life) (recv : ℕ) (test : Shape → Bool) → not (has_shape s test (live_pair s from recv)) ≡ false → PairOf s.own.limits.first s.ms.head s.log from recv
live_of s from recv test h =
    let p = some_pair s test (live_pair s from recv) h in
    let l = live_pair_parts s from recv p.0 p.1 in
    record { pair = p.0; member = l.member; recv_is = l.recv_is; life_is = l.life_is }

-- granted bytes that are taken have a pair
data_pair : (s : Scene) (from : Life) (to : Connid) (recv : OpId) (offset : ℕ) (connid : Connid) (bytes : List ℕ) → IsTaken s from to (Spelled (CtsData recv offset connid bytes))
    → PairOf s.own.limits.first s.ms.head s.log from recv.0
unfolding is_no_op
data_pair s from to recv offset connid bytes i = live_of s from recv.0 is_long_shape i.has_op

-- and so have read bytes
given_pair : (s : Scene) (from : Life) (to : Connid) (g : ReadData) → IsTaken s from to (Gives g) → PairOf s.own.limits.first s.ms.head s.log from g.recv_id.0
unfolding is_no_op
given_pair s from to g i = live_of s from g.recv_id.0 is_read_shape i.has_op

-- what brings a piece for a receive
abbrev pub BringsFor : Item → ℕ → Piece → Type 0
BringsFor (Spelled (CtsData recv offset connid bytes)) n x = (recv.0 ≡ n) × (x ≡ record { offset = offset; bytes = bytes })
BringsFor (Gives g) n x = (g.recv_id.0 ≡ n) × (x ≡ record { offset = g.at; bytes = g.bytes })
BringsFor _ n x = ⊥

-- what a life takes for a receive has a pair
step_pair : (own : Own) (before : List Deed) (from : Life) (item : Item) (n : ℕ) (x : Piece) → LifeStep own before (Took from item) → BringsFor item n x
    → PairOf own.limits.first (heard_by own.limits.first before).head before from n
step_pair own before from (Spelled (CtsData recv offset connid bytes)) n x step b =
    let s = life_scene step.0 own step.1 before in
    let P : ℕ → Type 0 = λ k. PairOf own.limits.first (heard_by own.limits.first before).head before from k in
    subst P b.0 (data_pair s from own.life.connid recv offset connid bytes (taken_parts s from own.life.connid (Spelled (CtsData recv offset connid bytes)) step.2))
step_pair own before from (Gives g) n x step b =
    let s = life_scene step.0 own step.1 before in
    let P : ℕ → Type 0 = λ k. PairOf own.limits.first (heard_by own.limits.first before).head before from k in
    subst P b.0 (given_pair s from own.life.connid g (taken_parts s from own.life.connid (Gives g) step.2))
step_pair own before from _ n x step b = elim b [ ]

-- and brings its piece for the message of the pair
brings_piece : (ps : List Pair) (from : Life) (item : Item) (n m : ℕ) (x : Piece) → BringsFor item n x → is_pair ps n from m ≡ true → piece_by ps from m item ≡ Some x
unfolding piece_by
brings_piece ps from (Spelled (CtsData recv offset connid bytes)) n m x b h =
    let e : is_pair ps recv.0 from m ≡ true = ap (λ (k : ℕ). is_pair ps k from m) b.0 ∙ h in
    rw e (ap Some (sym b.1))
brings_piece ps from (Gives g) n m x b h =
    let e : is_pair ps g.recv_id.0 from m ≡ true = ap (λ (k : ℕ). is_pair ps k from m) b.0 ∙ h in
    rw e (ap Some (sym b.1))
brings_piece ps from _ n m x b h = elim b [ ]

-- a deed that takes bytes carries them
carried_now : (ps : List Pair) (from : Life) (item : Item) (m : ℕ) (x : Piece) (d : Deed) → d ≡ Took from item → piece_by ps from m item ≡ Some x → carried_by ps from m d ≡ Some x
unfolding carried_by
carried_now ps from item m x d e h = rw e (rw (same_life-refl from) h)

-- and they are among the pieces
carried_last : (first : ℕ) (heads : Heads) (d : Deed) (before : List Deed) (from : Life) (m : ℕ) (x : Piece) → carried_by (pairs first heads before) from m d ≡ Some x
    → Member x (carried_pieces first heads (d ∷ before) from m)
unfolding carried_pieces
carried_last first heads d before from m x h =
    member-append_right x (carried_pieces first heads before from m) (option_to_list (carried_by (pairs first heads before) from m d))
    (subst (λ (o : Option Piece). Member x (option_to_list o)) (sym h) (inl refl))

-- pieces that came stay
pub carried_stays : (first : ℕ) (heads : Heads) (d : Deed) (before : List Deed) (from : Life) (m : ℕ) (x : Piece) → Member x (carried_pieces first heads before from m)
    → Member x (carried_pieces first heads (d ∷ before) from m)
unfolding carried_pieces
carried_stays first heads d before from m x h = member-append_left x (carried_pieces first heads before from m) (option_to_list (carried_by (pairs first heads before) from m d)) h

-- bytes for a receive that were taken are among the pieces of its message
pub record CameFor (first : ℕ) (heads : Heads) (log : List Deed) (from : Life) (recv : ℕ) (x : Piece) : Type 0 where
  pub pair : Pair
  pub member : Member pair (pairs first heads log)
  pub recv_is : pair.recv.id.0 ≡ recv
  pub carried : Member x (carried_pieces first heads log from pair.message.no.0)

-- so do those for a receive
came_later : (first : ℕ) (heads : Heads) (d : Deed) (before : List Deed) (from : Life) (recv : ℕ) (x : Piece) → CameFor first heads before from recv x → CameFor first heads (d ∷ before) from recv x
came_later first heads d before from recv x c =
    record { pair = c.pair; member = pair_still first heads d before c.pair c.member; recv_is = c.recv_is; carried = carried_stays first heads d before from c.pair.message.no.0 x c.carried }

-- an account that agrees later agreed before
heads_earlier : (first : ℕ) (heads : Heads) (d : Deed) (before : List Deed) → HeadsAgree (heard_by first (d ∷ before)).head heads (d ∷ before)
    → HeadsAgree (heard_by first before).head heads before
heads_earlier first heads d before a source n h e = (agree_grows first d before).heads source n h e ∙ a source n h (heard_still d before source n h e)

-- bytes that were taken for a receive are among the pieces of its message
pub came_for : (own : Own) (heads : Heads) (log : List Deed) (from : Life) (item : Item) (n : ℕ) (x : Piece) → LifeLocal own log
    → HeadsAgree (heard_by own.limits.first log).head heads log → Member (Took from item) log → BringsFor item n x → CameFor own.limits.first heads log from n x
came_for own heads [] from item n x local a m b = elim m [ ]
came_for own heads (d ∷ before) from item n x local a (inr m) b =
    came_later own.limits.first heads d before from n x (came_for own heads before from item n x local.0 (heads_earlier own.limits.first heads d before a) m b)
came_for own heads (d ∷ before) from item n x local a (inl e) b =
    let step : LifeStep own before (Took from item) = subst (λ (y : Deed). LifeStep own before y) e local.1 in
    let p = step_pair own before from item n x step b in
    let agree = heads_earlier own.limits.first heads d before a in
    let same = ap (λ m. m.pairs) (matching_same own.limits.first (heard_by own.limits.first before).head heads before agree) in
    let here : Member p.pair (pairs own.limits.first heads before) = subst (λ (ps : List Pair). Member p.pair ps) same p.member in
    let is = pair_passes (pairs own.limits.first heads before) p.pair n from p.pair.message.no.0 here p.recv_is p.life_is refl in
    record {
      pair = p.pair;
      member = pair_still own.limits.first heads d before p.pair here;
      recv_is = p.recv_is;
      carried = carried_last own.limits.first heads d before from p.pair.message.no.0 x
          (carried_now (pairs own.limits.first heads before) from item p.pair.message.no.0 x d e (brings_piece (pairs own.limits.first heads before) from item n p.pair.message.no.0 x b is));
    }

-- an opening brings its own piece
rtm_piece_by : (ps : List Pair) (from : Life) (number : MsgNo) (tag : Option ℕ) (confirm : Bool) (opt : Opt) (form : Form) → piece_by ps from number.0 (Spelled (Rtm number tag confirm opt form)) ≡ piece_of form
unfolding piece_by
rtm_piece_by ps from number tag confirm opt form = rw (eq-eqb number.0 number.0 refl) refl

-- bytes that open a message and were taken are among its pieces
pub came_opening : (first : ℕ) (heads : Heads) (log : List Deed) (from : Life) (number : MsgNo) (tag : Option ℕ) (confirm : Bool) (opt : Opt) (form : Form) (x : Piece)
    → Member (Took from (Spelled (Rtm number tag confirm opt form))) log → piece_of form ≡ Some x → Member x (carried_pieces first heads log from number.0)
came_opening first heads [] from number tag confirm opt form x m h = elim m [ ]
came_opening first heads (d ∷ before) from number tag confirm opt form x (inr m) h = carried_stays first heads d before from number.0 x (came_opening first heads before from number tag confirm opt form x m h)
came_opening first heads (d ∷ before) from number tag confirm opt form x (inl e) h =
    carried_last first heads d before from number.0 x
    (carried_now (pairs first heads before) from (Spelled (Rtm number tag confirm opt form)) number.0 x d e (rtm_piece_by (pairs first heads before) from number tag confirm opt form ∙ h))
