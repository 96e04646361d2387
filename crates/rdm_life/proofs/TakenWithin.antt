-- Each byte that came of a message lies within it, where each packet that was taken meets its conditions. A packet that opens a
-- message tells its length, so by its class alone its own bytes might pass that.
use Rattle.std.proofs.Common.{◌≡◌, ℕ, ◌+◌, ◌<◌, Bool, true, false, not, ◌&&◌, List, [], ◌∷◌, length, Option, Some, None, refl, arith, inl, inr, sym, ◌∙◌, ap, subst}
use Rattle.std.specs.Prelude.{◌==◌, nat_lt, nat_le, is_some, option_to_list, unwrap_or}
use Rattle.std.proofs.lemmas.Bool.{and_parts, or_parts, eqb-true, not-false, leb-true, ltb-true}
use Rattle.rdm_lists.specs.Lists.{Member, each_below}
use Rattle.rdm_lists.proofs.Members.{member-append_cases, option_member}
use Rattle.rdm_lists.proofs.Options.{then_some_parts}
use Rattle.rdm_num.specs.Lives.{same_life}
use Rattle.rdm_num.specs.Pieces.{Piece, byte_in, byte_at, is_missing}
use Rattle.rdm_num.specs.declared.numbers.Life.{Life}
use Rattle.rdm_num.specs.declared.numbers.MsgNo.{MsgNo}
use Rattle.rdm_num.specs.declared.head.Head.{Head}
use Rattle.rdm_num.specs.declared.head.Shape.{Shape}
use Rattle.rdm_num.proofs.Lives.{same_life-true}
use Rattle.rdm_hdr.specs.declared.Opt.{Opt}
use Rattle.rdm_pkt.specs.declared.Form.{Form}
use Rattle.rdm_pkt.specs.declared.Form.TheVariants.{Eager, Medium, LongCts, LongRead, Runt}
use Rattle.rdm_pkt.specs.declared.Packet.TheVariants.{Rtm, CtsData}
use Rattle.rdm_pkt.specs.Grammar.{iov_fits, form_fits, confirm_fits, opt_fits, packet_fits}
use Rattle.rdm_pkt.specs.Heads.{size_of, head_of, piece_of}
use Rattle.rdm_match.specs.Matcher.{Pair, is_pair}
use Rattle.rdm_model.specs.Beginnings.{Own, no_head}
use Rattle.rdm_model.specs.Classes.{is_no_op, is_overlap, repeats}
use Rattle.rdm_model.specs.ClassFacts.{came_in_part, came_in_part_of, class_facts}
use Rattle.rdm_model.specs.Deeds.{Deed, Took, Item, Spelled, Gives}
use Rattle.rdm_model.specs.Heard.{heard_head, is_heard}
use Rattle.rdm_model.specs.Local.{heads_by, heard_by}
use Rattle.rdm_model.specs.Matches.{pairs}
use Rattle.rdm_model.specs.Parts.{piece_by, carried_by, carried_pieces}
use Rattle.rdm_model.specs.Scenes.{Scene}
use Rattle.rdm_model.specs.Targets.{live_pair, has_shape, is_long_shape, is_read_shape}
use Rattle.rdm_model.proofs.Grows.{heads_by_heard, heads_grow}
use Rattle.rdm_model.proofs.Matches.{is_pair_member}
use Rattle.rdm_model.proofs.SameMatches.{is_pair_heard}
use Rattle.rdm_law.proofs.Accounts.Whole.{byte_of_piece}
use Rattle.rdm_law.proofs.Classes.Classed.{IsTaken, taken_parts}
use Rattle.rdm_law.proofs.Lives.Lives.{LifeLocal, LifeStep, life_scene}
use Rattle.rdm_law.proofs.Matching.Numbered.{matching_numbered}
use Rattle.rdm_law.proofs.Windows.Granted.{byte_ends}
use Rattle.rdm_life.proofs.TakenRead.{TakenIsRead, AllTakenRead}
use Rattle.rdm_life.specs.Keeps.{told, own_pairs, byte_came}
use Rattle.rdm_life.proofs.CameWithin.{some_cond, live_is}
use Rattle.rdm_life.proofs.Windows.{opened_first, newer_pieces}

-- ---- packets that open a message

-- the bytes of one lie within the length that it tells
opening_within : (form : Form) (x : Piece) (place b : ℕ) → form_fits form ≡ true → piece_of form ≡ Some x → byte_in x place ≡ Some b → place < size_of form
unfolding form_fits piece_of size_of
opening_within (Eager bytes) x place b fit piece is =
    let e : x ≡ record { offset = 0; bytes = bytes } = cc in
    let high = byte_ends (record { offset = 0; bytes = bytes }) place b (subst (λ (q : Piece). byte_in q place ≡ Some b) e is) in
    omega arith
opening_within (Medium size offset bytes) x place b fit piece is =
    let e : x ≡ record { offset = offset; bytes = bytes } = cc in
    let high = byte_ends (record { offset = offset; bytes = bytes }) place b (subst (λ (q : Piece). byte_in q place ≡ Some b) e is) in
    let low = leb-true (offset + length bytes) size (and_parts (nat_le 1 (length bytes)) (nat_le (offset + length bytes) size) fit).1 in
    omega arith
opening_within (LongCts size send credits bytes) x place b fit piece is =
    let e : x ≡ record { offset = 0; bytes = bytes } = cc in
    let high = byte_ends (record { offset = 0; bytes = bytes }) place b (subst (λ (q : Piece). byte_in q place ≡ Some b) e is) in
    let a = (and_parts (nat_le 1 (length bytes) && nat_lt (length bytes) size) (nat_le 1 credits) fit).0 in
    let low = ltb-true (length bytes) size (and_parts (nat_le 1 (length bytes)) (nat_lt (length bytes) size) a).1 in
    omega arith
opening_within (LongRead size send iov) x place b fit piece is = cc
opening_within (Runt size send iov runt offset bytes) x place b fit piece is =
    let e : x ≡ record { offset = offset; bytes = bytes } = cc in
    let high = byte_ends (record { offset = offset; bytes = bytes }) place b (subst (λ (q : Piece). byte_in q place ≡ Some b) e is) in
    let c = and_parts (iov_fits iov size && nat_le 1 (length bytes) && nat_le (offset + length bytes) runt && nat_le 1 runt) (nat_lt runt size) fit in
    let d = and_parts (iov_fits iov size && nat_le 1 (length bytes) && nat_le (offset + length bytes) runt) (nat_le 1 runt) c.0 in
    let f = and_parts (iov_fits iov size && nat_le 1 (length bytes)) (nat_le (offset + length bytes) runt) d.0 in
    let low = leb-true (offset + length bytes) runt f.1 in
    let short = ltb-true runt size c.1 in
    omega arith

-- bytes that were missing lie within
missing_within : (ps : List Piece) (size offset : ℕ) (bytes : List ℕ) (place b : ℕ) → not (is_missing ps size offset (length bytes)) ≡ false
    → byte_in (record { offset = offset; bytes = bytes }) place ≡ Some b → place < size
unfolding is_missing
missing_within ps size offset bytes place b h is =
    let m = not-false (nat_le (offset + length bytes) size && each_below (λ k. not (is_some (byte_at ps (offset + k)))) (length bytes)) h in
    let low = leb-true (offset + length bytes) size (and_parts (nat_le (offset + length bytes) size) (each_below (λ k. not (is_some (byte_at ps (offset + k)))) (length bytes)) m).0 in
    let high = byte_ends (record { offset = offset; bytes = bytes }) place b is in
    omega arith

-- so do the bytes of one that opens a message again
again_within : (s : Scene) (source : Life) (n : ℕ) (form : Form) (x : Piece) (place b : ℕ) → repeats (class_facts s) source n form ≡ false → piece_of form ≡ Some x → byte_in x place ≡ Some b
    → place < (s.ms.head source n).length
unfolding repeats piece_of came_in_part
again_within s source n (Eager bytes) x place b new piece is = cc
again_within s source n (LongCts size send credits bytes) x place b new piece is = cc
again_within s source n (LongRead size send iov) x place b new piece is = cc
again_within s source n (Medium size offset bytes) x place b new piece is =
    let e : x ≡ record { offset = offset; bytes = bytes } = cc in
    missing_within (carried_pieces s.own.limits.first s.ms.head s.log source n) (s.ms.head source n).length offset bytes place b new (subst (λ (q : Piece). byte_in q place ≡ Some b) e is)
again_within s source n (Runt size send iov runt offset bytes) x place b new piece is =
    let e : x ≡ record { offset = offset; bytes = bytes } = cc in
    missing_within (carried_pieces s.own.limits.first s.ms.head s.log source n) (s.ms.head source n).length offset bytes place b new (subst (λ (q : Piece). byte_in q place ≡ Some b) e is)

-- the conditions of a packet that opens a message are those of its form
form_meets : (number : MsgNo) (tag : Option ℕ) (confirm : Bool) (opt : Opt) (form : Form) → packet_fits (Rtm number tag confirm opt form) ≡ true → form_fits form ≡ true
unfolding packet_fits
form_meets number tag confirm opt form fit = (and_parts (confirm_fits confirm form && opt_fits opt) (form_fits form) fit).1

-- a message that was heard of keeps its length
length_grows : (d : Deed) (before : List Deed) (source : Life) (n place : ℕ) (h : Head) → heard_head before source n ≡ Some h → place < (heads_by before source n).length
    → place < (heads_by (d ∷ before) source n).length
length_grows d before source n place h heard low = subst (λ (x : Head). place < x.length) (heads_grow d before source n h heard) low

-- one that is taken
opens_inside : (own : Own) (before : List Deed) (source : Life) (n : ℕ) (number : MsgNo) (tag : Option ℕ) (confirm : Bool) (opt : Opt) (form : Form) (o : Option Head) (ports : ℕ) (port_log : List Deed)
    (x : Piece) (place b : ℕ) → number.0 ≡ n → form_fits form ≡ true → heard_head before source n ≡ o
    → IsTaken (life_scene ports own port_log before) source own.life.connid (Spelled (Rtm number tag confirm opt form))
    → piece_of form ≡ Some x → byte_in x place ≡ Some b → place < (heads_by (Took source (Spelled (Rtm number tag confirm opt form)) ∷ before) source n).length
unfolding is_overlap is_heard heard_by head_of
opens_inside own before source n number tag confirm opt form (Some was) ports port_log x place b same fit heard taken piece is =
    let s = life_scene ports own port_log before in
    let there : is_heard before source number.0 ≡ true = ap (λ (k : ℕ). is_heard before source k) same ∙ ap is_some heard in
    let new : (is_heard before source number.0 && repeats (class_facts s) source number.0 form) ≡ false = (or_parts _ _ taken.new).1 in
    let again : repeats (class_facts s) source number.0 form ≡ false = ap (λ (b : Bool). b && repeats (class_facts s) source number.0 form) (sym there) ∙ new in
    length_grows (Took source (Spelled (Rtm number tag confirm opt form))) before source n place was heard
    (again_within s source n form x place b (subst (λ (k : ℕ). repeats (class_facts s) source k form ≡ false) same again) piece is)
opens_inside own before source n number tag confirm opt form None ports port_log x place b same fit heard taken piece is =
    let f = opened_first before source n number tag confirm opt form same heard in
    subst (λ (h : Head). place < h.length)
    (sym (heads_by_heard (Took source (Spelled (Rtm number tag confirm opt form)) ∷ before) source n (head_of tag confirm opt form) f.0))
    (opening_within form x place b fit piece is)

-- ---- bytes for a receive

-- bytes that name a receive, and have not come
named_within : (s : Scene) (shape : Shape → Bool) (from source : Life) (n recv offset : ℕ) (bytes : List ℕ) (place b : ℕ) (o : Option Pair) → live_pair s from recv ≡ o → not (has_shape s shape o) ≡ false
    → came_in_part_of s offset (length bytes) o ≡ false → is_pair (pairs s.own.limits.first s.ms.head s.log) recv source n ≡ true
    → byte_in (record { offset = offset; bytes = bytes }) place ≡ Some b → place < (s.ms.head source n).length
unfolding has_shape came_in_part_of came_in_part
named_within s shape from source n recv offset bytes place b None live op new paired is = cc
named_within s shape from source n recv offset bytes place b (Some q) live op new paired is =
    let ps = pairs s.own.limits.first s.ms.head s.log in
    let l = live_is s from recv q live in
    let m = is_pair_member ps recv source n paired in
    let same : q ≡ m.0 = (matching_numbered s.own.limits.first s.ms.head s.log).once q m.0 l.0 m.1 (l.1 ∙ sym m.2) in
    let life : q.message.life ≡ source = ap (λ (x : Pair). x.message.life) same ∙ m.3 in
    let number : q.message.no.0 ≡ n = ap (λ (x : Pair). x.message.no.0) same ∙ m.4 in
    let low = missing_within (carried_pieces s.own.limits.first s.ms.head s.log q.message.life q.message.no.0) (s.ms.head q.message.life q.message.no.0).length offset bytes place b new is in
    subst (λ (k : ℕ). place < (s.ms.head source k).length) number (subst (λ (y : Life). place < (s.ms.head y q.message.no.0).length) life low)

-- what is taken
item_inside : (own : Own) (before : List Deed) (source : Life) (n : ℕ) (item : Item) (ports : ℕ) (port_log : List Deed) (x : Piece) (place b : ℕ) → TakenIsRead (Took source item)
    → IsTaken (life_scene ports own port_log before) source own.life.connid item
    → piece_by (own_pairs own before) source n item ≡ Some x → byte_in x place ≡ Some b → place < (heads_by (Took source item ∷ before) source n).length
unfolding piece_by is_no_op is_overlap heard_by
item_inside own before source n (Spelled (Rtm number tag confirm opt form)) ports port_log x place b fit taken piece is =
    let c = some_cond (number.0 == n) (piece_of form) x piece in
    opens_inside own before source n number tag confirm opt form (heard_head before source n) ports port_log x place b (eqb-true number.0 n c.0) (form_meets number tag confirm opt form fit) refl taken c.1 is
item_inside own before source n (Spelled (CtsData recv offset connid bytes)) ports port_log x place b fit taken piece is =
    let s = life_scene ports own port_log before in
    let t = then_some_parts (is_pair (own_pairs own before) recv.0 source n) (record { offset = offset; bytes = bytes }) x piece in
    let h = is_pair_heard own.limits.first (told own before).head before recv.0 source n t.0 in
    length_grows (Took source (Spelled (CtsData recv offset connid bytes))) before source n place h.0 h.1
    (named_within s is_long_shape source source n recv.0 offset bytes place b (live_pair s source recv.0) refl taken.has_op taken.new t.0
    (subst (λ (q : Piece). byte_in q place ≡ Some b) (sym t.1) is))
item_inside own before source n (Gives g) ports port_log x place b fit taken piece is =
    let s = life_scene ports own port_log before in
    let t = then_some_parts (is_pair (own_pairs own before) g.recv_id.0 source n) (record { offset = g.at; bytes = g.bytes }) x piece in
    let h = is_pair_heard own.limits.first (told own before).head before g.recv_id.0 source n t.0 in
    length_grows (Took source (Gives g)) before source n place h.0 h.1
    (named_within s is_read_shape source source n g.recv_id.0 g.at g.bytes place b (live_pair s source g.recv_id.0) refl taken.has_op taken.new t.0
    (subst (λ (q : Piece). byte_in q place ≡ Some b) (sym t.1) is))
item_inside own before source n _ ports port_log x place b fit taken piece is = cc

-- ---- all that came

-- what any deed brings
deed_inside : (own : Own) (d : Deed) (before : List Deed) (source : Life) (n : ℕ) (x : Piece) (place b : ℕ) → LifeStep own before d → TakenIsRead d
    → carried_by (own_pairs own before) source n d ≡ Some x → byte_in x place ≡ Some b → place < (heads_by (d ∷ before) source n).length
unfolding carried_by
deed_inside own (Took from item) before source n x place b step fit brings is =
    let c = some_cond (same_life from source) (piece_by (own_pairs own before) source n item) x brings in
    let e : from ≡ source = same_life-true from source c.0 in
    let piece : piece_by (own_pairs own before) from n item ≡ Some x = subst (λ (l : Life). piece_by (own_pairs own before) l n item ≡ Some x) (sym e) c.1 in
    subst (λ (l : Life). place < (heads_by (Took from item ∷ before) l n).length) e
    (item_inside own before from n item step.0 step.1 x place b fit (taken_parts (life_scene step.0 own step.1 before) from own.life.connid item step.2) piece is)
deed_inside own _ before source n x place b step fit brings is = cc

-- what was told of a message is as long later
told_longer : (d : Deed) (before : List Deed) (source : Life) (n place : ℕ) (o : Option Head) → heard_head before source n ≡ o → place < (heads_by before source n).length
    → place < (heads_by (d ∷ before) source n).length
unfolding heads_by
told_longer d before source n place None heard low = absurd (let e : (heads_by before source n).length ≡ 0 = ap (λ (p : Option Head). (unwrap_or p no_head).length) heard in omega arith)
told_longer d before source n place (Some h) heard low = length_grows d before source n place h heard low

-- each piece that came lies within its message
pieces_inside : (own : Own) (log : List Deed) (source : Life) (n : ℕ) (x : Piece) (place b : ℕ) → LifeLocal own log → AllTakenRead log
    → Member x (carried_pieces own.limits.first (told own log).head log source n) → byte_in x place ≡ Some b → place < (heads_by log source n).length
unfolding carried_pieces
pieces_inside own [] source n x place b local fit m is = elim m [ ]
pieces_inside own (d ∷ before) source n x place b local fit m is =
    let new = carried_by (own_pairs own before) source n d in
    elim (member-append_cases x (carried_pieces own.limits.first (told own before).head before source n) (option_to_list new)
    (subst (λ (ps : List Piece). Member x ps) (sym (newer_pieces own d before source n)) m)) [
      | inl a ↦ told_longer d before source n place (heard_head before source n) refl (pieces_inside own before source n x place b local.0 fit.0 a is)
      | inr a ↦ deed_inside own d before source n x place b local.1 fit.1 (option_member new x a) is
    ]

-- each byte that came lies within its message
pub came_inside : (own : Own) (log : List Deed) (source : Life) (n place b : ℕ) → LifeLocal own log → AllTakenRead log → byte_came own log source n place ≡ Some b
    → place < ((told own log).head source n).length
unfolding heard_by
came_inside own log source n place b local fit is =
    let q = byte_of_piece (carried_pieces own.limits.first (told own log).head log source n) place b is in
    pieces_inside own log source n q.0 place b local fit q.1 q.2
