-- A window opens only at the deed by which bytes landed: after each deed, all that is granted of a message has come only where nothing more is to be granted.
use Rattle.std.proofs.Common.{◌≡◌, ℕ, ◌+◌, ◌<◌, Bool, true, false, cond, ◌&&◌, List, [], ◌∷◌, Option, Some, None, refl, arith, inl, inr, sym, ◌∙◌, ap, subst}
use Rattle.std.specs.Prelude.{◌==◌, is_some, option_to_list, unwrap_or}
use Rattle.std.specs.Bool.{then_some}
use Rattle.std.proofs.lemmas.Bool.{and_from, or_parts, eqb-true, eq-eqb, cases_lt}
use Rattle.rdm_lists.specs.Lists.{Member, or_else}
use Rattle.rdm_lists.proofs.Below.{each_below_at}
use Rattle.rdm_lists.proofs.Members.{member-append_cases, option_member}
use Rattle.rdm_lists.proofs.Options.{some_of, then_some_parts}
use Rattle.rdm_num.specs.Lives.{same_life}
use Rattle.rdm_num.specs.Pieces.{Piece, byte_in, byte_at, covers}
use Rattle.rdm_num.specs.declared.numbers.Life.{Life}
use Rattle.rdm_num.specs.declared.numbers.MsgNo.{MsgNo}
use Rattle.rdm_num.specs.declared.head.Head.{Head}
use Rattle.rdm_num.specs.declared.head.Shape.{Shape}
use Rattle.rdm_num.specs.declared.head.Shape.TheVariants as S
use Rattle.rdm_num.specs.declared.limits.EpLimits.{EpLimits}
use Rattle.rdm_num.proofs.Lives.{same_life-true, same_life-refl}
use Rattle.rdm_hdr.specs.declared.Opt.{Opt}
use Rattle.rdm_pkt.specs.declared.Form.{Form}
use Rattle.rdm_pkt.specs.declared.Packet.TheVariants.{Rtm, CtsData}
use Rattle.rdm_pkt.specs.Heads.{shape_of, head_of, piece_of}
use Rattle.rdm_match.specs.Matcher.{Pair, is_pair}
use Rattle.rdm_model.specs.Beginnings.{Own, Heads}
use Rattle.rdm_model.specs.Classes.{item_class, is_mismatch, is_no_op, is_overlap, is_other_head, repeats}
use Rattle.rdm_model.specs.ClassFacts.{awaited_head, is_received, class_facts}
use Rattle.rdm_model.specs.Deeds.{Deed, Took, Item, Spelled, Gives}
use Rattle.rdm_model.specs.Grants.{first_part_in, first_part_by, first_part_taken, first_part, granted_bytes, with_window, window, window_of}
use Rattle.rdm_model.specs.Heard.{head_by, heard_head, is_heard}
use Rattle.rdm_model.specs.Local.{heads_by, heard_by}
use Rattle.rdm_model.specs.Matches.{pairs, matching}
use Rattle.rdm_model.specs.Parts.{piece_by, carried_by, carried_pieces}
use Rattle.rdm_model.specs.Targets.{live_pair, is_long_shape}
use Rattle.rdm_model.proofs.Grows.{agree_grows, heads_by_heard}
use Rattle.rdm_model.proofs.Matches.{heard_still, pair_still, member_is_pair}
use Rattle.rdm_model.proofs.SameMatches.{pairs_same, carried_pieces_same, is_pair_heard}
use Rattle.rdm_model.proofs.SameReplies.{granted_bytes_same}
use Rattle.rdm_law.proofs.Accounts.Whole.{byte_of_piece}
use Rattle.rdm_law.proofs.Classes.Classed.{IsTaken, taken_parts}
use Rattle.rdm_law.proofs.Lives.Lives.{LifeLocal, LifeStep, life_scene}
use Rattle.rdm_law.proofs.Matching.Distinct.{matching_distinct}
use Rattle.rdm_law.proofs.Windows.Granted.{byte_ends}
use Rattle.rdm_life.specs.Keeps.{told, own_pairs}
use Rattle.rdm_life.proofs.CameWithin.{IsGranted, IsOnly, WasGranted, some_cond, unheard_first, first_more, heard_brings, first_brings, data_brings, gives_none}

-- ---- what a deed brings was granted before it

-- of a message that was not heard of, the packet that opens it tells the head and the first part
pub opened_first : (before : List Deed) (source : Life) (n : ℕ) (number : MsgNo) (tag : Option ℕ) (confirm : Bool) (opt : Opt) (form : Form) → number.0 ≡ n → heard_head before source n ≡ None
    → (heard_head (Took source (Spelled (Rtm number tag confirm opt form)) ∷ before) source n ≡ Some (head_of tag confirm opt form))
    × (first_part (Took source (Spelled (Rtm number tag confirm opt form)) ∷ before) source n ≡ unwrap_or (first_part_in form) 0)
unfolding heard_head first_part first_part_taken head_by first_part_by or_else
opened_first before source n number tag confirm opt form same heard =
    let unheard = unheard_first before source n heard in
    let test : (same_life source source && number.0 == n) ≡ true = and_from _ _ (same_life-refl source) (eq-eqb number.0 n same) in (
      ap (λ o. or_else o (then_some (same_life source source && number.0 == n) (head_of tag confirm opt form))) heard
          ∙ ap (λ b. then_some b (head_of tag confirm opt form)) test,
      ap (λ o. unwrap_or (or_else o (cond (same_life source source && number.0 == n) (first_part_in form) None)) 0) unheard
          ∙ ap (λ b. unwrap_or (cond b (first_part_in form) None) 0) test,
    )

-- the shape of a head is that of its packet
shape_of_head : (tag : Option ℕ) (confirm : Bool) (opt : Opt) (form : Form) → is_long_shape (head_of tag confirm opt form).shape ≡ true → is_long_shape (shape_of form) ≡ true
unfolding head_of
shape_of_head tag confirm opt form h = h

-- a first packet that is taken
opens_within : (own : Own) (before : List Deed) (p : Pair) (number : MsgNo) (tag : Option ℕ) (confirm : Bool) (opt : Opt) (form : Form) (o : Option Head) (ports : ℕ) (port_log : List Deed)
    (x : Piece) (place b : ℕ) → number.0 ≡ p.message.no.0 → IsGranted (Took p.message.life (Spelled (Rtm number tag confirm opt form)) ∷ before) p.message.life p.message.no.0
    → heard_head before p.message.life p.message.no.0 ≡ o
    → IsTaken (life_scene ports own port_log before) p.message.life own.life.connid (Spelled (Rtm number tag confirm opt form))
    → piece_of form ≡ Some x → byte_in x place ≡ Some b → WasGranted own (Took p.message.life (Spelled (Rtm number tag confirm opt form))) before p place
unfolding is_mismatch is_overlap awaited_head is_heard heard_by
opens_within own before p number tag confirm opt form (Some was) ports port_log x place b same granted heard taken piece is =
    let s = life_scene ports own port_log before in
    let d : Deed = Took p.message.life (Spelled (Rtm number tag confirm opt form)) in
    let n = p.message.no.0 in
    let long = granted was (heard_still d before p.message.life n was heard) in
    let there : is_heard before p.message.life number.0 ≡ true = ap (λ (k : ℕ). is_heard before p.message.life k) same ∙ ap is_some heard in
    let new : (is_heard before p.message.life number.0 && repeats (class_facts s) p.message.life number.0 form) ≡ false = (or_parts _ _ taken.new).1 in
    let again : repeats (class_facts s) p.message.life number.0 form ≡ false = ap (λ (b : Bool). b && repeats (class_facts s) p.message.life number.0 form) (sym there) ∙ new in
    absurd (heard_brings s p.message.life n tag confirm opt form was x place b heard long refl
    (subst (λ (k : ℕ). is_other_head (cond (is_received s p.message.life k) None (heard_head before p.message.life k)) (head_of tag confirm opt form) ≡ false) same taken.agrees)
    (subst (λ (k : ℕ). repeats (class_facts s) p.message.life k form ≡ false) same again) piece is)
opens_within own before p number tag confirm opt form None ports port_log x place b same granted heard taken piece is =
    let d : Deed = Took p.message.life (Spelled (Rtm number tag confirm opt form)) in
    let head = head_of tag confirm opt form in
    let f = opened_first before p.message.life p.message.no.0 number tag confirm opt form same heard in
    let long = granted head f.0 in
    let within = first_brings form x place b (shape_of_head tag confirm opt form long) piece is in
    let first : first_part (d ∷ before) p.message.life p.message.no.0 ≡ unwrap_or (first_part_in form) 0 = f.1 in
    omega arith

-- what is taken
item_within : (own : Own) (before : List Deed) (p : Pair) (item : Item) (ports : ℕ) (port_log : List Deed) (x : Piece) (place b : ℕ)
    → IsGranted (Took p.message.life item ∷ before) p.message.life p.message.no.0 → IsOnly (own_pairs own before) p
    → IsTaken (life_scene ports own port_log before) p.message.life own.life.connid item
    → piece_by (own_pairs own before) p.message.life p.message.no.0 item ≡ Some x → byte_in x place ≡ Some b → WasGranted own (Took p.message.life item) before p place
unfolding piece_by is_no_op is_mismatch heard_by
item_within own before p (Spelled (Rtm number tag confirm opt form)) ports port_log x place b granted only taken piece is =
    let c = some_cond (number.0 == p.message.no.0) (piece_of form) x piece in
    opens_within own before p number tag confirm opt form (heard_head before p.message.life p.message.no.0) ports port_log x place b (eqb-true number.0 p.message.no.0 c.0) granted refl taken c.1 is
item_within own before p (Spelled (CtsData recv offset connid bytes)) ports port_log x place b granted only taken piece is =
    let s = life_scene ports own port_log before in
    let t = then_some_parts (is_pair (own_pairs own before) recv.0 p.message.life p.message.no.0) (record { offset = offset; bytes = bytes }) x piece in
    let within = data_brings s p p.message.life recv.0 offset bytes (live_pair s p.message.life recv.0) refl taken.has_op taken.agrees only t.0 in
    let high = byte_ends (record { offset = offset; bytes = bytes }) place b (subst (λ (q : Piece). byte_in q place ≡ Some b) (sym t.1) is) in
    let more = first_more (Took p.message.life (Spelled (CtsData recv offset connid bytes))) before p.message.life p.message.no.0 in
    omega arith
item_within own before p (Gives g) ports port_log x place b granted only taken piece is =
    let s = life_scene ports own port_log before in
    let t = then_some_parts (is_pair (own_pairs own before) g.recv_id.0 p.message.life p.message.no.0) (record { offset = g.at; bytes = g.bytes }) x piece in
    let h = is_pair_heard own.limits.first (told own before).head before g.recv_id.0 p.message.life p.message.no.0 t.0 in
    let long = granted h.0 (heard_still (Took p.message.life (Gives g)) before p.message.life p.message.no.0 h.0 h.1) in
    absurd (gives_none s p p.message.life g.recv_id.0 (live_pair s p.message.life g.recv_id.0) refl taken.has_op only t.0
    (subst (λ (k : Head). is_long_shape k.shape ≡ true) (sym (heads_by_heard before p.message.life p.message.no.0 h.0 h.1)) long))
item_within own before p _ ports port_log x place b granted only taken piece is = cc

-- what any deed brings
deed_within : (own : Own) (d : Deed) (before : List Deed) (p : Pair) (x : Piece) (place b : ℕ) → LifeStep own before d → IsGranted (d ∷ before) p.message.life p.message.no.0
    → IsOnly (own_pairs own before) p → carried_by (own_pairs own before) p.message.life p.message.no.0 d ≡ Some x → byte_in x place ≡ Some b → WasGranted own d before p place
unfolding carried_by
deed_within own (Took from item) before p x place b step granted only brings is =
    let c = some_cond (same_life from p.message.life) (piece_by (own_pairs own before) p.message.life p.message.no.0 item) x brings in
    let e : p.message.life ≡ from = sym (same_life-true from p.message.life c.0) in
    subst (λ (l : Life). WasGranted own (Took l item) before p place) e
    (item_within own before p item step.0 step.1 x place b
    (subst (λ (l : Life). IsGranted (Took l item ∷ before) p.message.life p.message.no.0) (sym e) granted) only
    (taken_parts (life_scene step.0 own step.1 before) p.message.life own.life.connid item (subst (λ (l : Life). item_class (life_scene step.0 own step.1 before) l own.life.connid item ≡ None) (sym e) step.2))
    c.1 is)
deed_within own _ before p x place b step granted only brings is = cc

-- ---- so all that came was granted

-- a piece of the message ends within what is granted
abbrev pub Reached : Own → List Deed → Pair → Type 0
Reached own log p =
    (x : Piece) (place b : ℕ) → Member x (carried_pieces own.limits.first (told own log).head log p.message.life p.message.no.0) → byte_in x place ≡ Some b
    → place < first_part log p.message.life p.message.no.0 + granted_bytes own.limits (told own log).head log p

-- with one deed more, within what was granted before it
reached_before : (own : Own) (d : Deed) (before : List Deed) (p : Pair) (x : Piece) (place b : ℕ) → LifeStep own before d → IsGranted (d ∷ before) p.message.life p.message.no.0
    → IsOnly (own_pairs own before) p → Reached own before p
    → Member x (carried_pieces own.limits.first (told own before).head (d ∷ before) p.message.life p.message.no.0) → byte_in x place ≡ Some b → WasGranted own d before p place
unfolding carried_pieces
reached_before own d before p x place b step granted only was m is =
    let heads = (told own before).head in
    let new = carried_by (pairs own.limits.first heads before) p.message.life p.message.no.0 d in
    elim (member-append_cases x (carried_pieces own.limits.first heads before p.message.life p.message.no.0) (option_to_list new) m) [
      | inl a ↦ (let w = was x place b a is in let more = first_more d before p.message.life p.message.no.0 in omega arith)
      | inr a ↦ deed_within own d before p x place b step granted only (option_member new x a) is
    ]

-- the only pair of a message was so before
only_before : (own : Own) (d : Deed) (before : List Deed) (p : Pair) → IsOnly (own_pairs own (d ∷ before)) p → IsOnly (own_pairs own before) p
only_before own d before p only q m life number =
    let first = own.limits.first in
    let same = pairs_same first (told own before).head (told own (d ∷ before)).head before (agree_grows first d before).heads in
    only q (pair_still first (told own (d ∷ before)).head d before q (subst (λ (ps : List Pair). Member q ps) same m)) life number

-- the pieces of a message by the account of a newer log
pub newer_pieces : (own : Own) (d : Deed) (before : List Deed) (source : Life) (n : ℕ)
    → carried_pieces own.limits.first (told own before).head (d ∷ before) source n ≡ carried_pieces own.limits.first (told own (d ∷ before)).head (d ∷ before) source n
unfolding carried_pieces
newer_pieces own d before source n =
    let first = own.limits.first in
    let agree = (agree_grows first d before).heads in
    let x = carried_pieces_same first (told own before).head (told own (d ∷ before)).head before source n agree in
    let y = pairs_same first (told own before).head (told own (d ∷ before)).head before agree in
    rw (x, y) refl

-- as many bytes were granted by the account of a newer log
pub newer_granted : (own : Own) (d : Deed) (before : List Deed) (p : Pair) → granted_bytes own.limits (told own before).head before p ≡ granted_bytes own.limits (told own (d ∷ before)).head before p
newer_granted own d before p = granted_bytes_same own.limits (told own before).head (told own (d ∷ before)).head before p (agree_grows own.limits.first d before).heads

-- what came lies within what is granted
pub reached : (own : Own) (log : List Deed) (p : Pair) → LifeLocal own log → IsGranted log p.message.life p.message.no.0 → IsOnly (own_pairs own log) p → Reached own log p
unfolding carried_pieces granted_bytes with_window
reached own [] p local granted only = λ x place b m is. elim m [ ]
reached own (d ∷ before) p local granted only = λ x place b m is.
    let first = own.limits.first in
    let was = reached own before p local.0 (λ h e. granted h (heard_still d before p.message.life p.message.no.0 h e)) (only_before own d before p only) in
    let w = reached_before own d before p x place b local.1 granted (only_before own d before p only) was
    (subst (λ (ps : List Piece). Member x ps) (sym (newer_pieces own d before p.message.life p.message.no.0)) m) is in
    let same = newer_granted own d before p in
    omega arith

-- ---- windows

-- a message that is not to be granted has no window
no_window_of : (limits : EpLimits) (head : Head) (shape : Shape) (so_far : ℕ) → is_long_shape shape ≡ false → window_of limits head shape so_far ≡ 0
unfolding window_of is_long_shape
no_window_of limits head (S.LongCts send credits) so_far h = cc
no_window_of limits head S.Eager so_far h = refl
no_window_of limits head S.Medium so_far h = refl
no_window_of limits head (S.LongRead send iov) so_far h = refl
no_window_of limits head (S.Runt send iov runt) so_far h = refl

-- the window of a pair of which all that was granted has landed
pub window_is : (limits : EpLimits) (heads : Heads) (log : List Deed) (p : Pair) (granted : ℕ) → is_pair (pairs limits.first heads log) p.recv.id.0 p.message.life p.message.no.0 ≡ true
    → covers (carried_pieces limits.first heads log p.message.life p.message.no.0) (first_part log p.message.life p.message.no.0 + granted) ≡ true
    → window limits heads log p granted
    ≡ window_of limits (heads p.message.life p.message.no.0) (heads p.message.life p.message.no.0).shape (first_part log p.message.life p.message.no.0 + granted)
unfolding window
window_is limits heads log p granted paired all = rw (paired, all) refl

-- pieces that cover so much have a byte at each place of it
covered_place : (ps : List Piece) (n place : ℕ) → covers ps n ≡ true → place < n → (x : Piece) × (b : ℕ) × Member x ps × (byte_in x place ≡ Some b)
unfolding covers
covered_place ps n place all lt =
    let b = some_of (byte_at ps place) (each_below_at (λ place. is_some (byte_at ps place)) n place all lt) in
    let q = byte_of_piece ps place b.0 b.1 in
    (q.0, b.0, q.1, q.2)

-- a pair is the only one of its message
pub only_pair : (own : Own) (log : List Deed) (p : Pair) → Member p (own_pairs own log) → IsOnly (own_pairs own log) p
only_pair own log p m q k life number = (matching_distinct own.limits.first (told own log).head log).once q p k m life number

-- a message that was told to be granted is to be granted
granted_told : (own : Own) (log : List Deed) (source : Life) (n : ℕ) → is_long_shape ((told own log).head source n).shape ≡ true → IsGranted log source n
unfolding heads_by heard_by
granted_told own log source n long h heard = subst (λ (x : Head). is_long_shape x.shape ≡ true) (heads_by_heard log source n h heard) long

-- no window of a message to be granted follows where what was granted with the last deed has landed
long_window : (own : Own) (d : Deed) (before : List Deed) (p : Pair) → LifeLocal own (d ∷ before) → Member p (own_pairs own (d ∷ before))
    → is_long_shape ((told own (d ∷ before)).head p.message.life p.message.no.0).shape ≡ true
    → covers (carried_pieces own.limits.first (told own (d ∷ before)).head (d ∷ before) p.message.life p.message.no.0)
    (first_part (d ∷ before) p.message.life p.message.no.0 + granted_bytes own.limits (told own (d ∷ before)).head (d ∷ before) p) ≡ true
    → window_of own.limits ((told own (d ∷ before)).head p.message.life p.message.no.0) ((told own (d ∷ before)).head p.message.life p.message.no.0).shape
    (first_part (d ∷ before) p.message.life p.message.no.0 + granted_bytes own.limits (told own (d ∷ before)).head (d ∷ before) p) ≡ 0
unfolding granted_bytes with_window
long_window own d before p local m long all =
    let heads = (told own (d ∷ before)).head in
    let source = p.message.life in
    let n = p.message.no.0 in
    let ps = carried_pieces own.limits.first heads (d ∷ before) source n in
    let g = granted_bytes own.limits heads before p in
    let w = window own.limits heads (d ∷ before) p g in
    let start : ℕ = first_part (d ∷ before) source n + g in
    let only = only_before own d before p (only_pair own (d ∷ before) p m) in
    let granted = granted_told own (d ∷ before) source n long in
    let was = reached own before p local.0 (λ h e. granted h (heard_still d before source n h e)) only in
    elim (cases_lt 0 w) [
      | inl k ↦ absurd (
          let b = covered_place ps (first_part (d ∷ before) source n + (g + w)) start all (omega arith) in
          let e = reached_before own d before p b.0 start b.1 local.1 granted only was
          (subst (λ (qs : List Piece). Member b.0 qs) (sym (newer_pieces own d before source n)) b.2) b.3 in
          let same = newer_granted own d before p in
          omega arith)
      | inr k ↦
          let e : first_part (d ∷ before) source n + (g + w) ≡ start = omega arith in
          let zero : w ≡ 0 = omega arith in
          let covered : covers ps start ≡ true = subst (λ (x : ℕ). covers ps x ≡ true) e all in
          let is = window_is own.limits heads (d ∷ before) p g (member_is_pair (pairs own.limits.first heads (d ∷ before)) p m) covered in
          ap (window_of own.limits (heads source n) (heads source n).shape) e ∙ sym is ∙ zero
    ]

-- after each deed, nothing more is to be granted of a matched message of which all that was granted has landed
pub no_window : (own : Own) (log : List Deed) (p : Pair) → LifeLocal own log → Member p (own_pairs own log)
    → covers (carried_pieces own.limits.first (told own log).head log p.message.life p.message.no.0)
    (first_part log p.message.life p.message.no.0 + granted_bytes own.limits (told own log).head log p) ≡ true
    → window_of own.limits ((told own log).head p.message.life p.message.no.0) ((told own log).head p.message.life p.message.no.0).shape
    (first_part log p.message.life p.message.no.0 + granted_bytes own.limits (told own log).head log p) ≡ 0
unfolding matching
no_window own [] p local m all = elim m [ ]
no_window own (d ∷ before) p local m all =
    let head = (told own (d ∷ before)).head p.message.life p.message.no.0 in
    let so_far : ℕ = first_part (d ∷ before) p.message.life p.message.no.0 + granted_bytes own.limits (told own (d ∷ before)).head (d ∷ before) p in
    (elim (is_long_shape head.shape) as (λ b. is_long_shape head.shape ≡ b → window_of own.limits head head.shape so_far ≡ 0) [
      | true ↦ λ e. long_window own d before p local m e all
      | false ↦ λ e. no_window_of own.limits head head.shape so_far e
    ]) refl
