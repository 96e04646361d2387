-- What a deed leaves of receives that makes no pair and brings no byte.
use Rattle.std.proofs.Common.{◌≡◌, ℕ, ◌+◌, ◌<◌, Bool, true, false, cond, ◌&&◌, List, ◌∷◌, ◌++◌, Option, Some, None, refl, arith, inl, inr, sym, ◌∙◌, ap, subst}
use Rattle.std.proofs.Math.Path.{fun_ext}
use Rattle.std.specs.Prelude.{◌==◌, nat_lt, is_some, option_map, option_to_list, unwrap_or}
use Rattle.std.proofs.lemmas.Bool.{cases_lt, ltb-true}
use Rattle.std.proofs.lemmas.List.{append-nil}
use Rattle.rdm_lists.specs.Lists.{Member, or_else}
use Rattle.rdm_lists.proofs.Members.{find_member}
use Rattle.rdm_lists.proofs.Options.{or_else-none}
use Rattle.rdm_num.specs.Lives.{same_life}
use Rattle.rdm_num.specs.Pieces.{Piece, byte_at, covers}
use Rattle.rdm_num.specs.declared.numbers.Life.{Life}
use Rattle.rdm_num.specs.declared.head.Head.{Head}
use Rattle.rdm_pkt.specs.declared.Form.{Form}
use Rattle.rdm_pkt.specs.declared.Form.TheVariants.{Eager, Medium, LongCts, LongRead, Runt}
use Rattle.rdm_pkt.specs.declared.Packet.TheVariants.{Rtm}
use Rattle.rdm_pkt.specs.Heads.{piece_of}
use Rattle.rdm_match.specs.Matcher.{Pair, is_recv}
use Rattle.rdm_model.specs.Beginnings.{Own}
use Rattle.rdm_model.specs.Deeds.{Deed, Took, Spelled}
use Rattle.rdm_model.specs.Grants.{first_part_in, first_part_by, first_part_taken, first_part, granted_bytes, with_window, window, window_of}
use Rattle.rdm_model.specs.Matches.{Receive}
use Rattle.rdm_model.specs.Parts.{piece_by, carried_by, carried_pieces}
use Rattle.rdm_model.proofs.Grows.{agree_grows}
use Rattle.rdm_model.proofs.Matches.{pair_heard}
use Rattle.rdm_law.proofs.Lives.Lives.{LifeLocal}
use Rattle.rdm_law.proofs.Windows.Windows.{is_window}
use Rattle.rdm_life.specs.Kept.{LiveReceive, Matched}
use Rattle.rdm_life.specs.Keeps.{told, own_pairs, byte_came, region_byte, pair_of, matched_of, byte_of_pair, kept_receive}
use Rattle.rdm_life.proofs.Windows.{no_window, newer_pieces, newer_granted, window_is}

-- ---- what was granted

-- a packet without a piece has no first part
no_first_in : (form : Form) → piece_of form ≡ None → first_part_in form ≡ None
unfolding piece_of first_part_in
no_first_in (LongCts size send credits bytes) h = cc
no_first_in (Eager bytes) h = refl
no_first_in (Medium size offset bytes) h = refl
no_first_in (LongRead size send iov) h = refl
no_first_in (Runt size send iov runt offset bytes) h = refl

-- two tests that let nothing through
none_through : {A B : Type 0} (a b : Bool) (x : Option A) (y : Option B) → (x ≡ None → y ≡ None) → cond a (cond b x None) None ≡ None → cond (a && b) y None ≡ None
none_through true true x y f h = f h
none_through true false x y f h = refl
none_through false b x y f h = refl

-- a deed that brings no byte has no first part
no_first : (ps : List Pair) (source : Life) (n : ℕ) (d : Deed) → carried_by ps source n d ≡ None → first_part_by source n d ≡ None
unfolding carried_by piece_by first_part_by
no_first ps source n (Took from (Spelled (Rtm number tag confirm opt form))) h =
    none_through (same_life from source) (number.0 == n) (piece_of form) (first_part_in form) (no_first_in form) h
no_first ps source n _ h = refl

-- so the first part stays
pub first_stays : (ps : List Pair) (source : Life) (n : ℕ) (d : Deed) (before : List Deed) → carried_by ps source n d ≡ None → first_part (d ∷ before) source n ≡ first_part before source n
unfolding first_part first_part_taken
first_stays ps source n d before h =
    let e = no_first ps source n d h in
    ap (λ o. unwrap_or (or_else (first_part_taken before source n) o) 0) e ∙ ap (λ o. unwrap_or o 0) (or_else-none (first_part_taken before source n))

-- and so do the pieces
pub pieces_stay : (own : Own) (d : Deed) (before : List Deed) (source : Life) (n : ℕ) → carried_by (own_pairs own before) source n d ≡ None
    → carried_pieces own.limits.first (told own (d ∷ before)).head (d ∷ before) source n ≡ carried_pieces own.limits.first (told own before).head before source n
unfolding carried_pieces
pieces_stay own d before source n h =
    let heads = (told own before).head in
    sym (newer_pieces own d before source n)
    ∙ ap (λ (o : Option Piece). carried_pieces own.limits.first heads before source n ++ option_to_list o) h ∙ append-nil (carried_pieces own.limits.first heads before source n)

-- the head of a pair's message stays
pub head_stays : (own : Own) (d : Deed) (before : List Deed) (p : Pair) → Member p (own_pairs own before)
    → (told own before).head p.message.life p.message.no.0 ≡ (told own (d ∷ before)).head p.message.life p.message.no.0
head_stays own d before p m =
    let h = pair_heard own.limits.first (told own before).head before p m in
    (agree_grows own.limits.first d before).heads p.message.life p.message.no.0 h.0 h.1

-- no window opens where no byte came
no_new_window : (own : Own) (d : Deed) (before : List Deed) (p : Pair) → LifeLocal own (d ∷ before) → Member p (own_pairs own before)
    → carried_by (own_pairs own before) p.message.life p.message.no.0 d ≡ None
    → window own.limits (told own (d ∷ before)).head (d ∷ before) p (granted_bytes own.limits (told own (d ∷ before)).head before p) ≡ 0
no_new_window own d before p local m none =
    let olds = (told own before).head in
    let heads = (told own (d ∷ before)).head in
    let source = p.message.life in
    let n = p.message.no.0 in
    let g = granted_bytes own.limits heads before p in
    let w = window own.limits heads (d ∷ before) p g in
    let start : ℕ = first_part (d ∷ before) source n + g in
    let was : ℕ = first_part before source n + granted_bytes own.limits olds before p in
    elim (cases_lt 0 w) [
      | inl k ↦ absurd (
          let i = is_window own.limits heads (d ∷ before) p g k in
          let first = first_stays (own_pairs own before) source n d before none in
          let same = newer_granted own d before p in
          let e : start ≡ was = omega arith in
          let covered : covers (carried_pieces own.limits.first olds before source n) was ≡ true =
          subst (λ (x : ℕ). covers (carried_pieces own.limits.first olds before source n) x ≡ true) e
          (subst (λ (ps : List Piece). covers ps start ≡ true) (pieces_stay own d before source n none) i.covered) in
          let zero = no_window own before p local.0 m covered in
          let is = window_is own.limits heads (d ∷ before) p g i.paired i.covered in
          let head = head_stays own d before p m in
          let now : window_of own.limits (heads source n) (heads source n).shape start ≡ 0 =
          ap (window_of own.limits (heads source n) (heads source n).shape) e
          ∙ ap (λ (h : Head). window_of own.limits h h.shape was) (sym head) ∙ zero in
          let z : w ≡ 0 = is ∙ now in
          omega arith)
      | inr k ↦ omega arith
    ]

-- what was granted stays where no byte came
pub granted_stays : (own : Own) (d : Deed) (before : List Deed) (p : Pair) → LifeLocal own (d ∷ before) → Member p (own_pairs own before)
    → carried_by (own_pairs own before) p.message.life p.message.no.0 d ≡ None
    → first_part (d ∷ before) p.message.life p.message.no.0 + granted_bytes own.limits (told own (d ∷ before)).head (d ∷ before) p
    ≡ first_part before p.message.life p.message.no.0 + granted_bytes own.limits (told own before).head before p
unfolding granted_bytes with_window
granted_stays own d before p local m none =
    let w = no_new_window own d before p local m none in
    let first = first_stays (own_pairs own before) p.message.life p.message.no.0 d before none in
    let same = newer_granted own d before p in
    omega arith

-- ---- what is kept of a receive

-- a receive with its message and bytes
abbrev pub built : Receive → Option Matched → (byte region : ℕ → Option ℕ) → LiveReceive
built r m byte region = record { receive = r; part = λ k. cond (nat_lt k r.req.len) (unwrap_or (byte k) (unwrap_or (region k) 0)) 0; matched = m }

-- values that agree where a test holds
pub cond_where : {A : Type 0} (b : Bool) (x y z : A) → (b ≡ true → x ≡ y) → cond b x z ≡ cond b y z
cond_where true x y z h = h refl
cond_where false x y z h = refl

-- it is the same by the same bytes in its range
pub built_same : (r : Receive) (m n : Option Matched) (byte byte' region region' : ℕ → Option ℕ) → m ≡ n → ((k : ℕ) → k < r.req.len → byte k ≡ byte' k)
    → ((k : ℕ) → k < r.req.len → region k ≡ region' k) → built r m byte region ≡ built r n byte' region'
built_same r m n byte byte' region region' e f g =
    let parts = fun_ext (λ k. cond_where (nat_lt k r.req.len) (unwrap_or (byte k) (unwrap_or (region k) 0)) (unwrap_or (byte' k) (unwrap_or (region' k) 0)) 0
    (λ t. let lt = ltb-true k r.req.len t in let x = f k lt in let y = g k lt in rw (x, y) refl)) in
    let Q : (ℕ → ℕ) → LiveReceive = λ q. record { receive = r; part = q; matched = m } in
    let R : Option Matched → LiveReceive = λ o. built r o byte' region' in
    ap Q parts ∙ ap R e

-- a deed that makes no pair and brings no byte
pub record Stays (own : Own) (d : Deed) (before : List Deed) : Type 0 where
  pub pairs_are : own_pairs own (d ∷ before) ≡ own_pairs own before
  pub brings_none : (source : Life) (n : ℕ) → carried_by (own_pairs own before) source n d ≡ None

-- the byte of a message stays
byte_stays : (own : Own) (d : Deed) (before : List Deed) (source : Life) (n place : ℕ) → carried_by (own_pairs own before) source n d ≡ None
    → byte_came own (d ∷ before) source n place ≡ byte_came own before source n place
byte_stays own d before source n place none = ap (λ (ps : List Piece). byte_at ps place) (pieces_stay own d before source n none)

-- a message with what it is
abbrev pub matched_by : Pair → Head → (came : ℕ → Bool) → (granted : ℕ) → Matched
matched_by p head came granted = record { source = p.message.life; number = p.message.no.0; head = head; came = came; granted = granted }

-- it is the same by the same parts
pub matched_same : (p : Pair) (h k : Head) (f g : ℕ → Bool) (a b : ℕ) → h ≡ k → ((place : ℕ) → f place ≡ g place) → a ≡ b → matched_by p h f a ≡ matched_by p k g b
matched_same p h k f g a b e u i =
    let came = fun_ext u in
    ap (λ (x : Head). matched_by p x f a) e ∙ ap (λ (x : ℕ → Bool). matched_by p k x a) came ∙ ap (λ (x : ℕ). matched_by p k g x) i

-- what is kept of the message of a pair stays
pub matched_stays : (own : Own) (d : Deed) (before : List Deed) (p : Pair) → LifeLocal own (d ∷ before) → Member p (own_pairs own before)
    → carried_by (own_pairs own before) p.message.life p.message.no.0 d ≡ None → matched_of own (d ∷ before) p ≡ matched_of own before p
matched_stays own d before p local m none =
    matched_same p ((told own (d ∷ before)).head p.message.life p.message.no.0) ((told own before).head p.message.life p.message.no.0)
    (λ place. is_some (byte_came own (d ∷ before) p.message.life p.message.no.0 place)) (λ place. is_some (byte_came own before p.message.life p.message.no.0 place))
    (first_part (d ∷ before) p.message.life p.message.no.0 + granted_bytes own.limits (told own (d ∷ before)).head (d ∷ before) p)
    (first_part before p.message.life p.message.no.0 + granted_bytes own.limits (told own before).head before p)
    (sym (head_stays own d before p m)) (λ place. ap is_some (byte_stays own d before p.message.life p.message.no.0 place none))
    (granted_stays own d before p local m none)

-- the pair of a receive, if it has one, is one of the pairs
pub pair_member : (own : Own) (log : List Deed) (r : Receive) (p : Pair) → pair_of own log r ≡ Some p → Member p (own_pairs own log)
pair_member own log r p h = (find_member (λ (q : Pair). is_recv r.number q.recv) p (own_pairs own log) h).0

-- what is kept of a receive stays, where no byte of its message came and its range is as it was
stays_with : (own : Own) (d : Deed) (before : List Deed) (r : Receive) (o : Option Pair) → LifeLocal own (d ∷ before)
    → ((p : Pair) → o ≡ Some p → Member p (own_pairs own before) × (carried_by (own_pairs own before) p.message.life p.message.no.0 d ≡ None))
    → ((k : ℕ) → k < r.req.len → region_byte own (d ∷ before) r.req.region.0 (r.req.at + k) ≡ region_byte own before r.req.region.0 (r.req.at + k))
    → built r (option_map (matched_of own (d ∷ before)) o) (λ k. byte_of_pair own (d ∷ before) o k) (λ k. region_byte own (d ∷ before) r.req.region.0 (r.req.at + k))
    ≡ built r (option_map (matched_of own before) o) (λ k. byte_of_pair own before o k) (λ k. region_byte own before r.req.region.0 (r.req.at + k))
unfolding byte_of_pair
stays_with own d before r None local h same =
    built_same r None None (λ k. None) (λ k. None) (λ k. region_byte own (d ∷ before) r.req.region.0 (r.req.at + k)) (λ k. region_byte own before r.req.region.0 (r.req.at + k))
    refl (λ k lt. refl) same
stays_with own d before r (Some p) local h same =
    let a = h p refl in
    built_same r (Some (matched_of own (d ∷ before) p)) (Some (matched_of own before p))
    (λ k. byte_came own (d ∷ before) p.message.life p.message.no.0 k) (λ k. byte_came own before p.message.life p.message.no.0 k)
    (λ k. region_byte own (d ∷ before) r.req.region.0 (r.req.at + k)) (λ k. region_byte own before r.req.region.0 (r.req.at + k))
    (ap Some (matched_stays own d before p local a.0 a.1)) (λ k lt. byte_stays own d before p.message.life p.message.no.0 k a.1) same

-- where the receive has the same pair as before
pub kept_stays : (own : Own) (d : Deed) (before : List Deed) (r : Receive) → LifeLocal own (d ∷ before) → pair_of own (d ∷ before) r ≡ pair_of own before r
    → ((p : Pair) → pair_of own before r ≡ Some p → carried_by (own_pairs own before) p.message.life p.message.no.0 d ≡ None)
    → ((k : ℕ) → k < r.req.len → region_byte own (d ∷ before) r.req.region.0 (r.req.at + k) ≡ region_byte own before r.req.region.0 (r.req.at + k))
    → kept_receive own (d ∷ before) r ≡ kept_receive own before r
unfolding kept_receive
kept_stays own d before r local pair none same =
    ap (λ (o : Option Pair). built r (option_map (matched_of own (d ∷ before)) o) (λ k. byte_of_pair own (d ∷ before) o k) (λ k. region_byte own (d ∷ before) r.req.region.0 (r.req.at + k))) pair
    ∙ stays_with own d before r (pair_of own before r) local (λ p e. (pair_member own before r p e, none p e)) same
