-- The windows of a message: each has a start and a size, inside the message, and starts where those before it end.
use Rattle.std.proofs.Common.{◌≡◌, ℕ, ◌+◌, ◌<◌, ◌≤◌, Bool, true, false, cond, ◌&&◌, List, [], ◌∷◌, length, Option, Some, None, refl, arith, inl, inr, sym, ◌∙◌, ap, subst}
use Rattle.std.specs.Prelude.{◌==◌, unwrap_or}
use Rattle.std.proofs.lemmas.Bool.{and_parts, cases_lt}
use Rattle.rdm_lists.specs.Lists.{or_else}
use Rattle.rdm_num.specs.Lives.{same_life}
use Rattle.rdm_num.specs.Pieces.{covers}
use Rattle.rdm_num.specs.declared.numbers.Life.{Life}
use Rattle.rdm_num.specs.declared.numbers.OpId.{OpId}
use Rattle.rdm_num.specs.declared.limits.EpLimits.{EpLimits}
use Rattle.rdm_num.specs.declared.head.Head.{Head}
use Rattle.rdm_num.specs.declared.head.Shape.{Shape}
use Rattle.rdm_num.specs.declared.head.Shape.TheVariants as S
use Rattle.rdm_pkt.specs.declared.Form.{Form}
use Rattle.rdm_pkt.specs.declared.Form.TheVariants.{Eager, Medium, LongCts, LongRead, Runt}
use Rattle.rdm_pkt.specs.declared.Packet.TheVariants.{Rtm}
use Rattle.rdm_pkt.specs.Heads.{shape_of, head_of}
use Rattle.rdm_match.specs.Matcher.{Pair, is_pair}
use Rattle.rdm_model.specs.Deeds.{Deed, Took, Spelled}
use Rattle.rdm_model.specs.Beginnings.{Heads}
use Rattle.rdm_model.specs.Heard.{head_by, heard_head}
use Rattle.rdm_model.specs.Matches.{pairs}
use Rattle.rdm_model.specs.Parts.{carried_pieces}
use Rattle.rdm_model.specs.Grants.{first_part_in, first_part_by, first_part_taken, first_part, window_of, window, with_window, granted_bytes}
use Rattle.rdm_model.proofs.Matches.{is_pair_still, pair_heard, is_pair_member, heard_still}
use Rattle.rdm_law.proofs.Replies.Owed.{shape_in}
use Rattle.rdm_lists.proofs.Options.{or_else_left, or_else_cases, then_some_parts}

-- the account tells the heads that were heard
abbrev pub Tells : Heads → List Deed → Type 0
Tells heads log = (source : Life) (n : ℕ) (h : Head) → heard_head log source n ≡ Some h → heads source n ≡ h

-- an account that tells the heads of a log tells those of a shorter one
pub tells_before : (heads : Heads) (d : Deed) (before : List Deed) → Tells heads (d ∷ before) → Tells heads before
tells_before heads d before t source n h is = t source n h (heard_still d before source n h is)

-- a second value is enough
some_else : {A : Type 0} (x : Option A) (a : A) → (y : A) × (or_else x (Some a) ≡ Some y)
unfolding or_else
some_else None a = (a, refl)
some_else (Some b) a = (b, refl)

-- the same of an equal one
some_or : {A : Type 0} (x y : Option A) (a : A) → y ≡ Some a → (b : A) × (or_else x y ≡ Some b)
some_or x y a e = let r = some_else x a in (r.0, ap (λ o. or_else x o) e ∙ r.1)

-- a packet that opens a long message has a first part
long_first : (form : Form) (send : OpId) (credits : ℕ) → shape_of form ≡ S.LongCts send credits → (k : ℕ) × (first_part_in form ≡ Some k)
unfolding shape_of first_part_in
long_first (LongCts size s c bytes) send credits h = (length bytes, refl)
long_first (Eager bytes) send credits h = cc
long_first (Medium size offset bytes) send credits h = cc
long_first (LongRead size s iov) send credits h = cc
long_first (Runt size s iov runt offset bytes) send credits h = cc

-- so the deed that tells a long message has its first part
first_by : (source : Life) (n : ℕ) (d : Deed) (h : Head) (send : OpId) (credits : ℕ) → head_by source n d ≡ Some h → h.shape ≡ S.LongCts send credits
    → (k : ℕ) × (first_part_by source n d ≡ Some k)
unfolding head_by first_part_by head_of
first_by source n (Took from (Spelled (Rtm number tag confirm opt form))) h send credits is shape =
    let t = then_some_parts (same_life from source && number.0 == n) (head_of tag confirm opt form) h is in
    let l = long_first form send credits (ap (λ (x : Head). x.shape) t.1 ∙ shape) in
    (l.0, ap (λ b. cond b (first_part_in form) None) t.0 ∙ l.1)
first_by source n _ h send credits is shape = cc

-- a long message that was heard of has a first part
pub heard_first : (log : List Deed) (source : Life) (n : ℕ) (h : Head) (send : OpId) (credits : ℕ) → heard_head log source n ≡ Some h → h.shape ≡ S.LongCts send credits
    → (k : ℕ) × (first_part_taken log source n ≡ Some k)
unfolding heard_head first_part_taken
heard_first [] source n h send credits is shape = cc
heard_first (d ∷ before) source n h send credits is shape =
    elim (or_else_cases (heard_head before source n) (head_by source n d) h is) [
      | inl a ↦ let r = heard_first before source n h send credits a shape in (r.0, or_else_left (first_part_taken before source n) (first_part_by source n d) r.0 r.1)
      | inr a ↦ let r = first_by source n d h send credits a.1 shape in some_or (first_part_taken before source n) (first_part_by source n d) r.0 r.1
    ]

-- a first part that was taken stays
first_still : (d : Deed) (before : List Deed) (source : Life) (n k : ℕ) → first_part_taken before source n ≡ Some k → first_part (d ∷ before) source n ≡ first_part before source n
unfolding first_part first_part_taken
first_still d before source n k h =
    ap (λ o. unwrap_or o 0) (or_else_left (first_part_taken before source n) (first_part_by source n d) k h ∙ sym h)

-- the first part of a pair's long message stays
pub first_stays : (first : ℕ) (heads : Heads) (d : Deed) (before : List Deed) (p : Pair) (send : OpId) (credits : ℕ) → Tells heads before
    → is_pair (pairs first heads before) p.recv.id.0 p.message.life p.message.no.0 ≡ true → shape_in heads p ≡ S.LongCts send credits
    → first_part (d ∷ before) p.message.life p.message.no.0 ≡ first_part before p.message.life p.message.no.0
first_stays first heads d before p send credits tells paired shape =
    let source = p.message.life in
    let n = p.message.no.0 in
    let m = is_pair_member (pairs first heads before) p.recv.id.0 source n paired in
    let h = pair_heard first heads before m.0 m.1 in
    let P : Life → ℕ → Type 0 = λ l o. heard_head before l o ≡ Some h.0 in
    let heard : heard_head before source n ≡ Some h.0 = subst (λ o. P source o) m.4 (subst (λ l. P l m.0.message.no.0) m.3 h.1) in
    let s : h.0.shape ≡ S.LongCts send credits = sym (ap (λ (x : Head). x.shape) (tells source n h.0 heard)) ∙ shape in
    let f = heard_first before source n h.0 send credits heard s in
    first_still d before source n f.0 f.1

-- what a window with a byte says
pub record IsWindow (limits : EpLimits) (heads : Heads) (log : List Deed) (p : Pair) (granted : ℕ) : Type 0 where
  pub paired : is_pair (pairs limits.first heads log) p.recv.id.0 p.message.life p.message.no.0 ≡ true
  pub covered : covers (carried_pieces limits.first heads log p.message.life p.message.no.0) (first_part log p.message.life p.message.no.0 + granted) ≡ true
  pub send : OpId
  pub credits : ℕ
  pub shape_is : shape_in heads p ≡ S.LongCts send credits
  pub within : first_part log p.message.life p.message.no.0 + granted + window limits heads log p granted ≤ (heads p.message.life p.message.no.0).length

-- a window with a byte is of a long message, and inside it
window_shape : (limits : EpLimits) (head : Head) (shape : Shape) (so_far : ℕ) → 0 < window_of limits head shape so_far
    → (send : OpId) × (credits : ℕ) × (shape ≡ S.LongCts send credits) × (so_far + window_of limits head shape so_far ≤ head.length)
unfolding window_of
window_shape limits head (S.LongCts send credits) so_far h = (send, credits, refl, omega arith)
window_shape limits head S.Eager so_far h = absurd (omega arith)
window_shape limits head S.Medium so_far h = absurd (omega arith)
window_shape limits head (S.LongRead send iov) so_far h = absurd (omega arith)
window_shape limits head (S.Runt send iov runt) so_far h = absurd (omega arith)

-- a window with a byte is of a pair, all before it has come, and it lies inside the message
pub is_window : (limits : EpLimits) (heads : Heads) (log : List Deed) (p : Pair) (granted : ℕ) → 0 < window limits heads log p granted → IsWindow limits heads log p granted
unfolding window
is_window limits heads log p granted h =
    let source = p.message.life in
    let n = p.message.no.0 in
    let so_far : ℕ = first_part log source n + granted in
    let test : Bool = is_pair (pairs limits.first heads log) p.recv.id.0 source n && covers (carried_pieces limits.first heads log source n) so_far in
    let w : ℕ = window_of limits (heads source n) (heads source n).shape so_far in
    (elim test as (λ b. test ≡ b → 0 < cond b w 0 → IsWindow limits heads log p granted) [
      | true ↦ λ t k.
          let parts = and_parts (is_pair (pairs limits.first heads log) p.recv.id.0 source n) (covers (carried_pieces limits.first heads log source n) so_far) t in
          let s = window_shape limits (heads source n) (heads source n).shape so_far k in
          let e : window limits heads log p granted ≡ w = ap (λ b. cond b w 0) t in
          record { paired = parts.0; covered = parts.1; send = s.0; credits = s.1; shape_is = s.2; within = (let x = s.3 in omega arith) }
      | false ↦ λ t k. absurd (omega arith)
    ]) refl h

-- before it was matched a message has no windows
pub granted_none : (limits : EpLimits) (heads : Heads) (log : List Deed) (p : Pair) → is_pair (pairs limits.first heads log) p.recv.id.0 p.message.life p.message.no.0 ≡ false
    → granted_bytes limits heads log p ≡ 0
unfolding granted_bytes with_window
granted_none limits heads [] p h = refl
granted_none limits heads (d ∷ before) p h =
    let recv = p.recv.id.0 in
    let source = p.message.life in
    let n = p.message.no.0 in
    let earlier : is_pair (pairs limits.first heads before) recv source n ≡ false =
    (elim (is_pair (pairs limits.first heads before) recv source n) as (λ b. is_pair (pairs limits.first heads before) recv source n ≡ b → b ≡ false) [
      | false ↦ λ e. refl
      | true ↦ λ e. (let t = is_pair_still limits.first heads d before recv source n e in cc)
    ]) refl in
    let g = granted_none limits heads before p earlier in
    let w = window limits heads (d ∷ before) p (granted_bytes limits heads before p) in
    elim (cases_lt 0 w) [
      | inl k ↦ absurd (let t = (is_window limits heads (d ∷ before) p (granted_bytes limits heads before p) k).paired in cc)
      | inr k ↦ omega arith
    ]

-- the windows of a message, with the first part, are as far as its receiver has granted
abbrev pub reach : EpLimits → Heads → List Deed → Pair → ℕ
reach limits heads log p = first_part log p.message.life p.message.no.0 + granted_bytes limits heads log p

-- what was granted is only more later
pub reach_more : (limits : EpLimits) (heads : Heads) (d : Deed) (before : List Deed) (p : Pair) (send : OpId) (credits : ℕ) → Tells heads before
    → is_pair (pairs limits.first heads before) p.recv.id.0 p.message.life p.message.no.0 ≡ true → shape_in heads p ≡ S.LongCts send credits
    → (first_part (d ∷ before) p.message.life p.message.no.0 + granted_bytes limits heads before p ≡ reach limits heads before p)
    × (reach limits heads (d ∷ before) p ≡ reach limits heads before p + window limits heads (d ∷ before) p (granted_bytes limits heads before p))
unfolding granted_bytes with_window
reach_more limits heads d before p send credits tells paired shape =
    let e = first_stays limits.first heads d before p send credits tells paired shape in
    (omega arith, omega arith)
