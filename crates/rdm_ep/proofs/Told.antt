-- Of eager deeds: each message that was heard of came whole in one packet.
use Rattle.std.proofs.Common.{◌≡◌, ℕ, true, false, cond, List, [], ◌∷◌, length, Option, Some, None, refl, ◌⊎◌, inl, inr, ap, ◌∙◌, sym}
use Rattle.std.specs.Prelude.{◌==◌, is_some}
use Rattle.std.proofs.lemmas.Bool.{eqb-true}
use Rattle.rdm_lists.specs.Lists.{or_else}
use Rattle.rdm_num.specs.Lives.{same_life}
use Rattle.rdm_num.specs.Pieces.{Piece}
use Rattle.rdm_num.specs.declared.numbers.Life.{Life}
use Rattle.rdm_num.specs.declared.head.Head.{Head}
use Rattle.rdm_num.specs.declared.head.Shape.TheVariants as S
use Rattle.rdm_pkt.specs.declared.Packet.TheVariants.{Rtm, Handshake}
use Rattle.rdm_pkt.specs.declared.Form.TheVariants.{Eager}
use Rattle.rdm_pkt.specs.Heads.{shape_of, size_of, head_of, piece_of}
use Rattle.rdm_match.specs.Matcher.{Pair}
use Rattle.rdm_model.specs.Deeds.{Deed, Took, Spelled}
use Rattle.rdm_model.specs.Beginnings.{Own, Heads}
use Rattle.rdm_model.specs.Heard.{head_by, heard_head, is_heard}
use Rattle.rdm_model.specs.Matches.{pairs}
use Rattle.rdm_model.specs.Parts.{piece_by, carried_by, carried_pieces}
use Rattle.rdm_ep.specs.Eager.{IsEagerDeed, IsEager}
use Rattle.rdm_num.proofs.Lives.{same_life-true}

-- bytes from the start of a message
abbrev pub whole : List ℕ → Piece
whole bytes = record { offset = 0; bytes = bytes }

-- a deed that tells of that message, which was not heard of: it comes whole
pub record Tells (own : Own) (before : List Deed) (ps : List Pair) (source : Life) (n : ℕ) (d : Deed) : Type 0 where
  pub head : Head
  pub bytes : List ℕ
  pub is_new : heard_head before source n ≡ None
  pub told : head_by source n d ≡ Some head
  pub is_eager : head.shape ≡ S.Eager
  pub unconfirmed : head.confirm ≡ false
  pub length_is : head.length ≡ length bytes
  pub carried : carried_by ps source n d ≡ Some (whole bytes)

-- a deed that tells nothing of that message
pub record IsSilent (ps : List Pair) (source : Life) (n : ℕ) (d : Deed) : Type 0 where
  pub told : head_by source n d ≡ None
  pub carried : carried_by ps source n d ≡ None

-- a message that was not heard of has no head
pub unheard : (before : List Deed) (from source : Life) (k n : ℕ) → from ≡ source → k ≡ n → is_heard before from k ≡ false → heard_head before source n ≡ None
unfolding is_heard
unheard before from source k n s e h =
    let g : is_some (heard_head before source n) ≡ false = rw (← s, ← e) h in
    (elim (heard_head before source n) as (λ o. is_some o ≡ false → o ≡ None) [ None ↦ λ x. refl | Some x ↦ λ y. cc ]) g

-- an eager deed tells of a message or is silent of it
pub tells_or_silent : (own : Own) (before : List Deed) (ps : List Pair) (source : Life) (n : ℕ) (d : Deed) → IsEagerDeed own before d
    → Tells own before ps source n d ⊎ IsSilent ps source n d
unfolding head_by carried_by piece_by head_of shape_of size_of piece_of
tells_or_silent own before ps source n (Took from (Spelled (Rtm number tag confirm opt (Eager bytes)))) h =
    (elim (same_life from source) as (λ b. same_life from source ≡ b →
    Tells own before ps source n (Took from (Spelled (Rtm number tag confirm opt (Eager bytes)))) ⊎ IsSilent ps source n (Took from (Spelled (Rtm number tag confirm opt (Eager bytes))))) [
      | true ↦ λ s. (elim (number.0 == n) as (λ b. (number.0 == n) ≡ b →
          Tells own before ps source n (Took from (Spelled (Rtm number tag confirm opt (Eager bytes)))) ⊎ IsSilent ps source n (Took from (Spelled (Rtm number tag confirm opt (Eager bytes))))) [
            | true ↦ λ e. inl (record {
              head = head_of tag confirm opt (Eager bytes);
              bytes = bytes;
              is_new = unheard before from source number.0 n (same_life-true from source s) (eqb-true number.0 n e) h.2;
              told = rw (s, e) refl;
              is_eager = refl;
              unconfirmed = h.0;
              length_is = refl;
              carried = rw (s, e) refl;
            })
            | false ↦ λ e. inr (record { told = rw (s, e) refl; carried = rw (s, e) refl })
          ]) refl
      | false ↦ λ s. inr (record { told = rw s refl; carried = rw s refl })
    ]) refl
tells_or_silent own before ps source n (Took from (Spelled (Handshake words connid raw))) h =
    inr (record { told = refl; carried = elim (same_life from source) as (λ b. cond {A = Option Piece} b None None ≡ None) [ true ↦ refl | false ↦ refl ] })
tells_or_silent own before ps source n (Took from item) h = elim h [ ]
tells_or_silent own before ps source n _ h = inr (record { told = refl; carried = refl })

-- what was heard of, with its one piece
pub record Came (own : Own) (heads : Heads) (log : List Deed) (source : Life) (n : ℕ) (head : Head) : Type 0 where
  pub bytes : List ℕ
  pub is_eager : head.shape ≡ S.Eager
  pub unconfirmed : head.confirm ≡ false
  pub length_is : head.length ≡ length bytes
  pub carried : carried_pieces own.limits.first heads log source n ≡ whole bytes ∷ []

-- of what was not heard of nothing came
pub unheard_nothing : (own : Own) (heads : Heads) (log : List Deed) (source : Life) (n : ℕ) → IsEager own log → heard_head log source n ≡ None
    → carried_pieces own.limits.first heads log source n ≡ []
unfolding heard_head carried_pieces or_else
unheard_nothing own heads [] source n h is = refl
unheard_nothing own heads (d ∷ before) source n h is =
    let ps = pairs own.limits.first heads before in
    let no : heard_head before source n ≡ None =
    (elim (heard_head before source n) as (λ o. or_else o (head_by source n d) ≡ None → o ≡ None) [ None ↦ λ k. refl | Some x ↦ λ k. k ]) is in
    let earlier = unheard_nothing own heads before source n h.0 no in
    elim (tells_or_silent own before ps source n d h.1) [
      | inl t ↦ let e : or_else (heard_head before source n) (head_by source n d) ≡ Some t.head = rw (no, t.told) refl in cc
      | inr t ↦ let c = t.carried in rw (earlier, c) refl
    ]

-- what was heard of came whole
pub heard_came : (own : Own) (heads : Heads) (log : List Deed) (source : Life) (n : ℕ) (head : Head) → IsEager own log → heard_head log source n ≡ Some head
    → Came own heads log source n head
unfolding heard_head carried_pieces or_else
heard_came own heads [] source n head h is = cc
heard_came own heads (d ∷ before) source n head h is =
    let ps = pairs own.limits.first heads before in
    elim (tells_or_silent own before ps source n d h.1) [
      | inl t ↦
          let none = unheard_nothing own heads before source n h.0 t.is_new in
          let e : head_by source n d ≡ Some head = rw t.is_new at is in
          let same : t.head ≡ head = cc in
          record {
            bytes = t.bytes;
            is_eager = sym (ap (λ (x : Head). x.shape) same) ∙ t.is_eager;
            unconfirmed = sym (ap (λ (x : Head). x.confirm) same) ∙ t.unconfirmed;
            length_is = sym (ap (λ (x : Head). x.length) same) ∙ t.length_is;
            carried = let c = t.carried in rw (none, c) refl;
          }
      | inr t ↦
          let e : heard_head before source n ≡ Some head =
          (elim (heard_head before source n) as (λ o. or_else o (head_by source n d) ≡ Some head → o ≡ Some head) [
            | None ↦ λ k. let f = t.told in cc
            | Some x ↦ λ k. k
          ]) is in
          let c = heard_came own heads before source n head h.0 e in
          record {
            bytes = c.bytes;
            is_eager = c.is_eager;
            unconfirmed = c.unconfirmed;
            length_is = c.length_is;
            carried = let x = c.carried in let y = t.carried in rw (x, y) refl;
          }
    ]
