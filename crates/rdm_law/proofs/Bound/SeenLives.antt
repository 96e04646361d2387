-- The lives that a life met, each once.
use Rattle.std.proofs.Common.{◌≡◌, ℕ, zero, suc, Bool, true, false, cond, List, [], ◌∷◌, ◌++◌, length, Option, Some, None, refl, arith, ◌⊎◌, inl, inr, sym, ◌∙◌, ap, subst}
use Rattle.std.specs.Prelude.{slice_get, ◌&&◌, not}
use Rattle.std.specs.List.{list_any}
use Rattle.std.proofs.lemmas.Bool.{and_parts, not-true, or_left, or_right}
use Rattle.rdm_lists.specs.Lists.{Member}
use Rattle.rdm_num.specs.Lives.{same_life}
use Rattle.rdm_num.specs.declared.numbers.PortNo.{PortNo}
use Rattle.rdm_num.specs.declared.numbers.Life.{Life}
use Rattle.rdm_hdr.specs.Fields.{has_bit}
use Rattle.rdm_model.specs.declared.job.Instr.{Instr}
use Rattle.rdm_model.specs.declared.job.Instr.TheVariants.{OpenLife, Insert, Reg, Send, Recv, Cancel, Note, Await, Wait, CloseLife}
use Rattle.rdm_model.specs.Deeds.{Deed, Did, PushedNote, Pushed, TookNote, Took, Polled, Nothing, Item}
use Rattle.rdm_model.specs.Beginnings.{Own}
use Rattle.rdm_model.specs.Replies.{Reply, reply, confirm_feature, meets, greeting, greets, handshake_by}
use Rattle.rdm_law.proofs.Lives.Knows.{HasMet}
use Rattle.rdm_lists.proofs.Members.{member-append_cases, list_any_member}
use Rattle.rdm_lists.proofs.Places.{slice_get-member, slice_get_split}
use Rattle.rdm_num.proofs.Lives.{same_life-true}

-- the life, where the deed is the first to meet it
unfoldable pub new_life : Own → List Deed → Deed → Life → List Life
new_life own before d life = cond (meets own life d && not (list_any (meets own life) before)) (life ∷ []) []

-- the life that a deed is the first to meet
unfoldable pub seen_new : Own → List Deed → Deed → List Life
seen_new own before (Took from item) = new_life own before (Took from item) from
seen_new own before (Did (Insert life)) = new_life own before (Did (Insert life)) life
seen_new own before _ = []

-- the lives that were met, in order
unfoldable pub seen_lives : Own → List Deed → List Life
seen_lives own [] = []
seen_lives own (d ∷ before) = seen_lives own before ++ seen_new own before d

-- a greeting is owed to such a life
greeted_one : (own : Own) (before : List Deed) (d : Deed) (life : Life) (raw : Option PortNo) → length (greets own before d life raw) ≡ length (new_life own before d life)
unfolding greets new_life
greeted_one own before d life raw =
    let r : Reply = reply life (greeting own raw) in
    elim (meets own life d && not (list_any (meets own life) before)) as (λ b. length (cond b (r ∷ []) []) ≡ length (cond b (life ∷ []) [])) [ true ↦ refl | false ↦ refl ]

-- a greeting is owed to each of them once
pub greeted : (own : Own) (before : List Deed) (d : Deed) → length (handshake_by own before d) ≡ length (seen_new own before d)
unfolding handshake_by seen_new
greeted own before (Took from item) = greeted_one own before (Took from item) from None
greeted own before (Did (Insert life)) = greeted_one own before (Did (Insert life)) life (Some own.life.port)
greeted own before _ = refl

-- a new life is met by the deed, and was not before
new_is : (own : Own) (before : List Deed) (d : Deed) (life l : Life) → Member l (new_life own before d life) → (meets own l d ≡ true) × (list_any (meets own l) before ≡ false)
unfolding new_life
new_is own before d life l m =
    (elim (meets own life d && not (list_any (meets own life) before)) as (λ b. (meets own life d && not (list_any (meets own life) before)) ≡ b → Member l (cond b (life ∷ []) [])
    → (meets own l d ≡ true) × (list_any (meets own l) before ≡ false)) [
      | true ↦ λ t k. (
          let p = and_parts (meets own life d) (not (list_any (meets own life) before)) t in
          let is : life ≡ l = (elim k [ inl e ↦ e | inr never ↦ elim never [ ] ]) in
          subst (λ (x : Life). (meets own x d ≡ true) × (list_any (meets own x) before ≡ false)) is (p.0, not-true _ p.1))
      | false ↦ λ t k. elim k [ ]
    ]) refl m

-- so is what a deed sees first
seen_is : (own : Own) (before : List Deed) (d : Deed) (l : Life) → Member l (seen_new own before d) → (meets own l d ≡ true) × (list_any (meets own l) before ≡ false)
unfolding seen_new
seen_is own before (Took from item) l m = new_is own before (Took from item) from l m
seen_is own before (Did (Insert life)) l m = new_is own before (Did (Insert life)) life l m
seen_is own before _ l m = elim m [ ]

-- each of them was met
seen_any : (own : Own) (log : List Deed) (l : Life) → Member l (seen_lives own log) → list_any (meets own l) log ≡ true
unfolding seen_lives
seen_any own [] l m = elim m [ ]
seen_any own (d ∷ before) l m =
    elim (member-append_cases l (seen_lives own before) (seen_new own before d) m) [
      | inl a ↦ or_right (meets own l d) (list_any (meets own l) before) (seen_any own before l a)
      | inr a ↦ or_left (meets own l d) (list_any (meets own l) before) (seen_is own before d l a).0
    ]

-- a deed meets a life by a datagram or by its insert
met_is : (own : Own) (l : Life) (d : Deed) → meets own l d ≡ true → (d ≡ Did (Insert l)) ⊎ ((item : Item) × (d ≡ Took l item))
unfolding meets
met_is own l (Took from item) h = inr (item, ap (λ (x : Life). Took x item) (same_life-true from l h))
met_is own l (Did (Insert life)) h = inl (ap (λ (x : Life). Did (Insert x)) (same_life-true life l (and_parts (has_bit confirm_feature own.features) (same_life life l) h).1))
met_is own l _ h = cc

-- a life inserted each of them, or took something from it
pub seen_met : (own : Own) (log : List Deed) (l : Life) → Member l (seen_lives own log) → HasMet log l
seen_met own log l m =
    let r = list_any_member (meets own l) log (seen_any own log l m) in
    elim (met_is own l r.0 r.2) [
      | inl a ↦ inl (subst (λ (x : Deed). Member x log) a r.1)
      | inr a ↦ inr (a.0, subst (λ (x : Deed). Member x log) a.1 r.1)
    ]

-- a list of one has one place
only_first : (x : Life) (k : ℕ) (l : Life) → slice_get (x ∷ []) k ≡ Some l → k ≡ 0
only_first x zero l h = refl
only_first x (suc k) l h = cc

-- a new life stands alone
new_first : (own : Own) (before : List Deed) (d : Deed) (life : Life) (k : ℕ) (l : Life) → slice_get (new_life own before d life) k ≡ Some l → k ≡ 0
unfolding new_life
new_first own before d life k l h =
    (elim (meets own life d && not (list_any (meets own life) before)) as (λ b. slice_get (cond b (life ∷ []) []) k ≡ Some l → k ≡ 0) [
      | true ↦ λ g. only_first life k l g
      | false ↦ λ g. cc
    ]) h

-- so does what a deed sees first
new_at : (own : Own) (before : List Deed) (d : Deed) (k : ℕ) (l : Life) → slice_get (seen_new own before d) k ≡ Some l → k ≡ 0
unfolding seen_new
new_at own before (Took from item) k l h = new_first own before (Took from item) from k l h
new_at own before (Did (Insert life)) k l h = new_first own before (Did (Insert life)) life k l h
new_at own before _ k l h = cc

-- nothing is seen first twice
old_new : (own : Own) (before : List Deed) (d : Deed) (i k : ℕ) (l : Life) → slice_get (seen_lives own before) i ≡ Some l → slice_get (seen_new own before d) k ≡ Some l → ⊥
old_new own before d i k l g h =
    let any = seen_any own before l (slice_get-member (seen_lives own before) i l g) in
    let none = (seen_is own before d l (slice_get-member (seen_new own before d) k l h)).1 in
    absurd (cc)

-- and each stands once
pub seen_once : (own : Own) (log : List Deed) (i k : ℕ) (l : Life) → slice_get (seen_lives own log) i ≡ Some l → slice_get (seen_lives own log) k ≡ Some l → i ≡ k
unfolding seen_lives
seen_once own [] i k l g h = cc
seen_once own (d ∷ before) i k l g h =
    elim (slice_get_split (seen_lives own before) (seen_new own before d) i l g) [
      | inl a ↦ elim (slice_get_split (seen_lives own before) (seen_new own before d) k l h) [
        | inl b ↦ seen_once own before i k l a b
        | inr b ↦ absurd (old_new own before d i b.0 l a b.2)
      ]
      | inr a ↦ elim (slice_get_split (seen_lives own before) (seen_new own before d) k l h) [
        | inl b ↦ absurd (old_new own before d k a.0 l b a.2)
        | inr b ↦ (let x = new_at own before d a.0 l a.2 in let y = new_at own before d b.0 l b.2 in let u = a.1 in let v = b.1 in omega arith)
      ]
    ]
