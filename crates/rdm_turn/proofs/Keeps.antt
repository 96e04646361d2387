-- Each step keeps the rule of the table.
use Rattle.std.proofs.Common.{◌≡◌, ◌≢◌, ◌⊎◌, ⊎_elim, inl, inr, ℕ, zero, suc, ◌<◌, eqb, cond, not, ◌||◌, true, false, List, [], ◌∷◌, length, get_or, set, refl, sym, ap, ◌∙◌, subst, arith, length-set, get_or-set_other, get_or-set_same, eq-eqb, ne_eqb, Option, Some, None}
use mathlib.Core.Logic.{dite}
use mathlib.Core.Option.{none, some, some-injective}
use mathlib.Core.Option as maybe
use native.Mathlib.Decide.{ℕ_discrete}
use lib.ListN.{get_elem?}
use prog.Atomic.{either}
use Rattle.atomic_table.specs.Table.{State, step, rest, Act, keeps, takes, gives, Valid, carried_after, stepped, Allows}
use Rattle.atomic_table.proofs.Lists.{set_here, set_else, set_again, exchanged}
use Rattle.rdm_turn.specs.declared.rule.Stand.{Stand}
use Rattle.rdm_turn.specs.declared.rule.Hand.{Hand}
use Rattle.rdm_turn.specs.declared.rule.Hand.TheVariants.{Nothing, Full, Out}
use Rattle.rdm_turn.specs.Knowing.{Stage, not_mine, empty, full, out, is_among, without, stand, says}
use Rattle.rdm_turn.specs.Turning.{HasNone, IsAsSaid, IsFree, IsTaken, Turning}
use Rattle.rdm_turn.specs.Telling.{Sitter, HasInHand, Claimed, Lifted, Emptied, Opened, Filled, Left}
use Rattle.rdm_turn.proofs.Views.{total_set, each_set, nobody_set, alone_now, alone_set}

-- a choice at equal numbers, and at others
same : {A : Type 0} (k : ℕ) (a b : A) → cond (eqb k k) a b ≡ a
same k a b = ap (λ t. cond t a b) (eq-eqb k k refl)

other : {A : Type 0} (i k : ℕ) (a b : A) → k ≢ i → cond (eqb i k) a b ≡ b
other i k a b ne = ap (λ t. cond t a b) (ne_eqb i k (λ e. ne (sym e)))

-- another place is among the places without one as it was
among_without : (i k : ℕ) (places : List ℕ) → k ≢ i → is_among k (without i places) ≡ is_among k places
among_without i k [] ne = refl
among_without i k (x ∷ xs) ne =
    dite (ℕ_discrete x i)
    (λ e. ap (λ t. is_among k (cond (not t) (x ∷ without i xs) (without i xs))) (eq-eqb x i e) ∙ (among_without i k xs ne ∙ sym (ap (λ t. t || is_among k xs) (ne_eqb x k (λ e'. ne (sym e' ∙ e))))))
    (λ e. ap (λ t. is_among k (cond (not t) (x ∷ without i xs) (without i xs))) (ne_eqb x i e) ∙ ap (λ t. eqb x k || t) (among_without i k xs ne))

-- and that one is not
pub gone : (i : ℕ) (places : List ℕ) → is_among i (without i places) ≡ false
gone i [] = refl
gone i (x ∷ xs) =
    dite (ℕ_discrete x i)
    (λ e. ap (λ t. is_among i (cond (not t) (x ∷ without i xs) (without i xs))) (eq-eqb x i e) ∙ gone i xs)
    (λ e. ap (λ t. is_among i (cond (not t) (x ∷ without i xs) (without i xs))) (ne_eqb x i e) ∙ (ap (λ t. t || is_among i (without i xs)) (ne_eqb x i e) ∙ gone i xs))

-- a word that is written as it was changes nothing
same_word : (words : List ℕ) (i : ℕ) → set words i (get_or words i 0) ≡ words
same_word [] i = refl
same_word (x ∷ xs) zero = refl
same_word (x ∷ xs) (suc i) = ap (λ ys. x ∷ ys) (same_word xs i)

module _ {V : Type 0} (fits : V → ℕ → Type 0) (seats : ℕ) where
  abbrev St : Type 0
  St = State (Option V) Stand

  abbrev Homes : Type 0
  Homes = List (maybe.Option (Option V))

  -- the table after a step of the seat id at the word i
  abbrev after : St → ℕ → ℕ → ℕ → Homes → Stand → St
  after s i n id homes w = record { words = set s.words i n; homes = homes; views = set s.views id w }

  -- a slot that stays as it was is as said
  as_said : (homes homes' : Homes) (i : ℕ) (stage : Stage) → get_elem? homes' i ≡ get_elem? homes i → IsAsSaid fits homes i stage → IsAsSaid fits homes' i stage
  as_said homes homes' i not_mine stays slot = slot
  as_said homes homes' i empty stays slot = stays ∙ slot
  as_said homes homes' i full stays slot = (slot.0, stays ∙ slot.1, slot.2)
  as_said homes homes' i out stays slot = stays ∙ slot

  -- another place is free or taken as it was
  elsewhere : (s : St) (id i k n : ℕ) (homes : Homes) (v w : Stand) → get_elem? s.views id ≡ some v → k ≢ i → get_elem? homes k ≡ get_elem? s.homes k → says w k ≡ says v k
      → IsFree fits s k ⊎ IsTaken fits s k → IsFree fits (after s i n id homes w) k ⊎ IsTaken fits (after s i n id homes w) k
  elsewhere s id i k n homes v w at ne stays likewise =
      ⊎_elim
      (λ (free : IsFree fits s k). inl record {
        word = get_or-set_other s.words i k n 0 ne ∙ free.word;
        nobody = nobody_set s.views k id w (likewise ∙ free.nobody id v at) free.nobody;
        slot = (free.slot.0, stays ∙ free.slot.1, free.slot.2);
      })
      (λ (taken : IsTaken fits s k). inr record {
        word = get_or-set_other s.words i k n 0 ne ∙ taken.word;
        seat = taken.seat;
        stage = taken.stage;
        alone = alone_set s.views k id v w taken.seat taken.stage at likewise taken.alone;
        slot = as_said s.homes homes k taken.stage stays taken.slot;
      })

  -- a step of the seat id at the place i keeps the rule where that place is free or taken afterwards
  shifts : (s : St) (r : Turning fits seats s) (id i n : ℕ) (homes : Homes) (v w : Stand)
      → get_elem? s.views id ≡ some v → length homes ≡ length s.homes → ((k : ℕ) → k ≢ i → get_elem? homes k ≡ get_elem? s.homes k) → ((k : ℕ) → k ≢ i → says w k ≡ says v k) → w.parts ≡ v.parts → 0 < v.parts
      → IsFree fits (after s i n id homes w) i ⊎ IsTaken fits (after s i n id homes w) i → Turning fits seats (after s i n id homes w)
  shifts s r id i n homes v w at long stays likewise parts some_part here = record {
    sized = length-set s.words i n ∙ (r.sized ∙ sym long);
    places = λ k near. dite (ℕ_discrete k i)
        (λ e. subst (λ k. IsFree fits (after s i n id homes w) k ⊎ IsTaken fits (after s i n id homes w) k) (sym e) here)
        (λ ne. elsewhere s id i k n homes v w at ne (stays k ne) (likewise k ne) (r.places k (omega arith)));
    parts = let t = total_set s.views id v w at in let p = r.parts in omega arith;
    idle = each_set s.views id w (λ _ u. u.parts ≡ 0 → HasNone u) (λ no_part. absurd (omega arith)) (λ j u ne at no_part. r.idle j u at no_part);
  }

  -- nothing changes
  unmoved : (s : St) (r : Turning fits seats s) (id i : ℕ) (v : Stand) → get_elem? s.views id ≡ some v → Turning fits seats (after s i (get_or s.words i 0) id s.homes v)
  unmoved s r id i v at = subst (λ (z : List ℕ × List Stand). Turning fits seats record { words = z.0; homes = s.homes; views = z.1 }) (λ k. (sym (same_word s.words i) k, sym (set_again s.views id v at) k)) r

  -- where a view says that its seat has the place, the place is taken, no other view has it, and its slot is as that view says
  owned : (s : St) (r : Turning fits seats s) (id i : ℕ) (v : Stand) (stage : Stage) → get_elem? s.views id ≡ some v → i < length s.homes → says v i ≡ stage → stage ≢ not_mine
      → (get_or s.words i 0 ≡ 1) × ((j : ℕ) (u : Stand) → get_elem? s.views j ≡ some u → j ≢ id → says u i ≡ not_mine) × IsAsSaid fits s.homes i stage
  owned s r id i v stage at near own has =
      ⊎_elim
      (λ (free : IsFree fits s i). absurd (has (sym own ∙ free.nobody id v at)))
      (λ (taken : IsTaken fits s i). dite (ℕ_discrete taken.seat id)
      (λ e.
      let is : taken.alone.view ≡ v = some-injective taken.alone.view v (sym taken.alone.there ∙ (ap (get_elem? s.views) e ∙ at)) in
      let stage_is : taken.stage ≡ stage = sym taken.alone.own ∙ (ap (λ u. says u i) is ∙ own) in
      (taken.word, (λ j u at' ne. taken.alone.others j u at' (λ e'. ne (e' ∙ e))), subst (IsAsSaid fits s.homes i) stage_is taken.slot))
      (λ ne. absurd (has (sym own ∙ taken.alone.others id v at (λ e. ne (sym e))))))
      (r.places i near)

  -- the seat that has the place changes what its view says of it, and the slot with it
  touches : (s : St) (r : Turning fits seats s) (id i : ℕ) (homes : Homes) (v w : Stand) (stage stage' : Stage)
      → get_elem? s.views id ≡ some v → i < length s.homes → length homes ≡ length s.homes → ((k : ℕ) → k ≢ i → get_elem? homes k ≡ get_elem? s.homes k) → ((k : ℕ) → k ≢ i → says w k ≡ says v k) → w.parts ≡ v.parts → 0 < v.parts
      → says v i ≡ stage → stage ≢ not_mine → says w i ≡ stage' → IsAsSaid fits homes i stage' → Turning fits seats (after s i (get_or s.words i 0) id homes w)
  touches s r id i homes v w stage stage' at near long stays likewise parts some_part was has is slot =
      let own = owned s r id i v stage at near was has in
      shifts s r id i (get_or s.words i 0) homes v w at long stays likewise parts some_part (inr record {
        word = get_or-set_same s.words i (get_or s.words i 0) 0 (let z = r.sized in omega arith) ∙ own.0;
        seat = id;
        stage = stage';
        alone = alone_now s.views i id v w stage' at is own.1;
        slot = slot;
      })

  -- a place whose word is 0 is free
  free_at : (s : St) (i : ℕ) → IsFree fits s i ⊎ IsTaken fits s i → get_or s.words i 0 ≡ 0 → IsFree fits s i
  free_at s i place zero_word = ⊎_elim (λ free. free) (λ (taken : IsTaken fits s i). absurd (let one_word = taken.word in omega arith)) place

  full_has : full ≢ not_mine
  full_has e = absurd (cc)

  empty_has : empty ≢ not_mine
  empty_has e = absurd (cc)

  out_has : out ≢ not_mine
  out_has e = absurd (cc)

  -- a seat with this in hand
  seated : (hand : Hand) (me : Sitter V) → HasInHand hand me → me ≡ (stand me.0.parts me.0.taken hand, [])
  seated hand me has = λ k. (record me.0 { hand = has.1 k }, has.2 k)

  -- the steps of the seat id at the place i of n
  module _ (n id i : ℕ) (near : i < n) where
    -- what a view with this place in hand says of it, and of another place
    full_here : (p : ℕ) (is : List ℕ) → says (stand p is (Full i)) i ≡ full
    full_here p is = same i full _

    out_here : (p : ℕ) (is : List ℕ) → says (stand p is (Out i)) i ≡ out
    out_here p is = same i out _

    full_there : (p : ℕ) (is : List ℕ) (k : ℕ) → k ≢ i → says (stand p is (Full i)) k ≡ says (stand p is Nothing) k
    full_there p is k ne = other i k full _ ne

    out_there : (p : ℕ) (is : List ℕ) (k : ℕ) → k ≢ i → says (stand p is (Out i)) k ≡ says (stand p is Nothing) k
    out_there p is k ne = other i k out _ ne

    pub claims : (me : Sitter V) → HasInHand Nothing me → Allows (Turning fits seats) n id me i (λ y. either (eqb y 0) 1 y) (Claimed (step n i 0 1 none) me)
    claims me has = let p = me.0.parts in let is = me.0.taken in let some_part = has.0 in
        subst (λ m. Allows (Turning fits seats) n id m i (λ y. either (eqb y 0) 1 y) (Claimed (step n i 0 1 none) m)) (sym (seated Nothing me has)) (λ s r wide at _.
        let y : ℕ = get_or s.words i 0 in let v = stand p is Nothing in let w = stand p is (Full i) in
        exchanged y 0 1 (λ x. (u : Stand) × (a : Act (Option V)) × Valid s.homes [] a × Turning fits seats (stepped s i x id [] u a) × Claimed (step n i 0 1 none) (v, []) y (u, carried_after [] a))
        (λ hit.
        let free = free_at s i (r.places i (omega arith)) hit in
        let now : IsTaken fits (after s i 1 id s.homes w) i = record {
          word = get_or-set_same s.words i 1 0 (let z = r.sized in omega arith);
          seat = id;
          stage = full;
          alone = alone_now s.views i id v w full at (full_here p is) (λ j u at' _. free.nobody j u at');
          slot = free.slot;
        } in
        (w, keeps, tt, shifts s r id i 1 s.homes v w at refl (λ _ _. refl) (full_there p is) refl some_part (inr now), ((λ _. refl), λ miss. absurd (miss hit))))
        (λ miss. (v, keeps, tt, unmoved s r id i v at, ((λ hit. absurd (miss hit)), λ _. refl))))

    pub lifts : (me : Sitter V) → HasInHand (Full i) me → Allows (Turning fits seats) n id me i (λ y. y) (Lifted fits (step n i 0 0 none) me)
    lifts me has = let p = me.0.parts in let is = me.0.taken in let some_part = has.0 in
        subst (λ m. Allows (Turning fits seats) n id m i (λ y. y) (Lifted fits (step n i 0 0 none) m)) (sym (seated (Full i) me has)) (λ s r wide at _.
        let v = stand p is (Full i) in let w = stand p is (Out i) in
        let own = owned s r id i v full at (omega arith) (full_here p is) full_has in let x = own.2 in (
          w,
          takes i (Some x.0),
          x.1,
          touches s r id i (set s.homes i none) v w full out at (omega arith) (length-set s.homes i none) (λ k ne. set_else s.homes i k none ne) (λ k ne. out_there p is k ne ∙ sym (full_there p is k ne)) refl some_part
              (full_here p is) full_has (out_here p is) (set_here s.homes i none (omega arith)),
          (x.0, x.2, refl),
        ))

    -- the slot of the place is the one that is out
    pub is_out : (me : Sitter V) (v : Stand) (y : Option V) → me ≡ (v, (i, y) ∷ []) → me.1 ≡ (i, y) ∷ rest me.1
    is_out me v y e = let out = ap (λ m. m.1) e in out ∙ ap (λ l. (i, y) ∷ rest l) (sym out)

    -- the value in the slot that is out was exchanged
    swapped : (before me : Sitter V) (v : Stand) (y z : Option V) → before ≡ (v, (i, y) ∷ []) → me ≡ (before.0, (i, z) ∷ rest before.1) → me ≡ (v, (i, z) ∷ [])
    swapped before me v y z was now = now ∙ ap (λ m. (m.0, (i, z) ∷ rest m.1)) was

    pub empties : (before me : Sitter V) (p : ℕ) (is : List ℕ) (y : Option V) → 0 < p → before ≡ (stand p is (Out i), (i, y) ∷ []) → me ≡ (before.0, (i, None) ∷ rest before.1) → Allows (Turning fits seats) n id me i (λ y. y) (Emptied (step n i 0 0 none) me)
    empties before me p is y some_part was now = subst (λ m. Allows (Turning fits seats) n id m i (λ y. y) (Emptied (step n i 0 0 none) m)) (sym (swapped before me (stand p is (Out i)) y None was now)) (λ s r wide at _.
        let v = stand p is (Out i) in let w = stand p (i ∷ is) Nothing in (
          w,
          gives,
          tt,
          touches s r id i (set s.homes i (some None)) v w out empty at (omega arith) (length-set s.homes i (some None)) (λ k ne. set_else s.homes i k (some None) ne)
              (λ k ne. ap (λ t. cond (t || is_among k is) empty not_mine) (ne_eqb i k (λ e'. ne (sym e'))) ∙ sym (out_there p is k ne)) refl some_part
              (out_here p is) out_has (ap (λ t. cond (t || is_among i is) empty not_mine) (eq-eqb i i refl)) (set_here s.homes i (some None) (omega arith)),
          refl,
        ))

    pub opens : (me : Sitter V) → HasInHand Nothing me → is_among i me.0.taken ≡ true → Allows (Turning fits seats) n id me i (λ y. y) (Opened (step n i 0 0 none) me)
    opens me has taken = let p = me.0.parts in let is = me.0.taken in let some_part = has.0 in
        subst (λ m. Allows (Turning fits seats) n id m i (λ y. y) (Opened (step n i 0 0 none) m)) (sym (seated Nothing me has)) (λ s r wide at _.
        let v = stand p is Nothing in let w = stand p (without i is) (Out i) in
        let was : says v i ≡ empty = ap (λ t. cond t empty not_mine) taken in
        let own = owned s r id i v empty at (omega arith) was empty_has in (
          w,
          takes i None,
          own.2,
          touches s r id i (set s.homes i none) v w empty out at (omega arith) (length-set s.homes i none) (λ k ne. set_else s.homes i k none ne)
              (λ k ne. out_there p (without i is) k ne ∙ ap (λ t. cond t empty not_mine) (among_without i k is ne)) refl some_part
              was empty_has (out_here p (without i is)) (set_here s.homes i none (omega arith)),
          refl,
        ))

    pub fills : (before me : Sitter V) (p : ℕ) (is : List ℕ) (y : Option V) (x : V) → 0 < p → before ≡ (stand p is (Out i), (i, y) ∷ []) → me ≡ (before.0, (i, Some x) ∷ rest before.1) → fits x i → Allows (Turning fits seats) n id me i (λ y. y) (Filled (step n i 0 0 none) me)
    fills before me p is y x some_part was now fit = subst (λ m. Allows (Turning fits seats) n id m i (λ y. y) (Filled (step n i 0 0 none) m)) (sym (swapped before me (stand p is (Out i)) y (Some x) was now)) (λ s r wide at _.
        let v = stand p is (Out i) in let w = stand p is (Full i) in (
          w,
          gives,
          tt,
          touches s r id i (set s.homes i (some (Some x))) v w out full at (omega arith) (length-set s.homes i (some (Some x))) (λ k ne. set_else s.homes i k (some (Some x)) ne)
              (λ k ne. full_there p is k ne ∙ sym (out_there p is k ne)) refl some_part
              (out_here p is) out_has (full_here p is) (x, set_here s.homes i (some (Some x)) (omega arith), fit),
          refl,
        ))

    pub leaves : (me : Sitter V) → HasInHand (Full i) me → is_among i me.0.taken ≡ false → Allows (Turning fits seats) n id me i (λ _. 0) (λ _. Left (step n i 0 0 none) me 0)
    leaves me has once = let p = me.0.parts in let is = me.0.taken in let some_part = has.0 in
        subst (λ m. Allows (Turning fits seats) n id m i (λ _. 0) (λ _. Left (step n i 0 0 none) m 0)) (sym (seated (Full i) me has)) (λ s r wide at _.
        let v = stand p is (Full i) in let w = stand p is Nothing in
        let own = owned s r id i v full at (omega arith) (full_here p is) full_has in
        let now : IsFree fits (after s i 0 id s.homes w) i = record {
          word = get_or-set_same s.words i 0 0 (let z = r.sized in omega arith);
          nobody = each_set s.views id w (λ _ u. says u i ≡ not_mine) (ap (λ t. cond t empty not_mine) once) (λ j u ne at'. own.1 j u at' ne);
          slot = own.2;
        } in
        (w, keeps, tt, shifts s r id i 0 s.homes v w at refl (λ _ _. refl) (λ k ne. sym (full_there p is k ne)) refl some_part (inl now), refl))
