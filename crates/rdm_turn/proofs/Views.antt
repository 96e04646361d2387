-- What a list of views says of a place, where one view changes or one is new.
use Rattle.std.proofs.Common.{◌≡◌, ◌≢◌, ⊎_elim, ℕ, zero, suc, ◌+◌, ◌≤◌, List, [], ◌∷◌, ◌++◌, set, refl, sym, ap, ◌∙◌, subst, arith}
use mathlib.Core.Logic.{dite}
use mathlib.Core.Option.{some, some-injective, some-ne-none}
use native.Mathlib.Decide.{ℕ_discrete}
use lib.ListN.{get_elem?}
use Rattle.atomic_table.proofs.Lists.{at_set, set_else, at_longer, at_snoc}
use Rattle.rdm_turn.specs.declared.rule.Stand.{Stand}
use Rattle.rdm_turn.specs.Knowing.{Stage, not_mine, says}
use Rattle.rdm_turn.specs.Turning.{NobodyHas, OneHas, total_parts}

-- a view that is in the list stands at its place after it changed
pub set_there : {A : Type 0} (l : List A) (k : ℕ) (v w : A) → get_elem? l k ≡ some v → get_elem? (set l k w) k ≡ some w
set_there [] k v w at = absurd (some-ne-none v (sym at))
set_there (x ∷ xs) zero v w at = refl
set_there (x ∷ xs) (suc k) v w at = set_there xs k v w at

-- the parts after one view changed
pub total_set : (views : List Stand) (id : ℕ) (v w : Stand) → get_elem? views id ≡ some v → total_parts (set views id w) + v.parts ≡ total_parts views + w.parts
total_set [] id v w at = absurd (some-ne-none v (sym at))
total_set (x ∷ xs) zero v w at = let p : x.parts ≡ v.parts = ap (λ (z : Stand). z.parts) (some-injective x v at) in omega arith
total_set (x ∷ xs) (suc id) v w at = let p = total_set xs id v w at in omega arith

-- the parts with a new view
pub total_snoc : (views : List Stand) (w : Stand) → total_parts (views ++ w ∷ []) ≡ total_parts views + w.parts
total_snoc [] w = omega arith
total_snoc (x ∷ xs) w = let p = total_snoc xs w in omega arith

-- no view has more parts than all together
pub one_of : (views : List Stand) (j : ℕ) (u : Stand) → get_elem? views j ≡ some u → u.parts ≤ total_parts views
one_of [] j u at = absurd (some-ne-none u (sym at))
one_of (x ∷ xs) zero u at = let p : x.parts ≡ u.parts = ap (λ (z : Stand). z.parts) (some-injective x u at) in omega arith
one_of (x ∷ xs) (suc j) u at = let p = one_of xs j u at in omega arith

-- nor have two views
pub two_of : (views : List Stand) (i j : ℕ) (v u : Stand) → i ≢ j → get_elem? views i ≡ some v → get_elem? views j ≡ some u → v.parts + u.parts ≤ total_parts views
two_of [] i j v u apart at at' = absurd (some-ne-none v (sym at))
two_of (x ∷ xs) zero zero v u apart at at' = absurd (apart refl)
two_of (x ∷ xs) zero (suc j) v u apart at at' = let p : x.parts ≡ v.parts = ap (λ (z : Stand). z.parts) (some-injective x v at) in let q = one_of xs j u at' in omega arith
two_of (x ∷ xs) (suc i) zero v u apart at at' = let p : x.parts ≡ u.parts = ap (λ (z : Stand). z.parts) (some-injective x u at') in let q = one_of xs i v at in omega arith
two_of (x ∷ xs) (suc i) (suc j) v u apart at at' = let p = two_of xs i j v u (λ e. apart (ap suc e)) at at' in omega arith

-- of each view in the changed list: what holds of the changed one, and of the old ones of other seats
pub each_set : (views : List Stand) (id : ℕ) (w : Stand) (P : ℕ → Stand → Type 0) → P id w → ((j : ℕ) (u : Stand) → j ≢ id → get_elem? views j ≡ some u → P j u) → (j : ℕ) (u : Stand) → get_elem? (set views id w) j ≡ some u → P j u
each_set views id w P here there j u at =
    ⊎_elim
    (λ (x : (j ≡ id) × (w ≡ u)). subst (λ k. P k u) (sym x.0) (subst (P id) x.1 here))
    (λ (x : (j ≢ id) × (get_elem? views j ≡ some u)). there j u x.0 x.1)
    (at_set views id j w u at)

-- of each view in the longer list: what holds of the new one, and of the old ones
pub each_snoc : (views : List Stand) (w : Stand) (P : ℕ → Stand → Type 0) → ((j : ℕ) → P j w) → ((j : ℕ) (u : Stand) → get_elem? views j ≡ some u → P j u) → (j : ℕ) (u : Stand) → get_elem? (views ++ w ∷ []) j ≡ some u → P j u
each_snoc views w P new old j u at = ⊎_elim (old j u) (λ e. subst (P j) e (new j)) (at_snoc views w u j at)

module _ (views : List Stand) (i : ℕ) where
  -- nobody has the place still
  pub nobody_set : (id : ℕ) (w : Stand) → says w i ≡ not_mine → NobodyHas views i → NobodyHas (set views id w) i
  nobody_set id w own nobody = each_set views id w (λ _ u. says u i ≡ not_mine) own (λ j u ne at. nobody j u at)

  -- the seat whose view changed is the one that has the place now
  pub alone_now : (id : ℕ) (v w : Stand) (stage : Stage) → get_elem? views id ≡ some v → says w i ≡ stage → ((j : ℕ) (u : Stand) → get_elem? views j ≡ some u → j ≢ id → says u i ≡ not_mine) → OneHas (set views id w) i id stage
  alone_now id v w stage at own others = record {
    view = w;
    there = set_there views id v w at;
    own = own;
    others = λ j u at' ne. each_set views id w (λ k u. k ≢ id → says u i ≡ not_mine) (λ same. absurd (same refl)) (λ k u ne at _. others k u at ne) j u at' ne;
  }

  -- the same seat has the place still, where what the changed view says of it is what it said
  pub alone_set : (id : ℕ) (v w : Stand) (seat : ℕ) (stage : Stage) → get_elem? views id ≡ some v → says w i ≡ says v i → OneHas views i seat stage → OneHas (set views id w) i seat stage
  alone_set id v w seat stage at same alone =
      dite (ℕ_discrete seat id)
      (λ e.
      let is : alone.view ≡ v = some-injective alone.view v (sym alone.there ∙ (ap (get_elem? views) e ∙ at)) in
      let own : says w i ≡ stage = same ∙ (ap (λ u. says u i) (sym is) ∙ alone.own) in
      subst (λ k. OneHas (set views id w) i k stage) (sym e) (alone_now id v w stage at own (λ j u at' ne. alone.others j u at' (λ e'. ne (e' ∙ e)))))
      (λ ne. record {
        view = alone.view;
        there = set_else views id seat w ne ∙ alone.there;
        own = alone.own;
        others = each_set views id w (λ k u. k ≢ seat → says u i ≡ not_mine) (λ apart. same ∙ alone.others id v at apart) (λ k u ne at apart. alone.others k u at apart);
      })

  -- nobody has the place still, where a new seat does not have it
  pub nobody_snoc : (w : Stand) → says w i ≡ not_mine → NobodyHas views i → NobodyHas (views ++ w ∷ []) i
  nobody_snoc w own nobody = each_snoc views w (λ _ u. says u i ≡ not_mine) (λ _. own) nobody

  -- the same seat has the place still, where a new seat does not have it
  pub alone_snoc : (w : Stand) (seat : ℕ) (stage : Stage) → says w i ≡ not_mine → OneHas views i seat stage → OneHas (views ++ w ∷ []) i seat stage
  alone_snoc w seat stage own alone = record {
    view = alone.view;
    there = at_longer views (w ∷ []) seat alone.view alone.there;
    own = alone.own;
    others = each_snoc views w (λ k u. k ≢ seat → says u i ≡ not_mine) (λ _ _. own) alone.others;
  }
