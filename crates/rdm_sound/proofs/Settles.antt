-- Receives settle one after another.
use Rattle.std.proofs.Common.{◌≡◌, ℕ, ◌-◌, Bool, true, false, cond, not, List, [], ◌∷◌, ◌++◌, Option, Some, None, refl, ◌⊎◌, inl, inr, sym, ◌∙◌, ap, subst, append_assoc}
use Rattle.std.specs.Prelude.{◌&&◌, filter, find, flat_map, option_map}
use Rattle.std.proofs.Math.Path.{fun_ext}
use Rattle.std.proofs.lemmas.Bool.{eqb-true, false_from_ne_true}
use Rattle.rdm_lists.specs.Lists.{Member, or_else}
use Rattle.rdm_lists.proofs.Filters.{filter_all, list_any_none}
use Rattle.rdm_lists.proofs.Members.{find_member, member-filter, filter-member}
use Rattle.rdm_lists.proofs.Same.{flat_map_same, filter_where}
use Rattle.rdm_num.specs.declared.completion.Completion.{Completion}
use Rattle.rdm_model.specs.Replies.{Reply}
use Rattle.rdm_life.specs.Kept.{Kept, LiveReceive, Matched, is_receive, receive_numbered, change_where}
use Rattle.rdm_life.specs.Memory.{is_place_of, byte_back, with_back}
use Rattle.rdm_life.specs.Landing.{is_full, is_one_of, is_filled_one, with_window, completion_of, completion_by, replies_by, settle}
use Rattle.rdm_life.proofs.Back.{found_none}
use Rattle.rdm_sound.specs.Premises.{AreNumbered, AreApart}
use Rattle.rdm_sound.specs.Steps.{settle_found, settle_one, with_end, with_next_window, with_replies}
use Rattle.rdm_sound.proofs.Lists.{change_left, change_again, filter_changed, find_left, find_kept, find_unchanged, find_only, find_nothing}

-- ---- which receives

-- one of another number is one of the others
pub other_one : (n : ℕ) (ns : List ℕ) (x : LiveReceive) → is_receive n x ≡ false → is_one_of (n ∷ ns) x ≡ is_one_of ns x
unfolding is_one_of
other_one n ns x e = rw e refl

-- one of a number that is none of the others is none of them
pub none_of : (n : ℕ) (ns : List ℕ) (x : LiveReceive) → (Member n ns → ⊥) → is_receive n x ≡ true → is_one_of ns x ≡ false
unfolding is_one_of
none_of n ns x not_there e =
    list_any_none (λ k. is_receive k x) ns
    (λ k m. false_from_ne_true (is_receive k x)
    (λ is. not_there (subst (λ (j : ℕ). Member j ns) (sym (eqb-true x.receive.number k is) ∙ eqb-true x.receive.number n e) m)))

-- and the first is one of all
pub first_one : (n : ℕ) (ns : List ℕ) (x : LiveReceive) → is_receive n x ≡ true → is_one_of (n ∷ ns) x ≡ true
unfolding is_one_of
first_one n ns x e = rw e refl

-- so with those that are full
other_filled : (n : ℕ) (ns : List ℕ) (x : LiveReceive) → is_receive n x ≡ false → is_filled_one (n ∷ ns) x ≡ is_filled_one ns x
unfolding is_filled_one
other_filled n ns x e = ap (λ b. b && is_full x.matched) (other_one n ns x e)

none_filled : (n : ℕ) (ns : List ℕ) (x : LiveReceive) → (Member n ns → ⊥) → is_receive n x ≡ true → is_filled_one ns x ≡ false
unfolding is_filled_one
none_filled n ns x not_there e = ap (λ b. b && is_full x.matched) (none_of n ns x not_there e)

first_filled : (n : ℕ) (ns : List ℕ) (x : LiveReceive) → is_receive n x ≡ true → is_filled_one (n ∷ ns) x ≡ is_full x.matched
unfolding is_filled_one
first_filled n ns x e = ap (λ b. b && is_full x.matched) (first_one n ns x e)

-- a receive of another number
pub other_number : (n k : ℕ) (ns : List ℕ) (x : LiveReceive) → (Member n ns → ⊥) → Member k ns → is_receive k x ≡ true → is_receive n x ≡ false
other_number n k ns x not_there m is =
    false_from_ne_true (is_receive n x) (λ e. not_there (subst (λ (j : ℕ). Member j ns) (sym (eqb-true x.receive.number k is) ∙ eqb-true x.receive.number n e) m))

-- a window changes no number
pub number_same : (v : Kept) (k : ℕ) (x : LiveReceive) → is_receive k (with_window v.own x) ≡ is_receive k x
unfolding with_window
number_same v k x = refl

window_one : (v : Kept) (ns : List ℕ) (x : LiveReceive) → is_one_of ns (with_window v.own x) ≡ is_one_of ns x
unfolding with_window is_one_of
window_one v ns x = refl

-- where no receive has the number, there is none
lacks : (n : ℕ) (rs : List LiveReceive) (x : LiveReceive) → find (is_receive n) rs ≡ None → Member x rs → is_receive n x ≡ false
lacks n rs x none m = found_none (is_receive n) rs x none m

-- ---- the parts of the record

-- what is kept with other bytes at home, receives, replies and completions
abbrev pub put : Kept → (ℕ → ℕ → Option ℕ) → List LiveReceive → List Reply → List Completion → Kept
put v home receives owed completions = record v { home = home; receives = receives; owed = owed; completions = completions }

pub put_same : (v : Kept) (home home' : ℕ → ℕ → Option ℕ) (rs rs' : List LiveReceive) (owed owed' : List Reply) (cs cs' : List Completion)
    → home ≡ home' → rs ≡ rs' → owed ≡ owed' → cs ≡ cs' → put v home rs owed cs ≡ put v home' rs' owed' cs'
put_same v home home' rs rs' owed owed' cs cs' a b c d =
    ap (λ x. put v x rs owed cs) a ∙ ap (λ x. put v home' x owed cs) b ∙ ap (λ x. put v home' rs' x cs) c ∙ ap (λ x. put v home' rs' owed' x) d

-- one that is not full completes nothing
not_full : (r : LiveReceive) (o : Option Matched) → is_full o ≡ false → completion_of r o ≡ []
unfolding is_full completion_of
not_full r None e = refl
not_full r (Some m) e = rw e refl

-- ---- a number that no receive has

settle_lacks : (is_new : Bool) (n : ℕ) (ns : List ℕ) (v : Kept) → find (is_receive n) v.receives ≡ None → settle is_new (n ∷ ns) v ≡ settle is_new ns v
unfolding settle replies_by completion_by
settle_lacks is_new n ns v none =
    let rs = v.receives in
    let other = λ (x : LiveReceive) (m : Member x rs). lacks n rs x none m in
    let filled = filter_where (is_filled_one (n ∷ ns)) (is_filled_one ns) rs (λ x m. other_filled n ns x (other x m)) in
    let left = change_left (with_window v.own) (is_one_of (n ∷ ns)) (is_one_of ns) (λ r. not (is_filled_one (n ∷ ns) r)) (λ r. not (is_filled_one ns r)) (λ r. true) rs
    (λ x m. inr (refl, ap not (other_filled n ns x (other x m)), other_one n ns x (other x m))) in
    let all : filter (λ (r : LiveReceive). true) rs ≡ rs = filter_all (λ (r : LiveReceive). true) rs (λ x m. refl) in
    put_same v _ _ _ _ _ _ _ _
    (ap (λ qs. with_back qs v.home) filled)
    (left ∙ ap (λ qs. change_where (is_one_of ns) (with_window v.own) (filter (λ (r : LiveReceive). not (is_filled_one ns r)) qs)) all)
    (ap (λ o. v.owed ++ (replies_by v.own is_new o ++ flat_map (λ number. replies_by v.own is_new (receive_numbered v number)) ns)) none)
    (ap (λ o. v.completions ++ (completion_by o ++ flat_map (λ number. completion_by (receive_numbered v number)) ns)) none)

-- ---- a receive that is full

-- the byte that comes home at a place with all, or first with one that is full and then with the others
back_left : (n : ℕ) (ns : List ℕ) (rs : List LiveReceive) (home : ℕ → ℕ → Option ℕ) (r : LiveReceive) (region place : ℕ)
    → (Member n ns → ⊥) → AreNumbered rs → AreApart rs → Member r rs → is_receive n r ≡ true → is_full r.matched ≡ true
    → with_back (filter (is_filled_one (n ∷ ns)) rs) home region place
    ≡ with_back (filter (is_filled_one ns) (filter (λ (q : LiveReceive). not (is_receive n q)) rs)) (with_back (r ∷ []) home) region place
unfolding with_back byte_back or_else
back_left n ns rs home r region place not_there numbered apart m is full =
    let t : LiveReceive → Bool = λ x. is_place_of x.receive.req region place in
    let byte : LiveReceive → ℕ = λ x. x.part (place - x.receive.req.at) in
    let same : (x : LiveReceive) → Member x rs → is_receive n x ≡ true → x ≡ r = λ x k e. numbered x r k m (eqb-true x.receive.number n e ∙ sym (eqb-true r.receive.number n is)) in
    (elim (t r) as (λ b. t r ≡ b → or_else (option_map byte (find t (filter (is_filled_one (n ∷ ns)) rs))) (home region place)
    ≡ or_else (option_map byte (find t (filter (is_filled_one ns) (filter (λ (q : LiveReceive). not (is_receive n q)) rs)))) (or_else (option_map byte (cond b (Some r) None)) (home region place))) [
      | true ↦ λ inside.
          let there = filter-member (is_filled_one (n ∷ ns)) r rs m (first_filled n ns r is ∙ full) in
          let found = find_only t r (filter (is_filled_one (n ∷ ns)) rs) there inside (λ y k passes. apart y r region place (member-filter (is_filled_one (n ∷ ns)) y rs k).0 m passes inside) in
          let none = find_nothing t (filter (is_filled_one ns) (filter (λ (q : LiveReceive). not (is_receive n q)) rs)) (λ y k. false_from_ne_true (t y) (λ passes.
          let f = member-filter (is_filled_one ns) y (filter (λ (q : LiveReceive). not (is_receive n q)) rs) k in
          let g = member-filter (λ (q : LiveReceive). not (is_receive n q)) y rs f.0 in
          let one : y ≡ r = apart y r region place g.0 m passes inside in
          let wrong : not (is_receive n r) ≡ true = subst (λ (z : LiveReceive). not (is_receive n z) ≡ true) one g.1 in
          let off : false ≡ true = sym (ap not is) ∙ wrong in cc)) in
          ap (λ o. or_else (option_map byte o) (home region place)) found
          ∙ sym (ap (λ o. or_else (option_map byte o) (or_else (Some (byte r)) (home region place))) none)
      | false ↦ λ outside.
          ap (λ o. or_else (option_map byte o) (home region place))
          (find_left t (is_filled_one (n ∷ ns)) (is_filled_one ns) (λ (q : LiveReceive). not (is_receive n q)) rs
          (λ x k. (elim (is_receive n x) as (λ b. is_receive n x ≡ b → (t x ≡ false) ⊎ ((not b ≡ true) × (is_filled_one (n ∷ ns) x ≡ is_filled_one ns x))) [
            | true ↦ λ e. inl (ap t (same x k e) ∙ outside)
            | false ↦ λ e. inr (refl, other_filled n ns x e)
          ]) refl))
    ]) refl

-- a receive of the number is that one
only_one : (n : ℕ) (rs : List LiveReceive) (r x : LiveReceive) → AreNumbered rs → Member r rs → is_receive n r ≡ true → Member x rs → is_receive n x ≡ true → x ≡ r
only_one n rs r x numbered m is k e = numbered x r k m (eqb-true x.receive.number n e ∙ sym (eqb-true r.receive.number n is))

-- receives after one that is full is over
receives_left : (own_of : Kept) (n : ℕ) (ns : List ℕ) (rs : List LiveReceive) (r : LiveReceive)
    → AreNumbered rs → Member r rs → is_receive n r ≡ true → is_full r.matched ≡ true
    → change_where (is_one_of (n ∷ ns)) (with_window own_of.own) (filter (λ (q : LiveReceive). not (is_filled_one (n ∷ ns) q)) rs)
    ≡ change_where (is_one_of ns) (with_window own_of.own) (filter (λ (q : LiveReceive). not (is_filled_one ns q)) (filter (λ (q : LiveReceive). not (is_receive n q)) rs))
receives_left v n ns rs r numbered m is full =
    change_left (with_window v.own) (is_one_of (n ∷ ns)) (is_one_of ns) (λ (q : LiveReceive). not (is_filled_one (n ∷ ns) q)) (λ (q : LiveReceive). not (is_filled_one ns q))
    (λ (q : LiveReceive). not (is_receive n q)) rs
    (λ x k. (elim (is_receive n x) as (λ b. is_receive n x ≡ b
    → ((not b ≡ false) × (not (is_filled_one (n ∷ ns) x) ≡ false)) ⊎ ((not b ≡ true) × (not (is_filled_one (n ∷ ns) x) ≡ not (is_filled_one ns x)) × (is_one_of (n ∷ ns) x ≡ is_one_of ns x))) [
      | true ↦ λ e. inl (refl, ap not (first_filled n ns x e ∙ ap (λ (q : LiveReceive). is_full q.matched) (only_one n rs r x numbered m is k e) ∙ full))
      | false ↦ λ e. inr (refl, ap not (other_filled n ns x e), other_one n ns x e)
    ]) refl)

-- what the others make owed and complete is as it was
others_left : (n k : ℕ) (ns : List ℕ) (rs : List LiveReceive) → (Member n ns → ⊥) → Member k ns
    → find (is_receive k) rs ≡ find (is_receive k) (filter (λ (q : LiveReceive). not (is_receive n q)) rs)
others_left n k ns rs not_there m =
    sym (find_kept (is_receive k) (λ (q : LiveReceive). not (is_receive n q)) rs
    (λ x _. (elim (is_receive k x) as (λ b. is_receive k x ≡ b → (b ≡ false) ⊎ (not (is_receive n x) ≡ true)) [
      | true ↦ λ e. inr (ap not (other_number n k ns x not_there m e))
      | false ↦ λ e. inl refl
    ]) refl))

-- lists that grow by one and then by others
grow : {A : Type 0} (xs ys zs ws : List A) → zs ≡ ws → xs ++ (ys ++ zs) ≡ (xs ++ ys) ++ ws
grow xs ys zs ws e = ap (λ us. xs ++ (ys ++ us)) e ∙ sym (append_assoc xs ys ws)

settle_full : (is_new : Bool) (n : ℕ) (ns : List ℕ) (v : Kept) (r : LiveReceive)
    → (Member n ns → ⊥) → AreNumbered v.receives → AreApart v.receives → find (is_receive n) v.receives ≡ Some r → is_full r.matched ≡ true
    → settle is_new (n ∷ ns) v ≡ settle is_new ns (with_replies is_new r (with_end r v))
unfolding settle replies_by completion_by
settle_full is_new n ns v r not_there numbered apart found full =
    let rs = v.receives in
    let f = find_member (is_receive n) r rs found in
    let number : r.receive.number ≡ n = eqb-true r.receive.number n f.1 in
    let left : ℕ → List LiveReceive = λ k. filter (λ (q : LiveReceive). not (is_receive k q)) rs in
    let home = fun_ext (λ region. fun_ext (λ place. back_left n ns rs v.home r region place not_there numbered apart f.0 f.1 full)) in
    let owed : v.owed ++ (replies_by v.own is_new (find (is_receive n) rs) ++ flat_map (λ number. replies_by v.own is_new (receive_numbered v number)) ns)
    ≡ (v.owed ++ replies_by v.own is_new (Some r)) ++ flat_map (λ number. replies_by v.own is_new (find (is_receive number) (left n))) ns =
    ap (λ o. v.owed ++ (replies_by v.own is_new o ++ flat_map (λ number. replies_by v.own is_new (receive_numbered v number)) ns)) found
    ∙ grow v.owed (replies_by v.own is_new (Some r)) _ _
    (flat_map_same (λ number. replies_by v.own is_new (receive_numbered v number)) (λ number. replies_by v.own is_new (find (is_receive number) (left n))) ns
    (λ k m. ap (replies_by v.own is_new) (others_left n k ns rs not_there m))) in
    let done : v.completions ++ (completion_by (find (is_receive n) rs) ++ flat_map (λ number. completion_by (receive_numbered v number)) ns)
    ≡ (v.completions ++ completion_of r r.matched) ++ flat_map (λ number. completion_by (find (is_receive number) (left n))) ns =
    ap (λ o. v.completions ++ (completion_by o ++ flat_map (λ number. completion_by (receive_numbered v number)) ns)) found
    ∙ grow v.completions (completion_of r r.matched) _ _
    (flat_map_same (λ number. completion_by (receive_numbered v number)) (λ number. completion_by (find (is_receive number) (left n))) ns
    (λ k m. ap completion_by (others_left n k ns rs not_there m))) in
    put_same v _ _ _ _ _ _ _ _ home (receives_left v n ns rs r numbered f.0 f.1 full) owed done
    ∙ ap (λ (k : ℕ). settle is_new ns (with_replies is_new r (record v { home = with_back (r ∷ []) v.home; receives = left k; completions = v.completions ++ completion_of r r.matched }))) (sym number)

-- ---- a receive that is not

-- the byte that comes home is that of the others
back_same : (v : Kept) (n : ℕ) (ns : List ℕ) (r : LiveReceive) → (Member n ns → ⊥) → AreNumbered v.receives → Member r v.receives → is_receive n r ≡ true → is_full r.matched ≡ false
    → filter (is_filled_one (n ∷ ns)) v.receives ≡ filter (is_filled_one ns) (change_where (is_receive n) (with_window v.own) v.receives)
back_same v n ns r not_there numbered m is open_yet =
    filter_changed (with_window v.own) (is_filled_one (n ∷ ns)) (is_filled_one ns) (is_receive n) v.receives
    (λ x k. (elim (is_receive n x) as (λ b. is_receive n x ≡ b
    → ((b ≡ true) × (is_filled_one (n ∷ ns) x ≡ false) × (is_filled_one ns (with_window v.own x) ≡ false)) ⊎ ((b ≡ false) × (is_filled_one (n ∷ ns) x ≡ is_filled_one ns x))) [
      | true ↦ λ e. inl (
        refl,
        first_filled n ns x e ∙ ap (λ (q : LiveReceive). is_full q.matched) (only_one n v.receives r x numbered m is k e) ∙ open_yet,
        none_filled n ns (with_window v.own x) not_there (number_same v n x ∙ e),
      )
      | false ↦ λ e. inr (refl, other_filled n ns x e)
    ]) refl)

-- receives after one that is not full has its next window
receives_again : (v : Kept) (n : ℕ) (ns : List ℕ) (r : LiveReceive) → (Member n ns → ⊥) → AreNumbered v.receives → Member r v.receives → is_receive n r ≡ true → is_full r.matched ≡ false
    → change_where (is_one_of (n ∷ ns)) (with_window v.own) (filter (λ (q : LiveReceive). not (is_filled_one (n ∷ ns) q)) v.receives)
    ≡ change_where (is_one_of ns) (with_window v.own) (filter (λ (q : LiveReceive). not (is_filled_one ns q)) (change_where (is_receive n) (with_window v.own) v.receives))
receives_again v n ns r not_there numbered m is open_yet =
    change_again (with_window v.own) (is_one_of (n ∷ ns)) (is_one_of ns) (λ (q : LiveReceive). not (is_filled_one (n ∷ ns) q)) (λ (q : LiveReceive). not (is_filled_one ns q))
    (is_receive n) v.receives
    (λ x k. (elim (is_receive n x) as (λ b. is_receive n x ≡ b
    → ((b ≡ true) × (not (is_filled_one (n ∷ ns) x) ≡ true) × (is_one_of (n ∷ ns) x ≡ true) × (not (is_filled_one ns (with_window v.own x)) ≡ true) × (is_one_of ns (with_window v.own x) ≡ false))
    ⊎ ((b ≡ false) × (not (is_filled_one (n ∷ ns) x) ≡ not (is_filled_one ns x)) × (is_one_of (n ∷ ns) x ≡ is_one_of ns x))) [
      | true ↦ λ e. inl (
        refl,
        ap not (first_filled n ns x e ∙ ap (λ (q : LiveReceive). is_full q.matched) (only_one n v.receives r x numbered m is k e) ∙ open_yet),
        first_one n ns x e,
        ap not (none_filled n ns (with_window v.own x) not_there (number_same v n x ∙ e)),
        none_of n ns (with_window v.own x) not_there (number_same v n x ∙ e),
      )
      | false ↦ λ e. inr (refl, ap not (other_filled n ns x e), other_one n ns x e)
    ]) refl)

others_same : (v : Kept) (n k : ℕ) (ns : List ℕ) → (Member n ns → ⊥) → Member k ns
    → find (is_receive k) v.receives ≡ find (is_receive k) (change_where (is_receive n) (with_window v.own) v.receives)
others_same v n k ns not_there m =
    sym (find_unchanged (with_window v.own) (is_receive k) (is_receive n) v.receives
    (λ x _. (elim (is_receive k x) as (λ b. is_receive k x ≡ b → ((b ≡ false) × (is_receive k (with_window v.own x) ≡ false)) ⊎ (is_receive n x ≡ false)) [
      | true ↦ λ e. inr (other_number n k ns x not_there m e)
      | false ↦ λ e. inl (refl, number_same v k x ∙ e)
    ]) refl))

settle_open : (is_new : Bool) (n : ℕ) (ns : List ℕ) (v : Kept) (r : LiveReceive)
    → (Member n ns → ⊥) → AreNumbered v.receives → find (is_receive n) v.receives ≡ Some r → is_full r.matched ≡ false
    → settle is_new (n ∷ ns) v ≡ settle is_new ns (with_replies is_new r (with_next_window r v))
unfolding settle replies_by completion_by
settle_open is_new n ns v r not_there numbered found open_yet =
    let rs = v.receives in
    let f = find_member (is_receive n) r rs found in
    let number : r.receive.number ≡ n = eqb-true r.receive.number n f.1 in
    let now : ℕ → List LiveReceive = λ k. change_where (is_receive k) (with_window v.own) rs in
    let home = ap (λ qs. with_back qs v.home) (back_same v n ns r not_there numbered f.0 f.1 open_yet) in
    let owed : v.owed ++ (replies_by v.own is_new (find (is_receive n) rs) ++ flat_map (λ number. replies_by v.own is_new (receive_numbered v number)) ns)
    ≡ (v.owed ++ replies_by v.own is_new (Some r)) ++ flat_map (λ number. replies_by v.own is_new (find (is_receive number) (now n))) ns =
    ap (λ o. v.owed ++ (replies_by v.own is_new o ++ flat_map (λ number. replies_by v.own is_new (receive_numbered v number)) ns)) found
    ∙ grow v.owed (replies_by v.own is_new (Some r)) _ _
    (flat_map_same (λ number. replies_by v.own is_new (receive_numbered v number)) (λ number. replies_by v.own is_new (find (is_receive number) (now n))) ns
    (λ k m. ap (replies_by v.own is_new) (others_same v n k ns not_there m))) in
    let done : v.completions ++ (completion_by (find (is_receive n) rs) ++ flat_map (λ number. completion_by (receive_numbered v number)) ns)
    ≡ v.completions ++ flat_map (λ number. completion_by (find (is_receive number) (now n))) ns =
    ap (λ o. v.completions ++ (completion_by o ++ flat_map (λ number. completion_by (receive_numbered v number)) ns)) found
    ∙ ap (λ cs. v.completions ++ (cs ++ flat_map (λ number. completion_by (receive_numbered v number)) ns)) (not_full r r.matched open_yet)
    ∙ ap (λ cs. v.completions ++ cs)
    (flat_map_same (λ number. completion_by (receive_numbered v number)) (λ number. completion_by (find (is_receive number) (now n))) ns
    (λ k m. ap completion_by (others_same v n k ns not_there m))) in
    put_same v _ _ _ _ _ _ _ _ home (receives_again v n ns r not_there numbered f.0 f.1 open_yet) owed done
    ∙ ap (λ (k : ℕ). settle is_new ns (with_replies is_new r (record v { receives = now k }))) (sym number)

-- ---- one after another

-- the first settles, and then the others
pub settle_first : (is_new : Bool) (n : ℕ) (ns : List ℕ) (v : Kept) → (Member n ns → ⊥) → AreNumbered v.receives → AreApart v.receives
    → settle is_new (n ∷ ns) v ≡ settle is_new ns (settle_one is_new n v)
unfolding settle_found
settle_first is_new n ns v not_there numbered apart =
    (elim (find (is_receive n) v.receives) as (λ o. find (is_receive n) v.receives ≡ o → settle is_new (n ∷ ns) v ≡ settle is_new ns (settle_found is_new o v)) [
      | None ↦ λ none. settle_lacks is_new n ns v none
      | Some r ↦ λ found. (elim (is_full r.matched) as (λ b. is_full r.matched ≡ b → settle is_new (n ∷ ns) v ≡ settle is_new ns (with_replies is_new r (cond b (with_end r v) (with_next_window r v)))) [
        | true ↦ λ full. settle_full is_new n ns v r not_there numbered apart found full
        | false ↦ λ open_yet. settle_open is_new n ns v r not_there numbered found open_yet
      ]) refl
    ]) refl
