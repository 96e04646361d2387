-- Messages and receives meet one pair after another.
use Rattle.std.proofs.Common.{◌≡◌, ℕ, ◌-◌, Bool, true, false, cond, not, List, [], ◌∷◌, Some, None, map, refl, arith, sym, ◌∙◌, ap, subst}
use Rattle.std.specs.Prelude.{◌==◌, filter, find}
use Rattle.std.proofs.Math.Path.{fun_ext}
use Rattle.std.proofs.lemmas.Bool.{eqb-true}
use Rattle.rdm_lists.specs.Lists.{Member}
use Rattle.rdm_lists.proofs.Members.{find_member}
use Rattle.rdm_lists.proofs.Same.{map_same}
use Rattle.rdm_num.specs.declared.numbers.Life.{Life}
use Rattle.rdm_match.specs.Matcher.{Pair}
use Rattle.rdm_model.specs.Completions.{is_matched}
use Rattle.rdm_life.specs.Kept.{Kept, LiveReceive, is_receive, change_where}
use Rattle.rdm_life.specs.Landing.{is_full, with_message, with_pair, with_window, settle, meet}
use Rattle.rdm_life.proofs.Meets.{with_pairs, meet_is}
use Rattle.rdm_life.proofs.Settling.{numbers_of}
use Rattle.rdm_sound.specs.Premises.{AreOnce, AreNumbered, AreApart, names_of}
use Rattle.rdm_sound.specs.Steps.{settle_found, settle_one, with_end, with_next_window, with_replies, meet_one, meet_each}
use Rattle.rdm_sound.proofs.Settles.{settle_first, number_same}
use Rattle.rdm_sound.proofs.SettlesEach.{settle_nothing}
use Rattle.rdm_sound.proofs.Stays.{numbered_changed, apart_changed, numbered_where, apart_where, settled_numbered, settled_apart}
use Rattle.rdm_sound.proofs.Pairs.{taken, pair_in, paired, pair_same, message_same, unpaired, pairs_first}

-- ---- one receive settles before others take their messages

-- what is found, where a change leaves what passes and what does not
find_through : {A : Type 0} (f : A → A) (t : A → Bool) (xs : List A) → ((x : A) → t (f x) ≡ t x) → ((x : A) → t x ≡ true → f x ≡ x) → find t (map f xs) ≡ find t xs
find_through f t [] same stays = refl
find_through {A} f t (x ∷ xs) same stays =
    let rest = find_through f t xs same stays in
    ap (λ b. cond b (Some (f x)) (find t (map f xs))) (same x)
    ∙ (elim (t x) as (λ b. t x ≡ b → cond b (Some (f x)) (find t (map f xs)) ≡ cond b (Some x) (find t xs)) [
      | true ↦ λ e. ap Some (stays x e)
      | false ↦ λ _. rest
    ]) refl

-- those that are left are changed
filter_through : {A : Type 0} (f : A → A) (t : A → Bool) (xs : List A) → ((x : A) → t (f x) ≡ t x) → filter t (map f xs) ≡ map f (filter t xs)
filter_through f t [] same = refl
filter_through {A} f t (x ∷ xs) same =
    let rest = filter_through f t xs same in
    ap (λ b. cond b (f x ∷ filter t (map f xs)) (filter t (map f xs))) (same x)
    ∙ elim (t x) as (λ b. cond b (f x ∷ filter t (map f xs)) (filter t (map f xs)) ≡ map f (cond b (x ∷ filter t xs) (filter t xs))) [
      | true ↦ ap (λ ys. f x ∷ ys) rest
      | false ↦ rest
    ]

-- two changes of which each leaves what the other changes
change_through : {A : Type 0} (f g : A → A) (t : A → Bool) (xs : List A) → ((x : A) → t (f x) ≡ t x) → ((x : A) → t x ≡ true → f x ≡ x) → ((x : A) → t x ≡ true → f (g x) ≡ g x)
    → change_where t g (map f xs) ≡ map f (change_where t g xs)
unfolding change_where
change_through f g t [] same stays again = refl
change_through {A} f g t (x ∷ xs) same stays again =
    let rest = change_through f g t xs same stays again in
    ap (λ b. cond b (g (f x)) (f x) ∷ change_where t g (map f xs)) (same x)
    ∙ (elim (t x) as (λ b. t x ≡ b → cond b (g (f x)) (f x) ∷ change_where t g (map f xs) ≡ f (cond b (g x) x) ∷ map f (change_where t g xs)) [
      | true ↦ λ e. ap (λ y. y ∷ change_where t g (map f xs)) (ap g (stays x e) ∙ sym (again x e)) ∙ ap (λ ys. f (g x) ∷ ys) rest
      | false ↦ λ _. ap (λ ys. f x ∷ ys) rest
    ]) refl

-- a pair leaves a receive's number
number_paired : (v : Kept) (ps : List Pair) (k : ℕ) (x : LiveReceive) → is_receive k (paired v ps x) ≡ is_receive k x
number_paired v ps k x = ap (λ s. s.number == k) (pair_same v (pair_in ps x) x)

-- what is taken depends on what is early alone
full_pairs : (is_new : Bool) (r : LiveReceive) (ps : List Pair) (u : Kept) (x : LiveReceive) → paired u ps x ≡ paired (with_replies is_new r (with_end r u)) ps x
unfolding with_pair
full_pairs is_new r ps u x = elim (pair_in ps x) as (λ o. with_pair u o x ≡ with_pair (with_replies is_new r (with_end r u)) o x) [ None ↦ refl | Some q ↦ refl ]

open_pairs : (is_new : Bool) (r : LiveReceive) (ps : List Pair) (u : Kept) (x : LiveReceive) → paired u ps x ≡ paired (with_replies is_new r (with_next_window r u)) ps x
unfolding with_pair
open_pairs is_new r ps u x = elim (pair_in ps x) as (λ o. with_pair u o x ≡ with_pair (with_replies is_new r (with_next_window r u)) o x) [ None ↦ refl | Some q ↦ refl ]

full_before : (ps : List Pair) (u : Kept) (r : LiveReceive) → with_replies true r (with_end r (with_pairs ps u)) ≡ with_pairs ps (with_replies true r (with_end r u))
full_before ps u r =
    let t : LiveReceive → Bool = λ q. not (is_receive r.receive.number q) in
    ap (λ rs. record (with_replies true r (with_end r (with_pairs ps u))) { receives = rs })
    (filter_through (paired u ps) t u.receives (λ x. ap not (number_paired u ps r.receive.number x))
    ∙ map_same (paired u ps) (paired (with_replies true r (with_end r u)) ps) (filter t u.receives) (λ x _. full_pairs true r ps u x))

open_before : (n : ℕ) (ps : List Pair) (u : Kept) (r : LiveReceive) → (Member n (numbers_of ps) → ⊥) → r.receive.number ≡ n
    → with_replies true r (with_next_window r (with_pairs ps u)) ≡ with_pairs ps (with_replies true r (with_next_window r u))
open_before n ps u r not_there is =
    let k = r.receive.number in
    let none : Member k (numbers_of ps) → ⊥ = λ m. not_there (subst (λ (j : ℕ). Member j (numbers_of ps)) is m) in
    let t : LiveReceive → Bool = is_receive k in
    ap (λ rs. record (with_replies true r (with_next_window r (with_pairs ps u))) { receives = rs })
    (change_through (paired u ps) (with_window u.own) t u.receives (number_paired u ps k) (λ x e. unpaired u k ps x none e)
    (λ x e. unpaired u k ps (with_window u.own x) none (number_same u k x ∙ e))
    ∙ map_same (paired u ps) (paired (with_replies true r (with_next_window r u)) ps) (change_where t (with_window u.own) u.receives) (λ x _. open_pairs true r ps u x))

-- a receive settles before others take their messages or after
settles_before : (n : ℕ) (ps : List Pair) (u : Kept) → (Member n (numbers_of ps) → ⊥) → settle_one true n (with_pairs ps u) ≡ with_pairs ps (settle_one true n u)
unfolding settle_found
settles_before n ps u not_there =
    let f : LiveReceive → LiveReceive = paired u ps in
    let found = find_through f (is_receive n) u.receives (number_paired u ps n) (λ x e. unpaired u n ps x not_there e) in
    ap (λ o. settle_found true o (with_pairs ps u)) found
    ∙ (elim (find (is_receive n) u.receives) as (λ o. find (is_receive n) u.receives ≡ o → settle_found true o (with_pairs ps u) ≡ with_pairs ps (settle_found true o u)) [
      | None ↦ λ _. refl
      | Some r ↦ λ e. elim (is_full r.matched) as (λ b. with_replies true r (cond b (with_end r (with_pairs ps u)) (with_next_window r (with_pairs ps u)))
          ≡ with_pairs ps (with_replies true r (cond b (with_end r u) (with_next_window r u)))) [
            | true ↦ full_before ps u r
            | false ↦ open_before n ps u r not_there (eqb-true r.receive.number n (find_member (is_receive n) r u.receives e).1)
          ]
    ]) refl

-- ---- one pair after another

-- receives stay of one number, and apart, where some take messages
taken_numbered : (p : Pair) (v : Kept) → AreNumbered v.receives → AreNumbered (taken p v).receives
taken_numbered p v = numbered_where (is_receive p.recv.id.0) (with_message p (v.early p.message.life p.message.no.0)) v.receives (message_same p (v.early p.message.life p.message.no.0))

taken_apart : (p : Pair) (v : Kept) → AreApart v.receives → AreApart (taken p v).receives
taken_apart p v = apart_where (is_receive p.recv.id.0) (with_message p (v.early p.message.life p.message.no.0)) v.receives (message_same p (v.early p.message.life p.message.no.0))

pub met_numbered : (p : Pair) (v : Kept) → AreNumbered v.receives → AreNumbered (meet_one p v).receives
unfolding meet_one
met_numbered p v numbered = settled_numbered true p.recv.id.0 (taken p v) (taken_numbered p v numbered)

pub met_apart : (p : Pair) (v : Kept) → AreApart v.receives → AreApart (meet_one p v).receives
unfolding meet_one
met_apart p v apart = settled_apart true p.recv.id.0 (taken p v) (taken_apart p v apart)

-- the first pair meets, and then the others
pub meet_first : (p : Pair) (ps : List Pair) (v : Kept) → (Member p.recv.id.0 (numbers_of ps) → ⊥)
    → (Member (record { life = p.message.life; number = p.message.no.0 }) (names_of ps) → ⊥)
    → AreNumbered v.receives → AreApart v.receives
    → meet (p ∷ ps) v ≡ meet ps (meet_one p v)
unfolding meet_one
meet_first p ps v no_number no_name numbered apart =
    let n = p.recv.id.0 in
    let ns = numbers_of ps in
    let u = taken p v in
    meet_is (p ∷ ps) v
    ∙ ap (settle true (n ∷ ns)) (pairs_first p ps v no_number no_name)
    ∙ settle_first true n ns (with_pairs ps u) no_number
    (numbered_changed (paired u ps) u.receives (λ x. pair_same u (pair_in ps x) x) (taken_numbered p v numbered))
    (apart_changed (paired u ps) u.receives (λ x. pair_same u (pair_in ps x) x) (taken_apart p v apart))
    ∙ ap (settle true ns) (settles_before n ps u no_number)
    ∙ sym (meet_is ps (settle_one true n u))

-- no pair meets
same_all : {A : Type 0} (xs : List A) → map (λ (x : A). x) xs ≡ xs
same_all [] = refl
same_all (x ∷ xs) = ap (λ ys. x ∷ ys) (same_all xs)

less_none : (a : ℕ) → a - 0 ≡ a
less_none a = omega arith

no_pairs : (v : Kept) → with_pairs [] v ≡ v
unfolding with_pair is_matched
no_pairs v =
    ap (λ rs. record (with_pairs [] v) { receives = rs }) (same_all v.receives)
    ∙ ap (λ (f : Life → ℕ). record v { early_of = f; early_count = v.early_count - 0 }) (fun_ext (λ life. less_none (v.early_of life)))
    ∙ ap (λ n. record v { early_count = n }) (less_none v.early_count)

pub meet_nothing : (v : Kept) → meet [] v ≡ v
meet_nothing v = meet_is [] v ∙ ap (settle true []) (no_pairs v) ∙ settle_nothing true v

-- one pair meets
pub meet_alone : (p : Pair) (v : Kept) → AreNumbered v.receives → AreApart v.receives → meet (p ∷ []) v ≡ meet_one p v
meet_alone p v numbered apart = meet_first p [] v (λ m. elim m [ ]) (λ m. elim m [ ]) numbered apart ∙ meet_nothing (meet_one p v)

-- each pair meets
pub meets_each : (ps : List Pair) (v : Kept) → AreOnce (numbers_of ps) → AreOnce (names_of ps) → AreNumbered v.receives → AreApart v.receives → meet ps v ≡ meet_each ps v
unfolding meet_each
meets_each [] v numbers names numbered apart = meet_nothing v
meets_each (p ∷ ps) v numbers names numbered apart =
    meet_first p ps v numbers.0 names.0 numbered apart
    ∙ meets_each ps (meet_one p v) numbers.1 names.1 (met_numbered p v numbered) (met_apart p v apart)
