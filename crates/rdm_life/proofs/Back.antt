-- Where receives end, their ranges are at home again, and the others stay out.
use Rattle.std.proofs.Common.{◌≡◌, ℕ, ◌-◌, Bool, true, false, cond, not, List, [], ◌∷◌, map, Option, Some, None, refl, inl, inr, sym, ◌∙◌, ap, subst}
use Rattle.std.specs.Prelude.{◌||◌, find, filter, is_some, option_map}
use Rattle.std.specs.List.{list_any}
use Rattle.std.proofs.lemmas.Bool.{false_from_ne_true, not-true}
use Rattle.rdm_lists.specs.Lists.{Member, or_else}
use Rattle.rdm_lists.proofs.Filters.{list_any_none}
use Rattle.rdm_lists.proofs.Members.{find_member, member_find, member-filter, filter-member}
use Rattle.rdm_lists.proofs.Same.{find_same}
use Rattle.rdm_model.specs.Matches.{Receive}
use Rattle.rdm_life.specs.Kept.{LiveReceive}
use Rattle.rdm_life.specs.Memory.{is_place_of, byte_back, with_back}

-- what is found among things that were made of others
pub find_made : {A B : Type 0} (f : A → B) (t : B → Bool) (xs : List A) → find t (map f xs) ≡ option_map f (find (λ x. t (f x)) xs)
find_made f t [] = refl
find_made {A} {B} f t (x ∷ xs) =
    elim (t (f x)) as (λ b. cond b (Some (f x)) (find t (map f xs)) ≡ option_map f (cond b (Some x) (find (λ y. t (f y)) xs))) [
      | true ↦ refl
      | false ↦ find_made f t xs
    ]

-- where none is found none passes
pub found_none : {A : Type 0} (t : A → Bool) (xs : List A) (x : A) → find t xs ≡ None → Member x xs → t x ≡ false
found_none t xs x h m =
    false_from_ne_true (t x) (λ e.
    let s = member_find t x xs m e in
    let wrong : is_some (find t xs) ≡ false = ap (λ o. is_some o) h in
    cc)

-- those that stay pass as all do, where those that leave don't
any_rest : {A : Type 0} (t gone : A → Bool) (xs : List A) → ((x : A) → Member x xs → gone x ≡ true → t x ≡ false) → list_any t (filter (λ x. not (gone x)) xs) ≡ list_any t xs
any_rest t gone [] h = refl
any_rest {A} t gone (x ∷ xs) h =
    let rest = any_rest t gone xs (λ y m. h y (inr m)) in
    (elim (gone x) as (λ b. gone x ≡ b → list_any t (cond (not b) (x ∷ filter (λ y. not (gone y)) xs) (filter (λ y. not (gone y)) xs)) ≡ (t x || list_any t xs)) [
      | true ↦ λ e. (let n = h x (inl refl) e in rw n rest)
      | false ↦ λ e. ap (λ b. t x || b) rest
    ]) refl

-- a place of a range is counted from its beginning
back_part : (g : Receive → LiveReceive) (o : Option Receive) (place : ℕ) → ((r : Receive) → (g r).receive ≡ r)
    → option_map (λ (x : LiveReceive). x.part (place - x.receive.req.at)) (option_map g o) ≡ option_map (λ (r : Receive). (g r).part (place - r.req.at)) o
back_part g None place same = refl
back_part g (Some r) place same = ap (λ (q : Receive). Some ((g r).part (place - q.req.at))) (same r)

-- the byte that comes home, by the receive that has the place
back_found : (g : Receive → LiveReceive) (xs : List Receive) (region place : ℕ) → ((r : Receive) → (g r).receive ≡ r)
    → byte_back (map g xs) region place ≡ option_map (λ (r : Receive). (g r).part (place - r.req.at)) (find (λ (r : Receive). is_place_of r.req region place) xs)
unfolding byte_back
back_found g xs region place same =
    let t : LiveReceive → Bool = λ x. is_place_of x.receive.req region place in
    let made = find_made g t xs in
    let tests = find_same (λ (r : Receive). t (g r)) (λ (r : Receive). is_place_of r.req region place) xs (λ r. ap (λ (q : Receive). is_place_of q.req region place) (same r)) in
    ap (option_map (λ (x : LiveReceive). x.part (place - x.receive.req.at))) (made ∙ ap (option_map g) tests)
    ∙ back_part g (find (λ (r : Receive). is_place_of r.req region place) xs) place same

-- bytes at home after receives that have no place in common left by a test
pub leave_home : (g : Receive → LiveReceive) (gone : Receive → Bool) (live : List Receive) (byte byte' home : ℕ → ℕ → Option ℕ) (region place : ℕ)
    → ((q r : Receive) → Member q live → Member r live → is_place_of q.req region place ≡ true → is_place_of r.req region place ≡ true → q ≡ r)
    → ((r : Receive) → (g r).receive ≡ r)
    → home region place ≡ cond (list_any (λ (r : Receive). is_place_of r.req region place) live) None (byte region place)
    → ((r : Receive) → Member r live → gone r ≡ true → is_place_of r.req region place ≡ true → Some ((g r).part (place - r.req.at)) ≡ byte' region place)
    → (((r : Receive) → Member r live → gone r ≡ true → is_place_of r.req region place ≡ false) → byte' region place ≡ byte region place)
    → with_back (map g (filter gone live)) home region place
    ≡ cond (list_any (λ (r : Receive). is_place_of r.req region place) (filter (λ (r : Receive). not (gone r)) live)) None (byte' region place)
unfolding with_back or_else
leave_home g gone live byte byte' home region place apart same was new old =
    let t : Receive → Bool = λ r. is_place_of r.req region place in
    let back = back_found g (filter gone live) region place same in
    let out : Bool = list_any t (filter (λ (r : Receive). not (gone r)) live) in
    ap (λ (o : Option ℕ). or_else o (home region place)) back
    ∙ (elim (find t (filter gone live)) as (λ o. find t (filter gone live) ≡ o
    → or_else (option_map (λ (r : Receive). (g r).part (place - r.req.at)) o) (home region place) ≡ cond out None (byte' region place)) [
      | Some r ↦ λ e.
          let f = find_member t r (filter gone live) e in
          let m = member-filter gone r live f.0 in
          let none : out ≡ false = list_any_none t (filter (λ (r : Receive). not (gone r)) live) (λ x k. false_from_ne_true (t x) (λ passes.
          let l = member-filter (λ (r : Receive). not (gone r)) x live k in
          let is = apart x r l.0 m.0 passes f.1 in
          let stays : gone x ≡ false = not-true (gone x) l.1 in
          let leaves : gone x ≡ true = subst (λ (y : Receive). gone y ≡ true) (sym is) m.1 in
          cc)) in
          new r m.0 m.1 f.1 ∙ ap (λ (b : Bool). cond b None (byte' region place)) (sym none)
      | None ↦ λ e.
          let none : (r : Receive) → Member r live → gone r ≡ true → t r ≡ false = λ r m k. found_none t (filter gone live) r e (filter-member gone r live m k) in
          was
          ∙ ap (λ (b : Bool). cond b None (byte region place)) (sym (any_rest t gone live none))
          ∙ ap (λ (o : Option ℕ). cond out None o) (sym (old none))
    ]) refl
