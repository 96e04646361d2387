-- The receives that end by one deed have numbers of their own.
use Rattle.std.proofs.Common.{◌≡◌, ℕ, suc, ◌+◌, ◌<◌, Bool, true, false, cond, List, [], ◌∷◌, ◌++◌, map, length, Some, refl, arith, inl, inr, sym, subst}
use Rattle.std.specs.Prelude.{filter, flat_map, slice_get}
use Rattle.std.proofs.lemmas.List.{append-nil}
use Rattle.rdm_lists.specs.Lists.{Member}
use Rattle.rdm_num.specs.declared.numbers.Life.{Life}
use Rattle.rdm_match.specs.Matcher.{Pair}
use Rattle.rdm_model.specs.Deeds.{Deed}
use Rattle.rdm_model.specs.Beginnings.{Heads}
use Rattle.rdm_model.specs.Matches.{Receive, receives}
use Rattle.rdm_model.specs.Receives.{RecvEnd, Filled, Gone, ended_recv, gone_with}
use Rattle.rdm_law.proofs.Matching.Numbered.{LacksPair, PairsApart}
use Rattle.rdm_law.proofs.Matching.Others.{LacksNumber, NumbersApart}
use Rattle.rdm_law.proofs.Matching.Received.{receive_at}
use Rattle.rdm_lists.proofs.Members.{member-map}
use Rattle.rdm_lists.proofs.Places.{member_at}

-- numbers that are none of the list
pub lacks_from : (n : ℕ) (ks : List ℕ) → ((k : ℕ) → Member k ks → k ≡ n → ⊥) → LacksNumber n ks
lacks_from n [] h = tt
lacks_from n (k ∷ ks) h = (h k (inl refl), lacks_from n ks (λ j m. h j (inr m)))

-- a number that neither list has
lacks_append : (n : ℕ) (ks js : List ℕ) → LacksNumber n ks → ((k : ℕ) → Member k js → k ≡ n → ⊥) → LacksNumber n (ks ++ js)
lacks_append n [] js l h = lacks_from n js h
lacks_append n (k ∷ ks) js l h = (l.0, lacks_append n ks js l.1 h)

-- two lists whose numbers are apart, and that have none in common
pub apart_append : (ks js : List ℕ) → NumbersApart ks → NumbersApart js → ((k j : ℕ) → Member k ks → Member j js → j ≡ k → ⊥) → NumbersApart (ks ++ js)
apart_append [] js a b h = b
apart_append (k ∷ ks) js a b h = (lacks_append k ks js a.0 (λ j m. h k j (inl refl) m), apart_append ks js a.1 b (λ i j m. h i j (inr m)))

-- the numbers of pairs that a test passes lack no less
filled_lack : (t : Pair → Bool) (n : ℕ) (ps : List Pair) → LacksPair n ps → LacksNumber n (map ended_recv (map Filled (filter t ps)))
unfolding ended_recv
filled_lack t n [] l = tt
filled_lack t n (p ∷ ps) l =
    elim (t p) as (λ b. LacksNumber n (map ended_recv (map Filled (cond b (p ∷ filter t ps) (filter t ps))))) [ true ↦ (l.0, filled_lack t n ps l.1) | false ↦ filled_lack t n ps l.1 ]

-- and are apart
pub filled_apart : (t : Pair → Bool) (ps : List Pair) → PairsApart ps → NumbersApart (map ended_recv (map Filled (filter t ps)))
unfolding ended_recv
filled_apart t [] a = tt
filled_apart t (p ∷ ps) a =
    elim (t p) as (λ b. NumbersApart (map ended_recv (map Filled (cond b (p ∷ filter t ps) (filter t ps))))) [
      | true ↦ (filled_lack t p.recv.id.0 ps a.0, filled_apart t ps a.1)
      | false ↦ filled_apart t ps a.1
    ]

-- the numbers of receives by their places
rows_apart : (from : ℕ) (rs : List Receive) → ((n : ℕ) (r : Receive) → slice_get rs n ≡ Some r → r.number ≡ from + n) → NumbersApart (map (λ (r : Receive). r.number) rs)
rows_apart from [] h = tt
rows_apart from (r ∷ rs) h = (
  lacks_from r.number (map (λ (r : Receive). r.number) rs) (λ k m e. (
      let x = member-map (λ (r : Receive). r.number) k rs m in
      let p = member_at x.0 rs x.1 in
      let a = h (suc p.0) x.0 p.1 in
      let b = h 0 r refl in
      let c = x.2 in
      absurd (omega arith))),
  rows_apart (suc from) rs (λ n x at. let a = h (suc n) x at in omega arith),
)

-- the receives of a life have numbers of their own
receives_apart : (log : List Deed) → NumbersApart (map (λ (r : Receive). r.number) (receives log))
receives_apart log = rows_apart 0 (receives log) (λ n r at. let a = (receive_at log n r at).0 in omega arith)

-- those of them that are gone lack no less
gone_lack : (t : Receive → Bool) (n : ℕ) (rs : List Receive) → LacksNumber n (map (λ (r : Receive). r.number) rs)
    → LacksNumber n (map ended_recv (map (λ (r : Receive). Gone r.number) (filter t rs)))
unfolding ended_recv
gone_lack t n [] l = tt
gone_lack t n (r ∷ rs) l =
    elim (t r) as (λ b. LacksNumber n (map ended_recv (map (λ (r : Receive). Gone r.number) (cond b (r ∷ filter t rs) (filter t rs))))) [
      | true ↦ (l.0, gone_lack t n rs l.1)
      | false ↦ gone_lack t n rs l.1
    ]

-- and are apart
gone_apart : (t : Receive → Bool) (rs : List Receive) → NumbersApart (map (λ (r : Receive). r.number) rs)
    → NumbersApart (map ended_recv (map (λ (r : Receive). Gone r.number) (filter t rs)))
unfolding ended_recv
gone_apart t [] a = tt
gone_apart t (r ∷ rs) a =
    elim (t r) as (λ b. NumbersApart (map ended_recv (map (λ (r : Receive). Gone r.number) (cond b (r ∷ filter t rs) (filter t rs))))) [
      | true ↦ (gone_lack t r.number rs a.0, gone_apart t rs a.1)
      | false ↦ gone_apart t rs a.1
    ]

-- receives that go with one life at most are apart
pub flat_apart : (first : ℕ) (heads : Heads) (before : List Deed) (ends : List RecvEnd) (ls : List Life) → length ls < 2 → NumbersApart (map ended_recv (flat_map (gone_with first heads before ends) ls))
unfolding gone_with
flat_apart first heads before ends [] l = tt
flat_apart first heads before ends (k ∷ []) l =
    subst (λ (es : List RecvEnd). NumbersApart (map ended_recv es)) (sym (append-nil (gone_with first heads before ends k))) (gone_apart _ (receives before) (receives_apart before))
flat_apart first heads before ends (k ∷ (j ∷ js)) l = absurd (omega arith)
