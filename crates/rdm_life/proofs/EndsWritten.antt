-- The bytes of regions after receives ended: in the range of one the bytes that it wrote, and all others as they were.
use Rattle.std.proofs.Common.{◌≡◌, ℕ, ◌+◌, ◌-◌, ◌<◌, ◌≤◌, true, false, List, [], ◌∷◌, length, get_or, Option, Some, None, ◌⊎◌, refl, arith, inl, inr, sym, ◌∙◌, ap}
use Rattle.std.specs.Prelude.{slice_get}
use Rattle.std.proofs.lemmas.Bool.{cases_lt}
use Rattle.std.proofs.lemmas.Option.{slice_get_past}
use Rattle.rdm_lists.proofs.Options.{some_of, or_else_left}
use Rattle.rdm_lists.proofs.Places.{slice_get_some}
use Rattle.rdm_num.specs.declared.request.RecvReq.{RecvReq}
use Rattle.rdm_lists.specs.Lists.{Member, or_else}
use Rattle.rdm_model.specs.Beginnings.{Messages}
use Rattle.rdm_model.specs.Matches.{Receive}
use Rattle.rdm_model.specs.Receives.{RecvEnd, ended_recv, receive_numbered}
use Rattle.rdm_model.specs.Regions.{put, change_at, written_by, after_end, after_ends}
use Rattle.rdm_law.proofs.Fits.RegionsFit.{get_or-sizes}
use Rattle.rdm_law.proofs.Fits.RegionSizes.{change_at_sizes}
use Rattle.rdm_life.specs.Memory.{is_place_of}
use Rattle.rdm_life.proofs.EndBytes.{get_or_past, change_outside}
use Rattle.rdm_life.proofs.Places.{place_parts}
use Rattle.rdm_life.proofs.Writes.{put_in, put_after, changed_here}

-- every end of these writes within its range, and the range lies in its region
abbrev pub WritesFit : Messages → List Receive → List RecvEnd → List (List ℕ) → Type 0
WritesFit ms rs es regions =
    (e : RecvEnd) (r : Receive) → Member e es → receive_numbered rs (ended_recv e) ≡ Some r
    → (length (written_by ms e r.req) ≤ r.req.len) × (r.req.at + r.req.len ≤ length (get_or regions r.req.region.0 []))

-- ---- one end

-- one end leaves the lengths of regions, where it writes within its range and the range lies in its region
end_sizes : (ms : Messages) (e : RecvEnd) (o : Option Receive) (regions : List (List ℕ))
    → ((r : Receive) → o ≡ Some r → (length (written_by ms e r.req) ≤ r.req.len) × (r.req.at + r.req.len ≤ length (get_or regions r.req.region.0 [])))
    → (n : ℕ) → length (get_or (after_end ms e o regions) n []) ≡ length (get_or regions n [])
unfolding after_end
end_sizes ms e None regions fit n = refl
end_sizes ms e (Some r) regions fit n =
    let f = fit r refl in
    let short = f.0 in
    let within = f.1 in
    let size = get_or-sizes regions r.req.region.0 in
    get_or-sizes (change_at (put r.req.at (written_by ms e r.req)) r.req.region.0 regions) n
    ∙ ap (λ (ns : List ℕ). get_or ns n 0) (change_at_sizes r.req.at (written_by ms e r.req) r.req.region.0 regions (omega arith))
    ∙ sym (get_or-sizes regions n)

-- so the ends after it fit as they did
fit_on : (ms : Messages) (rs : List Receive) (e : RecvEnd) (es : List RecvEnd) (regions : List (List ℕ)) → WritesFit ms rs (e ∷ es) regions
    → WritesFit ms rs es (after_end ms e (receive_numbered rs (ended_recv e)) regions)
fit_on ms rs e es regions fit = λ f r m h.
    let size = end_sizes ms e (receive_numbered rs (ended_recv e)) regions (λ q k. fit e q (inl refl) k) r.req.region.0 in
    let was = fit f r (inr m) h in
    let within = was.1 in
    (was.0, omega arith)

-- a place within a region is one of a region that is there
is_there : (regions : List (List ℕ)) (n place : ℕ) → place < length (get_or regions n []) → n < length regions
is_there regions n place h =
    elim (cases_lt n (length regions)) [
      | inl lt ↦ lt
      | inr past ↦ absurd (let none : length (get_or regions n []) ≡ 0 = ap (λ (xs : List ℕ). length xs) (get_or_past regions n [] past) in omega arith)
    ]

-- a place of a range has the byte that was put there, or the old one past those that were put
change_inside : (bytes : List ℕ) (req : RecvReq) (regions : List (List ℕ)) (region place : ℕ) → req.at + req.len ≤ length (get_or regions req.region.0 [])
    → is_place_of req region place ≡ true
    → slice_get (get_or (change_at (put req.at bytes) req.region.0 regions) region []) place ≡ or_else (slice_get bytes (place - req.at)) (slice_get (get_or regions region []) place)
unfolding or_else
change_inside bytes req regions region place fit h =
    let p = place_parts req region place h in
    let low = p.1 in
    let high = p.2 in
    let k : ℕ = place - req.at in
    let content = get_or regions req.region.0 [] in
    ap (λ (n : ℕ). slice_get (get_or (change_at (put req.at bytes) req.region.0 regions) n []) place) (sym p.0)
    ∙ ap (λ (xs : List ℕ). slice_get xs place) (changed_here (put req.at bytes) req.region.0 regions [] (is_there regions req.region.0 place (omega arith)))
    ∙ elim (cases_lt k (length bytes)) [
      | inl lt ↦
          let there = some_of (slice_get bytes k) (slice_get_some bytes k lt) in
          put_in req.at bytes content place k (omega arith) (omega arith) lt ∙ there.1 ∙ sym (or_else_left (slice_get bytes k) (slice_get content place) there.0 there.1)
      | inr past ↦
          put_after req.at bytes content place (omega arith) (omega arith)
          ∙ ap (λ (o : Option ℕ). or_else o (slice_get content place)) (sym (slice_get_past bytes k past))
    ]
    ∙ ap (λ (n : ℕ). or_else (slice_get bytes k) (slice_get (get_or regions n []) place)) p.0

-- a value comes once before another
or_else_again : {A : Type 0} (x y : Option A) → or_else x (or_else x y) ≡ or_else x y
unfolding or_else
or_else_again None y = refl
or_else_again (Some a) y = refl

-- an end leaves a place, or writes what the only end that has the place writes there
one_end : (ms : Messages) (x e : RecvEnd) (o : Option Receive) (r : Receive) (regions : List (List ℕ)) (region place : ℕ)
    → ((q : Receive) → o ≡ Some q → (length (written_by ms x q.req) ≤ q.req.len) × (q.req.at + q.req.len ≤ length (get_or regions q.req.region.0 [])))
    → ((q : Receive) → o ≡ Some q → is_place_of q.req region place ≡ true → (x ≡ e) × (q ≡ r))
    → (slice_get (get_or (after_end ms x o regions) region []) place ≡ slice_get (get_or regions region []) place)
    ⊎ (slice_get (get_or (after_end ms x o regions) region []) place ≡ or_else (slice_get (written_by ms e r.req) (place - r.req.at)) (slice_get (get_or regions region []) place))
unfolding after_end
one_end ms x e None r regions region place fit only = inl refl
one_end ms x e (Some q) r regions region place fit only =
    let f = fit q refl in
    let old : Option ℕ = slice_get (get_or regions region []) place in
    let new : Option ℕ = slice_get (get_or (change_at (put q.req.at (written_by ms x q.req)) q.req.region.0 regions) region []) place in
    (elim (is_place_of q.req region place) as (λ b. is_place_of q.req region place ≡ b → (new ≡ old) ⊎ (new ≡ or_else (slice_get (written_by ms e r.req) (place - r.req.at)) old)) [
      | false ↦ λ h. inl (change_outside (written_by ms x q.req) q.req regions region place f.0 f.1 h)
      | true ↦ λ h.
          let is = only q refl h in
          inr (change_inside (written_by ms x q.req) q.req regions region place f.1 h
          ∙ ap (λ (y : RecvEnd). or_else (slice_get (written_by ms y q.req) (place - q.req.at)) old) is.0
          ∙ ap (λ (s : Receive). or_else (slice_get (written_by ms e s.req) (place - s.req.at)) old) is.1)
    ]) refl

-- it leaves the places outside its range
end_outside : (ms : Messages) (x : RecvEnd) (o : Option Receive) (regions : List (List ℕ)) (region place : ℕ)
    → ((q : Receive) → o ≡ Some q → (length (written_by ms x q.req) ≤ q.req.len) × (q.req.at + q.req.len ≤ length (get_or regions q.req.region.0 [])))
    → ((q : Receive) → o ≡ Some q → is_place_of q.req region place ≡ false)
    → slice_get (get_or (after_end ms x o regions) region []) place ≡ slice_get (get_or regions region []) place
unfolding after_end
end_outside ms x None regions region place fit out = refl
end_outside ms x (Some q) regions region place fit out =
    let f = fit q refl in
    change_outside (written_by ms x q.req) q.req regions region place f.0 f.1 (out q refl)

-- and writes those within it
end_inside : (ms : Messages) (e : RecvEnd) (r : Receive) (regions : List (List ℕ)) (region place : ℕ) → r.req.at + r.req.len ≤ length (get_or regions r.req.region.0 [])
    → is_place_of r.req region place ≡ true
    → slice_get (get_or (after_end ms e (Some r) regions) region []) place ≡ or_else (slice_get (written_by ms e r.req) (place - r.req.at)) (slice_get (get_or regions region []) place)
unfolding after_end
end_inside ms e r regions region place fit inside = change_inside (written_by ms e r.req) r.req regions region place fit inside

-- ends that are one are of one receive
is_only : (rs : List Receive) (x e : RecvEnd) (q r : Receive) → x ≡ e → receive_numbered rs (ended_recv x) ≡ Some q → receive_numbered rs (ended_recv e) ≡ Some r → (x ≡ e) × (q ≡ r)
is_only rs x e q r same h is =
    let both : Some q ≡ Some r = sym h ∙ ap (λ (y : RecvEnd). receive_numbered rs (ended_recv y)) same ∙ is in
    (same, cc)

-- ---- several ends

-- places outside the ranges of all of them stay
pub ends_outside : (ms : Messages) (rs : List Receive) (es : List RecvEnd) (regions : List (List ℕ)) (region place : ℕ) → WritesFit ms rs es regions
    → ((e : RecvEnd) (r : Receive) → Member e es → receive_numbered rs (ended_recv e) ≡ Some r → is_place_of r.req region place ≡ false)
    → slice_get (get_or (after_ends ms rs es regions) region []) place ≡ slice_get (get_or regions region []) place
unfolding after_ends
ends_outside ms rs [] regions region place fit out = refl
ends_outside ms rs (x ∷ es) regions region place fit out =
    ends_outside ms rs es (after_end ms x (receive_numbered rs (ended_recv x)) regions) region place (fit_on ms rs x es regions fit) (λ e r m h. out e r (inr m) h)
    ∙ end_outside ms x (receive_numbered rs (ended_recv x)) regions region place (λ q h. fit x q (inl refl) h) (λ q h. out x q (inl refl) h)

-- a place that was written stays so by the ends that follow
ends_again : (ms : Messages) (rs : List Receive) (es : List RecvEnd) (regions : List (List ℕ)) (region place : ℕ) (e : RecvEnd) (r : Receive) (old : Option ℕ)
    → WritesFit ms rs es regions → receive_numbered rs (ended_recv e) ≡ Some r
    → ((f : RecvEnd) (q : Receive) → Member f es → receive_numbered rs (ended_recv f) ≡ Some q → is_place_of q.req region place ≡ true → f ≡ e)
    → slice_get (get_or regions region []) place ≡ or_else (slice_get (written_by ms e r.req) (place - r.req.at)) old
    → slice_get (get_or (after_ends ms rs es regions) region []) place ≡ or_else (slice_get (written_by ms e r.req) (place - r.req.at)) old
unfolding after_ends
ends_again ms rs [] regions region place e r old fit is only was = was
ends_again ms rs (x ∷ es) regions region place e r old fit is only was =
    let w : Option ℕ = slice_get (written_by ms e r.req) (place - r.req.at) in
    let next = after_end ms x (receive_numbered rs (ended_recv x)) regions in
    ends_again ms rs es next region place e r old (fit_on ms rs x es regions fit) is (λ f q m h k. only f q (inr m) h k)
    (elim (one_end ms x e (receive_numbered rs (ended_recv x)) r regions region place (λ q h. fit x q (inl refl) h) (λ q h k. is_only rs x e q r (only x q (inl refl) h k) h is)) [
      | inl same ↦ same ∙ was
      | inr wrote ↦ wrote ∙ ap (λ (o : Option ℕ). or_else w o) was ∙ or_else_again w old
    ])

-- a place of the range of one has the byte that it wrote, or the old one past those that it wrote
pub ends_inside : (ms : Messages) (rs : List Receive) (es : List RecvEnd) (regions : List (List ℕ)) (region place : ℕ) (e : RecvEnd) (r : Receive) → WritesFit ms rs es regions
    → Member e es → receive_numbered rs (ended_recv e) ≡ Some r → is_place_of r.req region place ≡ true
    → ((f : RecvEnd) (q : Receive) → Member f es → receive_numbered rs (ended_recv f) ≡ Some q → is_place_of q.req region place ≡ true → f ≡ e)
    → slice_get (get_or (after_ends ms rs es regions) region []) place ≡ or_else (slice_get (written_by ms e r.req) (place - r.req.at)) (slice_get (get_or regions region []) place)
unfolding after_ends
ends_inside ms rs [] regions region place e r fit m is inside only = elim m [ ]
ends_inside ms rs (x ∷ es) regions region place e r fit (inl same) is inside only =
    let next = after_end ms x (receive_numbered rs (ended_recv x)) regions in
    ends_again ms rs es next region place e r (slice_get (get_or regions region []) place) (fit_on ms rs x es regions fit) is (λ f q m h k. only f q (inr m) h k)
    (ap (λ (y : RecvEnd). slice_get (get_or (after_end ms y (receive_numbered rs (ended_recv y)) regions) region []) place) same
    ∙ ap (λ (o : Option Receive). slice_get (get_or (after_end ms e o regions) region []) place) is
    ∙ end_inside ms e r regions region place (fit x r (inl refl) (ap (λ (y : RecvEnd). receive_numbered rs (ended_recv y)) same ∙ is)).1 inside)
ends_inside ms rs (x ∷ es) regions region place e r fit (inr m) is inside only =
    let w : Option ℕ = slice_get (written_by ms e r.req) (place - r.req.at) in
    let next = after_end ms x (receive_numbered rs (ended_recv x)) regions in
    ends_inside ms rs es next region place e r (fit_on ms rs x es regions fit) m is inside (λ f q k h i. only f q (inr k) h i)
    ∙ elim (one_end ms x e (receive_numbered rs (ended_recv x)) r regions region place (λ q h. fit x q (inl refl) h) (λ q h k. is_only rs x e q r (only x q (inl refl) h k) h is)) [
      | inl stays ↦ ap (λ (o : Option ℕ). or_else w o) stays
      | inr wrote ↦ ap (λ (o : Option ℕ). or_else w o) wrote ∙ or_else_again w (slice_get (get_or regions region []) place)
    ]
