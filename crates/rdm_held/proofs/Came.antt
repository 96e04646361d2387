-- The bytes of a message that came.
use Rattle.std.proofs.Common.{◌≡◌, refl, sym, ap, ◌∙◌, ℕ, zero, suc, ◌+◌, ◌-◌, ◌<◌, ◌≤◌, ◌⊎◌, inl, inr, Bool, true, false, List, [], ◌∷◌, ◌++◌, Option, Some, None, length, take, drop, replicate, arith}
use Rattle.std.specs.Prelude.{cond, nat_lt, slice_get, unwrap_or}
use Rattle.std.proofs.lemmas.List.{length-replicate, length-append, length-take-le, length-drop}
use Rattle.std.proofs.lemmas.Bool.{ltb-false, ltb-true, lt-ltb, le-ltb}
use Rattle.rdm_lists.specs.Lists.{or_else}
use Rattle.rdm_lists.proofs.Options.{or_else-none}
use Rattle.rdm_num.specs.Pieces.{Piece, byte_in}
use Rattle.rdm_gaps.specs.Places.{AreMissing}
use Rattle.rdm_pkt.specs.declared.Form.{Form}
use Rattle.rdm_pkt.specs.Heads.{piece_of}
use Rattle.rdm_model.specs.Grants.{first_part_in}
use Rattle.rdm_window.specs.Message.{Message, opened, filled, Awaits}
use Rattle.rdm_window.specs.declared.message.Opening.{Opening}
use Rattle.rdm_window.proofs.Awaited.{opened_awaits}
use Rattle.rdm_life.specs.Kept.{EarlyMessage}
use Rattle.rdm_life.specs.Handling.{byte_by, opened_by, with_more}
use Rattle.rdm_held.specs.Held.{came_of, IsEarly}

-- what stands at a place of elements that begin at an offset
abbrev at_offset : {A : Type 0} → ℕ → List A → ℕ → Option A
at_offset at xs place = cond (nat_lt place at) None (slice_get xs (place - at))

-- what stands there before the offset, and from it on
at_before : {A : Type 0} (at : ℕ) (xs : List A) (place : ℕ) → place < at → at_offset at xs place ≡ None
at_before at xs place h = ap (λ b. cond b None (slice_get xs (place - at))) (lt-ltb place at h)

at_past : {A : Type 0} (at : ℕ) (xs : List A) (place k : ℕ) → place ≡ at + k → at_offset at xs place ≡ slice_get xs k
at_past at xs place k e =
    let from : at ≤ place = omega arith in
    let same : place - at ≡ k = omega arith in
    ap (λ b. cond b None (slice_get xs (place - at))) (le-ltb place at from) ∙ ap (slice_get xs) same

-- a place is before another one, or so many past it
split_at : (at place : ℕ) → (place < at) ⊎ ((k : ℕ) × (place ≡ at + k))
split_at at place =
    elim (nat_lt place at) as (λ b. nat_lt place at ≡ b → (place < at) ⊎ ((k : ℕ) × (place ≡ at + k))) [
      | true ↦ λ h. inl (ltb-true place at h)
      | false ↦ λ h. let le : at ≤ place = ltb-false place at h in inr (place - at, omega arith)
    ] refl

-- one element further on
at_next : {A : Type 0} (at : ℕ) (xs : List A) (place : ℕ) → at_offset (suc at) xs (suc place) ≡ at_offset at xs place
at_next at xs place =
    elim (split_at at place) [
      | inl h ↦ at_before (suc at) xs (suc place) (omega arith) ∙ sym (at_before at xs place h)
      | inr s ↦ let e = s.1 in at_past (suc at) xs (suc place) s.0 (omega arith) ∙ sym (at_past at xs place s.0 e)
    ]

-- elements over those from the first on
over_first : {A : Type 0} (mid old : List A) (place : ℕ) → length mid ≤ length old → slice_get (mid ++ drop (length mid) old) place ≡ or_else (slice_get mid place) (slice_get old place)
unfolding or_else
over_first [] old place h = refl
over_first (x ∷ mid) [] place h = absurd (omega arith)
over_first (x ∷ mid) (y ∷ old) zero h = refl
over_first (x ∷ mid) (y ∷ old) (suc place) h = over_first mid old place (omega arith)

-- elements over those from an offset on: each place has the new element, or the old one where there is no new one
over_to : {A : Type 0} (at end : ℕ) (mid old : List A) (place : ℕ) → end ≡ at + length mid → end ≤ length old
    → slice_get (take at old ++ (mid ++ drop end old)) place ≡ or_else (at_offset at mid place) (slice_get old place)
unfolding or_else
over_to zero end mid old place e h =
    let same : end ≡ length mid = omega arith in
    let inside : length mid ≤ length old = omega arith in
    ap (λ n. slice_get (mid ++ drop n old) place) same ∙ over_first mid old place inside ∙ ap (λ x. or_else x (slice_get old place)) (sym (at_past 0 mid place place (omega arith)))
over_to (suc at) zero mid old place e h = absurd (omega arith)
over_to (suc at) (suc end) mid [] place e h = absurd (omega arith)
over_to (suc at) (suc end) mid (y ∷ old) zero e h = ap (λ x. or_else x (Some y)) (sym (at_before (suc at) mid 0 (omega arith)))
over_to (suc at) (suc end) mid (y ∷ old) (suc place) e h = over_to at end mid old place (omega arith) (omega arith) ∙ ap (λ x. or_else x (slice_get old place)) (sym (at_next at mid place))

-- the same with the end written out
over_at : {A : Type 0} (at : ℕ) (mid old : List A) (place : ℕ) → at + length mid ≤ length old
    → slice_get (take at old ++ (mid ++ drop (at + length mid) old)) place ≡ or_else (at_offset at mid place) (slice_get old place)
over_at at mid old place h = over_to at (at + length mid) mid old place refl h

-- a byte of a piece, and that its place is missing no more; none where there is none
beside_first : (bytes : List ℕ) (k : ℕ)
    → ((slice_get bytes k ≡ None) × (slice_get (replicate (length bytes) false) k ≡ None))
    ⊎ ((x : ℕ) × (slice_get bytes k ≡ Some x) × (slice_get (replicate (length bytes) false) k ≡ Some false) × (k < length bytes))
beside_first [] k = inl (refl, refl)
beside_first (x ∷ bytes) zero = inr (x, refl, refl, omega arith)
beside_first (x ∷ bytes) (suc k) =
    elim (beside_first bytes k) [
      | inl a ↦ inl a
      | inr a ↦ inr (a.0, a.1, a.2, (let h = a.3 in omega arith))
    ]

-- what stands at each place that is taken of a list
pub get_taken : {A : Type 0} (n : ℕ) (xs : List A) (k : ℕ) → k < n → slice_get (take n xs) k ≡ slice_get xs k
get_taken zero xs k h = absurd (omega arith)
get_taken (suc n) [] k h = refl
get_taken (suc n) (x ∷ xs) zero h = refl
get_taken (suc n) (x ∷ xs) (suc k) h = get_taken n xs k (omega arith)

-- what stands past the places that are dropped
pub get_dropped : {A : Type 0} (n : ℕ) (xs : List A) (k place : ℕ) → place ≡ n + k → slice_get (drop n xs) k ≡ slice_get xs place
get_dropped zero xs k place e = let same : k ≡ place = omega arith in ap (slice_get xs) same
get_dropped (suc n) [] k place e = refl
get_dropped (suc n) (x ∷ xs) k zero e = absurd (omega arith)
get_dropped (suc n) (x ∷ xs) k (suc place) e = get_dropped n xs k place (omega arith)

-- what stands at each place of equal elements
pub get_equal : {A : Type 0} (n : ℕ) (x : A) (k : ℕ) → k < n → slice_get (replicate n x) k ≡ Some x
get_equal zero x k h = absurd (omega arith)
get_equal (suc n) x zero h = refl
get_equal (suc n) x (suc k) h = get_equal n x k (omega arith)

-- nothing came at places that are all missing
none_came : {B : Type 0} (n : ℕ) (k : ℕ) (o : Option B) → cond (unwrap_or (slice_get (replicate n true) k) true) None o ≡ None
none_came zero k o = refl
none_came (suc n) zero o = refl
none_came (suc n) (suc k) o = none_came n k o

-- each place of a range that is missing
pub missing_at : (at len k : ℕ) (places : List Bool) → AreMissing at len places → k < len → slice_get places (at + k) ≡ Some true
missing_at at len k places all h =
    sym (get_dropped at places k (at + k) refl) ∙ sym (get_taken len (drop at places) k h) ∙ ap (λ l. slice_get l k) all.1 ∙ get_equal len true k h

-- what came of a message of which more comes: the places of the piece were missing, and its bytes are there
came_more : (o : Option Bool) (b x : Option ℕ) (y : Option Bool)
    → ((x ≡ None) × (y ≡ None)) ⊎ ((c : ℕ) × (x ≡ Some c) × (y ≡ Some false) × (o ≡ Some true))
    → or_else (cond (unwrap_or o true) None b) x ≡ cond (unwrap_or (or_else y o) true) None (or_else x b)
unfolding or_else
came_more o b x y (inl h) = rw (h.0, h.1) (or_else-none (cond (unwrap_or o true) None b))
came_more o b x y (inr h) = rw (h.1, h.2, h.3) refl

-- a byte of a piece that is awaited comes to a place that was missing
brought : (at place : ℕ) (bytes : List ℕ) (places : List Bool) → AreMissing at (length bytes) places
    → ((at_offset at bytes place ≡ None) × (at_offset at (replicate (length bytes) false) place ≡ None))
    ⊎ ((c : ℕ) × (at_offset at bytes place ≡ Some c) × (at_offset at (replicate (length bytes) false) place ≡ Some false) × (slice_get places place ≡ Some true))
brought at place bytes places all =
    elim (split_at at place) [
      | inl h ↦ inl (at_before at bytes place h, at_before at (replicate (length bytes) false) place h)
      | inr s ↦
          elim (beside_first bytes s.0) [
            | inl a ↦ inl (at_past at bytes place s.0 s.1 ∙ a.0, at_past at (replicate (length bytes) false) place s.0 s.1 ∙ a.1)
            | inr a ↦ inr (a.0, at_past at bytes place s.0 s.1 ∙ a.1, at_past at (replicate (length bytes) false) place s.0 s.1 ∙ a.2, ap (slice_get places) s.1 ∙ missing_at at (length bytes) s.0 places all a.3)
          ]
    ]

-- how long a list is with elements over others of it
length_over : {A : Type 0} (at end : ℕ) (mid old : List A) → end ≡ at + length mid → end ≤ length old → length (take at old ++ (mid ++ drop end old)) ≡ length old
length_over at end mid old e h =
    let from : at ≤ length old = omega arith in
    let a = length-append (take at old) (mid ++ drop end old) in
    let b = length-append mid (drop end old) in
    let c = length-take-le at old from in
    let d = length-drop end old in
    omega (arith, a, b, c, d)

-- where a piece comes that is awaited
module _ (m : Message) (at : ℕ) (bytes : List ℕ) (whole : length m.bytes ≡ length m.gaps.places) (awaits : Awaits at (length bytes) m) where
  -- the piece ends where its range does
  ends : at + length bytes ≡ at + length (replicate (length bytes) false)
  ends = let e = length-replicate (length bytes) false in omega (arith, e)

  -- what came is what came before, or the piece's byte
  filled_came : (place : ℕ) → or_else (came_of m place) (at_offset at bytes place) ≡ came_of (filled m at bytes) place
  filled_came place =
      came_more (slice_get m.gaps.places place) (slice_get m.bytes place) (at_offset at bytes place) (at_offset at (replicate (length bytes) false) place) (brought at place bytes m.gaps.places awaits)
      ∙ sym (λ i. cond (unwrap_or (over_to at (at + length bytes) (replicate (length bytes) false) m.gaps.places place ends awaits.0 i) true) None (over_at at bytes m.bytes place (let h = awaits.0 in rw whole h) i))

  -- and there is a byte for each place
  filled_whole : length (filled m at bytes).bytes ≡ length (filled m at bytes).gaps.places
  filled_whole =
      length_over at (at + length bytes) bytes m.bytes refl (let h = awaits.0 in rw whole h)
      ∙ whole
      ∙ sym (length_over at (at + length bytes) (replicate (length bytes) false) m.gaps.places ends awaits.0)

-- the message with a piece more is the record's, with that piece more
pub filled_early : (m : Message) (e : EarlyMessage) (p : Piece) → IsEarly m e → Awaits p.offset (length p.bytes) m → IsEarly (filled m p.offset p.bytes) (with_more (Some p) e)
unfolding byte_by byte_in
filled_early m e p is awaits =
    record {
      head = is.head;
      first_part = is.first_part;
      came = λ place. ap (λ x. or_else x (at_offset p.offset p.bytes place)) (is.came place) ∙ filled_came m p.offset p.bytes is.whole awaits place;
      whole = filled_whole m p.offset p.bytes is.whole awaits;
    }

-- a message of which nothing came
nothing_early : (o : Opening) (e : EarlyMessage) → e.head ≡ o.head → e.first_part ≡ o.first_part → ((place : ℕ) → e.came place ≡ None) → IsEarly (opened o) e
nothing_early o e head part none =
    record {
      head = head;
      first_part = part;
      came = λ place. none place ∙ sym (none_came o.len place (slice_get (replicate o.len 0) place));
      whole = length-replicate o.len 0 ∙ sym (length-replicate o.len true);
    }

-- the message that a packet opens without a piece
pub opens : (o : Opening) (form : Form) → o.first_part ≡ unwrap_or (first_part_in form) 0 → piece_of form ≡ None → IsEarly (opened o) (opened_by o.head form)
unfolding byte_by
opens o form part none = nothing_early o (opened_by o.head form) refl (sym part) (λ place. ap (λ p. byte_by p place) none)

-- the same message as the record has it
same_early : (m : Message) (d e : EarlyMessage) → IsEarly m d → e.head ≡ d.head → e.first_part ≡ d.first_part → ((place : ℕ) → e.came place ≡ d.came place) → IsEarly m e
same_early m d e is head part came =
    record { head = head ∙ is.head; first_part = part ∙ is.first_part; came = λ place. came place ∙ is.came place; whole = is.whole }

-- the message that a packet opens with a piece
pub opens_with : (o : Opening) (form : Form) (p : Piece) → o.first_part ≡ unwrap_or (first_part_in form) 0 → piece_of form ≡ Some p → p.offset + length p.bytes ≤ o.len
    → IsEarly (filled (opened o) p.offset p.bytes) (opened_by o.head form)
unfolding or_else
opens_with o form p part some inside =
    let empty : EarlyMessage = record { head = o.head; came = λ place. None; first_part = o.first_part } in
    let is = filled_early (opened o) empty p (nothing_early o empty refl refl (λ place. refl)) (opened_awaits p.offset (length p.bytes) o inside) in
    same_early (filled (opened o) p.offset p.bytes) (with_more (Some p) empty) (opened_by o.head form) is refl (sym part) (λ place. ap (λ q. byte_by q place) some)
