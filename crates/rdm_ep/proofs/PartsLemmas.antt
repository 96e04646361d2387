-- The ranges of a send: how long they are, where they lie, and their bytes.
use Rattle.std.proofs.Common.{◌≡◌, ℕ, ◌+◌, ◌<◌, ◌≤◌, Bool, true, false, List, [], ◌∷◌, ◌++◌, length, take, drop, get_or, refl, add-one, arith, ◌∙◌, sym, ap, subst}
use Rattle.std.specs.Prelude.{flat_map, sum_by}
use Rattle.std.specs.List.{list_any, All, slice_index_or}
use Rattle.std.proofs.Math.Seq.{take-suc}
use Rattle.std.proofs.lemmas.Bool.{leb-false, ltb-false}
use Rattle.std.proofs.lemmas.List.{append-nil, length-take}
use Rattle.std.proofs.lemmas.List.Concat.{flat_map-append, length-flat_map}
use Rattle.std.proofs.lemmas.List.Folds.{list_any_at}
use Rattle.std.proofs.lemmas.List.Sums.{sum_by_more, sum_by-le-sum_by}
use Rattle.rdm_num.specs.declared.parts.Span.{Span}
use Rattle.rdm_model.specs.Jobs.{spans_length}
use Rattle.rdm_model.specs.Sends.{range_of, bytes_of}
use Rattle.rdm_ep.specs.View.{EndpointView}
use Rattle.rdm_ep.specs.Counts.{LiesIn}
use Rattle.rdm_ep.specs.Sending.{has_no_region, is_out_of_range, names_no_region, passes_an_end}

-- no range
abbrev pub no_span : Span
no_span = record { region = record { 0 = 0 }; at = 0; len = 0 }

-- one range more
pub length_more : (parts : List Span) (i : ℕ) (d : Span) → i < length parts → spans_length (take (i + 1) parts) ≡ spans_length (take i parts) + (get_or parts i d).len
unfolding spans_length
length_more parts i d within = sum_by_more (λ (s : Span). s.len) parts i d within

-- the bytes of one range more
pub bytes_more : (rs : List (List ℕ)) (parts : List Span) (i : ℕ) (d : Span) → i < length parts
    → bytes_of rs (take (i + 1) parts) ≡ bytes_of rs (take i parts) ++ range_of rs (get_or parts i d).region.0 (get_or parts i d).at (get_or parts i d).len
unfolding bytes_of
bytes_more rs parts i d within =
    let f : Span → List ℕ = λ s. range_of rs s.region.0 s.at s.len in
    rw (add-one, take-suc parts i d within) (flat_map-append f (take i parts) (get_or parts i d ∷ []) ∙ ap (λ xs. flat_map f (take i parts) ++ xs) (append-nil (f (get_or parts i d))))

-- where a test finds none, no element passes it
none_at : {A : Type 0} (t : A → Bool) (xs : List A) (i : ℕ) (d : A) → list_any t xs ≡ false → i < length xs → t (get_or xs i d) ≡ false
none_at t xs i d none within =
    (elim (t (get_or xs i d)) as (λ b. t (get_or xs i d) ≡ b → b ≡ false) [
      | true ↦ λ e. sym (list_any_at t xs i d within e) ∙ none
      | false ↦ λ e. refl
    ]) refl

-- ranges whose regions are there and whose ends are within them lie in their regions
pub all_lie : (v : EndpointView) (parts : List Span) → names_no_region v parts ≡ false → passes_an_end v parts ≡ false → All (LiesIn v.regions) parts
unfolding names_no_region passes_an_end has_no_region is_out_of_range
all_lie v parts none ends k d within =
    let s = slice_index_or parts k d in
    let a = none_at (λ (p : Span). has_no_region v p.region.0) parts k d none within in
    let b = none_at (λ (p : Span). is_out_of_range v p.region.0 p.at p.len) parts k d ends within in
    (leb-false (length v.regions) s.region.0 a, ltb-false (length (get_or v.regions s.region.0 [])) (s.at + s.len) b)

-- a range is no longer than it says
range_short : (rs : List (List ℕ)) (s : Span) → length (range_of rs s.region.0 s.at s.len) ≤ s.len
unfolding range_of
range_short rs s = (let t = length-take s.len (drop s.at (get_or rs s.region.0 [])) in omega arith)

-- ranges have no more bytes than they say
pub bytes_short : (rs : List (List ℕ)) (parts : List Span) → length (bytes_of rs parts) ≤ spans_length parts
unfolding bytes_of spans_length
bytes_short rs parts =
    let f : Span → List ℕ = λ s. range_of rs s.region.0 s.at s.len in
    subst (λ (n : ℕ). n ≤ sum_by (λ (s : Span). s.len) parts) (sym (length-flat_map f parts))
    (sum_by-le-sum_by (λ (s : Span). length (f s)) (λ (s : Span). s.len) parts (range_short rs))
