-- Ranges of regions that a send takes its bytes from, and how a read list names them.
use Rattle.std.proofs.Common.{◌≡◌, ℕ, zero, suc, ◌+◌, ◌*◌, ◌<◌, ◌≤◌, Bool, true, false, nat_lt, nat_le, ltb-true, ltb-false, leb-true, lt-ltb, le-leb, eq-eqb, List, [], ◌∷◌, ◌++◌, map, filter, length, get_or, drop, take, refl, arith, inl, inr, sym, ◌∙◌, ap, subst, length-append, length-take, length-drop, cond}
use Rattle.std.specs.Prelude.{flat_map, sum_by, ◌&&◌}
use Rattle.std.specs.List.{list_all}
use Rattle.std.proofs.lemmas.Bool.{and_parts, and_from}
use Rattle.rdm_lists.specs.Lists.{Member}
use Rattle.rdm_lists.proofs.Sums.{total, sum_total}
use Rattle.rdm_lists.proofs.Filters.{filter_length}
use Rattle.rdm_num.specs.declared.parts.Span.{Span}
use Rattle.rdm_num.specs.declared.lists.IovEntry.{IovEntry}
use Rattle.rdm_hdr.specs.Fields.{Field, Number, field_fits}
use Rattle.rdm_pkt.specs.Grammar.{entry_fields, iov_fits}
use Rattle.rdm_model.specs.Jobs.{len_max, span_fits, range_fits, parts_fit, spans_length, is_within}
use Rattle.rdm_model.specs.Sends.{range_of, bytes_of, read_list, entry_of}
use Rattle.rdm_law.proofs.Fits.Fitting.{AreBytes}
use Rattle.rdm_law.proofs.Fits.SmallBytes.{bytes_front, bytes_rest, all_append}
use Rattle.rdm_law.proofs.Fits.RegionsFit.{AllAreBytes}
use Rattle.rdm_law.proofs.Fits.PacketsFit.{all_fields, long_field}
use Rattle.rdm_law.proofs.Replies.Asks.{iov_bytes}

-- a range ends within the longest region, and its region's number has 32 bits
abbrev pub SpanFits : Span → Type 0
SpanFits p = (p.at + p.len ≤ len_max) × (p.region.0 < 4294967296)

-- a range that ends within its region
abbrev pub IsInside : List (List ℕ) → Span → Type 0
IsInside rs p = p.at + p.len ≤ length (get_or rs p.region.0 [])

-- the lengths of ranges, added
abbrev pub span_total : List Span → ℕ
span_total ps = total (λ (p : Span). p.len) ps

-- that is what the ranges have together
pub spans_total : (ps : List Span) → spans_length ps ≡ span_total ps
unfolding spans_length
spans_total ps = sum_total (λ (p : Span). p.len) ps

-- one of the regions, or none, is of bytes
get_or_bytes : (rs : List (List ℕ)) (n : ℕ) → AllAreBytes rs → AreBytes (get_or rs n [])
get_or_bytes [] n h = refl
get_or_bytes (r ∷ rs) zero h = h r (inl refl)
get_or_bytes (r ∷ rs) (suc n) h = get_or_bytes rs n (λ x m. h x (inr m))

-- a range of a region is of bytes
range_bytes : (rs : List (List ℕ)) (region at len : ℕ) → AllAreBytes rs → AreBytes (range_of rs region at len)
unfolding range_of
range_bytes rs region at len h = bytes_front len (drop at (get_or rs region [])) (bytes_rest at (get_or rs region []) (get_or_bytes rs region h))

-- the bytes of ranges are bytes
pub spans_bytes : (rs : List (List ℕ)) (ps : List Span) → AllAreBytes rs → AreBytes (bytes_of rs ps)
unfolding bytes_of
spans_bytes rs [] h = refl
spans_bytes rs (p ∷ ps) h = all_append (λ b. nat_lt b 256) (range_of rs p.region.0 p.at p.len) (bytes_of rs ps) (range_bytes rs p.region.0 p.at p.len h) (spans_bytes rs ps h)

-- a range has no more bytes than it says
range_few : (rs : List (List ℕ)) (region at len : ℕ) → length (range_of rs region at len) ≤ len
unfolding range_of
range_few rs region at len = let a = length-take len (drop at (get_or rs region [])) in omega arith

-- so have ranges
pub spans_few : (rs : List (List ℕ)) (ps : List Span) → length (bytes_of rs ps) ≤ span_total ps
unfolding bytes_of total
spans_few rs [] = omega arith
spans_few rs (p ∷ ps) =
    let a = range_few rs p.region.0 p.at p.len in
    let b = spans_few rs ps in
    let c = length-append (range_of rs p.region.0 p.at p.len) (bytes_of rs ps) in
    omega arith

-- a range that ends within its region is as long as it says
range_length : (rs : List (List ℕ)) (region at len : ℕ) → at + len ≤ length (get_or rs region []) → length (range_of rs region at len) ≡ len
unfolding range_of
range_length rs region at len h =
    let a = length-take len (drop at (get_or rs region [])) in
    let b = length-drop at (get_or rs region []) in
    omega arith

-- so are ranges
pub spans_size : (rs : List (List ℕ)) (ps : List Span) → ((p : Span) → Member p ps → IsInside rs p) → length (bytes_of rs ps) ≡ span_total ps
unfolding bytes_of total
spans_size rs [] h = refl
spans_size rs (p ∷ ps) h =
    let a = range_length rs p.region.0 p.at p.len (h p (inl refl)) in
    let b = spans_size rs ps (λ q m. h q (inr m)) in
    let c = length-append (range_of rs p.region.0 p.at p.len) (bytes_of rs ps) in
    omega arith

-- a read list with one more range: none, where it is empty
read_list_some : (p : Span) (ps : List Span) → nat_lt 0 p.len ≡ true → read_list (p ∷ ps) ≡ entry_of p ∷ read_list ps
unfolding read_list
read_list_some p ps h = rw h refl

-- an empty range is no entry
read_list_none : (p : Span) (ps : List Span) → nat_lt 0 p.len ≡ false → read_list (p ∷ ps) ≡ read_list ps
unfolding read_list
read_list_none p ps h = rw h refl

-- what holds of each entry and of a list that is longer by one holds of a read list
read_list_by : (P : List Span → List IovEntry → Type 0) → P [] [] → ((p : Span) (ps : List Span) → 0 < p.len → P ps (read_list ps) → P (p ∷ ps) (entry_of p ∷ read_list ps))
    → ((p : Span) (ps : List Span) → p.len ≡ 0 → P ps (read_list ps) → P (p ∷ ps) (read_list ps)) → (ps : List Span) → P ps (read_list ps)
unfolding read_list
read_list_by P nil some none [] = nil
read_list_by P nil some none (p ∷ ps) =
    let was = read_list_by P nil some none ps in
    elim (nat_lt 0 p.len) as (λ b. nat_lt 0 p.len ≡ b → P (p ∷ ps) (read_list (p ∷ ps))) [
      | true ↦ λ e. subst (P (p ∷ ps)) (sym (read_list_some p ps e)) (some p ps (ltb-true 0 p.len e) was)
      | false ↦ λ e. subst (P (p ∷ ps)) (sym (read_list_none p ps e)) (none p ps (let z = ltb-false 0 p.len e in omega arith) was)
    ] refl

-- a read list has all bytes of its ranges
pub read_list_total : (ps : List Span) → iov_bytes (read_list ps) ≡ span_total ps
unfolding iov_bytes total
read_list_total ps =
    read_list_by (λ (qs : List Span) (es : List IovEntry). iov_bytes es ≡ span_total qs) refl (λ p qs some was. omega arith) (λ p qs none was. omega arith) ps

-- a read list is no longer than the ranges
read_list_few : (ps : List Span) → length (read_list ps) ≤ length ps
read_list_few ps =
    read_list_by (λ (qs : List Span) (es : List IovEntry). length es ≤ length qs) (omega arith) (λ p qs some was. omega arith) (λ p qs none was. omega arith) ps

-- a list of no bytes is empty
some_entry : (es : List IovEntry) → 0 < iov_bytes es → 1 ≤ length es
unfolding iov_bytes
some_entry [] h = omega arith
some_entry (e ∷ es) h = omega arith

-- the lengths of a read list, added
entries_total : (es : List IovEntry) → sum_by (λ (e : IovEntry). e.length) es ≡ iov_bytes es
unfolding iov_bytes total
entries_total es = sum_total (λ (e : IovEntry). e.length) es ∙ added es where
  added : (xs : List IovEntry) → total (λ (e : IovEntry). e.length) xs ≡ iov_bytes xs
  added [] = refl
  added (x ∷ xs) = let r = added xs in omega arith

-- an entry of a read list has a byte, and ends where 64 bits can say
abbrev pub entry_test : IovEntry → Bool
entry_test e = nat_le 1 e.length && nat_lt (e.offset + e.length) 18446744073709551616

-- each entry of a read list does, where the ranges fit
each_entry : (ps : List Span) → ((p : Span) → Member p ps → SpanFits p) → list_all entry_test (read_list ps) ≡ true
each_entry ps =
    read_list_by (λ (qs : List Span) (es : List IovEntry). ((p : Span) → Member p qs → SpanFits p) → list_all entry_test es ≡ true) (λ h. refl)
    (λ p qs some was h.
    let ends = (h p (inl refl)).0 in
    and_from _ _ (and_from _ _ (le-leb 1 p.len some) (lt-ltb (p.at + p.len) 18446744073709551616 (omega arith))) (was (λ q m. h q (inr m))))
    (λ p qs none was h. was (λ q m. h q (inr m)))
    ps

-- so do the numbers of a read list's fields
each_field : (ps : List Span) → ((p : Span) → Member p ps → SpanFits p) → list_all field_fits (flat_map entry_fields (read_list ps)) ≡ true
unfolding entry_fields
each_field ps =
    read_list_by (λ (qs : List Span) (es : List IovEntry). ((p : Span) → Member p qs → SpanFits p) → list_all field_fits (flat_map entry_fields es) ≡ true) (λ h. refl)
    (λ p qs some was h.
    let f = h p (inl refl) in
    let ends = f.0 in
    let key = f.1 in
    all_append field_fits (entry_fields (entry_of p)) (flat_map entry_fields (read_list qs))
    (all_fields (Number 8 p.at ∷ Number 8 p.len ∷ Number 8 p.region.0 ∷ [])
    (long_field p.at (omega arith), (long_field p.len (omega arith), (long_field p.region.0 (omega arith), tt))))
    (was (λ q m. h q (inr m))))
    (λ p qs none was h. was (λ q m. h q (inr m)))
    ps

-- the read list of at most four ranges that have a byte together fits a message of their bytes
pub read_list_fits : (ps : List Span) (n : ℕ) → length ps ≤ 4 → ((p : Span) → Member p ps → SpanFits p) → span_total ps ≡ n → 0 < n
    → (iov_fits (read_list ps) n ≡ true) × (list_all field_fits (flat_map entry_fields (read_list ps)) ≡ true) × (length (read_list ps) ≤ 4)
unfolding iov_fits
read_list_fits ps n few each is some =
    let t = read_list_total ps in
    let s = entries_total (read_list ps) in
    let l = read_list_few ps in
    let one = some_entry (read_list ps) (omega arith) in (
      and_from _ _ (and_from _ _ (and_from _ _ (le-leb 1 (length (read_list ps)) one) (le-leb (length (read_list ps)) 4 (omega arith))) (each_entry ps each))
          (eq-eqb (sum_by (λ (e : IovEntry). e.length) (read_list ps)) n (omega arith)),
      each_field ps each,
      omega arith,
    )

-- the ranges of a fair send fit, are four at most, and have no more bytes together than one may have
pub record PartsFit (ps : List Span) : Type 0 where
  pub few : length ps ≤ 4
  pub top : span_total ps ≤ len_max
  pub keys : (p : Span) → Member p ps → p.region.0 < 4294967296

-- the regions' numbers of ranges that fit
keys_fit : (ps : List Span) → list_all span_fits ps ≡ true → (p : Span) → Member p ps → p.region.0 < 4294967296
unfolding span_fits range_fits
keys_fit [] h p m = elim m [ ]
keys_fit (q ∷ qs) h p (inl is) =
    let a = and_parts _ _ h in
    let b = and_parts _ _ a.0 in
    let c = and_parts _ _ b.0 in
    subst (λ (x : Span). x.region.0 < 4294967296) is (ltb-true q.region.0 4294967296 c.0)
keys_fit (q ∷ qs) h p (inr m) = keys_fit qs (and_parts _ _ h).1 p m

-- what a fair send's ranges are
pub parts_are : (ps : List Span) → parts_fit ps ≡ true → PartsFit ps
unfolding parts_fit is_within
parts_are ps h =
    let a = and_parts _ _ h in
    let b = and_parts _ _ a.0 in
    let c = and_parts _ _ b.0 in
    let s = spans_total ps in
    let top = leb-true (spans_length ps) len_max a.1 in
    record { few = leb-true (length ps) 4 c.1; top = omega arith; keys = keys_fit ps b.1 }
