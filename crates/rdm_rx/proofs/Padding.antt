-- Read lists with empty ranges after their last one.
use Rattle.std.proofs.Common.{◌≡◌, ℕ, zero, suc, ◌+◌, ◌-◌, ◌<◌, ◌^◌, true, List, [], ◌∷◌, ◌++◌, length, get_or, refl, arith}
use Rattle.std.specs.Prelude.{max, replicate}
use Rattle.std.specs.List.{list_all}
use Rattle.std.proofs.lemmas.Bool.{and_parts, and_from}
use Rattle.std.proofs.lemmas.Bool.Decides.{nat_tests}
use Rattle.std.proofs.lemmas.List.Sums.{sum_by-append}
use Rattle.std.proofs.lemmas.List.Folds.{sum_by-replicate}
use Rattle.rdm_num.specs.declared.numbers.OpId.{OpId}
use Rattle.rdm_num.specs.declared.lists.IovEntry.{IovEntry}
use Rattle.rdm_pkt.specs.Grammar.{iov_fits}
use Rattle.rdm_pkt.proofs.ReadLists.{entry_test}
use Rattle.rdm_model.specs.Reads.{asks_from}
use Rattle.rdm_rx.specs.Asking.{read_length, has_end, no_range}
use Rattle.rdm_rx.proofs.Steps.{asks_in_none}

-- empty ranges have no asks
none_asked : (send recv : OpId) (count begin from : ℕ) → asks_from send recv (replicate count no_range) begin from ≡ []
unfolding asks_from
none_asked send recv zero begin from = refl
none_asked send recv (suc count) begin from =
    let z : begin + 0 - max begin from ≡ 0 = omega arith in
    let n : begin + 0 ≡ begin = omega arith in
    rw (z, n, asks_in_none 0 send recv no_range (max begin from - begin) (max begin from)) (none_asked send recv count begin from)

-- the asks are those of the ranges before the empty ones
pub padded_asks : (send recv : OpId) (iov : List IovEntry) (count begin from : ℕ) → asks_from send recv (iov ++ replicate count no_range) begin from ≡ asks_from send recv iov begin from
unfolding asks_from
padded_asks send recv [] count begin from = none_asked send recv count begin from
padded_asks send recv (e ∷ es) count begin from = rw (padded_asks send recv es count (begin + e.length) from) refl

-- empty ranges have no bytes
pub padded_length : (iov : List IovEntry) (count : ℕ) → read_length (iov ++ replicate count no_range) ≡ read_length iov
padded_length iov count =
    let a = sum_by-append (λ (e : IovEntry). e.length) iov (replicate count no_range) in
    let r = sum_by-replicate (λ (e : IovEntry). e.length) count no_range in
    omega (arith, a, r)

-- empty ranges end within what 64 bits hold
none_end : (count : ℕ) → list_all has_end (replicate count no_range) ≡ true
none_end zero = refl
none_end (suc count) = and_from _ _ refl (none_end count)

-- so do all where those before the empty ones do
pub padded_ends : (iov : List IovEntry) (count : ℕ) → list_all has_end iov ≡ true → list_all has_end (iov ++ replicate count no_range) ≡ true
padded_ends [] count h = none_end count
padded_ends (e ∷ es) count h =
    let p = and_parts (has_end e) (list_all has_end es) h in
    and_from _ _ (p.0) (padded_ends es count (p.1))

-- ranges that packets carry end within what 64 bits hold
tested_ends : (iov : List IovEntry) → list_all entry_test iov ≡ true → list_all has_end iov ≡ true
tested_ends [] h = refl
tested_ends (e ∷ es) h =
    let p = and_parts (entry_test e) (list_all entry_test es) h in
    let q = and_parts _ (has_end e) (p.0) in
    and_from _ _ (q.1) (tested_ends es (p.1))

-- so do those of a read list
pub fitting_ends : (iov : List IovEntry) (size : ℕ) → iov_fits iov size ≡ true → list_all has_end iov ≡ true
unfolding iov_fits
fitting_ends iov size h = tested_ends iov ((and_parts _ _ (and_parts _ _ h).0).1)

-- each of them does
pub end_at : (iov : List IovEntry) (place : ℕ) (d : IovEntry) → list_all has_end iov ≡ true → place < length iov → (get_or iov place d).offset + (get_or iov place d).length < 2 ^ 64
end_at [] place d h p = absurd (omega arith)
end_at (e ∷ es) zero d h p = let q = (and_parts (has_end e) (list_all has_end es) h).0 in grind (arith, nat_tests, q)
end_at (e ∷ es) (suc place) d h p = end_at es place d ((and_parts (has_end e) (list_all has_end es) h).1) (omega arith)
