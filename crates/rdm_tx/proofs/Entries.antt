-- The ranges of a read list, one after another.
use Rattle.std.proofs.Common.{◌≡◌, ℕ, ◌+◌, ◌<◌, ◌≤◌, false, List, [], ◌∷◌, length, drop, get_or, drop-cons, add-one, refl, arith}
use Rattle.std.specs.Prelude.{◌||◌, nat_le}
use Rattle.std.proofs.lemmas.List.{drop_all}
use Rattle.std.proofs.lemmas.Bool.Decides.{nat_tests}
use Rattle.rdm_num.specs.declared.lists.IovEntry.{IovEntry}
use Rattle.rdm_wire.specs.declared.ReadAsk.{ReadAsk}
use Rattle.rdm_model.specs.Targets.{is_in_entry, is_in_iov}

-- a range with no bytes
abbrev pub no_range : IovEntry
no_range = record { offset = 0; length = 0; key = 0 }

-- a range that begins after the bytes has them not
is_after_entry : (a : ReadAsk) (begin : ℕ) (e : IovEntry) → a.at < begin → is_in_entry a begin e ≡ false
unfolding is_in_entry
is_after_entry a begin e h =
    let n : nat_le begin a.at ≡ false = grind (arith, nat_tests) in
    rw n refl

-- nor has any after it
pub is_after_all : (a : ReadAsk) (begin : ℕ) (es : List IovEntry) → a.at < begin → is_in_iov a begin es ≡ false
unfolding is_in_iov
is_after_all a begin [] h = refl
is_after_all a begin (e ∷ es) h = rw (is_after_entry a begin e h, is_after_all a (begin + e.length) es (omega arith)) refl

-- the ranges from a place of the list on are the one there and those after it
pub is_in_place : (a : ReadAsk) (begin : ℕ) (iov : List IovEntry) (place : ℕ) (d : IovEntry) → place < length iov
    → is_in_iov a begin (drop place iov) ≡ (is_in_entry a begin (get_or iov place d) || is_in_iov a (begin + (get_or iov place d).length) (drop (place + 1) iov))
unfolding is_in_iov
is_in_place a begin iov place d p = rw (add-one, drop-cons iov place d) refl

-- past the last range none has the bytes
pub is_in_none : (a : ReadAsk) (begin : ℕ) (iov : List IovEntry) (place : ℕ) → length iov ≤ place → is_in_iov a begin (drop place iov) ≡ false
is_in_none a begin iov place h = rw (drop_all place iov h) (unfold is_in_iov in refl)
