-- The asks of a read one by one: where the next one begins, and what is left after it.
use Rattle.std.proofs.Common.{◌≡◌, ℕ, zero, suc, ◌+◌, ◌-◌, ◌<◌, ◌≤◌, false, List, [], ◌∷◌, length, drop, get_or, drop-cons, add-one, Some, refl, arith, inl, inr, sym}
use Rattle.std.specs.Prelude.{◌==◌, min, max, slice_get}
use Rattle.std.proofs.lemmas.Bool.{cases_lt}
use Rattle.std.proofs.lemmas.List.{drop_all}
use Rattle.std.proofs.lemmas.List.Sums.{sum_by-cons}
use Rattle.std.proofs.lemmas.Bool.Decides.{nat_tests}
use Rattle.rdm_num.specs.declared.numbers.OpId.{OpId}
use Rattle.rdm_num.specs.declared.lists.IovEntry.{IovEntry}
use Rattle.rdm_wire.specs.declared.ReadAsk.{ReadAsk}
use Rattle.rdm_model.specs.Reads.{ask_room, asks_in, asks_from}
use Rattle.rdm_rx.specs.Asking.{read_length}

-- the ask for what is left of a range, at its place in the message
abbrev pub next_ask : OpId → OpId → IovEntry → (begin at : ℕ) → ReadAsk
next_ask send recv e begin at =
    record {
      send_id = send;
      recv_id = recv;
      key = e.key;
      offset = e.offset + (at - begin);
      length = min (begin + e.length - at) ask_room;
      at = at;
    }

-- a number after another is not 0
some_left : (n : ℕ) → (suc n == 0) ≡ false
some_left n = grind (arith, nat_tests)

-- nothing is left to ask for
pub asks_in_none : (fuel : ℕ) (send recv : OpId) (e : IovEntry) (into at : ℕ) → asks_in fuel send recv e into at 0 ≡ []
unfolding asks_in
asks_in_none zero send recv e into at = refl
asks_in_none (suc fuel) send recv e into at = refl

-- more turns than are needed change nothing
asks_in_fuel : (fuel fuel' : ℕ) (send recv : OpId) (e : IovEntry) (into at left : ℕ) → left ≤ fuel → left ≤ fuel' → asks_in fuel send recv e into at left ≡ asks_in fuel' send recv e into at left
unfolding asks_in
asks_in_fuel zero fuel' send recv e into at left f g =
    let z : left ≡ 0 = omega arith in
    rw z (sym (asks_in_none fuel' send recv e into at))
asks_in_fuel (suc fuel) zero send recv e into at left f g =
    let z : left ≡ 0 = omega arith in
    rw z refl
asks_in_fuel (suc fuel) (suc fuel') send recv e into at zero f g = refl
asks_in_fuel (suc fuel) (suc fuel') send recv e into at (suc left) f g =
    let len : ℕ = min (suc left) ask_room in
    let more = asks_in_fuel fuel fuel' send recv e (into + len) (at + len) (suc left - len) (omega arith) (omega arith) in
    rw (some_left left, more) refl

-- some bytes that are left: the first ask, and those after it
asks_in_some : (left : ℕ) (send recv : OpId) (e : IovEntry) (into at : ℕ) → 0 < left
    → asks_in left send recv e into at left
    ≡ record { send_id = send; recv_id = recv; key = e.key; offset = e.offset + into; length = min left ask_room; at = at }
    ∷ asks_in (left - min left ask_room) send recv e (into + min left ask_room) (at + min left ask_room) (left - min left ask_room)
unfolding asks_in
asks_in_some zero send recv e into at h = absurd (omega arith)
asks_in_some (suc left) send recv e into at h =
    let len : ℕ = min (suc left) ask_room in
    let more = asks_in_fuel left (suc left - len) send recv e (into + len) (at + len) (suc left - len) (omega arith) (omega arith) in
    rw (some_left left, more) refl

-- where all is before the ranges, the place does not matter
asks_from_before : (send recv : OpId) (iov : List IovEntry) (begin from from' : ℕ) → from ≤ begin → from' ≤ begin → asks_from send recv iov begin from ≡ asks_from send recv iov begin from'
unfolding asks_from
asks_from_before send recv [] begin from from' f g = refl
asks_from_before send recv (e ∷ es) begin from from' f g =
    let m : max begin from ≡ begin = omega arith in
    let n : max begin from' ≡ begin = omega arith in
    rw (m, n, asks_from_before send recv es (begin + e.length) from from' (omega arith) (omega arith)) refl

-- a range that is behind has no ask
pub range_behind : (send recv : OpId) (e : IovEntry) (es : List IovEntry) (begin at : ℕ) → begin + e.length ≤ at → asks_from send recv (e ∷ es) begin at ≡ asks_from send recv es (begin + e.length) at
unfolding asks_from
range_behind send recv e es begin at h =
    let m : max begin at ≡ at = omega arith in
    let z : begin + e.length - at ≡ 0 = omega arith in
    rw (m, z, asks_in_none 0 send recv e (at - begin) at) refl

-- a range that is not behind has the next ask, and after it the asks are those from its end on
pub range_ahead : (send recv : OpId) (e : IovEntry) (es : List IovEntry) (begin at : ℕ) → begin ≤ at → at < begin + e.length
    → asks_from send recv (e ∷ es) begin at
    ≡ next_ask send recv e begin at ∷ asks_from send recv (e ∷ es) begin (at + min (begin + e.length - at) ask_room)
unfolding asks_from
range_ahead send recv e es begin at b h =
    let left : ℕ = begin + e.length - at in
    let len : ℕ = min left ask_room in
    let m : max begin at ≡ at = omega arith in
    let n : max begin (at + len) ≡ at + len = omega arith in
    let i : at + len - begin ≡ at - begin + len = omega arith in
    let l : begin + e.length - (at + len) ≡ left - len = omega arith in
    let w : asks_from send recv es (begin + e.length) (at + len) ≡ asks_from send recv es (begin + e.length) at =
    asks_from_before send recv es (begin + e.length) (at + len) at (omega arith) (omega arith) in
    rw (m, n, i, l, w, asks_in_some left send recv e (at - begin) at (omega arith)) refl

-- what holds once the first ask went out: the others are those from its end on, which lies within the message
pub record IsAfter (send recv : OpId) (iov : List IovEntry) (begin at : ℕ) (ask : ReadAsk) : Type 0 where
  pub others : drop 1 (asks_from send recv iov begin at) ≡ asks_from send recv iov begin (ask.at + ask.length)
  pub later : at ≤ ask.at
  pub within : ask.at + ask.length ≤ begin + read_length iov

-- the first ask goes out
pub ask_gone : (send recv : OpId) (iov : List IovEntry) (begin at : ℕ) (ask : ReadAsk) → begin ≤ at → slice_get (asks_from send recv iov begin at) 0 ≡ Some ask → IsAfter send recv iov begin at ask
ask_gone send recv [] begin at ask b h = (unfold asks_from in cc)
ask_gone send recv (e ∷ es) begin at ask b h =
    let total = sum_by-cons (λ (x : IovEntry). x.length) e es in
    elim (cases_lt at (begin + e.length)) [
      | inl here ↦
          let r = range_ahead send recv e es begin at b here in
          let f = rw r at h in
          let n : next_ask send recv e begin at ≡ ask = cc in
          let p : ask.at ≡ at = rw (← n) refl in
          let l : ask.length ≡ min (begin + e.length - at) ask_room = rw (← n) refl in
          record { others = rw (r, p, l) refl; later = omega (arith, p); within = omega (arith, p, l, total) }
      | inr behind ↦
          let r = range_behind send recv e es begin at behind in
          let i = ask_gone send recv es (begin + e.length) at ask behind (rw r at h) in
          let l = i.later in
          let w = i.within in
          let q = range_behind send recv e es begin (ask.at + ask.length) (omega (arith, l, behind)) in
          record { others = rw (r, q) i.others; later = l; within = omega (arith, w, total) }
    ]

-- ---- the range at a place of a list

-- the asks from a range on begin in that range, if it is not behind
pub place_ahead : (send recv : OpId) (iov : List IovEntry) (place begin at : ℕ) (d : IovEntry) → place < length iov → begin ≤ at → at < begin + (get_or iov place d).length
    → slice_get (asks_from send recv (drop place iov) begin at) 0 ≡ Some (next_ask send recv (get_or iov place d) begin at)
place_ahead send recv iov place begin at d p b h =
    let r = range_ahead send recv (get_or iov place d) (drop (suc place) iov) begin at b h in
    rw (drop-cons iov place d, r) refl

-- the asks from a range on are those from the next range on, if it is behind
pub place_behind : (send recv : OpId) (iov : List IovEntry) (place begin at : ℕ) (d : IovEntry) → place < length iov → begin + (get_or iov place d).length ≤ at
    → asks_from send recv (drop place iov) begin at ≡ asks_from send recv (drop (place + 1) iov) (begin + (get_or iov place d).length) at
place_behind send recv iov place begin at d p h =
    let r = range_behind send recv (get_or iov place d) (drop (suc place) iov) begin at h in
    rw (add-one, drop-cons iov place d) r

-- the ranges from a place on are as long as the one there and those after it
pub place_length : (iov : List IovEntry) (place begin : ℕ) (d : IovEntry) → place < length iov
    → begin + read_length (drop place iov) ≡ begin + (get_or iov place d).length + read_length (drop (place + 1) iov)
place_length iov place begin d p =
    let c = sum_by-cons (λ (x : IovEntry). x.length) (get_or iov place d) (drop (suc place) iov) in
    rw (add-one, drop-cons iov place d) (omega (arith, c))

-- no ask is left past the last range
pub past_last : (send recv : OpId) (iov : List IovEntry) (place begin at : ℕ) → length iov ≤ place → asks_from send recv (drop place iov) begin at ≡ []
past_last send recv iov place begin at h = rw (drop_all place iov h) (unfold asks_from in refl)
