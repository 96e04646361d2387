-- Each step of the parts shows the record's step.
use Rattle.std.specs.Prelude.{◌≡◌, ℕ, true, min, List, length, find, Some, None, IfSome}
use denote.RawPtr.{Ptr}
use Rattle.rdm_num.specs.declared.completion.Outcome.{Outcome}
use Rattle.rdm_num.specs.declared.completion.Outcome.TheVariants.{Took, Cancelled, Gone}
use Rattle.rdm_mr.specs.Part.{Piece}
use Rattle.rdm_mr.specs.Tiles.{IsAll, AreBytes}
use Rattle.rdm_gaps.specs.Places.{AreMissing}
use Rattle.rdm_model.specs.Beginnings.{Own}
use Rattle.rdm_regions.specs.Survival.{IsSound}
use Rattle.rdm_life.specs.Kept.{Kept, LiveReceive, nothing_kept, receive_numbered, change_where, is_receive}
use Rattle.rdm_life.specs.Landing.{is_full, with_piece}
use Rattle.rdm_life.specs.Memory.{after_reg}
use Rattle.rdm_life.specs.Handling.{after_poll}
use Rattle.rdm_life.specs.Receiving.{after_cancel}
use Rattle.rdm_receives.specs.View.{ReceiveView, IsReceive, filled}
use Rattle.rdm_receives.specs.Answers.{after_grant, excess, AreZeros}
use Rattle.rdm_sound.specs.Premises.{IsOrderly}
use Rattle.rdm_sound.specs.Forgets.{lose_receive}
use Rattle.rdm_sound.specs.Steps.{with_end, with_next_window}
use Rattle.rdm_state.specs.State.{State, started}
use Rattle.rdm_state.specs.Shows.{Shows}
use Rattle.rdm_state.specs.Steps.{registered, polled, with_receive, without_receive, cancelled, has_number}

-- Before any deed the parts show the record.
abbrev pub Starts : Type 0
Starts = (own : Own) → Shows (started own) (nothing_kept own)

-- So they do once a region is registered,
abbrev pub Registers : Type 0
Registers = (e : State) (v : Kept) (block : Ptr) (bytes : List ℕ) → Shows e v → Shows (registered block bytes e) (after_reg bytes v)

-- and once a completion is polled.
abbrev pub Polls : Type 0
Polls = (e : State) (v : Kept) → Shows e v → Shows (polled e) (after_poll v)

-- that one of the live receives is of that number
abbrev pub IsLive : State → (number : ℕ) → ReceiveView → Type 0
IsLive e number r = find (has_number number) e.receives.list ≡ Some r

-- A receive that waits is taken back with its part.
abbrev pub Cancels : Type 0
Cancels =
    (e : State) (v : Kept) (number : ℕ) (r : ReceiveView) (piece : Piece)
    → Shows e v → IsSound e.regions → IsOrderly v
    → IsLive e number r → r.message ≡ None → IsAll r.landed.tiles piece
    → Shows (cancelled number piece Cancelled e) (after_cancel number v)

-- One that is lost is over with zeros.
abbrev pub Loses : Type 0
Loses =
    (e : State) (v : Kept) (number : ℕ) (r : ReceiveView) (piece : Piece)
    → Shows e v → IsSound e.regions → IsOrderly v
    → IsLive e number r → AreZeros r.landed.tiles piece
    → Shows (without_receive number piece Gone e) (lose_receive (receive_numbered v number) v)

-- what a full receive completes with: the first bytes of its message that fit, and how many do not
abbrev pub Completes : ReceiveView → (bytes : List ℕ) → Outcome → Type 0
Completes r bytes outcome =
    (length bytes ≡ min (length r.landed.missing) r.req.len) × AreBytes 0 bytes r.landed.tiles.cells
    × IfSome r.message (λ m. outcome ≡ Took m.source m.head.tag m.head.cq_data bytes (excess r))

-- A full one is over with its bytes.
abbrev pub Ends : Type 0
Ends =
    (e : State) (v : Kept) (number : ℕ) (r : ReceiveView) (l : LiveReceive) (piece : Piece) (bytes : List ℕ) (outcome : Outcome)
    → Shows e v → IsSound e.regions → IsOrderly v
    → IsLive e number r → receive_numbered v number ≡ Some l → is_full l.matched ≡ true
    → IsAll r.landed.tiles piece → Completes r bytes outcome
    → Shows (without_receive number piece outcome e) (with_end l v)

-- The next window of a receive is granted, which is a receive still.
abbrev pub Grants : Type 0
Grants =
    (e : State) (v : Kept) (number : ℕ) (r : ReceiveView) (l : LiveReceive)
    → Shows e v → IsOrderly v → receive_numbered v number ≡ Some l → IsLive e number r → IsReceive (after_grant e.own.limits r)
    → Shows (with_receive number (after_grant e.own.limits) e) (with_next_window l v)

-- Bytes of its message come to a receive that misses them, and that is a receive still.
abbrev pub Fills : Type 0
Fills =
    (e : State) (v : Kept) (number : ℕ) (r : ReceiveView) (at : ℕ) (bytes : List ℕ)
    → Shows e v → IsOrderly v → IsLive e number r → AreMissing at (length bytes) r.landed.missing → IsReceive (filled r at bytes)
    → Shows (with_receive number (λ q. filled q at bytes) e) (record v { receives = change_where (is_receive number) (with_piece (record { offset = at; bytes = bytes })) v.receives })
