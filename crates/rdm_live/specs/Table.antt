-- What each call makes of the live receives.
use Rattle.std.specs.Prelude.{ℕ, ◌+◌, ◌-◌, ◌||◌, ◌==◌, not, nat_le, ◌&&◌, if◌then◌else◌, Bool, [], ◌∷◌, ◌++◌, length, map, filter, find, Option, option_map}
use Rattle.rdm_num.specs.Lives.{is_life}
use Rattle.rdm_num.specs.declared.numbers.Life.{Life}
use Rattle.rdm_num.specs.declared.numbers.OpId.{OpId}
use Rattle.rdm_receives.specs.View.{ReceiveView}
use Rattle.rdm_receives.specs.Answers.{source_of}
use Rattle.rdm_live.specs.View.{LiveView, has_number}

-- none lives
abbrev pub nobody : (size : ℕ) → LiveView
nobody size = record { list = []; size = size; made = 0; room = 0 }

-- as many live as may
abbrev pub is_full : LiveView → Bool
is_full v = length v.list == v.size

-- with room for one more
abbrev pub with_room : LiveView → LiveView
with_room v = record v { room = v.room + 1 }

-- with room for one less
abbrev pub with_spent : LiveView → LiveView
with_spent v = record v { room = v.room - 1 }

-- one more lives, in room that there was
abbrev pub with_receive : LiveView → ReceiveView → LiveView
with_receive v r = record v { list = v.list ++ r ∷ []; made = v.made + 1; room = v.room - 1 }

-- the receive of a number is changed so
abbrev pub changed : LiveView → OpId → (ReceiveView → ReceiveView) → LiveView
changed v number change = record v { list = map (λ r. if has_number number r then change r else r) v.list }

-- the receive of a number lives no more
abbrev pub without : LiveView → OpId → LiveView
without v number = record v { list = filter (λ r. not (has_number number r)) v.list }

-- the receive names the life, or takes a message of it
abbrev pub concerns : Life → ReceiveView → Bool
concerns life r = is_life r.named life || is_life (source_of r.message) life

-- the first receive from a number on that concerns a life
abbrev pub first_concerned : LiveView → Life → (from : OpId) → Option OpId
first_concerned v life from = option_map (λ (r : ReceiveView). r.number) (find (λ (r : ReceiveView). nat_le from.0 r.number.0 && concerns life r) v.list)
