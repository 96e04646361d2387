-- What happens to an endpoint's record at once is what happens to it one step at a time.
use Rattle.std.specs.Prelude.{◌≡◌, ℕ, Bool, false, List}
use Rattle.rdm_num.specs.Pieces.{Piece}
use Rattle.rdm_num.specs.declared.numbers.Life.{Life}
use Rattle.rdm_num.specs.declared.request.RecvReq.{RecvReq}
use Rattle.rdm_match.specs.Matcher.{Pair}
use Rattle.rdm_life.specs.Facts.{meets_receive_in}
use Rattle.rdm_life.specs.Kept.{Kept}
use Rattle.rdm_life.specs.Landing.{settle, land, meet}
use Rattle.rdm_life.specs.Receiving.{receive_in, with_live, after_recv, entering_in, enter}
use Rattle.rdm_sound.specs.Premises.{AreOnce, IsOrderly, paired_numbers, names_of}
use Rattle.rdm_sound.specs.Steps.{times, settle_each, land_one, meet_each, post_one, enter_one}

-- Receives settle one after another.
abbrev pub SettlesEach : Type 0
SettlesEach = (is_new : Bool) (numbers : List ℕ) (v : Kept) → IsOrderly v → AreOnce numbers → settle is_new numbers v ≡ settle_each is_new numbers v

-- A piece lands in one receive, which then settles.
abbrev pub LandsInOne : Type 0
LandsInOne = (number : ℕ) (p : Piece) (v : Kept) → IsOrderly v → land number p v ≡ land_one number p v

-- Pairs meet one after another.
abbrev pub MeetsEach : Type 0
MeetsEach = (ps : List Pair) (v : Kept) → IsOrderly v → AreOnce (paired_numbers ps) → AreOnce (names_of ps) → meet ps v ≡ meet_each ps v

-- A receive that is posted apart from all others meets the first message that it accepts, or waits.
abbrev pub PostsOne : Type 0
PostsOne =
    (req : RecvReq) (v : Kept) → IsOrderly v → meets_receive_in v req.region.0 req.at req.len ≡ false
    → after_recv req v ≡ post_one (receive_in v req).posted (with_live (receive_in v req) v)

-- The messages of a life enter one after another.
abbrev pub EntersEach : Type 0
EntersEach = (source : Life) (v : Kept) → IsOrderly v → enter source v ≡ times (entering_in v source) (enter_one source) v
