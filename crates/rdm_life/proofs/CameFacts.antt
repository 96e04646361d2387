-- Which bytes of a message came, as it is kept.
use Rattle.std.proofs.Common.{◌≡◌, ℕ, ◌+◌, ◌<◌, ◌≤◌, Bool, true, false, not, ◌&&◌, nat_le, leb-true, List, Option, arith, sym, ◌∙◌, ap}
use Rattle.std.specs.Prelude.{is_some}
use Rattle.std.proofs.lemmas.Bool.{and_parts}
use Rattle.rdm_lists.specs.Lists.{each_below}
use Rattle.rdm_lists.proofs.Below.{each_below_at, each_below_same}
use Rattle.rdm_num.specs.Pieces.{Piece, byte_at, covers, is_missing}
use Rattle.rdm_num.specs.declared.numbers.Life.{Life}
use Rattle.rdm_num.specs.declared.head.Head.{Head}
use Rattle.rdm_model.specs.Beginnings.{Own}
use Rattle.rdm_model.specs.ClassFacts.{came_in_part}
use Rattle.rdm_model.specs.Deeds.{Deed}
use Rattle.rdm_model.specs.Heard.{is_heard}
use Rattle.rdm_model.specs.Parts.{carried_pieces}
use Rattle.rdm_law.proofs.Lives.Lives.{life_scene}
use Rattle.rdm_life.specs.Kept.{Kept, EarlyMessage}
use Rattle.rdm_life.specs.Keeps.{told, matched_of}
use Rattle.rdm_life.specs.Handling.{receive_of}
use Rattle.rdm_life.specs.Facts.{came_or_outside, came_in_matched, came_in_receive, came_in_early}
use Rattle.rdm_life.proofs.TakenBy.{false_unless}
use Rattle.rdm_life.proofs.MessageFacts.{Stands, Unheard, IsEarly, IsLanding, IsDone}

-- the pieces of a message that were taken
abbrev pieces_of : Own → List Deed → Life → ℕ → List Piece
pieces_of own log source n = carried_pieces own.limits.first (told own log).head log source n

-- of a message of which all bytes came, some bytes of each range came or lie outside
pub all_came : (ps : List Piece) (size offset len : ℕ) → covers ps size ≡ true → 0 < len → is_missing ps size offset len ≡ false
unfolding covers is_missing
all_came ps size offset len all some =
    false_unless (nat_le (offset + len) size && each_below (λ k. not (is_some (byte_at ps (offset + k)))) len) (λ is.
    let parts = and_parts (nat_le (offset + len) size) (each_below (λ k. not (is_some (byte_at ps (offset + k)))) len) is in
    let within : offset + len ≤ size = leb-true (offset + len) size parts.0 in
    let there : is_some (byte_at ps (offset + 0)) ≡ true = each_below_at (λ place. is_some (byte_at ps place)) size (offset + 0) all (omega arith) in
    let missing : not (is_some (byte_at ps (offset + 0))) ≡ true = each_below_at (λ k. not (is_some (byte_at ps (offset + k)))) len 0 parts.1 some in
    let wrong : not true ≡ true = ap not (sym there) ∙ missing in
    cc)

-- tests of places that agree with what came
came_is : (own : Own) (log : List Deed) (source : Life) (n offset len : ℕ) (came : ℕ → Bool) (size : ℕ) → size ≡ ((told own log).head source n).length
    → ((place : ℕ) → came place ≡ is_some (byte_at (pieces_of own log source n) place))
    → came_or_outside came size offset len ≡ not (is_missing (pieces_of own log source n) ((told own log).head source n).length offset len)
unfolding came_or_outside is_missing
came_is own log source n offset len came size same places =
    let each = each_below_same (λ k. not (came (offset + k))) (λ k. not (is_some (byte_at (pieces_of own log source n) (offset + k)))) len (λ k. ap not (places (offset + k))) in
    rw (each, same)

-- which bytes came of a message that was heard of
pub came_in_part_is : (own : Own) (ports : ℕ) (port_log log : List Deed) (v : Kept) (source : Life) (n offset len : ℕ) → Stands own ports port_log log v source n → is_heard log source n ≡ true → 0 < len
    → came_in_early (v.early source n) (receive_of v source n) offset len ≡ came_in_part (life_scene ports own port_log log) source n offset len
unfolding came_in_early came_in_receive came_in_matched came_in_part
came_in_part_is own ports port_log log v source n offset len (Unheard unheard early receive received) heard some = (let wrong : true ≡ false = sym heard ∙ unheard in cc)
came_in_part_is own ports port_log log v source n offset len (IsEarly h e early head came received) heard some =
    ap (λ (o : Option EarlyMessage). came_in_early o (receive_of v source n) offset len) early
    ∙ came_is own log source n offset len (λ place. is_some (e.came place)) e.head.length (ap (λ (x : Head). x.length) head) (λ place. ap is_some (came place))
came_in_part_is own ports port_log log v source n offset len (IsLanding h early r receive p matched life number received) heard some =
    rw (early, receive, matched)
    (came_is own log source n offset len (matched_of own log p).came (matched_of own log p).head.length
    (ap (λ (l : Life). ((told own log).head l p.message.no.0).length) life ∙ ap (λ (k : ℕ). ((told own log).head source k).length) number)
    (λ place. ap (λ (l : Life). is_some (byte_at (pieces_of own log l p.message.no.0) place)) life ∙ ap (λ (k : ℕ). is_some (byte_at (pieces_of own log source k) place)) number))
came_in_part_is own ports port_log log v source n offset len (IsDone h early receive landed received) heard some =
    rw (early, receive) (sym (ap not (all_came (pieces_of own log source n) ((told own log).head source n).length offset len landed some)))
