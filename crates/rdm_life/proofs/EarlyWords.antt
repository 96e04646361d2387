-- How what is known of an early message moves at a deed.
use Rattle.std.proofs.Common.{◌≡◌, ℕ, Bool, cond, not, ◌&&◌, true, false, List, [], ◌∷◌, ◌++◌, Option, Some, None, refl, sym, ◌∙◌, ap, option_to_list}
use Rattle.std.specs.Prelude.{unwrap_or}
use Rattle.std.proofs.Math.Path.{fun_ext}
use Rattle.rdm_lists.specs.Lists.{or_else}
use Rattle.rdm_lists.proofs.Options.{or_else-none, or_else-assoc}
use Rattle.rdm_num.specs.Pieces.{Piece, byte_in, byte_at}
use Rattle.rdm_num.specs.declared.numbers.Life.{Life}
use Rattle.rdm_num.specs.declared.head.Head.{Head}
use Rattle.rdm_match.specs.Matcher.{Pair}
use Rattle.rdm_model.specs.Beginnings.{Own, no_head}
use Rattle.rdm_model.specs.Completions.{is_matched}
use Rattle.rdm_model.specs.Deeds.{Deed}
use Rattle.rdm_model.specs.Grants.{first_part_by, first_part_taken, first_part}
use Rattle.rdm_model.specs.Heard.{heard_head, head_by, is_heard}
use Rattle.rdm_model.specs.Local.{heads_by, heard_by}
use Rattle.rdm_model.specs.Matches.{pairs}
use Rattle.rdm_model.specs.Parts.{carried_by, carried_pieces}
use Rattle.rdm_model.proofs.Grows.{agree_grows}
use Rattle.rdm_model.proofs.SameMatches.{pairs_same, carried_pieces_same}
use Rattle.rdm_life.specs.Kept.{EarlyMessage}
use Rattle.rdm_life.specs.Keeps.{told, own_pairs, byte_came, early_message}
use Rattle.rdm_life.specs.Handling.{byte_by}
use Rattle.rdm_life.proofs.MessageFacts.{named}
use Rattle.rdm_life.proofs.MatchingQuiet.{still_heard}

-- a byte of pieces, and of one more
byte_more : (ps : List Piece) (o : Option Piece) (place : ℕ) → byte_at (ps ++ option_to_list o) place ≡ or_else (byte_at ps place) (byte_by o place)
unfolding byte_at byte_by or_else
byte_more [] None place = refl
byte_more [] (Some p) place = or_else-none (byte_in p place)
byte_more (q ∷ ps) o place =
    ap (or_else (byte_in q place)) (byte_more ps o place) ∙ sym (or_else-assoc (byte_in q place) (byte_at ps place) (byte_by o place))

-- the pairs before a deed, by what is told after it
pub pairs_before : (own : Own) (d : Deed) (before : List Deed) → pairs own.limits.first (told own (d ∷ before)).head before ≡ own_pairs own before
pairs_before own d before = sym (pairs_same own.limits.first (told own before).head (told own (d ∷ before)).head before (agree_grows own.limits.first d before).heads)

-- the pieces before a deed, by what is told after it
pub pieces_before : (own : Own) (d : Deed) (before : List Deed) (life : Life) (n : ℕ)
    → carried_pieces own.limits.first (told own (d ∷ before)).head before life n ≡ carried_pieces own.limits.first (told own before).head before life n
pieces_before own d before life n = sym (carried_pieces_same own.limits.first (told own before).head (told own (d ∷ before)).head before life n (agree_grows own.limits.first d before).heads)

-- the pieces after a deed
pub pieces_after : (own : Own) (d : Deed) (before : List Deed) (life : Life) (n : ℕ)
    → carried_pieces own.limits.first (told own (d ∷ before)).head (d ∷ before) life n
    ≡ carried_pieces own.limits.first (told own before).head before life n ++ option_to_list (carried_by (own_pairs own before) life n d)
unfolding carried_pieces
pieces_after own d before life n =
    ap (λ (ps : List Piece). ps ++ option_to_list (carried_by (pairs own.limits.first (told own (d ∷ before)).head before) life n d)) (pieces_before own d before life n)
    ∙ ap (λ (ps : List Pair). carried_pieces own.limits.first (told own before).head before life n ++ option_to_list (carried_by ps life n d)) (pairs_before own d before)

-- the byte at a place of a message after a deed
pub came_after : (own : Own) (d : Deed) (before : List Deed) (life : Life) (n place : ℕ)
    → byte_came own (d ∷ before) life n place ≡ or_else (byte_came own before life n place) (byte_by (carried_by (own_pairs own before) life n d) place)
came_after own d before life n place =
    ap (λ (ps : List Piece). byte_at ps place) (pieces_after own d before life n)
    ∙ byte_more (carried_pieces own.limits.first (told own before).head before life n) (carried_by (own_pairs own before) life n d) place

-- a deed that brings no bytes of a message leaves them
pub came_still : (own : Own) (d : Deed) (before : List Deed) (life : Life) (n place : ℕ) → carried_by (own_pairs own before) life n d ≡ None → byte_came own (d ∷ before) life n place ≡ byte_came own before life n place
unfolding byte_by
came_still own d before life n place none =
    came_after own d before life n place ∙ ap (λ (o : Option Piece). or_else (byte_came own before life n place) (byte_by o place)) none ∙ or_else-none (byte_came own before life n place)

-- and a deed that does not tell of its head leaves it
pub told_still : (own : Own) (d : Deed) (before : List Deed) (life : Life) (n : ℕ) → head_by life n d ≡ None → (told own (d ∷ before)).head life n ≡ (told own before).head life n
unfolding heads_by heard_by heard_head
told_still own d before life n none = ap (λ (o : Option Head). unwrap_or (or_else (heard_head before life n) o) no_head) none ∙ ap (λ (o : Option Head). unwrap_or o no_head) (or_else-none (heard_head before life n))

-- and its first part
pub first_still : (d : Deed) (before : List Deed) (life : Life) (n : ℕ) → first_part_by life n d ≡ None → first_part (d ∷ before) life n ≡ first_part before life n
unfolding first_part first_part_taken
first_still d before life n none = ap (λ (o : Option ℕ). unwrap_or (or_else (first_part_taken before life n) o) 0) none ∙ ap (λ (o : Option ℕ). unwrap_or o 0) (or_else-none (first_part_taken before life n))

-- a message as far as it came
abbrev pub so_far : Own → List Deed → Life → ℕ → EarlyMessage
so_far own log life n = record { head = (told own log).head life n; came = λ place. byte_came own log life n place; first_part = first_part log life n }

-- a message by its parts
abbrev pub message_by : Head → (ℕ → Option ℕ) → ℕ → EarlyMessage
message_by head came first = record { head = head; came = came; first_part = first }

-- a deed that tells nothing of a message and brings no bytes of it leaves it as far as it came
pub so_far_still : (own : Own) (d : Deed) (before : List Deed) (life : Life) (n : ℕ) → head_by life n d ≡ None → first_part_by life n d ≡ None → carried_by (own_pairs own before) life n d ≡ None
    → so_far own (d ∷ before) life n ≡ so_far own before life n
so_far_still own d before life n no_head' no_part no_bytes =
    ap (λ (h : Head). message_by h (λ place. byte_came own (d ∷ before) life n place) (first_part (d ∷ before) life n)) (told_still own d before life n no_head')
    ∙ ap (λ (f : ℕ → Option ℕ). message_by ((told own before).head life n) f (first_part (d ∷ before) life n)) (fun_ext (λ place. came_still own d before life n place no_bytes))
    ∙ ap (λ (k : ℕ). message_by ((told own before).head life n) (λ place. byte_came own before life n place) k) (first_still d before life n no_part)

-- a message that was heard of and not matched is early
abbrev pub early_of : (heard matched : Bool) → EarlyMessage → Option EarlyMessage
early_of heard matched e = cond (heard && not matched) (Some e) None

-- an early message by what is known of it
abbrev pub early_made : (heard matched : Bool) → Head → (ℕ → Option ℕ) → ℕ → Option EarlyMessage
early_made heard matched head came first = early_of heard matched (message_by head came first)

-- so it is defined
pub early_is_made : (own : Own) (log : List Deed) (life : Life) (n : ℕ)
    → early_message own log life n ≡ early_of (is_heard log life n) (is_matched (own_pairs own log) (named life n)) (so_far own log life n)
unfolding early_message
early_is_made own log life n = refl

-- a message that was heard of and not matched is early, as far as it came
pub early_where : (own : Own) (log : List Deed) (life : Life) (n : ℕ) → is_heard log life n ≡ true → is_matched (own_pairs own log) (named life n) ≡ false → early_message own log life n ≡ Some (so_far own log life n)
early_where own log life n heard unmatched =
    early_is_made own log life n
    ∙ ap (λ (b : Bool). early_of b (is_matched (own_pairs own log) (named life n)) (so_far own log life n)) heard
    ∙ ap (λ (b : Bool). early_of true b (so_far own log life n)) unmatched

-- a deed that tells nothing of a message, brings no bytes of it and does not match it leaves it as it was
pub early_still : (own : Own) (d : Deed) (before : List Deed) (life : Life) (n : ℕ) → head_by life n d ≡ None → first_part_by life n d ≡ None → carried_by (own_pairs own before) life n d ≡ None
    → is_matched (own_pairs own (d ∷ before)) (named life n) ≡ is_matched (own_pairs own before) (named life n) → early_message own (d ∷ before) life n ≡ early_message own before life n
early_still own d before life n no_head' no_part no_bytes same_match =
    early_is_made own (d ∷ before) life n
    ∙ ap (λ (b : Bool). early_of b (is_matched (own_pairs own (d ∷ before)) (named life n)) (so_far own (d ∷ before) life n)) (still_heard before d life n no_head')
    ∙ ap (λ (b : Bool). early_of (is_heard before life n) b (so_far own (d ∷ before) life n)) same_match
    ∙ ap (early_of (is_heard before life n) (is_matched (own_pairs own before) (named life n))) (so_far_still own d before life n no_head' no_part no_bytes)
    ∙ sym (early_is_made own before life n)
