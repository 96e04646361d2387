-- What a deed adds to the ends of receives, and what that does to regions.
use Rattle.std.proofs.Common.{◌≡◌, ℕ, Bool, not, ◌&&◌, List, [], ◌∷◌, ◌++◌, refl, sym, ◌∙◌, ap}
use Rattle.std.specs.Prelude.{filter}
use Rattle.rdm_lists.proofs.Filters.{filter_nothing}
use Rattle.rdm_num.specs.Pieces.{Piece, covers}
use Rattle.rdm_match.specs.Matcher.{Pair, is_pair}
use Rattle.rdm_model.specs.Beginnings.{Own}
use Rattle.rdm_model.specs.Deeds.{Deed}
use Rattle.rdm_model.specs.Matches.{Receive, receives, pairs}
use Rattle.rdm_model.specs.Parts.{carried_pieces, has_landed}
use Rattle.rdm_model.specs.Receives.{RecvEnd, has_ended, is_filled, filled_by, recv_ends, with_recv_ends, recv_ends_by, live_receives}
use Rattle.rdm_model.specs.Regions.{after_ends, region_by, regions}
use Rattle.rdm_model.proofs.Grows.{agree_grows}
use Rattle.rdm_model.proofs.SameMatches.{pairs_same, carried_pieces_same}
use Rattle.rdm_model.proofs.SameReceives.{recv_ends_same}
use Rattle.rdm_model.proofs.SameRegions.{regions_same}
use Rattle.rdm_life.specs.Keeps.{told, own_pairs, own_regions, own_live_receives}
use Rattle.rdm_life.proofs.Stays.{Stays, pieces_stay}
use Rattle.rdm_law.proofs.Refusals.StandsStill.{and_not}

-- the receives that ended
abbrev pub own_ends : Own → List Deed → List RecvEnd
own_ends own log = recv_ends own.limits.first (told own log).head log

-- those that a deed ends
abbrev pub new_ends : Own → Deed → List Deed → List RecvEnd
new_ends own d before = recv_ends_by own.limits.first (told own (d ∷ before)).head d before (own_ends own before)

-- a deed only adds ends
pub ends_step : (own : Own) (d : Deed) (before : List Deed) → own_ends own (d ∷ before) ≡ own_ends own before ++ new_ends own d before
unfolding recv_ends with_recv_ends
ends_step own d before =
    let first = own.limits.first in
    let heads = (told own (d ∷ before)).head in
    let same = recv_ends_same first (told own before).head heads before (agree_grows first d before).heads in
    ap (λ (es : List RecvEnd). es ++ recv_ends_by first heads d before es) (sym same)

-- and each end writes its range
pub regions_step : (own : Own) (d : Deed) (before : List Deed)
    → own_regions own (d ∷ before) ≡ after_ends (told own (d ∷ before)) (receives (d ∷ before)) (new_ends own d before) (own_regions own before) ++ region_by d
unfolding regions
regions_step own d before =
    let first = own.limits.first in
    let ms = told own (d ∷ before) in
    let same = recv_ends_same first (told own before).head ms.head before (agree_grows first d before).heads in
    let was = regions_same first (told own before) ms before (agree_grows first d before) in
    ap (λ (es : List RecvEnd). after_ends ms (receives (d ∷ before)) (recv_ends_by first ms.head d before es) (regions first ms before) ++ region_by d) (sym same)
    ∙ ap (λ (rs : List (List ℕ)). after_ends ms (receives (d ∷ before)) (new_ends own d before) rs ++ region_by d) (sym was)

-- the pairs before a deed, by the account after it
pub newer_pairs : (own : Own) (d : Deed) (before : List Deed) → own_pairs own before ≡ pairs own.limits.first (told own (d ∷ before)).head before
newer_pairs own d before = pairs_same own.limits.first (told own before).head (told own (d ∷ before)).head before (agree_grows own.limits.first d before).heads

-- a deed that makes no pair and brings no byte fills as much as was filled
filled_same : (own : Own) (d : Deed) (before : List Deed) (p : Pair) → Stays own d before
    → is_filled own.limits.first (told own (d ∷ before)).head (d ∷ before) p ≡ is_filled own.limits.first (told own (d ∷ before)).head before p
unfolding is_filled has_landed
filled_same own d before p s =
    let first = own.limits.first in
    let heads = (told own (d ∷ before)).head in
    let source = p.message.life in
    let n = p.message.no.0 in
    let x : pairs first heads (d ∷ before) ≡ pairs first heads before = s.pairs_are ∙ newer_pairs own d before in
    let y : carried_pieces first heads (d ∷ before) source n ≡ carried_pieces first heads before source n =
    pieces_stay own d before source n (s.brings_none source n) ∙ carried_pieces_same first (told own before).head heads before source n (agree_grows first d before).heads in
    ap (λ (ps : List Pair). is_pair ps p.recv.id.0 source n && covers (carried_pieces first heads (d ∷ before) source n) (heads source n).length) x
    ∙ ap (λ (qs : List Piece). is_pair (pairs first heads before) p.recv.id.0 source n && covers qs (heads source n).length) y

-- so it fills nothing
pub none_filled : (own : Own) (d : Deed) (before : List Deed) → Stays own d before → filled_by own.limits.first (told own (d ∷ before)).head d before ≡ []
unfolding filled_by
none_filled own d before s =
    let first = own.limits.first in
    let heads = (told own (d ∷ before)).head in
    filter_nothing (λ p. is_filled first heads (d ∷ before) p && not (is_filled first heads before p)) (pairs first heads (d ∷ before))
    (λ p m. ap (λ (b : Bool). b && not (is_filled first heads before p)) (filled_same own d before p s) ∙ and_not (is_filled first heads before p))

-- the receives that are live where these are accepted and have ended
abbrev pub unended : List RecvEnd → List Receive → List Receive
unended ends rs = filter (λ (r : Receive). not (has_ended ends r.number)) rs

-- the live receives
pub live_are : (own : Own) (log : List Deed) → own_live_receives own log ≡ unended (own_ends own log) (receives log)
unfolding live_receives
live_are own log = refl
