-- By two accounts that agree on what was heard, the same receives end.
use Rattle.std.proofs.Common.{◌≡◌, ℕ, Bool, true, false, not, List, [], ◌∷◌, ◌++◌, Some, None, refl, ◌∙◌, ap}
use Rattle.std.specs.Prelude.{◌&&◌, is_some, filter}
use Rattle.std.proofs.lemmas.Bool.{and_parts, and_from}
use Rattle.rdm_lists.specs.Lists.{or_else}
use Rattle.rdm_num.specs.Pieces.{Piece, covers, byte_at, byte_in}
use Rattle.rdm_num.specs.declared.numbers.Life.{Life}
use Rattle.rdm_match.specs.Matcher.{Pair, Matching, is_pair}
use Rattle.rdm_model.specs.Deeds.{Deed}
use Rattle.rdm_model.specs.Beginnings.{Heads}
use Rattle.rdm_model.specs.Currents.{forgotten_by}
use Rattle.rdm_model.specs.Matches.{pairs}
use Rattle.rdm_model.specs.Parts.{carried_pieces, has_landed}
use Rattle.rdm_model.specs.Receives.{RecvEnd, is_filled, filled_by, gone_with, recv_ends_by, with_recv_ends, recv_ends, live_receives}
use Rattle.rdm_model.proofs.Matches.{is_pair_still}
use Rattle.rdm_model.proofs.SameMatches.{is_pair_heard, HeadsAgree, heads_before, matching_same, pairs_same, carried_pieces_same}
use Rattle.rdm_lists.proofs.Options.{some_of, is_some_from}
use Rattle.rdm_lists.proofs.Same.{flat_map_same, filter_same}
use Rattle.rdm_lists.proofs.Below.{each_below_more}

-- whether a matched message has landed is the same
landed_same : (first : ℕ) (hs ks : Heads) (log : List Deed) (source : Life) (n : ℕ) → HeadsAgree hs ks log → hs source n ≡ ks source n
    → has_landed first hs log source n ≡ has_landed first ks log source n
unfolding has_landed
landed_same first hs ks log source n a e = rw (carried_pieces_same first hs ks log source n a, e)

-- a test that matters only where another holds
pub and_where : (b x y : Bool) → (b ≡ true → x ≡ y) → (b && x) ≡ (b && y)
and_where true x y h = h refl
and_where false x y h = refl

-- a receive is filled by both accounts or by neither
pub is_filled_same : (first : ℕ) (hs ks : Heads) (log : List Deed) (p : Pair) → HeadsAgree hs ks log → is_filled first hs log p ≡ is_filled first ks log p
unfolding is_filled
is_filled_same first hs ks log p a =
    let m = matching_same first hs ks log a in
    let source = p.message.life in
    let n = p.message.no.0 in
    and_where (is_pair (pairs first hs log) p.recv.id.0 source n) (has_landed first hs log source n) (has_landed first ks log source n)
    (λ is. let h = is_pair_heard first hs log p.recv.id.0 source n is in landed_same first hs ks log source n a (a source n h.0 h.1))
    ∙ ap (λ (x : Matching). is_pair x.pairs p.recv.id.0 source n && has_landed first ks log source n) m

-- a deed fills the same receives
pub filled_by_same : (first : ℕ) (hs ks : Heads) (d : Deed) (before : List Deed) → HeadsAgree hs ks (d ∷ before)
    → filled_by first hs d before ≡ filled_by first ks d before
unfolding filled_by
filled_by_same first hs ks d before a =
    let m = matching_same first hs ks (d ∷ before) a in
    let f = filter_same (λ p. is_filled first hs (d ∷ before) p && not (is_filled first hs before p))
    (λ p. is_filled first ks (d ∷ before) p && not (is_filled first ks before p)) (pairs first hs (d ∷ before))
    (λ p. let x = is_filled_same first hs ks (d ∷ before) p a in let y = is_filled_same first hs ks before p (heads_before hs ks d before a) in rw (x, y)) in
    f ∙ ap (λ (x : Matching). filter (λ p. is_filled first ks (d ∷ before) p && not (is_filled first ks before p)) x.pairs) m

-- the same receives are gone with a life
gone_with_same : (first : ℕ) (hs ks : Heads) (before : List Deed) (ends : List RecvEnd) (life : Life) → HeadsAgree hs ks before
    → gone_with first hs before ends life ≡ gone_with first ks before ends life
unfolding gone_with
gone_with_same first hs ks before ends life a = rw (pairs_same first hs ks before a)

-- the same receives end by a deed
pub recv_ends_by_same : (first : ℕ) (hs ks : Heads) (d : Deed) (before : List Deed) (ends : List RecvEnd) → HeadsAgree hs ks (d ∷ before)
    → recv_ends_by first hs d before ends ≡ recv_ends_by first ks d before ends
unfolding recv_ends_by
recv_ends_by_same first hs ks d before ends a =
    let f = filled_by_same first hs ks d before a in
    let g = flat_map_same (gone_with first hs before ends) (gone_with first ks before ends) (forgotten_by before d)
    (λ life m. gone_with_same first hs ks before ends life (heads_before hs ks d before a)) in
    rw (f, g)

-- the same receives ended
pub recv_ends_same : (first : ℕ) (hs ks : Heads) (log : List Deed) → HeadsAgree hs ks log → recv_ends first hs log ≡ recv_ends first ks log
unfolding recv_ends with_recv_ends
recv_ends_same first hs ks [] a = refl
recv_ends_same first hs ks (d ∷ before) a =
    let earlier = recv_ends_same first hs ks before (heads_before hs ks d before a) in
    let newest = recv_ends_by_same first hs ks d before (recv_ends first ks before) a in
    rw (earlier, newest)

-- the same receives are live
pub live_receives_same : (first : ℕ) (hs ks : Heads) (log : List Deed) → HeadsAgree hs ks log → live_receives first hs log ≡ live_receives first ks log
unfolding live_receives
live_receives_same first hs ks log a = rw (recv_ends_same first hs ks log a)

-- a place that came stays so
pub byte_at_more : (ps qs : List Piece) (place : ℕ) (b : ℕ) → byte_at ps place ≡ Some b → byte_at (ps ++ qs) place ≡ Some b
unfolding byte_at or_else
byte_at_more [] qs place b h = cc
byte_at_more (p ∷ ps) qs place b h =
    (elim (byte_in p place) as (λ o. or_else o (byte_at ps place) ≡ Some b → or_else o (byte_at (ps ++ qs) place) ≡ Some b) [
      | None ↦ λ k. byte_at_more ps qs place b k
      | Some x ↦ λ k. k
    ]) h

-- pieces that cover so much do so with more pieces
pub covers_more : (ps qs : List Piece) (n : ℕ) → covers ps n ≡ true → covers (ps ++ qs) n ≡ true
unfolding covers
covers_more ps qs n h =
    each_below_more (λ place. is_some (byte_at ps place)) (λ place. is_some (byte_at (ps ++ qs) place)) n
    (λ place is. let r = some_of (byte_at ps place) is in is_some_from (byte_at (ps ++ qs) place) r.0 (byte_at_more ps qs place r.0 r.1)) h

-- a message that has landed stays so
landed_still : (first : ℕ) (heads : Heads) (d : Deed) (before : List Deed) (source : Life) (n : ℕ)
    → has_landed first heads before source n ≡ true → has_landed first heads (d ∷ before) source n ≡ true
unfolding has_landed carried_pieces
landed_still first heads d before source n h = covers_more (carried_pieces first heads before source n) _ (heads source n).length h

-- what is received stays so
pub filled_still : (first : ℕ) (heads : Heads) (d : Deed) (before : List Deed) (p : Pair) → is_filled first heads before p ≡ true → is_filled first heads (d ∷ before) p ≡ true
unfolding is_filled
filled_still first heads d before p h =
    let parts = and_parts (is_pair (pairs first heads before) p.recv.id.0 p.message.life p.message.no.0) (has_landed first heads before p.message.life p.message.no.0) h in
    and_from (is_pair (pairs first heads (d ∷ before)) p.recv.id.0 p.message.life p.message.no.0) (has_landed first heads (d ∷ before) p.message.life p.message.no.0)
    (is_pair_still first heads d before p.recv.id.0 p.message.life p.message.no.0 parts.0)
    (landed_still first heads d before p.message.life p.message.no.0 parts.1)
