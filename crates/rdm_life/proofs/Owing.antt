-- What a deed makes owed: for a pair that was made before only where bytes of its message come.
use Rattle.std.proofs.Common.{◌≡◌, ℕ, ◌<◌, true, false, ◌&&◌, not, List, [], ◌∷◌, ◌++◌, Option, None, refl, arith, inl, inr, sym, ◌∙◌, ap, subst}
use Rattle.std.specs.Prelude.{flat_map, option_to_list}
use Rattle.std.proofs.lemmas.Bool.{and_parts, and_from, cases_lt}
use Rattle.std.proofs.lemmas.List.{append-nil}
use Rattle.rdm_lists.specs.Lists.{Member}
use Rattle.rdm_num.specs.Pieces.{Piece, covers}
use Rattle.rdm_num.specs.declared.numbers.Life.{Life}
use Rattle.rdm_num.specs.declared.numbers.OpId.{OpId}
use Rattle.rdm_num.specs.declared.limits.EpLimits.{EpLimits}
use Rattle.rdm_num.specs.declared.head.Shape.{Shape}
use Rattle.rdm_num.specs.declared.head.Shape.TheVariants.{Eager, Medium, LongCts, LongRead, Runt}
use Rattle.rdm_match.specs.Matcher.{Pair, is_pair}
use Rattle.rdm_model.specs.Deeds.{Deed}
use Rattle.rdm_model.specs.Beginnings.{Own, Heads}
use Rattle.rdm_model.specs.Matches.{pairs}
use Rattle.rdm_model.specs.Parts.{carried_by, carried_pieces, has_landed}
use Rattle.rdm_model.specs.Receives.{is_filled}
use Rattle.rdm_model.specs.Grants.{window, granted_bytes}
use Rattle.rdm_model.specs.Sends.{Sent}
use Rattle.rdm_model.specs.Replies.{grant_for, pair_items, pair_replies, replies_by, without_forgotten}
use Rattle.rdm_model.specs.Dues.{Progress, after_push, after_deed, progress}
use Rattle.rdm_model.proofs.Matches.{member_is_pair, is_pair_still}
use Rattle.rdm_model.proofs.SameMatches.{pairs_same}
use Rattle.rdm_model.proofs.SameRegions.{sends_same}
use Rattle.rdm_model.proofs.SameReplies.{window_same, granted_bytes_same}
use Rattle.rdm_model.proofs.SameDues.{after_push_same, progress_same}
use Rattle.rdm_model.proofs.Grows.{agree_grows}
use Rattle.rdm_law.proofs.Windows.Windows.{Tells, tells_before, first_stays, is_window}
use Rattle.rdm_law.proofs.Windows.Granted.{own_tells}
use Rattle.rdm_life.specs.Keeps.{told, own_pairs, own_sends, own_progress}
use Rattle.rdm_lists.proofs.Same.{flat_map_none}

-- the replies that are owed after a deed, of those before it
pub owed_by : (own : Own) (d : Deed) (log : List Deed)
    → (own_progress own (d ∷ log)).replies
    ≡ without_forgotten log d (after_push own (told own log) log d (own_progress own log)).replies ++ replies_by own (told own (d ∷ log)).head (own_sends own log) d log
unfolding progress after_deed
owed_by own d log =
    let was = told own log in
    let now = told own (d ∷ log) in
    let a = agree_grows own.limits.first d log in
    ap (λ (ss : List Sent). without_forgotten log d (after_push own now log d (progress own now log)).replies ++ replies_by own now.head ss d log) (sym (sends_same own was now log a))
    ∙ ap (λ (p : Progress). without_forgotten log d (after_push own now log d p).replies ++ replies_by own now.head (own_sends own log) d log) (sym (progress_same own was now log a))
    ∙ ap (λ (p : Progress). without_forgotten log d p.replies ++ replies_by own now.head (own_sends own log) d log) (sym (after_push_same own was now log d (own_progress own log) a))

-- of the messages that were matched no window is open: each is granted by the deed that makes it so
abbrev pub NoWindows : Own → List Deed → Type 0
NoWindows own log =
    (p : Pair) → Member p (own_pairs own log) → window own.limits (told own log).head log p (granted_bytes own.limits (told own log).head log p) ≡ 0

-- nothing of a pair's message comes by a deed
abbrev pub BringsNone : Own → Deed → List Deed → Pair → Type 0
BringsNone own d log p = carried_by (own_pairs own log) p.message.life p.message.no.0 d ≡ None

-- the pairs before a deed are the same by what is heard then
pub pairs_then : (own : Own) (d : Deed) (log : List Deed) → own_pairs own log ≡ pairs own.limits.first (told own (d ∷ log)).head log
pairs_then own d log = pairs_same own.limits.first (told own log).head (told own (d ∷ log)).head log (agree_grows own.limits.first d log).heads

-- no more of a message came where a deed brings nothing of it
pub no_more : (first : ℕ) (heads : Heads) (d : Deed) (before : List Deed) (source : Life) (n : ℕ) → carried_by (pairs first heads before) source n d ≡ None
    → carried_pieces first heads (d ∷ before) source n ≡ carried_pieces first heads before source n
unfolding carried_pieces
no_more first heads d before source n h =
    ap (λ (o : Option Piece). carried_pieces first heads before source n ++ option_to_list o) h ∙ append-nil (carried_pieces first heads before source n)

-- a pair that was made before, and of whose message nothing comes, is filled no more than before
pub filled_before : (first : ℕ) (heads : Heads) (d : Deed) (before : List Deed) (p : Pair) → Member p (pairs first heads before)
    → carried_by (pairs first heads before) p.message.life p.message.no.0 d ≡ None → is_filled first heads (d ∷ before) p ≡ true → is_filled first heads before p ≡ true
unfolding is_filled has_landed
filled_before first heads d before p m none h =
    let size = (heads p.message.life p.message.no.0).length in
    let landed = (and_parts (is_pair (pairs first heads (d ∷ before)) p.recv.id.0 p.message.life p.message.no.0) (covers (carried_pieces first heads (d ∷ before) p.message.life p.message.no.0) size) h).1 in
    and_from (is_pair (pairs first heads before) p.recv.id.0 p.message.life p.message.no.0) (covers (carried_pieces first heads before p.message.life p.message.no.0) size)
    (member_is_pair (pairs first heads before) p m)
    (subst (λ (ps : List Piece). covers ps size ≡ true) (no_more first heads d before p.message.life p.message.no.0 none) landed)

-- so it isn't newly filled
pub not_newly : (first : ℕ) (heads : Heads) (d : Deed) (before : List Deed) (p : Pair) → Member p (pairs first heads before)
    → carried_by (pairs first heads before) p.message.life p.message.no.0 d ≡ None → (is_filled first heads (d ∷ before) p && not (is_filled first heads before p)) ≡ false
not_newly first heads d before p m none =
    (elim (is_filled first heads (d ∷ before) p) as (λ b. is_filled first heads (d ∷ before) p ≡ b → (b && not (is_filled first heads before p)) ≡ false) [
      | false ↦ λ e. refl
      | true ↦ λ e. (let was = filled_before first heads d before p m none e in rw was refl)
    ]) refl

-- a window that is open after a deed that brings nothing of its message was open before
window_was : (limits : EpLimits) (heads : Heads) (d : Deed) (before : List Deed) (p : Pair) (granted : ℕ) → Tells heads before → Member p (pairs limits.first heads before)
    → carried_by (pairs limits.first heads before) p.message.life p.message.no.0 d ≡ None → 0 < window limits heads (d ∷ before) p granted
    → window limits heads (d ∷ before) p granted ≡ window limits heads before p granted
unfolding window
window_was limits heads d before p granted tells m none h =
    let source = p.message.life in
    let n = p.message.no.0 in
    let w = is_window limits heads (d ∷ before) p granted h in
    let was = member_is_pair (pairs limits.first heads before) p m in
    let now = is_pair_still limits.first heads d before p.recv.id.0 source n was in
    let f = first_stays limits.first heads d before p w.send w.credits tells was w.shape_is in
    let c = no_more limits.first heads d before source n none in
    rw (now, was, f, c) refl

-- no bytes are no grant
grant_none : (own : Own) (shape : Shape) (recv : OpId) → grant_for own shape recv 0 ≡ []
unfolding grant_for
grant_none own (LongCts send credits) recv = refl
grant_none own Eager recv = refl
grant_none own Medium recv = refl
grant_none own (LongRead send iov) recv = refl
grant_none own (Runt send iov runt) recv = refl

-- no window is open after a deed that brings nothing of its message
pub still_closed : (own : Own) (d : Deed) (log : List Deed) (p : Pair) → NoWindows own log → Member p (own_pairs own log) → BringsNone own d log p
    → window own.limits (told own (d ∷ log)).head (d ∷ log) p (granted_bytes own.limits (told own (d ∷ log)).head log p) ≡ 0
still_closed own d log p closed m none =
    let first = own.limits.first in
    let hs = (told own log).head in
    let ks = (told own (d ∷ log)).head in
    let a = (agree_grows first d log).heads in
    let g = granted_bytes own.limits ks log p in
    let then' : Member p (pairs first ks log) = subst (λ (ps : List Pair). Member p ps) (pairs_then own d log) m in
    let no : carried_by (pairs first ks log) p.message.life p.message.no.0 d ≡ None =
    subst (λ (ps : List Pair). carried_by ps p.message.life p.message.no.0 d ≡ None) (pairs_then own d log) none in
    let was : window own.limits hs log p g ≡ 0 = subst (λ x. window own.limits hs log p x ≡ 0) (granted_bytes_same own.limits hs ks log p a) (closed p m) in
    let zero' : window own.limits ks log p g ≡ 0 = sym (window_same own.limits hs ks log p g a) ∙ was in
    elim (cases_lt 0 (window own.limits ks (d ∷ log) p g)) [
      | inl more ↦ window_was own.limits ks d log p g (tells_before ks d log (own_tells first (d ∷ log))) then' no more ∙ zero'
      | inr none' ↦ omega arith
    ]

-- a pair that was made before owes nothing where nothing of its message comes
pub quiet_pair : (own : Own) (d : Deed) (log : List Deed) (p : Pair) → NoWindows own log → Member p (own_pairs own log) → BringsNone own d log p
    → pair_replies own (told own (d ∷ log)).head d log p ≡ []
unfolding pair_replies pair_items
quiet_pair own d log p closed m none =
    let first = own.limits.first in
    let ks = (told own (d ∷ log)).head in
    let then' : Member p (pairs first ks log) = subst (λ (ps : List Pair). Member p ps) (pairs_then own d log) m in
    let no : carried_by (pairs first ks log) p.message.life p.message.no.0 d ≡ None =
    subst (λ (ps : List Pair). carried_by ps p.message.life p.message.no.0 d ≡ None) (pairs_then own d log) none in
    let old = member_is_pair (pairs first ks log) p then' in
    let over = not_newly first ks d log p then' no in
    let size = still_closed own d log p closed m none in
    let g = grant_none own (ks p.message.life p.message.no.0).shape (record { 0 = p.recv.id.0 }) in
    rw (old, over, size, g) refl

-- nothing is owed for the pairs that were made before, where the deed brings nothing of their messages
pub quiet_pairs : (own : Own) (d : Deed) (log : List Deed) → NoWindows own log → ((p : Pair) → Member p (own_pairs own log) → BringsNone own d log p)
    → flat_map (pair_replies own (told own (d ∷ log)).head d log) (own_pairs own log) ≡ []
quiet_pairs own d log closed none =
    flat_map_none (pair_replies own (told own (d ∷ log)).head d log) (own_pairs own log) (λ p m. quiet_pair own d log p closed m (none p m))
