-- Deeds that make no pair and bring no bytes: all but receives that are posted, packets that open messages, and bytes that were granted or asked for.
use Rattle.std.proofs.Common.{◌≡◌, ℕ, Bool, ◌&&◌, not, List, [], ◌∷◌, ◌++◌, map, None, refl, sym, ◌∙◌, ap}
use Rattle.std.specs.Prelude.{filter, flat_map}
use Rattle.std.proofs.lemmas.List.{append-nil}
use Rattle.rdm_num.specs.Lives.{same_life}
use Rattle.rdm_num.specs.declared.numbers.Life.{Life}
use Rattle.rdm_pkt.specs.declared.Packet.TheVariants.{Rtm, CtsData}
use Rattle.rdm_match.specs.Matcher.{Forget, Matching, Pair, after, run}
use Rattle.rdm_model.specs.declared.job.Instr.TheVariants.{Insert, Recv, Cancel}
use Rattle.rdm_model.specs.Deeds.{Deed, Did, Took, Item, Spelled, Gives}
use Rattle.rdm_model.specs.Beginnings.{Own, Heads}
use Rattle.rdm_model.specs.Currents.{forgotten_by}
use Rattle.rdm_model.specs.Heard.{head_by, entering}
use Rattle.rdm_model.specs.Matches.{arrival, events_by, matching, pairs}
use Rattle.rdm_model.specs.Parts.{piece_by, carried_by}
use Rattle.rdm_model.specs.Receives.{is_filled, filled_by}
use Rattle.rdm_model.specs.Replies.{pair_replies, handshake_by, given_by, replies_by}
use Rattle.rdm_life.specs.Keeps.{told, own_pairs, own_sends}
use Rattle.rdm_life.proofs.Owing.{NoWindows, pairs_then, not_newly, quiet_pairs}
use Rattle.rdm_lists.proofs.Filters.{filter_nothing}
use Rattle.rdm_life.proofs.Tests.{none_either}
use Rattle.rdm_life.proofs.MatchingQuiet.{still_heard, none_enter}

-- what is taken opens no message and brings no bytes
abbrev pub IsIdleItem : Item → Type 0
IsIdleItem (Spelled (Rtm number tag confirm opt form)) = ⊥
IsIdleItem (Spelled (CtsData recv offset connid bytes)) = ⊥
IsIdleItem (Gives g) = ⊥
IsIdleItem _ = Unit {0}

-- a deed that makes no pair and brings no bytes
abbrev pub IsIdle : Deed → Type 0
IsIdle (Took from item) = IsIdleItem item
IsIdle (Did (Recv req)) = ⊥
IsIdle _ = Unit {0}

-- it tells of no message
idle_heads : (d : Deed) → IsIdle d → (source : Life) (n : ℕ) → head_by source n d ≡ None
unfolding head_by
idle_heads (Took from (Spelled (Rtm number tag confirm opt form))) i source n = absurd i
idle_heads _ i source n = refl

-- so no message enters
pub idle_enters : (first : ℕ) (d : Deed) (before : List Deed) → IsIdle d → (source : Life) → entering first d before source ≡ []
idle_enters first d before i source = none_enter first d before source (λ n. still_heard before d source n (idle_heads d i source n))

-- forgetting makes no pair
forget_pairs : (ls : List Life) (m : Matching) → (run m (map Forget ls)).pairs ≡ m.pairs
unfolding run after
forget_pairs [] m = refl
forget_pairs (l ∷ ls) m = forget_pairs ls (after m (Forget l))

-- the pairs stay
idle_pairs_by : (first : ℕ) (heads : Heads) (d : Deed) (before : List Deed) → IsIdle d → pairs first heads (d ∷ before) ≡ pairs first heads before
unfolding matching events_by run after
idle_pairs_by first heads (Took from item) before i =
    ap (λ (ns : List ℕ). (run (matching first heads before) (map (arrival heads from) ns)).pairs) (idle_enters first (Took from item) before i from)
idle_pairs_by first heads (Did (Recv req)) before i = absurd i
idle_pairs_by first heads (Did (Cancel recv)) before i = refl
idle_pairs_by first heads (Did (Insert l)) before i = forget_pairs (forgotten_by before (Did (Insert l))) (matching first heads before)
idle_pairs_by first heads _ before i = refl

-- by the life's own account
pub idle_pairs : (own : Own) (d : Deed) (log : List Deed) → IsIdle d → own_pairs own (d ∷ log) ≡ own_pairs own log
idle_pairs own d log i = idle_pairs_by own.limits.first (told own (d ∷ log)).head d log i ∙ sym (pairs_then own d log)

-- what is taken so has no bytes
idle_piece : (ps : List Pair) (source : Life) (n : ℕ) (item : Item) → IsIdleItem item → piece_by ps source n item ≡ None
unfolding piece_by
idle_piece ps source n (Spelled (Rtm number tag confirm opt form)) i = absurd i
idle_piece ps source n (Spelled (CtsData recv offset connid bytes)) i = absurd i
idle_piece ps source n (Gives g) i = absurd i
idle_piece ps source n _ i = refl

-- such a deed brings nothing of any message
pub idle_brings : (ps : List Pair) (source : Life) (n : ℕ) (d : Deed) → IsIdle d → carried_by ps source n d ≡ None
unfolding carried_by
idle_brings ps source n (Took from item) i = none_either (same_life from source) (piece_by ps source n item) (idle_piece ps source n item i)
idle_brings ps source n _ i = refl

-- so it fills nothing
pub idle_fills : (first : ℕ) (heads : Heads) (d : Deed) (before : List Deed) → IsIdle d → filled_by first heads d before ≡ []
unfolding filled_by
idle_fills first heads d before i =
    let t : Pair → Bool = λ p. is_filled first heads (d ∷ before) p && not (is_filled first heads before p) in
    ap (filter t) (idle_pairs_by first heads d before i)
    ∙ filter_nothing t (pairs first heads before) (λ p m. not_newly first heads d before p m (idle_brings (pairs first heads before) p.message.life p.message.no.0 d i))

-- it makes a greeting and an answer owed, if anything
pub idle_replies : (own : Own) (d : Deed) (log : List Deed) → NoWindows own log → IsIdle d
    → replies_by own (told own (d ∷ log)).head (own_sends own log) d log ≡ handshake_by own log d ++ given_by (own_sends own log) d
unfolding replies_by
idle_replies own d log closed i =
    let ks = (told own (d ∷ log)).head in
    let none : flat_map (pair_replies own ks d log) (own_pairs own (d ∷ log)) ≡ [] =
    ap (flat_map (pair_replies own ks d log)) (idle_pairs own d log i)
    ∙ quiet_pairs own d log closed (λ p m. idle_brings (own_pairs own log) p.message.life p.message.no.0 d i) in
    rw (none, append-nil (handshake_by own log d)) refl
