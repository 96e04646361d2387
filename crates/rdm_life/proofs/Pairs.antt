-- Pairs are only added: those before a deed, and those that it makes.
use Rattle.std.proofs.Common.{◌≡◌, List, [], ◌∷◌, ◌++◌, Option, Some, None, refl, sym, ◌∙◌, ap, append-nil, append_assoc}
use Rattle.std.specs.Prelude.{find}
use Rattle.rdm_match.specs.declared.PostedRecv.{PostedRecv}
use Rattle.rdm_match.specs.declared.Arrived.{Arrived}
use Rattle.rdm_match.specs.Matcher.{Matching, Pair, Event, Post, Arrive, Cancel, Forget, accepts, after_post, after_arrive, after, run}
use Rattle.rdm_model.specs.Beginnings.{Own}
use Rattle.rdm_model.specs.Deeds.{Deed}
use Rattle.rdm_model.specs.Matches.{matching, events_by}
use Rattle.rdm_model.proofs.SameMatches.{matching_same}
use Rattle.rdm_model.proofs.Grows.{agree_grows}
use Rattle.rdm_life.specs.Keeps.{told, own_matching, own_pairs}
use Rattle.rdm_life.proofs.Made.{lists_before, PairsAdded}

-- the lists, with no pair
abbrev pub bare : Matching → Matching
bare m = record m { pairs = [] }

-- lists with these pairs ahead of theirs
abbrev pub ahead : List Pair → Matching → Matching
ahead ps m = record m { pairs = ps ++ m.pairs }

-- a post adds to the pairs
post_adds : (m : Matching) (r : PostedRecv) (o : Option Arrived) → after_post m r o ≡ ahead m.pairs (after_post (bare m) r o)
unfolding after_post
post_adds m r None = ap (λ (ps : List Pair). record m { posted = m.posted ++ r ∷ []; pairs = ps }) (sym (append-nil m.pairs))
post_adds m r (Some a) = refl

-- an arrival too
arrive_adds : (m : Matching) (a : Arrived) (o : Option PostedRecv) → after_arrive m a o ≡ ahead m.pairs (after_arrive (bare m) a o)
unfolding after_arrive
arrive_adds m a None = ap (λ (ps : List Pair). record m { arrived = m.arrived ++ a ∷ []; pairs = ps }) (sym (append-nil m.pairs))
arrive_adds m a (Some r) = refl

-- so does each event
after_adds : (m : Matching) (e : Event) → after m e ≡ ahead m.pairs (after (bare m) e)
unfolding after
after_adds m (Post r) = post_adds m r (find (accepts r) m.arrived)
after_adds m (Arrive a) = arrive_adds m a (find (λ r. accepts r a) m.posted)
after_adds m (Cancel n) = ap (λ (ps : List Pair). record (after (bare m) (Cancel n)) { pairs = ps }) (sym (append-nil m.pairs))
after_adds m (Forget life) = ap (λ (ps : List Pair). record (after (bare m) (Forget life)) { pairs = ps }) (sym (append-nil m.pairs))

-- and events in order
pub run_adds : (es : List Event) (m : Matching) → run m es ≡ ahead m.pairs (run (bare m) es)
unfolding run
run_adds [] m = ap (λ (ps : List Pair). record m { pairs = ps }) (sym (append-nil m.pairs))
run_adds (e ∷ es) m =
    let step = after_adds m e in
    let b = after (bare m) e in
    let same : bare (after m e) ≡ bare b = ap bare step in
    let pairs : (after m e).pairs ≡ m.pairs ++ b.pairs = ap (λ (x : Matching). x.pairs) step in
    let first : run (after m e) es ≡ ahead (m.pairs ++ b.pairs) (run (bare b) es) =
    run_adds es (after m e) ∙ ap (λ (x : Matching). ahead (after m e).pairs (run x es)) same ∙ ap (λ (ps : List Pair). ahead ps (run (bare b) es)) pairs in
    let second : run b es ≡ ahead b.pairs (run (bare b) es) = run_adds es b in
    first
    ∙ ap (λ (ps : List Pair). record (run (bare b) es) { pairs = ps }) (append_assoc m.pairs b.pairs (run (bare b) es).pairs)
    ∙ ap (ahead m.pairs) (sym second)

-- the lists before a deed, by what is told after it
lists_are : (own : Own) (d : Deed) (before : List Deed) → matching own.limits.first (told own (d ∷ before)).head before ≡ own_matching own before
lists_are own d before = sym (matching_same own.limits.first (told own before).head (told own (d ∷ before)).head before (agree_grows own.limits.first d before).heads)

-- what comes to the matcher by a deed
abbrev pub own_events : Own → Deed → List Deed → List Event
own_events own d before = events_by own.limits.first (told own (d ∷ before)).head before d

-- the matcher after a deed: the pairs before it, and what its events make of the lists
pub matching_after : (own : Own) (d : Deed) (before : List Deed) → own_matching own (d ∷ before) ≡ ahead (own_pairs own before) (run (lists_before own before) (own_events own d before))
unfolding matching
matching_after own d before =
    ap (λ (m : Matching). run m (own_events own d before)) (lists_are own d before) ∙ run_adds (own_events own d before) (own_matching own before)

-- the pairs after a deed
pub pairs_added : (own : Own) (d : Deed) (before : List Deed) → PairsAdded own d before
pairs_added own d before = ap (λ (m : Matching). m.pairs) (matching_after own d before)

-- the receives that wait after it
pub posted_after : (own : Own) (d : Deed) (before : List Deed) → (own_matching own (d ∷ before)).posted ≡ (run (lists_before own before) (own_events own d before)).posted
posted_after own d before = ap (λ (m : Matching). m.posted) (matching_after own d before)

-- and the messages
pub arrived_after : (own : Own) (d : Deed) (before : List Deed) → (own_matching own (d ∷ before)).arrived ≡ (run (lists_before own before) (own_events own d before)).arrived
arrived_after own d before = ap (λ (m : Matching). m.arrived) (matching_after own d before)
