-- What a push or a fetch by the passes of a port, whose reader's pass has all senders, makes of the inboxes.
use Rattle.std.proofs.Common.{◌≡◌, ◌≢◌, ℕ, zero, suc, ◌+◌, ◌<◌, List, [], ◌∷◌, ◌++◌, length, map, set, get_or, drop, sym, refl, ap, ◌∙◌, subst, arith, add-zero, inl, inr, Result, Ok, Err, MatchResult, OnOk, OnErr, Option, Some, None, MatchOption, IfSome, IfNone, false}
use Rattle.std.specs.Prelude.{slice_get, IsPermutation}
use Rattle.rdm_num.specs.declared.numbers.PortNo.{PortNo}
use Rattle.rdm_wire.specs.declared.Datagram.{Datagram}
use Rattle.rdm_wire.specs.Flights.{Pushes, Fetches, Moves}
use Rattle.rdm_inbox.specs.declared.post.ReaderPost.{ReaderPost}
use Rattle.rdm_inbox.specs.Senders.{list_at, joined, changed_at}
use Rattle.rdm_inbox.specs.Letters.{with_put, with_full_for, with_taken_out, with_empty, IsFirst}
use Rattle.rdm_inbox.specs.Passes.{InboxState}
use Rattle.rdm_inbox.specs.Queues.{PassesState, QueuesState, InboxesState, IsGathered, AreGathered, with_reader, seen_by, known_to, empties_of, flights_to, flight_of, no_account, after_put, after_taken_out, after_full_inbox, after_empty_inbox}
use Rattle.rdm_inbox.proofs.Places.{length-changed_at, changed_at-here, changed_at-else}
use Rattle.rdm_inbox.proofs.Flights.{joined-in, joined-out}
use Rattle.rdm_inbox.proofs.Passing.{slice_get-low, slice_get-or, slice_get-map, changed_at-set}
use Rattle.rdm_inbox.proofs.Serving.{at_changed, map-changed, sum_by-changed, length-map-of}

-- a change of what the reader's pass knows that leaves it a pass with all senders
record Keeps (f : ReaderPost → ReaderPost) : Type 0 where
  port : (r : ReaderPost) → (f r).port ≡ r.port
  ports : (r : ReaderPost) → (f r).ports ≡ r.ports
  size : (r : ReaderPost) → (f r).size ≡ r.size
  taken : (r : ReaderPost) → (f r).taken ≡ r.taken
  known : (r : ReaderPost) → length (f r).known ≡ length r.known

still_gathered : (f : ReaderPost → ReaderPost) → Keeps f → (tables : List InboxState) (port : ℕ) (v : PassesState) → IsGathered tables port v → IsGathered tables port (with_reader f v)
still_gathered f k tables port v g = let r = v.reader.post in record {
  own = g.own;
  reader = record { named = g.reader.named ∙ ap (λ (n : ℕ). Some (record { table = v.reader.table; size = n })) (sym (k.size r)); own = k.port r ∙ g.reader.own; ports = k.ports r ∙ g.reader.ports };
  whole = (k.known r ∙ (g.whole.0 ∙ sym (k.ports r)), k.taken r ∙ g.whole.1);
}

all_still_gathered : (f : ReaderPost → ReaderPost) → Keeps f → (tables : List InboxState) (all : List PassesState) (to : ℕ) → AreGathered tables all → AreGathered tables (changed_at (with_reader f) all to)
all_still_gathered f k tables all to g = record {
  each = λ port v at. let was = at_changed (with_reader f) all to port v at in let old = g.each port was.0 was.1 in
      elim was.2 [ inl e ↦ subst (IsGathered tables port) (sym e) (still_gathered f k tables port was.0 old) | inr e ↦ subst (IsGathered tables port) (sym e) old ];
  count = length-changed_at (with_reader f) all to ∙ g.count;
}

keeps_put : (d : Datagram) → Keeps (λ r. with_put r d)
keeps_put d = record { port = λ r. refl; ports = λ r. refl; size = λ r. refl; taken = λ r. refl; known = λ r. length-changed_at (λ ds. ds ++ d ∷ []) r.known d.src.0 }

keeps_full : Keeps with_full_for
keeps_full = record { port = λ r. refl; ports = λ r. refl; size = λ r. refl; taken = λ r. refl; known = λ r. refl }

keeps_out : (d : Datagram) → Keeps (λ r. with_taken_out r d)
keeps_out d = record { port = λ r. refl; ports = λ r. refl; size = λ r. refl; taken = λ r. refl; known = λ r. length-changed_at (drop {A = Datagram} 1) r.known d.src.0 }

keeps_empty : Keeps with_empty
keeps_empty = record { port = λ r. refl; ports = λ r. refl; size = λ r. refl; taken = λ r. refl; known = λ r. refl }

unchanged : {A : Type 0} (xs : List A) (i : ℕ) → changed_at (λ x. x) xs i ≡ xs
unchanged [] i = refl
unchanged (x ∷ xs) zero = refl
unchanged (x ∷ xs) (suc i) = ap (λ ys. x ∷ ys) (unchanged xs i)

-- the senders' lists of what is in flight to a port, after one of them changed
module _ (f : List Datagram → List Datagram) (i : ℕ) (lists : List (List (List Datagram))) (to : ℕ) where
  abbrev change : List (List Datagram) → List (List Datagram)
  change ks = changed_at f ks i

  flight_here : to < length lists → joined (get_or (changed_at change lists to) to []) ≡ joined (change (get_or lists to []))
  flight_here low = ap joined (changed_at-here change lists to [] low)

  flight_else : (p : ℕ) → p ≢ to → joined (get_or (changed_at change lists to) p []) ≡ joined (get_or lists p [])
  flight_else p ne = ap joined (changed_at-else change lists to p [] ne)

module _ (w : InboxesState) (d : Datagram) where
  pub put_pushes : d.dst.0 < length w.flights → d.src.0 < length (flights_to w d.dst.0) → Pushes false d (flight_of w) (flight_of (after_put w d))
  put_pushes low from = let add = λ (ds : List Datagram). ds ++ d ∷ [] in record {
    added = subst (λ l. IsPermutation l (joined (flights_to w d.dst.0) ++ d ∷ [])) (sym (flight_here add d.src.0 w.flights d.dst.0 low)) (joined-in (flights_to w d.dst.0) d.src.0 d from);
    others = flight_else add d.src.0 w.flights d.dst.0;
    size = refl;
  }

  pub take_fetches : d.dst.0 < length w.flights → d.src.0 < length (flights_to w d.dst.0) → list_at (flights_to w d.dst.0) d.src.0 ≡ d ∷ drop 1 (list_at (flights_to w d.dst.0) d.src.0)
      → Fetches false d.dst.0 (d ∷ []) (flight_of w) (flight_of (after_taken_out w d))
  take_fetches low from first = record {
    taken = subst (λ l. IsPermutation (joined (flights_to w d.dst.0)) (d ∷ l)) (sym (flight_here (drop 1) d.src.0 w.flights d.dst.0 low))
        (joined-out (flights_to w d.dst.0) d.src.0 d (drop 1 (list_at (flights_to w d.dst.0) d.src.0)) from first);
    others = flight_else (drop 1) d.src.0 w.flights d.dst.0;
    size = refl;
  }

-- what a push and a fetch tell of what is in flight
module _ (old new : InboxesState) where
  pub put_held : (d : Datagram) (result : Result (Unit {0}) Datagram) → MatchResult result (λ _. new ≡ after_put old d) (λ _. new ≡ after_full_inbox old)
      → d.dst.0 < length old.flights → d.src.0 < length (flights_to old d.dst.0) → OnOk result (Pushes false d (flight_of old) (flight_of new))
  put_held d (Ok x) told low from = subst (λ w. Pushes false d (flight_of old) (flight_of w)) (sym told) (put_pushes old d low from)
  put_held d (Err x) told low from = tt

  pub put_same : (d : Datagram) (result : Result (Unit {0}) Datagram) → MatchResult result (λ _. new ≡ after_put old d) (λ _. new ≡ after_full_inbox old)
      → OnErr result ((no_account ≡ no_account) × (Some (flight_of new) ≡ Some (flight_of old)))
  put_same d (Ok x) told = tt
  put_same d (Err x) told = (refl, ap (λ w. Some (flight_of w)) told)

  pub out_held : (to : ℕ) (result : Option Datagram) → MatchOption result (new ≡ after_empty_inbox old) (λ d. new ≡ after_taken_out old d)
      → IfSome result (λ d. (d.dst.0 ≡ to) × (d.src.0 < length (flights_to old to)) × (list_at (flights_to old to) d.src.0 ≡ d ∷ drop 1 (list_at (flights_to old to) d.src.0)))
      → to < length old.flights → IfSome result (λ d. Moves (Fetches false to (d ∷ [])) (Some (flight_of old)) (Some (flight_of new)))
  out_held to None told came low = tt
  out_held to (Some d) told came low =
      subst (λ w. Fetches false to (d ∷ []) (flight_of old) (flight_of w)) (sym told)
      (subst (λ p. (p < length old.flights) → (d.src.0 < length (flights_to old p)) → list_at (flights_to old p) d.src.0 ≡ d ∷ drop 1 (list_at (flights_to old p) d.src.0) → Fetches false p (d ∷ []) (flight_of old) (flight_of (after_taken_out old d)))
      came.0 (take_fetches old d) low came.1 came.2)

  pub out_same : (result : Option Datagram) → MatchOption result (new ≡ after_empty_inbox old) (λ d. new ≡ after_taken_out old d)
      → IfNone result ((no_account ≡ no_account) × (Some (flight_of new) ≡ Some (flight_of old)))
  out_same None told = (refl, ap (λ w. Some (flight_of w)) told)
  out_same (Some d) told = tt

-- the passes of one port, among those of all
module _ (queues : QueuesState) (all : List PassesState) (g : AreGathered queues.tables all) (to : ℕ) (was w : PassesState) (at : slice_get all to ≡ Some was) where
  low : to < length all
  low = slice_get-low all to was at

  written : (f : ReaderPost → ReaderPost) → w ≡ with_reader f was → set all to w ≡ changed_at (with_reader f) all to
  written f e = ap (set all to) e ∙ changed_at-set (with_reader f) all to was at

  -- the flights of the port's passes
  pub known_here : get_or (map known_to all) to [] ≡ known_to was
  known_here = slice_get-or (map known_to all) to (known_to was) [] (slice_get-map known_to all to was at)

  kept : (f : ReaderPost → ReaderPost) → Keeps f → w ≡ with_reader f was → AreGathered queues.tables (set all to w)
  kept f k e = subst (AreGathered queues.tables) (sym (written f e)) (all_still_gathered f k queues.tables all to g)

  seen_after : (f : ReaderPost → ReaderPost) (h : List (List Datagram) → List (List Datagram)) (m n : ℕ) → ((r : ReaderPost) → (f r).known ≡ h r.known) → ((r : ReaderPost) → (f r).fulls ≡ r.fulls + m) → ((r : ReaderPost) → (f r).empties ≡ r.empties + n)
      → w ≡ with_reader f was → seen_by queues (set all to w) ≡ record { queues = queues; flights = changed_at h (map known_to all) to; fulls = (seen_by queues all).fulls + m; empties = (seen_by queues all).empties + n }
  seen_after f h m n known fulls empties e = ap (seen_by queues) (written f e) ∙ (
      let a = map-changed (with_reader f) known_to h (λ v. known v.reader.post) all to in
      let b = sum_by-changed (with_reader f) (λ v. v.reader.post.fulls) m (λ v. fulls v.reader.post) all to low in
      let c = sum_by-changed (with_reader f) empties_of n (λ v. empties v.reader.post) all to low in
      λ i. record { queues = queues; flights = a i; fulls = b i; empties = c i })

  abbrev PutTold : (d : Datagram) (X Y : Type 0) → Result (Unit {0}) Datagram → Type 0
  PutTold d X Y result = MatchResult result (λ _. (w ≡ with_reader (λ r. with_put r d) was) × X) (λ back. (back ≡ d) × (w ≡ with_reader with_full_for was) × Y)

  pub put_kept : (d : Datagram) (X Y : Type 0) (result : Result (Unit {0}) Datagram) → PutTold d X Y result → AreGathered queues.tables (set all to w)
  put_kept d X Y (Ok x) told = kept (λ r. with_put r d) (keeps_put d) told.0
  put_kept d X Y (Err x) told = kept with_full_for keeps_full told.1

  pub put_after : (d : Datagram) (X Y : Type 0) (result : Result (Unit {0}) Datagram) → d.dst.0 ≡ to → PutTold d X Y result
      → MatchResult result (λ _. seen_by queues (set all to w) ≡ after_put (seen_by queues all) d) (λ _. seen_by queues (set all to w) ≡ after_full_inbox (seen_by queues all))
  put_after d X Y (Ok x) here told =
      seen_after (λ r. with_put r d) (λ lists. changed_at (λ ds. ds ++ d ∷ []) lists d.src.0) 0 0 (λ r. refl) (λ r. sym (add-zero r.fulls)) (λ r. sym (add-zero r.empties)) told.0
      ∙ (λ i. record { queues = queues; flights = changed_at (λ lists. changed_at (λ ds. ds ++ d ∷ []) lists d.src.0) (map known_to all) (sym here i); fulls = add-zero (seen_by queues all).fulls i; empties = add-zero (seen_by queues all).empties i })
  put_after d X Y (Err x) here told =
      seen_after with_full_for (λ lists. lists) 1 0 (λ r. refl) (λ r. refl) (λ r. sym (add-zero r.empties)) told.1
      ∙ (λ i. record { queues = queues; flights = unchanged (map known_to all) to i; fulls = (seen_by queues all).fulls + 1; empties = add-zero (seen_by queues all).empties i })

  abbrev OutTold : Type 0 → Option Datagram → Type 0
  OutTold X result = MatchOption result ((w ≡ with_reader with_empty was) × X) (λ d. (w ≡ with_reader (λ r. with_taken_out r d) was) × IsFirst was.reader.post d)

  pub out_kept : (X : Type 0) (result : Option Datagram) → OutTold X result → AreGathered queues.tables (set all to w)
  out_kept X None told = kept with_empty keeps_empty told.0
  out_kept X (Some d) told = kept (λ r. with_taken_out r d) (keeps_out d) told.0

  -- as many senders' lists as there are ports
  pub lists_here : length (get_or (map known_to all) to []) ≡ length all
  lists_here = let is = g.each to was at in let n = is.whole.0 in let m = is.reader.ports in let c = g.count in ap (λ l. length l) known_here ∙ (n ∙ (m ∙ sym c))

  -- it came to this port, from one of the ports
  pub out_for : (d : Datagram) → IsFirst was.reader.post d → (d.dst.0 ≡ to) × (d.src.0 < length all)
  out_for d first = let is = (g.each to was at).reader in (first.0.0 ∙ is.own, let n = is.ports in let m = g.count in let lt = first.0.1 in omega arith)

  pub out_after : (X : Type 0) (result : Option Datagram) → OutTold X result
      → MatchOption result (seen_by queues (set all to w) ≡ after_empty_inbox (seen_by queues all)) (λ d. seen_by queues (set all to w) ≡ after_taken_out (seen_by queues all) d)
  out_after X None told =
      seen_after with_empty (λ lists. lists) 0 1 (λ r. refl) (λ r. sym (add-zero r.fulls)) (λ r. refl) told.0
      ∙ (λ i. record { queues = queues; flights = unchanged (map known_to all) to i; fulls = add-zero (seen_by queues all).fulls i; empties = (seen_by queues all).empties + 1 })
  out_after X (Some d) told =
      seen_after (λ r. with_taken_out r d) (λ lists. changed_at (drop 1) lists d.src.0) 0 0 (λ r. refl) (λ r. sym (add-zero r.fulls)) (λ r. sym (add-zero r.empties)) told.0
      ∙ (λ i. record { queues = queues; flights = changed_at (λ lists. changed_at (drop 1) lists d.src.0) (map known_to all) (sym (out_for d told.1).0 i); fulls = add-zero (seen_by queues all).fulls i; empties = add-zero (seen_by queues all).empties i })

  -- what was taken was the first in flight from its sender
  pub out_came : (X : Type 0) (result : Option Datagram) → OutTold X result
      → IfSome result (λ d. (d.dst.0 ≡ to) × (d.src.0 < length (get_or (map known_to all) to [])) × (list_at (get_or (map known_to all) to []) d.src.0 ≡ d ∷ drop 1 (list_at (get_or (map known_to all) to []) d.src.0)))
  out_came X None told = tt
  out_came X (Some d) told = let for = out_for d told.1 in let n = lists_here in let lt = for.1 in
      (for.0, omega arith, subst (λ ks. list_at ks d.src.0 ≡ d ∷ drop 1 (list_at ks d.src.0)) (sym known_here) told.1.1)

  pub out_from : (X : Type 0) (result : Option Datagram) → OutTold X result → (port : PortNo) → port.0 ≡ to → IfSome result (λ d. (d.dst ≡ port) × (d.src.0 < length (map known_to all)))
  out_from X None told port e = tt
  out_from X (Some d) told port e = let for = out_for d told.1 in let n = length-map-of known_to all in let lt = for.1 in
      ((λ i. record { 0 = (for.0 ∙ sym e) i }), omega arith)
