-- A receive whose message came whole ended so.
use Rattle.std.proofs.Common.{◌≡◌, ℕ, Bool, true, false, ◌&&◌, not, List, [], ◌∷◌, ◌++◌, map, refl, ap, subst}
use Rattle.std.specs.Prelude.{flat_map}
use Rattle.std.proofs.lemmas.Bool.{and_parts, and_from}
use Rattle.rdm_lists.specs.Lists.{Member}
use Rattle.rdm_match.specs.Matcher.{Pair, is_pair}
use Rattle.rdm_model.specs.Deeds.{Deed}
use Rattle.rdm_model.specs.Beginnings.{Heads}
use Rattle.rdm_model.specs.Currents.{forgotten_by}
use Rattle.rdm_model.specs.Matches.{pairs, matching}
use Rattle.rdm_model.specs.Parts.{has_landed}
use Rattle.rdm_model.specs.Receives.{RecvEnd, Filled, is_filled, filled_by, withdrawn_by, gone_with, recv_ends_by, with_recv_ends, recv_ends}
use Rattle.rdm_model.proofs.Matches.{is_pair_member, pair_still}
use Rattle.rdm_law.proofs.Matching.Numbered.{matching_numbered}
use Rattle.rdm_lists.proofs.Members.{member-append_left, member-append_right, filter-member, map-member}

-- a pair that is filled was made
filled_pair : (first : ℕ) (heads : Heads) (d : Deed) (before : List Deed) (p : Pair) → Member p (pairs first heads (d ∷ before)) → is_filled first heads before p ≡ true
    → Member p (pairs first heads before)
unfolding is_filled
filled_pair first heads d before p h f =
    let t = and_parts (is_pair (pairs first heads before) p.recv.id.0 p.message.life p.message.no.0) (has_landed first heads before p.message.life p.message.no.0) f in
    let q = is_pair_member (pairs first heads before) p.recv.id.0 p.message.life p.message.no.0 t.0 in
    let same : q.0 ≡ p = (matching_numbered first heads (d ∷ before)).once q.0 p (pair_still first heads d before q.0 q.1) h q.2 in
    subst (λ (x : Pair). Member x (pairs first heads before)) same q.1

-- a deed that fills a pair ends its receive
newly_filled : (first : ℕ) (heads : Heads) (d : Deed) (before : List Deed) (p : Pair) (ends : List RecvEnd) → Member p (pairs first heads (d ∷ before))
    → is_filled first heads (d ∷ before) p ≡ true → is_filled first heads before p ≡ false → Member (Filled p) (recv_ends_by first heads d before ends)
unfolding recv_ends_by filled_by
newly_filled first heads d before p ends m now was =
    let test : Pair → Bool = λ p. is_filled first heads (d ∷ before) p && not (is_filled first heads before p) in
    let f = filter-member test p (pairs first heads (d ∷ before)) m (and_from (is_filled first heads (d ∷ before) p) (not (is_filled first heads before p)) now (ap not was)) in
    let g = map-member Filled p (filled_by first heads d before) f in
    member-append_left (Filled p) (map Filled (filled_by first heads d before) ++ withdrawn_by d) (flat_map (gone_with first heads before ends) (forgotten_by before d))
    (member-append_left (Filled p) (map Filled (filled_by first heads d before)) (withdrawn_by d) g)

-- a pair whose message came whole ended its receive
pub filled_ended : (first : ℕ) (heads : Heads) (log : List Deed) (p : Pair) → Member p (pairs first heads log) → is_filled first heads log p ≡ true
    → Member (Filled p) (recv_ends first heads log)
unfolding recv_ends with_recv_ends matching
filled_ended first heads [] p m f = elim m [ ]
filled_ended first heads (d ∷ before) p m f =
    (elim (is_filled first heads before p) as (λ b. is_filled first heads before p ≡ b → Member (Filled p) (recv_ends first heads before ++ recv_ends_by first heads d before (recv_ends first heads before))) [
      | true ↦ λ was. member-append_left (Filled p) (recv_ends first heads before) (recv_ends_by first heads d before (recv_ends first heads before))
          (filled_ended first heads before p (filled_pair first heads d before p m was) was)
      | false ↦ λ was. member-append_right (Filled p) (recv_ends first heads before) (recv_ends_by first heads d before (recv_ends first heads before))
          (newly_filled first heads d before p (recv_ends first heads before) m f was)
    ]) refl
