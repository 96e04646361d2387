-- How receives end: filled, withdrawn, or with a life that is forgotten. Else they are live.
use Rattle.std.proofs.Common.{◌≡◌, ℕ, Bool, true, ◌&&◌, not, List, [], ◌∷◌, ◌++◌, map, refl, ◌⊎◌, inl, inr, sym, ap, subst}
use Rattle.std.specs.Prelude.{◌==◌, filter, flat_map}
use Rattle.std.specs.List.{list_any}
use Rattle.std.proofs.lemmas.Bool.{eqb-true, and_parts, or_cases, or_left, or_right}
use Rattle.rdm_lists.specs.Lists.{Member}
use Rattle.rdm_num.specs.Lives.{is_life, same_life}
use Rattle.rdm_num.specs.declared.numbers.Life.{Life}
use Rattle.rdm_num.specs.declared.numbers.RecvNo.{RecvNo}
use Rattle.rdm_match.specs.Matcher.{Pair, is_recv}
use Rattle.rdm_model.specs.declared.job.Instr.TheVariants.{Cancel}
use Rattle.rdm_model.specs.Deeds.{Deed, Did}
use Rattle.rdm_model.specs.Beginnings.{Heads}
use Rattle.rdm_model.specs.Currents.{forgotten_by, is_forgotten}
use Rattle.rdm_model.specs.Matches.{Receive, receives, pairs}
use Rattle.rdm_model.specs.Receives.{RecvEnd, Filled, Withdrawn, Gone, ended_recv, has_ended, is_filled, filled_by, concerns, gone_with, withdrawn_by, recv_ends_by, with_recv_ends, recv_ends}
use Rattle.rdm_model.proofs.Matches.{pair_still}
use Rattle.rdm_model.proofs.SameReceives.{filled_still}
use Rattle.rdm_law.proofs.Matching.Received.{receives_more}
use Rattle.rdm_lists.proofs.Members.{member-append_cases, member-filter, member-map, member-flat_map, list_any_member, member_list_any}
use Rattle.rdm_num.proofs.Lives.{same_life-refl}

-- a receive was matched to a message that came whole
pub record EndFilled (first : ℕ) (heads : Heads) (log : List Deed) (n : ℕ) : Type 0 where
  pub pair : Pair
  pub member : Member pair (pairs first heads log)
  pub recv_is : pair.recv.id.0 ≡ n
  pub filled : is_filled first heads log pair ≡ true

-- a receive concerns a life that was forgotten
pub record EndGone (first : ℕ) (heads : Heads) (log : List Deed) (n : ℕ) : Type 0 where
  pub life : Life
  pub forgotten : is_forgotten log life ≡ true
  pub recv : Receive
  pub accepted : Member recv (receives log)
  pub recv_is : recv.number ≡ n
  pub concerns' : concerns (pairs first heads log) life recv ≡ true

-- how a receive ended
abbrev pub EndedBy : (first : ℕ) → Heads → List Deed → ℕ → Type 0
EndedBy first heads log n =
    EndFilled first heads log n ⊎ (((recv : RecvNo) × Member (Did (Cancel recv)) log × (recv.0 ≡ n)) ⊎ EndGone first heads log n)

-- a receive that concerns a life still does
pub concerns_still : (first : ℕ) (heads : Heads) (d : Deed) (before : List Deed) (life : Life) (r : Receive) → concerns (pairs first heads before) life r ≡ true
    → concerns (pairs first heads (d ∷ before)) life r ≡ true
unfolding concerns
concerns_still first heads d before life r h =
    let t : Pair → Bool = λ (p : Pair). is_recv r.number p.recv && same_life p.message.life life in
    elim (or_cases (is_life r.posted.from life) (list_any t (pairs first heads before)) h) [
      | inl a ↦ or_left (is_life r.posted.from life) (list_any t (pairs first heads (d ∷ before))) a
      | inr a ↦
          let m = list_any_member t (pairs first heads before) a in
          or_right (is_life r.posted.from life) (list_any t (pairs first heads (d ∷ before)))
          (member_list_any t m.0 (pairs first heads (d ∷ before)) (pair_still first heads d before m.0 m.1) m.2)
    ]

-- a life that was forgotten stays so
pub forgotten_still : (d : Deed) (before : List Deed) (life : Life) → is_forgotten before life ≡ true → is_forgotten (d ∷ before) life ≡ true
unfolding is_forgotten
forgotten_still d before life h = or_left (is_forgotten before life) (list_any (same_life life) (forgotten_by before d)) h

-- a life that a deed forgets is forgotten
pub forgotten_now : (d : Deed) (before : List Deed) (life : Life) → Member life (forgotten_by before d) → is_forgotten (d ∷ before) life ≡ true
unfolding is_forgotten
forgotten_now d before life h =
    or_right (is_forgotten before life) (list_any (same_life life) (forgotten_by before d)) (member_list_any (same_life life) life (forgotten_by before d) h (same_life-refl life))

-- a receive that ended stays so, in the same way
ended_still : (first : ℕ) (heads : Heads) (d : Deed) (before : List Deed) (n : ℕ) → EndedBy first heads before n → EndedBy first heads (d ∷ before) n
ended_still first heads d before n (inl e) =
    inl (record { pair = e.pair; member = pair_still first heads d before e.pair e.member; recv_is = e.recv_is; filled = filled_still first heads d before e.pair e.filled })
ended_still first heads d before n (inr (inl e)) = inr (inl (e.0, inr e.1, e.2))
ended_still first heads d before n (inr (inr e)) =
    inr (inr (record {
      life = e.life;
      forgotten = forgotten_still d before e.life e.forgotten;
      recv = e.recv;
      accepted = receives_more d before e.recv e.accepted;
      recv_is = e.recv_is;
      concerns' = concerns_still first heads d before e.life e.recv e.concerns';
    }))

-- what a deed withdraws, it cancels
pub withdrawn_from : (d : Deed) (e : RecvEnd) → Member e (withdrawn_by d) → (recv : RecvNo) × (d ≡ Did (Cancel recv)) × (e ≡ Withdrawn recv.0)
unfolding withdrawn_by
withdrawn_from (Did (Cancel recv)) e (inl is) = (recv, refl, sym is)
withdrawn_from (Did (Cancel recv)) e (inr never) = elim never [ ]
withdrawn_from _ e h = elim h [ ]

-- what a deed fills is a pair that is filled
pub filled_from : (first : ℕ) (heads : Heads) (d : Deed) (before : List Deed) (p : Pair) → Member p (filled_by first heads d before)
    → Member p (pairs first heads (d ∷ before)) × (is_filled first heads (d ∷ before) p ≡ true)
unfolding filled_by
filled_from first heads d before p h =
    let m = member-filter (λ p. is_filled first heads (d ∷ before) p && not (is_filled first heads before p)) p (pairs first heads (d ∷ before)) h in
    (m.0, (and_parts (is_filled first heads (d ∷ before) p) (not (is_filled first heads before p)) m.1).0)

-- what goes with a life concerns it
pub gone_from : (first : ℕ) (heads : Heads) (before : List Deed) (ends : List RecvEnd) (life : Life) (e : RecvEnd) → Member e (gone_with first heads before ends life)
    → (r : Receive) × Member r (receives before) × (concerns (pairs first heads before) life r ≡ true) × (e ≡ Gone r.number)
unfolding gone_with
gone_from first heads before ends life e h =
    let t : Receive → Bool = λ (r : Receive). concerns (pairs first heads before) life r && not (has_ended ends r.number) in
    let m = member-map (λ (r : Receive). Gone r.number) e (filter t (receives before)) h in
    let f = member-filter t m.0 (receives before) m.1 in
    (m.0, f.0, (and_parts (concerns (pairs first heads before) life m.0) (not (has_ended ends m.0.number)) f.1).0, sym m.2)

-- what ends by a deed ends in one of the three ways
newly_ended : (first : ℕ) (heads : Heads) (d : Deed) (before : List Deed) (ends : List RecvEnd) (e : RecvEnd) → Member e (recv_ends_by first heads d before ends)
    → EndedBy first heads (d ∷ before) (ended_recv e)
unfolding recv_ends_by ended_recv
newly_ended first heads d before ends e h =
    elim (member-append_cases e (map Filled (filled_by first heads d before) ++ withdrawn_by d) (flat_map (gone_with first heads before ends) (forgotten_by before d)) h) [
      | inl a ↦ elim (member-append_cases e (map Filled (filled_by first heads d before)) (withdrawn_by d) a) [
        | inl b ↦
            let m = member-map Filled e (filled_by first heads d before) b in
            let f = filled_from first heads d before m.0 m.1 in
            inl (record { pair = m.0; member = f.0; recv_is = ap ended_recv m.2; filled = f.1 })
        | inr b ↦ let w = withdrawn_from d e b in inr (inl (w.0, inl w.1, sym (ap ended_recv w.2)))
      ]
      | inr a ↦
          let m = member-flat_map (gone_with first heads before ends) e (forgotten_by before d) a in
          let g = gone_from first heads before ends m.0 e m.2 in
          inr (inr (record {
            life = m.0;
            forgotten = forgotten_now d before m.0 m.1;
            recv = g.0;
            accepted = receives_more d before g.0 g.1;
            recv_is = sym (ap ended_recv g.3);
            concerns' = concerns_still first heads d before m.0 g.0 g.2;
          }))
    ]

-- so each receive that ended did
end_of : (first : ℕ) (heads : Heads) (log : List Deed) (e : RecvEnd) → Member e (recv_ends first heads log) → EndedBy first heads log (ended_recv e)
unfolding recv_ends with_recv_ends
end_of first heads [] e h = elim h [ ]
end_of first heads (d ∷ before) e h =
    elim (member-append_cases e (recv_ends first heads before) (recv_ends_by first heads d before (recv_ends first heads before)) h) [
      | inl a ↦ ended_still first heads d before (ended_recv e) (end_of first heads before e a)
      | inr a ↦ newly_ended first heads d before (recv_ends first heads before) e a
    ]

-- a receive that ended did so in one of three ways
pub ended_cases : (first : ℕ) (heads : Heads) (log : List Deed) (n : ℕ) → has_ended (recv_ends first heads log) n ≡ true → EndedBy first heads log n
unfolding has_ended
ended_cases first heads log n h =
    let m = list_any_member (λ e. ended_recv e == n) (recv_ends first heads log) h in
    subst (λ k. EndedBy first heads log k) (eqb-true (ended_recv m.0) n m.2) (end_of first heads log m.0 m.1)
