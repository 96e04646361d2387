-- A deed that touches neither the matcher nor an early message leaves what is kept of them.
use Rattle.std.proofs.Common.{◌≡◌, ℕ, Bool, false, not, ◌&&◌, List, ◌∷◌, filter, length, sym, ◌∙◌, ap}
use Rattle.rdm_lists.proofs.Same.{filter_same}
use Rattle.rdm_num.specs.Lives.{same_life}
use Rattle.rdm_num.specs.declared.numbers.Life.{Life}
use Rattle.rdm_match.specs.Matcher.{Pair}
use Rattle.rdm_model.specs.declared.job.Instr.TheVariants.{Insert, Recv, Cancel}
use Rattle.rdm_pkt.specs.declared.Packet.TheVariants.{Rtm}
use Rattle.rdm_model.specs.Beginnings.{Own}
use Rattle.rdm_model.specs.Completions.{Name, heard_names, is_matched, early_count}
use Rattle.rdm_model.specs.Currents.{is_forgotten}
use Rattle.rdm_model.specs.Deeds.{Deed, Did, Took, Spelled}
use Rattle.rdm_model.specs.Heard.{is_heard, is_next_message}
use Rattle.rdm_life.specs.Kept.{Kept}
use Rattle.rdm_life.specs.Keeps.{own_matching, own_pairs, early_message, waits_early, KeepsMatching}
use Rattle.rdm_life.proofs.MatchingQuiet.{still_next}

-- what a deed leaves of messages, of the deeds and of what is kept; the matcher's lists are those after it
pub record Leaves (own : Own) (d : Deed) (before : List Deed) (v w : Kept) : Type 0 where
  pub heard : (life : Life) (n : ℕ) → is_heard (d ∷ before) life n ≡ is_heard before life n
  pub pairs : own_pairs own (d ∷ before) ≡ own_pairs own before
  pub names : heard_names (d ∷ before) ≡ heard_names before
  pub forgotten : (life : Life) → is_forgotten (d ∷ before) life ≡ is_forgotten before life
  pub posted_kept : w.posted ≡ (own_matching own (d ∷ before)).posted
  pub arrived_kept : w.arrived ≡ (own_matching own (d ∷ before)).arrived
  pub early_of_kept : (life : Life) → w.early_of life ≡ v.early_of life
  pub early_count_kept : w.early_count ≡ v.early_count
  pub heard_kept : (life : Life) (n : ℕ) → (w.peers life).heard n ≡ (v.peers life).heard n
  pub next_kept : (life : Life) → (w.peers life).next ≡ (v.peers life).next

-- what waits early is the same
waits_same : (own : Own) (d : Deed) (before : List Deed) (v w : Kept) (m : Name) → Leaves own d before v w → waits_early own (d ∷ before) m ≡ waits_early own before m
waits_same own d before v w m l =
    ap (λ (ps : List Pair). not (is_matched ps m) && not (is_forgotten (d ∷ before) m.life)) l.pairs
    ∙ ap (λ (b : Bool). not (is_matched (own_pairs own before) m) && not b) (l.forgotten m.life)

-- so all is kept
pub matching_left : (own : Own) (d : Deed) (before : List Deed) (v w : Kept) → Leaves own d before v w
    → ((life : Life) → is_forgotten before life ≡ false → (n : ℕ) → w.early life n ≡ early_message own (d ∷ before) life n) → KeepsMatching own before v → KeepsMatching own (d ∷ before) w
unfolding early_count
matching_left own d before v w l early k = record {
  heard_is = λ life kept n. l.heard_kept life n ∙ k.heard_is life (sym (l.forgotten life) ∙ kept) n ∙ sym (l.heard life n);
  next_is = λ life kept.
      ap (is_next_message own.limits.first (d ∷ before) life) (l.next_kept life) ∙ still_next own.limits.first d before life (v.peers life).next (l.heard life) ∙ k.next_is life (sym (l.forgotten life) ∙ kept);
  posted_is = l.posted_kept;
  arrived_is = l.arrived_kept;
  early_is = λ life kept n. early life (sym (l.forgotten life) ∙ kept) n;
  early_of_is = λ life kept.
      l.early_of_kept life ∙ k.early_of_is life (sym (l.forgotten life) ∙ kept)
      ∙ ap length (filter_same (λ (m : Name). waits_early own before m && same_life m.life life) (λ (m : Name). waits_early own (d ∷ before) m && same_life m.life life) (heard_names before)
      (λ m. ap (λ (b : Bool). b && same_life m.life life) (sym (waits_same own d before v w m l))))
      ∙ ap (λ (ns : List Name). length (filter (λ (m : Name). waits_early own (d ∷ before) m && same_life m.life life) ns)) (sym l.names);
  early_count_is =
      l.early_count_kept ∙ k.early_count_is
      ∙ ap length (filter_same (waits_early own before) (waits_early own (d ∷ before)) (heard_names before) (λ m. sym (waits_same own d before v w m l)))
      ∙ ap (λ (ns : List Name). length (filter (waits_early own (d ∷ before)) ns)) (sym l.names);
}

-- a deed that tells of no message and brings none of its bytes
abbrev pub IsSilent : Deed → Type 0
IsSilent (Did (Insert life)) = ⊥
IsSilent (Did (Recv req)) = ⊥
IsSilent (Did (Cancel recv)) = ⊥
IsSilent (Took from (Spelled (Rtm number tag confirm opt form))) = ⊥
IsSilent d = Unit {0}
