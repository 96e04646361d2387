-- What a port keeps after an entry that queues no note and tells nothing: a push or a poll.
use Rattle.std.proofs.Common.{◌≡◌, ◌≤◌, ℕ, ◌+◌, List, ◌∷◌, map, length, drop, refl, ap, ◌∙◌, sym, subst, arith}
use Rattle.rdm_model.specs.declared.entry.Entry.{Entry}
use Rattle.rdm_model.specs.declared.entry.Act.{Act}
use Rattle.rdm_model.specs.declared.entry.Act.TheVariants.{Push, Poll}
use Rattle.rdm_model.specs.Deeds.{Deed, deed_of, deeds, open_life, deed_count}
use Rattle.rdm_model.specs.Notes.{notes, note_pushes_by}
use Rattle.rdm_model.specs.Steps.{count, nexts_by, pushes_by}
use Rattle.rdm_model.specs.Reports.{drops_to_other, drops_from_other}
use Rattle.rdm_port.specs.Views.{PortView}
use Rattle.rdm_port.specs.Kept.{Kept, IsKept, clock_in, deeds_of, own_at, queued_of, entry_of, with_log}
use Rattle.rdm_port.specs.Built.{AreBuilt}
use Rattle.rdm_port.proofs.SilentDeeds.{IsSilent, notes_silent, knows_silent, told_silent, open_silent, deed_silent, StepsBy, life_steps}

-- the counts that a push or a poll leaves
record LeavesCounts (act : Act) : Type 0 where
  next : nexts_by act ≡ 0
  to_other : drops_to_other act ≡ 0
  from_other : drops_from_other act ≡ 0
  few : pushes_by act ≤ 1

-- a push or a poll as an entry
abbrev pub IsSilentAct : Act → Type 0
IsSilentAct (Push d) = Unit {0}
IsSilentAct (Poll c) = Unit {0}
IsSilentAct _ = ⊥

-- a push or a poll counts as nothing but a push
leaves_counts : (act : Act) → IsSilentAct act → LeavesCounts act
unfolding nexts_by pushes_by drops_to_other drops_from_other
leaves_counts (Push d) s = record { next = refl; to_other = refl; from_other = refl; few = omega arith }
leaves_counts (Poll c) s = record { next = refl; to_other = refl; from_other = refl; few = omega arith }
leaves_counts act s = elim s [ ]

-- what is kept after the entry, by what was kept before it: the clock goes on, and only pushes, notes and the endpoint may change
pub record StaysBut (k n : Kept) (pushes : ℕ) : Type 0 where
  pub done : n.done ≡ k.done
  pub clock : n.clock ≡ k.clock + 1
  pub pushed : n.pushed ≡ k.pushed + pushes
  pub opened : n.opened ≡ k.opened
  pub told : n.told ≡ k.told
  pub to_other : n.to_other ≡ k.to_other
  pub from_other : n.from_other ≡ k.from_other

-- the notes that are left after the deed are the last ones
pub record NotesLeft (v : PortView) (n : Kept) (d : Deed) : Type 0 where
  pub within : deed_count note_pushes_by (deeds_of v) + note_pushes_by d ≤ length (notes v.ports v.number (deeds_of v))
  pub are : n.notes ≡ map queued_of (drop (deed_count note_pushes_by (deeds_of v) + note_pushes_by d) (notes v.ports v.number (deeds_of v)))

-- the deeds with one more
deeds_more : (v : PortView) (stamp : ℕ) (act : Act) (d : Deed) → deed_of v.rank.ops act ≡ d → deeds_of (with_log v (entry_of v stamp act ∷ v.log)) ≡ d ∷ deeds_of v
unfolding deeds_of deeds
deeds_more v stamp act d e = ap (λ (x : Deed). x ∷ deeds_of v) e

-- a count with one more entry
count_more : (f : Act → ℕ) (e : Entry) (log : List Entry) → count f (e ∷ log) ≡ count f log + f e.act
unfolding count
count_more f e log = refl

-- a count that the entry leaves
count_same : (f : Act → ℕ) (e : Entry) (log : List Entry) → f e.act ≡ 0 → count f (e ∷ log) ≡ count f log
unfolding count
count_same f e log q = omega arith

-- what is kept after a push or a poll
pub kept_silent : (v : PortView) (k n : Kept) (act : Act) (d : Deed) → IsKept v k → IsSilentAct act → IsSilent d → deed_of v.rank.ops act ≡ d
    → StaysBut k n (pushes_by act) → NotesLeft v n d → StepsBy d k.endpoint n.endpoint
    → IsKept (with_log v (entry_of v (k.clock + 1) act ∷ v.log)) n
unfolding own_at clock_in deed_count
kept_silent v k n act d h t s q stays left steps =
    let e : Entry = entry_of v (k.clock + 1) act in
    let w : PortView = with_log v (e ∷ v.log) in
    let c = leaves_counts act t in
    let ds = deeds_more v (k.clock + 1) act d q in
    let life = life_steps v (e ∷ v.log) d (open_life (deeds_of v)) k.endpoint n.endpoint h.built refl h.open_is h.keeps steps in
    let few_done = h.few_done in
    let few_pushed = h.few_pushed in
    let few_to_other = h.few_to_other in
    let few_from_other = h.few_from_other in
    let few = c.few in
    let done = stays.done in
    let clock = stays.clock in
    let pushed = stays.pushed in
    let to_other = stays.to_other in
    let from_other = stays.from_other in
    let opened = stays.opened in
    let told = stays.told in
    let ns = notes_silent v.ports v.number d (deeds_of v) s in
    let os = open_silent d (deeds_of v) s in
    record {
      done = done ∙ h.done ∙ sym (count_same nexts_by e v.log c.next);
      clock = clock;
      pushed = pushed ∙ ap (λ (x : ℕ). x + pushes_by act) h.pushed ∙ sym (count_more pushes_by e v.log);
      to_other = to_other ∙ h.to_other ∙ sym (count_same drops_to_other e v.log c.to_other);
      from_other = from_other ∙ h.from_other ∙ sym (count_same drops_from_other e v.log c.from_other);
      notes_within = rw (ds, ns) left.within;
      notes_are = rw (ds, ns) left.are;
      opened_are = λ l. rw (opened, ds) (h.opened_are l ∙ sym (knows_silent v.number d (deeds_of v) l s));
      told_are = λ from what. rw (told, ds) (h.told_are from what ∙ sym (told_silent d (deeds_of v) from what s));
      built = subst (AreBuilt (own_at w)) (sym ds) (h.built, deed_silent (own_at v) (open_life (deeds_of v)) (deeds_of v) d s);
      open_is = rw (ds, os) life.0;
      keeps = rw (ds, os) life.1;
      few_done = omega arith;
      few_pushed = omega arith;
      few_to_other = omega arith;
      few_from_other = omega arith;
    }
