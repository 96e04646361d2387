-- After the answer to a datagram, a port keeps what its log says.
use Rattle.std.proofs.Common.{◌≡◌, ◌≤◌, ℕ, ◌+◌, List, ◌∷◌, Option, None, refl, ap, ◌∙◌, arith}
use Rattle.std.specs.Prelude.{max}
use Rattle.std.proofs.Math.Nat.{le-max_left}
use Rattle.rdm_wire.specs.declared.Body.{Body}
use Rattle.rdm_wire.specs.declared.Body.TheVariants.{Note, Between}
use Rattle.rdm_wire.specs.declared.NoteBody.{NoteBody}
use Rattle.rdm_wire.specs.declared.NoteBody.TheVariants.{Opened, Said}
use Rattle.rdm_wire.specs.declared.Datagram.{Datagram}
use Rattle.rdm_num.specs.declared.numbers.PortNo.{PortNo}
use Rattle.rdm_model.specs.declared.answer.Handled.{Handled}
use Rattle.rdm_model.specs.declared.answer.Handled.TheVariants as H
use Rattle.rdm_model.specs.declared.answer.Class.TheVariants.{ToOther, FromOther}
use Rattle.rdm_model.specs.declared.entry.Act.{Act}
use Rattle.rdm_model.specs.declared.entry.Act.TheVariants.{Handle}
use Rattle.rdm_model.specs.Deeds.{deed_by_handle, deed_of, deeds}
use Rattle.rdm_model.specs.Steps.{count, nexts_by, pushes_by}
use Rattle.rdm_model.specs.Reports.{drops_to_other, drops_from_other}
use Rattle.rdm_ep.specs.View.{EndpointView}
use Rattle.rdm_port.specs.Views.{PortView}
use Rattle.rdm_port.specs.Kept.{Kept, IsKept, clock_in, deeds_of, own_at, entry_of, with_stash}
use Rattle.rdm_port.specs.Machine.{after_note, life_answer, after_life, drop_counted, machine_handled, after_handled, handle_counted}
use Rattle.rdm_port.proofs.NextDeeds.{KeepsDeeds}
use Rattle.rdm_port.proofs.HandleDeeds.{handled_deeds}

-- the counts but for that of the entries, where only drops are counted
record HandleCounts (k n : Kept) (act : Act) : Type 0 where
  done : n.done ≡ k.done
  clock : n.clock ≡ k.clock
  pushed : n.pushed ≡ k.pushed
  to_other : n.to_other ≡ k.to_other + drops_to_other act
  from_other : n.from_other ≡ k.from_other + drops_from_other act
  few_to_other : drops_to_other act ≤ 1
  few_from_other : drops_from_other act ≤ 1

-- a note leaves the counts
note_counts : (k : Kept) (d : Datagram) (src : PortNo) (note : NoteBody) → HandleCounts k (after_note src note k) (Handle d (H.Took None))
unfolding after_note drops_to_other drops_from_other
note_counts k d src (Opened connid) =
    record { done = refl; clock = refl; pushed = refl; to_other = omega arith; from_other = omega arith; few_to_other = omega arith; few_from_other = omega arith }
note_counts k d src (Said word) =
    record { done = refl; clock = refl; pushed = refl; to_other = omega arith; from_other = omega arith; few_to_other = omega arith; few_from_other = omega arith }

-- a drop is counted
drop_counts : (k : Kept) (d : Datagram) (o : Option EndpointView) (answer : Handled) → HandleCounts k (drop_counted answer (record k { endpoint = o })) (Handle d answer)
unfolding drop_counted drops_to_other drops_from_other
drop_counts k d o (H.Dropped ToOther) =
    record { done = refl; clock = refl; pushed = refl; to_other = refl; from_other = omega arith; few_to_other = omega arith; few_from_other = omega arith }
drop_counts k d o (H.Dropped FromOther) =
    record { done = refl; clock = refl; pushed = refl; to_other = omega arith; from_other = refl; few_to_other = omega arith; few_from_other = omega arith }
drop_counts k d o _ =
    record { done = refl; clock = refl; pushed = refl; to_other = omega arith; from_other = omega arith; few_to_other = omega arith; few_from_other = omega arith }

-- the counts after the answer of the machine
handled_counts : (k : Kept) (d : Datagram) (body : Body) → HandleCounts k (after_handled k d body) (Handle d (machine_handled k d body))
unfolding machine_handled after_handled
handled_counts k d (Note note) = note_counts k d d.src note
handled_counts k d (Between from to load) = drop_counts k d (after_life k.endpoint d) (life_answer k.endpoint d)

-- a port keeps what its log says after it handled a datagram, where it keeps what its deeds say
kept_by : (v : PortView) (k n : Kept) (d : Datagram) (answer : Handled) (stash : List Datagram) → IsKept v k
    → HandleCounts k n (Handle d answer) → KeepsDeeds v (deed_by_handle d.src d.body answer ∷ deeds_of v) n
    → IsKept (with_stash v (entry_of v (max k.clock d.stamp.0 + 1) (Handle d answer) ∷ v.log) stash) (handle_counted n d)
unfolding deeds_of deeds deed_of own_at clock_in count nexts_by pushes_by
kept_by v k n d answer stash h c s =
    let now = le-max_left k.clock d.stamp.0 in
    let clock = c.clock in
    let later : max n.clock d.stamp.0 + 1 ≡ max k.clock d.stamp.0 + 1 = ap (λ (x : ℕ). max x d.stamp.0 + 1) clock in
    record {
      done = let a = c.done in let b = h.done in omega arith;
      clock = later;
      pushed = let a = c.pushed in let b = h.pushed in omega arith;
      to_other = c.to_other ∙ ap (λ (x : ℕ). x + drops_to_other (Handle d answer)) h.to_other;
      from_other = c.from_other ∙ ap (λ (x : ℕ). x + drops_from_other (Handle d answer)) h.from_other;
      notes_within = s.notes_within;
      notes_are = s.notes_are;
      opened_are = s.opened_are;
      told_are = s.told_are;
      built = s.built;
      open_is = s.open_is;
      keeps = s.keeps;
      few_done = let a = c.done in let f = h.few_done in omega arith;
      few_pushed = let a = c.pushed in let f = h.few_pushed in omega arith;
      few_to_other = let a = c.to_other in let f = h.few_to_other in let g = c.few_to_other in omega arith;
      few_from_other = let a = c.from_other in let f = h.few_from_other in let g = c.few_from_other in omega arith;
    }

-- after the answer of the machine to a datagram
pub handle_kept : (v : PortView) (k : Kept) (d : Datagram) (stash : List Datagram) → IsKept v k
    → IsKept (with_stash v (entry_of v (max k.clock d.stamp.0 + 1) (Handle d (machine_handled k d d.body)) ∷ v.log) stash) (handle_counted (after_handled k d d.body) d)
handle_kept v k d stash h = kept_by v k (after_handled k d d.body) d (machine_handled k d d.body) stash h (handled_counts k d d.body) (handled_deeds v k d d.body refl h)

-- the answer of the machine leaves the clock
pub handled_clock : (k : Kept) (d : Datagram) → (after_handled k d d.body).clock ≡ k.clock
handled_clock k d = (handled_counts k d d.body).clock

-- what a port keeps does not depend on its stash
pub restashed : (v : PortView) (k : Kept) (stash : List Datagram) → IsKept v k → IsKept (record v { stash = stash }) k
unfolding deeds_of own_at
restashed v k stash h = record {
  done = h.done;
  clock = h.clock;
  pushed = h.pushed;
  to_other = h.to_other;
  from_other = h.from_other;
  notes_within = h.notes_within;
  notes_are = h.notes_are;
  opened_are = h.opened_are;
  told_are = h.told_are;
  built = h.built;
  open_is = h.open_is;
  keeps = h.keeps;
  few_done = h.few_done;
  few_pushed = h.few_pushed;
  few_to_other = h.few_to_other;
  few_from_other = h.few_from_other;
}
