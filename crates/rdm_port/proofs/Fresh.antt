-- A port before any step keeps what its log says.
use Rattle.std.proofs.Common.{◌≡◌, ◌≤◌, ℕ, Bool, true, false, List, [], length, refl, sym, subst, arith}
use Rattle.std.specs.Prelude.{◌&&◌, ◌==◌}
use Rattle.rdm_model.specs.declared.entry.Entry.{Entry}
use Rattle.rdm_model.specs.Deeds.{deeds, open_life, deed_count}
use Rattle.rdm_model.specs.Notes.{notes, knows_open, was_told}
use Rattle.rdm_model.specs.Steps.{count}
use Rattle.rdm_port.specs.Views.{PortView}
use Rattle.rdm_port.specs.Kept.{Kept, IsKept, IsSoundPort, new_kept, clock_in, deeds_of, is_opened, is_told, places_of, with_log}

-- a test beside one that fails
no_both : (b : Bool) → false ≡ (b && false)
no_both true = refl
no_both false = refl

-- a port with no entry keeps what it began with
fresh_kept : (v : PortView) → IsKept (with_log v []) (new_kept v.start)
unfolding count clock_in deeds_of deeds open_life deed_count notes knows_open was_told is_opened is_told
fresh_kept v =
    record {
      done = refl;
      clock = refl;
      pushed = refl;
      to_other = refl;
      from_other = refl;
      notes_within = omega arith;
      notes_are = refl;
      opened_are = λ l. no_both (l.port.0 == v.number);
      told_are = λ from what. refl;
      built = tt;
      open_is = tt;
      keeps = tt;
      few_done = omega arith;
      few_pushed = omega arith;
      few_to_other = omega arith;
      few_from_other = omega arith;
    }

-- a port before any step is sound, where its log has room for the entries of its instructions
pub fresh_sound : (v : PortView) (k : Kept) (room : ℕ) → v.log ≡ [] → k ≡ new_kept v.start → length v.rank.ops ≤ room → IsSoundPort v k room
unfolding places_of
fresh_sound v k room l e long =
    subst (λ (x : Kept). IsSoundPort v x room) (sym e)
    (record {
      kept = subst (λ (es : List Entry). IsKept (with_log v es) (new_kept v.start)) (sym l) (fresh_kept v);
      roomy = omega arith;
    })
