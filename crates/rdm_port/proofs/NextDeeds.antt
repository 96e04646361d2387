-- What a port keeps after an instruction, by the deed that it was.
use Rattle.std.proofs.Common.{◌≡◌, ◌≤◌, ℕ, ◌+◌, true, false, List, ◌∷◌, ◌++◌, length, map, drop, Option, Some, None, refl, ap, ◌∙◌, sym, subst, arith}
use Rattle.std.specs.Prelude.{slice_get, option_map}
use Rattle.std.proofs.lemmas.List.{map-append, length-append, drop-append-le}
use Rattle.rdm_num.specs.declared.numbers.Connid.{Connid}
use Rattle.rdm_num.specs.declared.numbers.Life.{Life}
use Rattle.rdm_model.specs.declared.job.Instr.{Instr}
use Rattle.rdm_model.specs.declared.answer.Next.{Next}
use Rattle.rdm_model.specs.Deeds.{Deed, deed_by_next, deed_of, deeds, open_after, open_life, is_connid, of_life, deed_count}
use Rattle.rdm_model.specs.Notes.{notes_by, notes, note_pushes_by, tells_open, opens, knows_open, says, was_told}
use Rattle.rdm_model.specs.Beginnings.{Own}
use Rattle.rdm_model.specs.Steps.{count, nexts_by, pushes_by}
use Rattle.rdm_model.specs.Reports.{drops_to_other, drops_from_other}
use Rattle.rdm_ep.specs.View.{EndpointView}
use Rattle.rdm_ep.specs.Keeps.{Keeps}
use Rattle.rdm_ep.specs.Eager.{IsEagerDeed, IsEager}
use Rattle.rdm_ep.proofs.KeepsQuiet.{IsQuiet, keeps_quiet}
use Rattle.rdm_port.specs.declared.kept.QueuedNote.{QueuedNote}
use Rattle.rdm_port.specs.declared.kept.Told.{Told}
use Rattle.rdm_port.specs.Views.{PortView}
use Rattle.rdm_port.specs.Kept.{Kept, IsKept, IsOpen, KeepsLife, clock_in, deeds_of, own_at, queued_of, is_opened, is_told, with_log}
use Rattle.rdm_port.specs.Machine.{next_counted, next_entry}
use Rattle.rdm_port.specs.Built.{AreBuilt, IsBuiltDeed}
use Rattle.rdm_port.proofs.Counted.{OpenFacts, open_facts, none_open}
use Rattle.rdm_port.proofs.BuiltDeeds.{that_is_open}
use Rattle.rdm_port.proofs.NextAgrees.{open_eager}

-- what a port keeps of these deeds
pub record KeepsDeeds (v : PortView) (log : List Deed) (k : Kept) : Type 0 where
  pub notes_within : deed_count note_pushes_by log ≤ length (notes v.ports v.number log)
  pub notes_are : k.notes ≡ map queued_of (drop (deed_count note_pushes_by log) (notes v.ports v.number log))
  pub opened_are : (l : Life) → is_opened k.opened l ≡ knows_open v.number log l
  pub told_are : (from what : ℕ) → is_told k.told from what ≡ was_told log from what
  pub built : AreBuilt (own_at v) log
  pub open_is : IsOpen v (open_life log) k.endpoint
  pub keeps : KeepsLife log (open_life log) k.endpoint

-- the counts are the same
pub record CountsSame (k new : Kept) : Type 0 where
  pub done : new.done ≡ k.done
  pub clock : new.clock ≡ k.clock
  pub pushed : new.pushed ≡ k.pushed
  pub to_other : new.to_other ≡ k.to_other
  pub from_other : new.from_other ≡ k.from_other

-- a port keeps what its log says after an instruction, where it keeps what its deeds say
pub kept_by : (v : PortView) (k new : Kept) (instr : Instr) (answer : Next) (d : Deed) → IsKept v k → deed_by_next (slice_get v.rank.ops k.done) answer ≡ d
    → CountsSame k new → KeepsDeeds v (d ∷ deeds_of v) new → IsKept (with_log v (next_entry v k instr answer ∷ v.log)) (next_counted new)
unfolding deeds_of deeds deed_of own_at clock_in count nexts_by pushes_by drops_to_other drops_from_other
kept_by v k new instr answer d h e c s =
    let t = subst (λ (x : Deed). KeepsDeeds v (x ∷ deeds_of v) new) (sym e) s in
    record {
      done = ap (λ (n : ℕ). n + 1) (c.done ∙ h.done);
      clock = ap (λ (n : ℕ). n + 1) c.clock;
      pushed = let a = c.pushed in let b = h.pushed in omega arith;
      to_other = let a = c.to_other in let b = h.to_other in omega arith;
      from_other = let a = c.from_other in let b = h.from_other in omega arith;
      notes_within = t.notes_within;
      notes_are = t.notes_are;
      opened_are = t.opened_are;
      told_are = t.told_are;
      built = t.built;
      open_is = t.open_is;
      keeps = t.keeps;
      few_done = let a = c.done in let b = c.clock in let f = h.few_done in omega arith;
      few_pushed = let a = c.pushed in let b = c.clock in let f = h.few_pushed in omega arith;
      few_to_other = let a = c.to_other in let b = c.clock in let f = h.few_to_other in omega arith;
      few_from_other = let a = c.from_other in let b = c.clock in let f = h.few_from_other in omega arith;
    }

-- the notes after a deed that pushes none
pub record NotesMore (v : PortView) (log : List Deed) (ns : List QueuedNote) : Type 0 where
  pub within : deed_count note_pushes_by log ≤ length (notes v.ports v.number log)
  pub notes_are : ns ≡ map queued_of (drop (deed_count note_pushes_by log) (notes v.ports v.number log))

-- such a deed queues its notes last
pub notes_more : (v : PortView) (k : Kept) (d : Deed) → IsKept v k → note_pushes_by d ≡ 0
    → NotesMore v (d ∷ deeds_of v) (k.notes ++ map queued_of (notes_by v.ports v.number d))
unfolding notes deed_count
notes_more v k d h e =
    let log = deeds_of v in
    let old = notes v.ports v.number log in
    let new = notes_by v.ports v.number d in
    let same : deed_count note_pushes_by log + note_pushes_by d ≡ deed_count note_pushes_by log = omega arith in
    let size = length-append old new in
    let within = h.notes_within in
    record {
      within = omega arith;
      notes_are =
          ap (λ (ns : List QueuedNote). ns ++ map queued_of new) h.notes_are
          ∙ sym (map-append queued_of (drop (deed_count note_pushes_by log) old) new)
          ∙ ap (map queued_of) (sym (drop-append-le (deed_count note_pushes_by log) old new within))
          ∙ ap (λ (n : ℕ). map queued_of (drop n (old ++ new))) (sym same);
    }

-- a deed that pushes no note, opens no life and brings no note
pub record IsStill (d : Deed) : Type 0 where
  pub push : note_pushes_by d ≡ 0
  pub tells : (l : Life) → tells_open l d ≡ false
  pub opens_none : (l : Life) → opens l d ≡ false
  pub says_none : (from what : ℕ) → says from what d ≡ false
  pub still : (was : Option Connid) → open_after was d ≡ was

-- what a deed makes of the endpoint of the open life
pub record EndpointAfter (v : PortView) (log : List Deed) (d : Deed) (o : Option EndpointView) : Type 0 where
  pub built : IsBuiltDeed (own_at v) (open_life log) log d
  pub open_is : IsOpen v (open_life log) o
  pub keeps : KeepsLife (d ∷ log) (open_life log) o

-- after such a deed a port keeps what it kept, and the notes of the deed
pub still_kept : (v : PortView) (k new : Kept) (d : Deed) → IsKept v k → IsStill d → new.notes ≡ k.notes ++ map queued_of (notes_by v.ports v.number d)
    → new.opened ≡ k.opened → new.told ≡ k.told → EndpointAfter v (deeds_of v) d new.endpoint → KeepsDeeds v (d ∷ deeds_of v) new
unfolding open_life knows_open was_told
still_kept v k new d h still noted opened told e =
    let more = notes_more v k d h still.push in
    let stays = still.still (open_life (deeds_of v)) in
    record {
      notes_within = more.within;
      notes_are = noted ∙ more.notes_are;
      opened_are = λ l.
          let t = still.tells l in
          let o = still.opens_none l in
          ap (λ (ls : List Life). is_opened ls l) opened ∙ h.opened_are l ∙ rw (t, o) refl;
      told_are = λ from what.
          let s = still.says_none from what in
          ap (λ (ts : List Told). is_told ts from what) told ∙ h.told_are from what ∙ rw s refl;
      built = (h.built, e.built);
      open_is = subst (λ (o : Option Connid). IsOpen v o new.endpoint) (sym stays) e.open_is;
      keeps = subst (λ (o : Option Connid). KeepsLife (d ∷ deeds_of v) o new.endpoint) (sym stays) e.keeps;
    }

-- a deed of the open life is one of its deeds
pub of_open : (connid : Connid) (d : Deed) (log : List Deed) → open_life log ≡ Some connid → of_life connid (d ∷ log) ≡ d ∷ of_life connid log
unfolding of_life
of_open connid d log e = let t : is_connid (open_life log) connid ≡ true = ap (λ (o : Option Connid). is_connid o connid) e ∙ that_is_open connid in rw t refl

-- the endpoint of the open life after an eager deed
pub changed : (v : PortView) (k : Kept) (d : Deed) (connid : Connid) (e new : EndpointView) → OpenFacts v k connid e → IsEagerDeed (own_at v connid) (of_life connid (deeds_of v)) d
    → new.own ≡ e.own → Keeps (d ∷ of_life connid (deeds_of v)) new → EndpointAfter v (deeds_of v) d (Some new)
changed v k d connid e new f plain own keeps =
    let log = deeds_of v in
    record {
      built = subst (λ (o : Option Connid). IsBuiltDeed (own_at v) o log d) (sym f.open_is) plain;
      open_is = subst (λ (o : Option Connid). IsOpen v o (Some new)) (sym f.open_is) (own ∙ f.own_is);
      keeps = subst (λ (o : Option Connid). KeepsLife (d ∷ log) o (Some new)) (sym f.open_is) (subst (λ (ds : List Deed). Keeps ds new) (sym (of_open connid d log f.open_is)) keeps);
    }

-- the same, where the endpoint is kept and its change is a function of it
pub changed_by : (v : PortView) (k : Kept) (d : Deed) (f : EndpointView → EndpointView) (e : EndpointView) → IsKept v k → k.endpoint ≡ Some e → (f e).own ≡ e.own
    → ((connid : Connid) → OpenFacts v k connid e → IsEagerDeed (own_at v connid) (of_life connid (deeds_of v)) d)
    → ((connid : Connid) → OpenFacts v k connid e → IsEager e.own (d ∷ of_life connid (deeds_of v)) → Keeps (d ∷ of_life connid (deeds_of v)) (f e))
    → EndpointAfter v (deeds_of v) d (option_map f k.endpoint)
changed_by v k d f e h q own plain keeps =
    let facts = open_facts v k e h q in
    let connid = facts.0 in
    let is = facts.1 in
    let log = of_life connid (deeds_of v) in
    let here = plain connid is in
    let all : IsEager e.own (d ∷ log) = (open_eager v k connid e h is, subst (λ (o : Own). IsEagerDeed o log d) (sym is.own_is) here) in
    subst (λ (o : Option EndpointView). EndpointAfter v (deeds_of v) d (option_map f o)) (sym q) (changed v k d connid e (f e) is here own (keeps connid is all))

-- the endpoint after a deed that does nothing to it
pub quiet_after : (v : PortView) (k : Kept) (d : Deed) → IsKept v k → IsQuiet d → ((o : Option Connid) → IsBuiltDeed (own_at v) o (deeds_of v) d)
    → ((connid : Connid) → IsEagerDeed (own_at v connid) (of_life connid (deeds_of v)) d) → EndpointAfter v (deeds_of v) d k.endpoint
quiet_after v k d h q built plain =
    (elim k.endpoint as (λ o. k.endpoint ≡ o → EndpointAfter v (deeds_of v) d o) [
      | None ↦ λ e.
          let none = none_open v k h e in
          record {
            built = built (open_life (deeds_of v));
            open_is = subst (λ (o : Option Connid). IsOpen v o None) (sym none) tt;
            keeps = subst (λ (o : Option Connid). KeepsLife (d ∷ deeds_of v) o None) (sym none) tt;
          }
      | Some x ↦ λ e.
          let facts = open_facts v k x h e in
          let is = facts.1 in
          changed v k d facts.0 x x is (plain facts.0) refl (keeps_quiet d (of_life facts.0 (deeds_of v)) x q (open_eager v k facts.0 x h is) is.keeps)
    ]) refl
