-- Deeds that open no life, queue no note and tell nothing, as pushes and polls: what a port keeps after them.
use Rattle.std.proofs.Common.{◌≡◌, ℕ, List, ◌∷◌, Option, Some, None, refl, ◌∙◌, sym, subst}
use Rattle.std.proofs.lemmas.List.{append-nil}
use Rattle.rdm_num.specs.declared.numbers.Connid.{Connid}
use Rattle.rdm_num.specs.declared.numbers.Life.{Life}
use Rattle.rdm_model.specs.declared.entry.Entry.{Entry}
use Rattle.rdm_model.specs.Deeds.{Deed, PushedNote, Pushed, Polled, open_after, open_life, of_life}
use Rattle.rdm_model.specs.Notes.{notes_by, notes, tells_open, opens, knows_open, says, was_told}
use Rattle.rdm_model.specs.Beginnings.{Own}
use Rattle.rdm_ep.specs.View.{EndpointView}
use Rattle.rdm_ep.specs.Eager.{IsEager}
use Rattle.rdm_ep.specs.Keeps.{Keeps}
use Rattle.rdm_port.specs.Views.{PortView}
use Rattle.rdm_port.specs.Kept.{IsOpen, KeepsLife, deeds_of, own_at, with_log}
use Rattle.rdm_port.specs.Built.{AreBuilt, IsBuiltDeed}
use Rattle.rdm_port.proofs.BuiltDeeds.{eager_of}
use Rattle.rdm_port.proofs.NextDeeds.{of_open}

-- a push or a poll
abbrev pub IsSilent : Deed → Type 0
IsSilent PushedNote = Unit {0}
IsSilent Pushed = Unit {0}
IsSilent Polled = Unit {0}
IsSilent _ = ⊥

-- it queues no note
pub notes_silent : (ports port : ℕ) (d : Deed) (log : List Deed) → IsSilent d → notes ports port (d ∷ log) ≡ notes ports port log
unfolding notes notes_by
notes_silent ports port PushedNote log s = append-nil (notes ports port log)
notes_silent ports port Pushed log s = append-nil (notes ports port log)
notes_silent ports port Polled log s = append-nil (notes ports port log)
notes_silent ports port d log s = elim s [ ]

-- it tells of no life
pub knows_silent : (port : ℕ) (d : Deed) (log : List Deed) (l : Life) → IsSilent d → knows_open port (d ∷ log) l ≡ knows_open port log l
unfolding knows_open tells_open opens
knows_silent port PushedNote log l s = refl
knows_silent port Pushed log l s = refl
knows_silent port Polled log l s = refl
knows_silent port d log l s = elim s [ ]

-- it tells no word
pub told_silent : (d : Deed) (log : List Deed) (from what : ℕ) → IsSilent d → was_told (d ∷ log) from what ≡ was_told log from what
unfolding was_told says
told_silent PushedNote log from what s = refl
told_silent Pushed log from what s = refl
told_silent Polled log from what s = refl
told_silent d log from what s = elim s [ ]

-- it opens and closes no life
pub open_silent : (d : Deed) (log : List Deed) → IsSilent d → open_life (d ∷ log) ≡ open_life log
unfolding open_life open_after
open_silent PushedNote log s = refl
open_silent Pushed log s = refl
open_silent Polled log s = refl
open_silent d log s = elim s [ ]

-- it is built after all deeds
pub deed_silent : (own : Connid → Own) (o : Option Connid) (log : List Deed) (d : Deed) → IsSilent d → IsBuiltDeed own o log d
deed_silent own None log PushedNote s = tt
deed_silent own None log Pushed s = tt
deed_silent own None log Polled s = tt
deed_silent own (Some connid) log PushedNote s = tt
deed_silent own (Some connid) log Pushed s = tt
deed_silent own (Some connid) log Polled s = tt
deed_silent own o log d s = elim s [ ]

-- the endpoint after a deed, by the endpoint before it
abbrev pub StepsBy : Deed → Option EndpointView → Option EndpointView → Type 0
StepsBy d None None = Unit {0}
StepsBy d (Some e) (Some f) = (f.own ≡ e.own) × ((log : List Deed) → IsEager e.own log → Keeps log e → Keeps (d ∷ log) f)
StepsBy d _ _ = ⊥

-- the open life keeps such a step
pub life_steps : (v : PortView) (log : List Entry) (d : Deed) (o : Option Connid) (x y : Option EndpointView) → AreBuilt (own_at v) (deeds_of v)
    → open_life (deeds_of v) ≡ o → IsOpen v o x → KeepsLife (deeds_of v) o x → StepsBy d x y
    → IsOpen (with_log v log) o y × KeepsLife (d ∷ deeds_of v) o y
unfolding own_at
life_steps v log d None None None b q i k s = (tt, tt)
life_steps v log d (Some connid) (Some e) (Some f) b q i k s = (
  s.0 ∙ i,
  subst (λ (ds : List Deed). Keeps ds f) (sym (of_open connid d (deeds_of v) q))
      (s.1 (of_life connid (deeds_of v)) (subst (λ (own : Own). IsEager own (of_life connid (deeds_of v))) (sym i) (eager_of (own_at v) connid (deeds_of v) b)) k),
)
life_steps v log d None None (Some f) b q i k s = elim s [ ]
life_steps v log d None (Some e) y b q i k s = elim i [ ]
life_steps v log d (Some connid) None y b q i k s = elim i [ ]
life_steps v log d (Some connid) (Some e) None b q i k s = elim s [ ]
