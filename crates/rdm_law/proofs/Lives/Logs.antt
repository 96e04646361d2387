-- The log of a port, as the history grows.
use Rattle.std.proofs.Common.{◌≡◌, ℕ, List, ◌∷◌, refl, inl, inr, sym, subst}
use Rattle.std.proofs.lemmas.Bool.{cases_eq, eq-eqb, ne_eqb}
use Rattle.rdm_model.specs.declared.job.Job.{Job}
use Rattle.rdm_model.specs.declared.entry.Entry.{Entry}
use Rattle.rdm_model.specs.Deeds.{log_of}
use Rattle.rdm_model.specs.Local.{Local}

-- an entry of the port is in the port's log
pub log_of-same : (port : ℕ) (e : Entry) (before : List Entry) → e.port.0 ≡ port → log_of port (e ∷ before) ≡ e ∷ log_of port before
unfolding log_of
log_of-same port e before h = rw (eq-eqb e.port.0 port h) refl

-- an entry of another port is not
pub log_of-other : (port : ℕ) (e : Entry) (before : List Entry) → (e.port.0 ≡ port → ⊥) → log_of port (e ∷ before) ≡ log_of port before
unfolding log_of
log_of-other port e before h = rw (ne_eqb e.port.0 port h) refl

-- what holds of each log as it is longer by an entry or not
pub at_log_of : (P : List Entry → Type 0) (port : ℕ) (e : Entry) (before : List Entry)
    → (e.port.0 ≡ port → P (e ∷ log_of port before)) → ((e.port.0 ≡ port → ⊥) → P (log_of port before)) → P (log_of port (e ∷ before))
at_log_of P port e before same other =
    elim (cases_eq e.port.0 port) [
      | inl h ↦ subst P (sym (log_of-same port e before h)) (same h)
      | inr h ↦ subst P (sym (log_of-other port e before h)) (other h)
    ]

-- a log that is right by itself was so before the newest entry
pub local_before : (job : Job) (port : ℕ) (e : Entry) (before : List Entry) → Local job port (log_of port (e ∷ before)) → Local job port (log_of port before)
local_before job port e before h =
    let P : List Entry → Type 0 = λ log. Local job port log in
    elim (cases_eq e.port.0 port) [
      | inl s ↦ (subst P (log_of-same port e before s) h).0
      | inr s ↦ subst P (log_of-other port e before s) h
    ]
