-- Rank 0 says two words to rank 1, near the end of the clock: a history that was not played, of ports that stopped by themselves.
use Rattle.std.proofs.Common.{◌≡◌, ℕ, zero, suc, ◌<◌, List, [], ◌∷◌, refl, arith, ◌⊎◌, inl, inr, sym, ap, subst, slice_get}
use Rattle.std.specs.Prelude.{Some, None, true, ◌==◌, if◌then◌else◌}
use Rattle.std.proofs.lemmas.Bool.{ne_eqb}
use Rattle.rdm_num.specs.declared.numbers.DatagramNo.{DatagramNo}
use Rattle.rdm_wire.specs.declared.Datagram.{Datagram}
use Rattle.rdm_wire.specs.declared.Body.TheVariants as Body
use Rattle.rdm_wire.specs.declared.NoteBody.TheVariants as NoteBody
use Rattle.rdm_model.specs.declared.job.Job.{Job}
use Rattle.rdm_model.specs.declared.job.Instr.TheVariants.{Note}
use Rattle.rdm_model.specs.declared.entry.Entry.{Entry}
use Rattle.rdm_model.specs.declared.entry.Act.TheVariants as Act
use Rattle.rdm_model.specs.declared.answer.OpName.TheVariants as Op
use Rattle.rdm_model.specs.declared.answer.Next.TheVariants as Next
use Rattle.rdm_model.specs.declared.answer.DidWhat.TheVariants as Did
use Rattle.rdm_model.specs.declared.answer.Handled.TheVariants as Handled
use Rattle.rdm_model.specs.declared.report.Report.{Report}
use Rattle.rdm_model.specs.Deeds.{log_of}
use Rattle.rdm_model.specs.Beginnings.{port_count}
use Rattle.rdm_model.specs.Going.{GoesNote}
use Rattle.rdm_model.specs.Steps.{clock}
use Rattle.rdm_model.specs.Wire.{PushedIn, IsUnhandled}
use Rattle.rdm_model.specs.Local.{Local}
use Rattle.rdm_model.specs.Joint.{IsDelivered}
use Rattle.rdm_model.specs.Jobs.{is_fair, law_ops}
use Rattle.rdm_model.specs.Worlds.{World}
use Rattle.rdm_model.specs.Played.{IsReportOf, IsPlayed}
use Rattle.rdm_model.specs.Reports.{RightReport}
use Rattle.rdm_law.specs.Worlds.{IsWaiting, HasWaiting, is_quiet_alone}
use Rattle.rdm_law.proofs.Played.Stopped.{stopped_is_right}
use Rattle.rdm_rows.specs.Jobs.{two_ranks}
use Rattle.rdm_rows.specs.Limits.{default_limits}
use Rattle.rdm_rows.specs.Shown.{finished, told}
use Rattle.rdm_rows.specs.Words.{every_word}

-- four stamps are left
abbrev job : Job
job = record (two_ranks default_limits (Note (record { 0 = 1 }) 5 ∷ Note (record { 0 = 1 }) 6 ∷ []) []) { clock = 9223372036854775803 }

abbrev first : Datagram
first = record { src = record { 0 = 0 }; number = record { 0 = 0 }; stamp = record { 0 = 9223372036854775806 }; dst = record { 0 = 1 }; body = Body.Note (NoteBody.Said 5) }

-- its stamp is the last one, so it can't be handled
abbrev second : Datagram
second = record { src = record { 0 = 0 }; number = record { 0 = 1 }; stamp = record { 0 = 9223372036854775807 }; dst = record { 0 = 1 }; body = Body.Note (NoteBody.Said 6) }

-- both instructions come before the first push; in rounds a push follows each
abbrev history : List Entry
history =
    record { stamp = record { 0 = 9223372036854775807 }; port = record { 0 = 1 }; act = Act.Handle first (Handled.Took None) }
    ∷ record { stamp = record { 0 = 9223372036854775807 }; port = record { 0 = 0 }; act = Act.Push second }
    ∷ record { stamp = record { 0 = 9223372036854775806 }; port = record { 0 = 0 }; act = Act.Push first }
    ∷ record { stamp = record { 0 = 9223372036854775805 }; port = record { 0 = 0 }; act = Act.Next 1 Op.Note (Next.Did Did.Plain) }
    ∷ record { stamp = record { 0 = 9223372036854775804 }; port = record { 0 = 0 }; act = Act.Next 0 Op.Note (Next.Did Did.Plain) }
    ∷ []

-- what is left waits in the stash of rank 1
abbrev stash : ℕ → List Datagram
stash port = if port == 1 then second ∷ [] else []

abbrev world : World
world = record { logs = λ port. log_of port history; queues = λ port. []; stashes = stash; changes = 0 }

abbrev report : Report
report = told history (finished 2 ∷ record (finished 0) { waiting = 1 } ∷ [])

fair : is_fair law_ops job ≡ true
unfolding every_word
fair = refl

is_report : IsReportOf job world report
unfolding every_word
is_report = record {
  history = record { in_order = (((((tt, tt), inl (omega arith)), inl (omega arith)), inl (omega arith)), inr (refl, omega arith)); logs_are = λ port. refl };
  stuck = refl;
  ends = refl;
}

delivered : IsDelivered world.logs history
unfolding every_word
delivered = (((((tt, tt), tt), tt), tt), (refl, inr (inl refl), ((((tt, tt), tt), tt), tt)))

-- other ports have no entries
none_else : (n : ℕ) → log_of (suc (suc n)) history ≡ []
unfolding log_of
none_else n = rw (ne_eqb 0 (suc (suc n)) (λ e. omega arith), ne_eqb 1 (suc (suc n)) (λ e. omega arith)) refl

local_0 : Local job 0 (log_of 0 history)
unfolding every_word
local_0 = (
  (
    (
      (tt, refl, (refl, omega arith, (refl, (Note (record { 0 = 1 }) 5, refl, refl, refl), refl))),
      refl,
      (refl, omega arith, (refl, (Note (record { 0 = 1 }) 6, refl, refl, refl), refl)),
    ),
    refl,
    (refl, omega arith, (refl, refl, refl, (GoesNote (record { to = record { 0 = 1 }; body = NoteBody.Said 5 }), refl, (refl, refl)))),
  ),
  refl,
  (refl, omega arith, (refl, refl, refl, (GoesNote (record { to = record { 0 = 1 }; body = NoteBody.Said 6 }), refl, (refl, refl)))),
)

local_1 : Local job 1 (log_of 1 history)
unfolding every_word
local_1 = (tt, refl, (refl, omega arith, (refl, refl)))

-- each log is right by itself
local : (port : ℕ) → Local job port (log_of port history)
local zero = local_0
local (suc zero) = local_1
local (suc (suc n)) = (let P : List Entry → Type 0 = λ log. Local job (suc (suc n)) log in subst P (sym (none_else n)) tt)

quiet_0 : is_quiet_alone job world 0 ≡ true
unfolding every_word
quiet_0 = refl

quiet_1 : is_quiet_alone job world 1 ≡ true
unfolding every_word
quiet_1 = refl

quiet : (port : ℕ) → port < port_count job → is_quiet_alone job world port ≡ true
quiet zero rank = quiet_0
quiet (suc zero) rank = quiet_1
quiet (suc (suc n)) rank = absurd (omega arith)

pushed_0 : (d : Datagram) → PushedIn d (log_of 0 history) → (first ≡ d) ⊎ (second ≡ d)
unfolding log_of
pushed_0 d (inl is) = inr cc
pushed_0 d (inr (inl is)) = inl cc
pushed_0 d (inr (inr (inl is))) = absurd cc
pushed_0 d (inr (inr (inr (inl is)))) = absurd cc
pushed_0 d (inr (inr (inr (inr never)))) = elim never [ ]

pushed_1 : (d : Datagram) → PushedIn d (log_of 1 history) → (first ≡ d) ⊎ (second ≡ d)
unfolding log_of
pushed_1 d (inl is) = absurd cc
pushed_1 d (inr never) = elim never [ ]

-- two datagrams were pushed
pushed : (d : Datagram) (port : ℕ) → PushedIn d (log_of port history) → (first ≡ d) ⊎ (second ≡ d)
pushed d zero h = pushed_0 d h
pushed d (suc zero) h = pushed_1 d h
pushed d (suc (suc n)) h = (let P : List Entry → Type 0 = λ log. PushedIn d log in elim (subst P (none_else n) h) [ ])

-- nothing waits for rank 0
none_waits : (d : Datagram) → IsWaiting world.logs 0 d → ⊥
none_waits d w =
    elim (pushed d d.src.0 w.1) [
      | inl is ↦ (let e : 1 ≡ d.dst.0 = ap (λ (x : Datagram). x.dst.0) is in let f = w.0 in omega arith)
      | inr is ↦ (let e : 1 ≡ d.dst.0 = ap (λ (x : Datagram). x.dst.0) is in let f = w.0 in omega arith)
    ]

first_handled : (d : Datagram) → first ≡ d → IsUnhandled d (log_of 1 history) → ⊥
unfolding log_of
first_handled d is u = u.1 (ap (λ (x : Datagram). x.src) is) (ap (λ (x : Datagram). x.number) is)

second_fresh : IsUnhandled second (log_of 1 history)
unfolding log_of
second_fresh = (tt, λ s n. (let e : 0 ≡ 1 = ap (λ (x : DatagramNo). x.0) n in omega arith))

second_pushed : PushedIn second (log_of 0 history)
unfolding log_of
second_pushed = inl refl

second_waits : IsWaiting world.logs 1 second
second_waits = (refl, second_pushed, second_fresh)

-- one place is the first
one_place : (k : ℕ) (d : Datagram) → slice_get (second ∷ []) k ≡ Some d → k ≡ 0
one_place zero d h = refl
one_place (suc k) d h = cc

no_place : (k : ℕ) (d : Datagram) → slice_get [] k ≡ Some d → ⊥
no_place k d h = cc

-- the stashes have what waits
stashed : (port : ℕ) → port < port_count job → HasWaiting world.logs port (stash port)
stashed zero rank =
    record {
      only = λ d m. elim m [ ];
      all = λ d w. absurd (none_waits d w);
      once = λ k l d a b. absurd (no_place k d a);
    }
stashed (suc zero) rank =
    record {
      only = λ d m. elim m [
        | inl is ↦ subst (IsWaiting world.logs 1) is second_waits
        | inr never ↦ elim never [ ]
      ];
      all = λ d w. elim (pushed d d.src.0 w.1) [ inl is ↦ absurd (first_handled d is w.2) | inr is ↦ inl is ];
      once = λ k l d a b. (let e = one_place k d a in let f = one_place l d b in omega arith);
    }
stashed (suc (suc n)) rank = absurd (omega arith)

report_is_right : RightReport job report
report_is_right = stopped_is_right job world report fair is_report delivered local (record { quiet = quiet; stash = stashed })

-- in rounds rank 1 handles the first word a stamp sooner
not_played : IsPlayed job report → ⊥
unfolding every_word
not_played played = (let e : ◌≡◌ {A = ℕ} 9223372036854775807 9223372036854775806 = ap (clock job) (played.history.logs_are 1) in absurd (omega (arith, e)))
