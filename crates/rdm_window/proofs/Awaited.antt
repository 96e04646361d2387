-- Whether a message awaits a range, by how many places are missing from its first one on.
use Rattle.std.proofs.Common.{◌≡◌, sym, ap, ◌∙◌, ℕ, ◌+◌, ◌-◌, ◌≤◌, arith, Bool, true, false, true≢false, List, Option, Some, None, length, drop, take, replicate}
use Rattle.std.specs.Prelude.{nat_le, is_some, IsTrue, ◌↔◌}
use Rattle.std.specs.Option.{IsSomeAnd}
use Rattle.std.proofs.lemmas.Bool.{leb-true, le-leb}
use Rattle.rdm_gaps.specs.Places.{AreMissing, run}
use Rattle.std.proofs.lemmas.List.{length-replicate, take-replicate, drop-replicate}
use Rattle.rdm_gaps.proofs.Runs.{missing_by_run, run_by_missing}
use Rattle.rdm_window.specs.Message.{Awaits, opened}
use Rattle.rdm_window.specs.declared.message.Opening.{Opening}

-- each range inside is missing where all is
inside_missing : (at len n : ℕ) → at + len ≤ n → AreMissing at len (replicate n true)
inside_missing at len n inside =
    (rw (length-replicate n true) inside, ap (take len) (drop-replicate at n true) ∙ take-replicate len (n - at) true (omega arith))

-- a message of which no byte came awaits each range inside
pub opened_awaits : (at len : ℕ) (o : Opening) → at + len ≤ o.len → Awaits at len (opened o)
opened_awaits at len o inside = inside_missing at len o.len inside

-- the range lies in the message, and so many places are missing
pub awaits_by_run : (at len count : ℕ) (places : List Bool) → at + len ≤ length places → count ≡ run (drop at places) → IsTrue (nat_le len count) ↔ AreMissing at len places
awaits_by_run at len count places inside is =
    (λ h. missing_by_run at len places inside (let fits : len ≤ count = leb-true len count h in rw (sym is) fits), λ m. le-leb len count (let fits : len ≤ run (drop at places) = run_by_missing at len places m in rw is fits))

-- no message awaits anything
pub none_awaits : {X : Type 0} (o : Option X) (P : X → Type 0) → o ≡ None → IsTrue false ↔ IsSomeAnd o P
none_awaits None P is = (λ h. absurd (true≢false (sym h)), λ h. absurd h)
none_awaits (Some x) P is = absurd (true≢false (ap is_some is))
