use Rattle.std.proofs.Common.{◌≡◌, refl, None, true, false, List, ℕ, if◌then◌else◌, rules}
use Rattle.std.specs.Str.{IsUtf8, is_utf8}
use Rattle.std.proofs.lemmas.Str.{is_utf8-from_IsUtf8, IsUtf8-from_is_utf8}
use Rattle.serde_json.specs.Read.{read}
use Rattle.rdm_script.specs.Script.{text_job, read_job, whole}
use Rattle.rdm_json.specs.declared.refusal.Reason.TheVariants.{NotJson}
use Rattle.rdm_script.proofs.script.text_job.Goals as goal

-- bytes that are no JSON text
no_json : (bytes : List ℕ) → (IsUtf8 bytes → read bytes ≡ None) → text_job bytes ≡ whole NotJson
no_json bytes none =
    elim (is_utf8 bytes) as (λ t. is_utf8 bytes ≡ t → (if t then read_job (read bytes) else whole NotJson) ≡ whole NotJson) [
      | true ↦ λ e. rw (none (IsUtf8-from_is_utf8 bytes e)) refl
      | false ↦ λ e. refl
    ] refl

pub returns-in-Ok : goal.returns-in-Ok
returns-in-Ok c = rw (is_utf8-from_IsUtf8 _ c.in-Ok.ensures.ok.0, c.in-Ok.ensures.ok.1) c.value_job.ensures

pub returns-else-is_memory : goal.returns-else-is_memory
returns-else-is_memory c = rw c.whole.ensures (no_json _ (c.in-Err.ensures.err (λ m. search rules)))
