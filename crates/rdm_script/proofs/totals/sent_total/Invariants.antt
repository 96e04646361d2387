use Rattle.std.proofs.Common.{◌≡◌, map, take}
use Rattle.std.specs.Prelude.{sum_by}
use Rattle.rdm_model.specs.Jobs.{sent_length}
use Rattle.rdm_script.specs.Drafts.{made, capped}
use Rattle.rdm_script.proofs.totals.sent_total.Given as goal

abbrev pub invariant-loop-draft : goal.invariant-loop-draft
invariant-loop-draft l = l.total ≡ capped (sum_by sent_length (map made (take l.draft-index l.drafts)))
