use Rattle.std.proofs.Common.{◌∙◌}
use Rattle.rdm_json.proofs.Keys.{members_known-view}
use Rattle.rdm_json.proofs.value.members_known.Goals as goal

pub returns : goal.returns
returns c = c.each_known.ensures ∙ members_known-view c.args.form c.args.members.now.entries
