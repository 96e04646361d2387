use Rattle.std.proofs.Common.{◌∙◌, Some}
use Rattle.rdm_match.specs.Matcher.{is_recv}
use Rattle.rdm_bins.specs.Shelf.{is_in, entries_on}
use Rattle.rdm_bins.specs.Binning.{group_of_recv}
use Rattle.rdm_bins.proofs.Taken.{first_of_bin}
use Rattle.rdm_bins.proofs.Candidates.{numbered_receive}
use Rattle.rdm_bins.proofs.first_numbered.Goals as goal

pub returns : goal.returns
returns c =
    c.first_in_group.ensures
    ∙ first_of_bin (λ r. is_in group_of_recv (Some c.args.id.0) (Some r)) (is_recv c.args.id.0) (entries_on c.args.posted.now) (λ r h. numbered_receive c.args.id.0 r h)
