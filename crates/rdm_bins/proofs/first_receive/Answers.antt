use Rattle.std.proofs.Common.{◌∙◌, Some, None}
use Rattle.rdm_match.specs.Matcher.{accepts}
use Rattle.rdm_bins.specs.Shelf.{is_in, entries_on}
use Rattle.rdm_bins.specs.Binning.{bin_of_recv}
use Rattle.rdm_bins.proofs.Taken.{first_of_bin}
use Rattle.rdm_bins.proofs.Candidates.{untagged_receive}
use Rattle.rdm_bins.proofs.first_receive.Goals as goal

pub returns-in-None : goal.returns-in-None
returns-in-None c =
    c.first_in_bin.ensures
    ∙ first_of_bin (λ r. is_in bin_of_recv None (Some r)) (λ r. accepts r c.args.a) (entries_on c.args.posted.now) (λ r h. untagged_receive r c.args.a c.in-None.is h)
