use Rattle.std.proofs.Common.{ap, ◌∙◌, ◌&&◌, Some, None, arith}
use Rattle.rdm_match.specs.declared.PostedRecv.{PostedRecv}
use Rattle.rdm_match.specs.Matcher.{accepts}
use Rattle.rdm_bins.specs.Shelf.{is_in, first_passing, earlier, below, entries_on}
use Rattle.rdm_bins.specs.Binning.{bin_of_recv}
use Rattle.rdm_bins.proofs.Items.{places_rise}
use Rattle.rdm_bins.proofs.Below.{earlier_below}
use Rattle.rdm_bins.proofs.Taken.{earlier_of_bins}
use Rattle.rdm_bins.proofs.Candidates.{tagged_receive}
use Rattle.rdm_bins.proofs.first_tagged.Goals as goal

pub returns : goal.returns
returns c =
    let tag = c.args.tag in
    let accepted = λ (r : PostedRecv). accepts r c.args.a in
    let others = first_passing (λ r. is_in bin_of_recv None (Some r) && accepted r) (entries_on c.args.posted.now) in
    c.earlier.ensures
    ∙ ap (earlier c.first_in_bin-exact.result) (c.first_in_bin_before-other.ensures ∙ ap (λ end. below end others) c.place_of.ensures)
    ∙ earlier_below c.first_in_bin-exact.result others
    ∙ ap (λ one. earlier one others) c.first_in_bin-exact.ensures
    ∙ earlier_of_bins (λ r. is_in bin_of_recv (Some tag) (Some r)) (λ r. is_in bin_of_recv None (Some r)) accepted (entries_on c.args.posted.now) (places_rise 0 c.args.posted.now.items) (λ r h. tagged_receive r c.args.a tag c.requires (omega arith) h)
