use Rattle.std.proofs.Common.{◌∙◌, ap, ◌&&◌, Some, None, arith}
use Rattle.std.proofs.lemmas.Bool.{eq-eqb}
use Rattle.rdm_match.specs.Matcher.{accepts}
use Rattle.rdm_bins.specs.Shelf.{is_in, first_passing, entries_on}
use Rattle.rdm_bins.specs.Binning.{bin_of_message, group_of_message}
use Rattle.rdm_bins.proofs.Taken.{first_of_bin}
use Rattle.rdm_bins.proofs.Candidates.{untagged_message, exact_message, named_message}
use Rattle.rdm_bins.proofs.first_message.Goals as goal

pub returns-in-None : goal.returns-in-None
returns-in-None c =
    c.first_in_bin.ensures
    ∙ first_of_bin (λ a. is_in bin_of_message None (Some a)) (accepts c.args.r) (entries_on c.args.arrived.now) (λ a h. untagged_message c.args.r a c.in-None.is h)

pub returns-then-want-eq0 : goal.returns-then-want-eq0
returns-then-want-eq0 c =
    c.first_in_bin-then-want-eq0.ensures
    ∙ first_of_bin (λ a. is_in bin_of_message (Some c.in-Some.want.tag) (Some a)) (accepts c.args.r) (entries_on c.args.arrived.now) (λ a h. exact_message c.args.r a c.in-Some.want c.in-Some.is (eq-eqb c.in-Some.want.ignore 0 c.if-want-eq0.true) (omega arith) h)

pub returns-in-Some-from : goal.returns-in-Some-from
returns-in-Some-from c =
    c.first_in_group.ensures
    ∙ ap (λ n. first_passing (λ a. is_in group_of_message (Some n) (Some a) && accepts c.args.r a) (entries_on c.args.arrived.now)) c.from-port.ensures
    ∙ first_of_bin (λ a. is_in group_of_message (Some c.in-Some-from.source.port.0) (Some a)) (accepts c.args.r) (entries_on c.args.arrived.now) (λ a h. named_message c.args.r a c.in-Some-from.source c.in-Some-from.is h)
