use Rattle.std.proofs.Common.{List, sym, subst₂, Option, ℕ, []}
use Rattle.atomic_table.specs.Table.{opening}
use Rattle.rdm_turn.specs.declared.rule.Hand.TheVariants.{Nothing}
use Rattle.rdm_turn.specs.Knowing.{stand}
use Rattle.rdm_turn.specs.Slots.{values_of}
use Rattle.rdm_turn.specs.Turning.{Turning}
use Rattle.rdm_turn.proofs.Seats.{starts}
use Rattle.rdm_turn.proofs.turns.open.Goals as goal

pub new-requires : goal.new-requires
new-requires g c =
    subst₂ (λ (words : List ℕ) (slots : List (Option g.row.V.Denot)). Turning g.V.Tagged.fits c.args.seats (opening words slots (stand c.args.seats [] Nothing))) (sym c.requires.words) (sym c.requires.full)
    (starts g.V.Tagged.fits c.args.seats (values_of c.args.slots.items) c.requires.some.1 c.requires.fits)
