use Rattle.rdm_json.proofs.Seen.{list_of-items_view}
use Rattle.rdm_json.proofs.value.array_of.Goals as goal

pub returns-in-Some : goal.returns-in-Some
returns-in-Some c = rw (← c.in-Some.ensures, c.as_slice.ensures.value, list_of-items_view)
