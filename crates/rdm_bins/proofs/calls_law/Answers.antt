use Rattle.rdm_bins.proofs.Calls.{events_tell, runs_tell, runs_go_on, cancels_take_out, forgets_leave, taken_where_any}
use Rattle.rdm_bins.proofs.Free.{numbers_stay_free}
use Rattle.rdm_bins.proofs.calls_law.Goals as goal

pub returns : goal.returns
returns c = record {
  tell = (events_tell, runs_tell);
  go_on = runs_go_on;
  cancels = cancels_take_out;
  forgets = forgets_leave;
  taken = taken_where_any;
  free = numbers_stay_free;
}
