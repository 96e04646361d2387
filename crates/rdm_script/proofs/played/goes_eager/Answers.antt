use Rattle.rdm_script.proofs.EagerLengths.{eager_capped}
use Rattle.rdm_script.proofs.played.goes_eager.Goals as goal

pub returns : goal.returns
returns c =
    rw (c.is_eager.ensures, c.choose.ensures, c.spans_length-length.ensures, c.as_slice.ensures.items, c.is_some-tagged.ensures, c.is_some-cq_data.ensures)
    (eager_capped _ _ _ c.args.limits.now c.is_u32.ensures)
