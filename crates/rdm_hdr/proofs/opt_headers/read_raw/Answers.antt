use Rattle.std.proofs.Common.{refl}
use Rattle.rdm_hdr.proofs.opt_headers.read_raw.Goals as goal
use Rattle.rdm_hdr.proofs.Opts.{no_raw-stands, raw-longer}
use Rattle.rdm_hdr.specs.Reading.{begins}

pub returns-then-not-is_there : goal.returns-then-not-is_there
returns-then-not-is_there c = rw (c.if-not-is_there.true, no_raw-stands c.args.bytes.now) refl

pub returns-then-bytes-lt36 : goal.returns-then-bytes-lt36
returns-then-bytes-lt36 c = rw (c.if-not-is_there.false, raw-longer _ c.args.bytes.now c.if-bytes-lt36.true) refl

pub returns : goal.returns
unfolding begins
returns c = rw (c.then_some.ensures, c.starts_with.ensures.value, c.raw_bytes.ensures, c.u32_at.ensures, c.u32_at-2.ensures, c.if-not-is_there.false) refl
