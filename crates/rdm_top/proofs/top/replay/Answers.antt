use Rattle.rdm_top.proofs.PlayedJobs.{is_fair-job_in, stays_built-job_in}
use Rattle.std.proofs.Common.{ℕ, List, sym, ◌∙◌, subst}
use Rattle.std.specs.Io.KnownBytes.{Appends}
use Rattle.rdm_top.specs.Reads.{IsRead}
use Rattle.rdm_top.specs.Promise.{GavePart}
use Rattle.rdm_top.proofs.Whole.{keeps, plays}
use Rattle.rdm_top.proofs.top.replay.Goals as goal

pub play-requires-clause-fair : goal.play-requires-clause-fair
play-requires-clause-fair g c = is_fair-job_in _ _ c.in-Ok-job_of.ensures

pub play-requires-clause-built : goal.play-requires-clause-built
play-requires-clause-built g c = stays_built-job_in _ _ c.in-Ok-job_of.ensures

pub returns-in_default-clause-replies : goal.returns-in_default-clause-replies
returns-in_default-clause-replies g c = keeps (g.K.Sink.given c.args.out.now)

pub returns-in_default-text-clause-replies : goal.returns-in_default-text-clause-replies
returns-in_default-text-clause-replies g c = keeps (g.K.Sink.given c.args.out.now)

pub returns-in-Ok-write_all-clause-replies : goal.returns-in-Ok-write_all-clause-replies
returns-in-Ok-write_all-clause-replies g c =
    let left = g.S.Source.left c.args.src.now in
    let rest = g.S.Source.left c.read_all.new.source in
    let given = g.K.Sink.given c.args.out.now in
    let now = g.K.Sink.given c.write_all.new.sink in
    let read = subst (λ (b : List ℕ). IsRead left rest b) (sym c.as_slice.ensures.value) c.in-Ok.ensures.bytes in (
      c.in-Ok-play.report,
      plays left rest c.as_slice.result.now c.in-Ok-job_of.job c.in-Ok-play.report read c.in-Ok-job_of.ensures c.in-Ok-play.ensures,
      c.if-report.true,
      subst (λ (t : List ℕ). Appends given now t) (c.as_slice-2.ensures ∙ c.in-Ok-text.ensures) c.in-Ok-write_all.ensures.ok,
    )

pub returns-in-Ok-2-clause-replies : goal.returns-in-Ok-2-clause-replies
returns-in-Ok-2-clause-replies g c =
    let left = g.S.Source.left c.args.src.now in
    let rest = g.S.Source.left c.read_all.new.source in
    let given = g.K.Sink.given c.args.out.now in
    let now = g.K.Sink.given c.write_all.new.sink in
    let read = subst (λ (b : List ℕ). IsRead left rest b) (sym c.as_slice.ensures.value) c.in-Ok.ensures.bytes in (
      c.in-Ok-play.report,
      plays left rest c.as_slice.result.now c.in-Ok-job_of.job c.in-Ok-play.report read c.in-Ok-job_of.ensures c.in-Ok-play.ensures,
      c.if-report.false,
      subst (λ (t : List ℕ). Appends given now t) (c.as_slice-2.ensures ∙ c.in-Ok-text.ensures) c.in-Ok-2.ensures.ok,
    )

pub returns-clause-replies : goal.returns-clause-replies
returns-clause-replies g c =
    let left = g.S.Source.left c.args.src.now in
    let rest = g.S.Source.left c.read_all.new.source in
    let given = g.K.Sink.given c.args.out.now in
    let now = g.K.Sink.given c.write_all.new.sink in
    let read = subst (λ (b : List ℕ). IsRead left rest b) (sym c.as_slice.ensures.value) c.in-Ok.ensures.bytes in (
      c.in-Ok-play.report,
      plays left rest c.as_slice.result.now c.in-Ok-job_of.job c.in-Ok-play.report read c.in-Ok-job_of.ensures c.in-Ok-play.ensures,
      subst (λ (t : List ℕ). GavePart given now t) (c.as_slice-2.ensures ∙ c.in-Ok-text.ensures) c.in-Err.ensures.err,
    )
