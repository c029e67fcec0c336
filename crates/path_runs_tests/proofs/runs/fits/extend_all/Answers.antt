use Rattle.std.proofs.Common.{arith}
use Rattle.std.proofs.lemmas.Iterator.{YieldsList-from_slice}
use Rattle.std.proofs.lemmas.Iterator.Consumers.{YieldsList-from_copied, YieldsList-at}
use Rattle.unix_path.specs.Buffers.{path_bytes}
use Rattle.path_runs.proofs.lemmas.joins.ExtendLemmas.{JoinsBeginning-exceeds}
use Rattle.path_runs_tests.proofs.runs.fits.extend_all.Goals as goal

pub returns-in_err-extend : goal.returns-in_err-extend
returns-in_err-extend c = λ rootless fits.
    let paths = YieldsList-from_copied (YieldsList-at c.copied.ensures.source
    (YieldsList-from_slice c.args.paths.now c.iter.ensures.rest)) in
    absurd (omega (
      arith,
      fits,
      JoinsBeginning-exceeds (path_bytes c.args.buffer.now) _ _ paths rootless
          c.in_err-extend.ensures.err,
    ))
