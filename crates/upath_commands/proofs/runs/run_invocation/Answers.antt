use Rattle.std.proofs.Common.{refl, sym}
use Rattle.upath_commands.specs.Invocations.{invocation_value}
use Rattle.upath_commands.proofs.lemmas.EndLemmas.{reported_error}
use Rattle.upath_commands.proofs.runs.run_invocation.Goals as goal

pub returns-in-Err-clause-reported : goal.returns-in-Err-clause-reported
returns-in-Err-clause-reported g c =
    reported_error g.W.Sink g.E.Sink _ c.args.texts
    (invocation_value c.args.invocation.now) c.in-Err.error _ c.run.new.replies _ _
    c.in-Err.ensures.ran (rw (sym c.is_quiet.ensures) c.report_error.ensures) refl
