use Rattle.byte_streams.proofs.lemmas.WriteLemmas.{OnErr-of}
use Rattle.upath_commands.proofs.lemmas.CallLemmas.{Told-none}
use Rattle.upath_commands.proofs.messages.report_usage.Goals as goal

pub returns-in_err-push_usage-clause-err : goal.returns-in_err-push_usage-clause-err
returns-in_err-push_usage-clause-err g c =
    OnErr-of c.from_residual.result (Told-none g.E.Sink _)
