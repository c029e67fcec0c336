use Rattle.std.proofs.Common.{refl}
use Rattle.upath_commands.proofs.lemmas.EndLemmas.{refused}
use Rattle.upath_commands.proofs.runs.refuse.Goals as goal

pub returns-in-Err-clause-reported : goal.returns-in-Err-clause-reported
returns-in-Err-clause-reported g c =
    refused g.W.Sink g.E.Sink _ record {
      answers = c.args.replies.now.answers;
      messages = c.report_usage.new.sink;
      line = c.args.replies.now.line;
      tally = c.args.replies.now.tally;
    } _ _ c.in-Err.ensures.err c.report_error.ensures refl
