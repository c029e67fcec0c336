use Rattle.std.proofs.Common.{rules, refl, ◌∙◌, sym}
use Rattle.upath_commands.specs.Invocations.{invocation_value}
use Rattle.upath_commands.proofs.lemmas.EndLemmas.{ran, ran_broken, ran_unfinished}
use Rattle.upath_commands.proofs.lemmas.ReplyLemmas.{not_read_error}
use Rattle.upath_commands.proofs.runs.run.Goals as goal

pub returns-in_err-yes-clause-ran : goal.returns-in_err-yes-clause-ran
returns-in_err-yes-clause-ran g c =
    let k = c.in_err-yes.ensures.gave in
    ran_broken g.W.Sink g.E.Sink _ c.args.texts
    (invocation_value c.args.invocation.now) _ c.from_residual.result _ _ (search rules)
    (k.called.wrote.failed ∙ search rules) k

pub returns-in_err-yes-clause-reads : goal.returns-in_err-yes-clause-reads
returns-in_err-yes-clause-reads g c =
    let k = c.in_err-yes.ensures.reads in
    record { failed = k.failed ∙ search rules; reads = k.reads }

pub returns-in_err-finish-clause-ran : goal.returns-in_err-finish-clause-ran
returns-in_err-finish-clause-ran g c =
    let k = c.in_err-finish.ensures.finished in
    ran_unfinished g.W.Sink g.E.Sink _ c.args.texts
    (invocation_value c.args.invocation.now) _ _ c.from_residual-in_err-finish.result _ _ _
    (search rules) (k.ended.failed ∙ search rules) c.in_ok-yes.ensures.gave k refl

pub returns-in_err-finish-clause-reads : goal.returns-in_err-finish-clause-reads
returns-in_err-finish-clause-reads g c =
    let k = c.in_ok-yes.ensures.reads in
    record {
      failed = k.failed ∙ sym (not_read_error c.from_residual-in_err-finish.result
          (search rules));
      reads = k.reads;
    }

pub returns-clause-ran : goal.returns-clause-ran
returns-clause-ran g c =
    ran g.W.Sink g.E.Sink _ c.args.texts
    (invocation_value c.args.invocation.now) _ _ _ _ _ c.in_ok-yes.ensures.gave
    c.in_ok-finish.ensures.finished refl

pub returns-clause-reads : goal.returns-clause-reads
returns-clause-reads g c =
    let k = c.in_ok-yes.ensures.reads in record { failed = k.failed; reads = k.reads }
