use Rattle.std.proofs.Common.{rules, ◌∙◌}
use Rattle.upath_commands.proofs.lemmas.GiveLemmas.{gave_no_records, gave_records}
use Rattle.upath_commands.proofs.runs.give_input.Goals as goal

pub returns-in_err-answer_records_read-clause-gave :
    goal.returns-in_err-answer_records_read-clause-gave
returns-in_err-answer_records_read-clause-gave g c =
    let k = c.in_err-answer_records_read.ensures in
    gave_no_records g.W.Sink g.E.Sink _ g.R.Source _ c.from_residual.result _ _ _ _ _
    (search rules) (k.called.wrote.failed ∙ search rules) k

pub returns-in_err-answer_records_read-clause-reads :
    goal.returns-in_err-answer_records_read-clause-reads
returns-in_err-answer_records_read-clause-reads g c =
    let k = c.in_err-answer_records_read.ensures.reads in
    record { failed = k.failed ∙ search rules; reads = k.reads }

pub returns-clause-gave : goal.returns-clause-gave
returns-clause-gave g c =
    gave_records g.W.Sink g.E.Sink _ g.R.Source _ c.yes_of.result _ _ _ _ _ c.requires.new
    c.in_ok-answer_records_read.ensures c.yes_of.ensures

pub returns-clause-reads : goal.returns-clause-reads
returns-clause-reads g c =
    let k = c.in_ok-answer_records_read.ensures.reads in
    record { failed = k.failed; reads = k.reads }
