use Rattle.std.proofs.Common.{rules, ◌∙◌}
use Rattle.upath_commands.proofs.lemmas.GiveLemmas.{gave_no_paths, gave_paths}
use Rattle.upath_commands.proofs.runs.give_operands.Goals as goal

pub returns-in_err-answer_operands-clause-gave : goal.returns-in_err-answer_operands-clause-gave
returns-in_err-answer_operands-clause-gave g c =
    let k = c.in_err-answer_operands.ensures in
    gave_no_paths g.W.Sink g.E.Sink _ _ c.from_residual.result _ _ _ (search rules)
    (k.called.wrote.failed ∙ search rules) k

pub returns-in_err-answer_operands-clause-no_read :
    goal.returns-in_err-answer_operands-clause-no_read
returns-in_err-answer_operands-clause-no_read g c =
    let unread = c.in_err-answer_operands.ensures.no_read in search rules

pub returns-clause-gave : goal.returns-clause-gave
returns-clause-gave g c =
    gave_paths g.W.Sink g.E.Sink _ _ c.yes_of.result _ _ _ c.requires
    c.in_ok-answer_operands.ensures c.yes_of.ensures
