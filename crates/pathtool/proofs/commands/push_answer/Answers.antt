use Rattle.std.proofs.Common.{ap, sym}
use Rattle.pathtool.proofs.lemmas.answers.AddLemmas.{adds}
use Rattle.pathtool.specs.Answers.{answer_of, answer_to}
use Rattle.pathtool.proofs.commands.push_answer.Goals as goal

pub returns-in-Some : goal.returns-in-Some
unfolding answer_of
returns-in-Some c =
    let fields = rw c.in-Some.is at c.line_from.ensures in
    adds c.push_answer_to.result _ _ (ap answer_to (sym fields)) c.push_answer_to.ensures

pub returns-in-None : goal.returns-in-None
unfolding answer_of
returns-in-None c =
    let fields = rw c.in-None.is at c.line_from.ensures in
    adds c.push_bad_command.result _ _ (ap answer_to (sym fields)) c.push_bad_command.ensures
