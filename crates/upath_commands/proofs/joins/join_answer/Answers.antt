use Rattle.std.proofs.Common.{rules, ap, sym, ◌∙◌}
use Rattle.std.specs.Result.{is_err}
use Rattle.upath_commands.proofs.lemmas.AnswerLemmas.{beneath-is_err}
use Rattle.upath_commands.proofs.joins.join_answer.Goals as goal

pub returns-in-Ok : goal.returns-in-Ok
returns-in-Ok c =
    let ensures = c.beneath.ensures in
    let kept = sym (beneath-is_err c.beneath.result c.args.path.bytes.now ensures.rooted
    ensures.escapes ensures.nul) ∙ ap is_err c.in-Ok.is in
    rw c.in-Beneath.is (rw kept (search rules))

pub returns-in-Err : goal.returns-in-Err
returns-in-Err c =
    let ensures = c.beneath.ensures in
    let refused = sym (beneath-is_err c.beneath.result c.args.path.bytes.now ensures.rooted
    ensures.escapes ensures.nul) ∙ ap is_err c.in-Err.is in
    rw c.in-Beneath.is (rw refused (search rules))
