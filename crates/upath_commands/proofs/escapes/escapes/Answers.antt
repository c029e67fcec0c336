use Rattle.std.proofs.lemmas.Bool.Decides.{same_from_decides}
use Rattle.upath_commands.specs.Escaping.{escapes}
use Rattle.upath_commands.proofs.lemmas.AnswerLemmas.{escapes-Decides}
use Rattle.upath_commands.proofs.escapes.escapes.Goals as goal

pub returns : goal.returns
returns c =
    same_from_decides c.escapes.result (escapes c.args.path.bytes.now) c.escapes.ensures
    (escapes-Decides c.args.path.bytes.now)
