use Rattle.std.proofs.Common.{rules, refl}
use Rattle.upath_commands.proofs.lemmas.CallLemmas.{emitted_added, emitted_failed}
use Rattle.upath_commands.proofs.output.Output.answer.Goals as goal

pub returns-in_err-is_answered-clause-emitted : goal.returns-in_err-is_answered-clause-emitted
returns-in_err-is_answered-clause-emitted g c =
    emitted_failed g.W.Sink c.from_residual.result _ _ _ (search rules) (search rules) refl
    c.requires

pub returns-else-len-ge-FULL-clause-emitted : goal.returns-else-len-ge-FULL-clause-emitted
returns-else-len-ge-FULL-clause-emitted g c =
    emitted_added g.W.Sink _ _ _ _ (search rules) refl c.requires
