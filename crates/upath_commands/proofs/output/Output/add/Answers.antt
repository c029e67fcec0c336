use Rattle.std.proofs.Common.{rules, refl}
use Rattle.upath_commands.proofs.lemmas.CallLemmas.{emitted_added, emitted_failed}
use Rattle.upath_commands.proofs.output.Output.add.Goals as goal

pub returns-in_err-extend_from_slice-clause-emitted :
    goal.returns-in_err-extend_from_slice-clause-emitted
returns-in_err-extend_from_slice-clause-emitted g c =
    emitted_failed g.W.Sink c.from_residual.result _ _ _ (search rules) (search rules) refl
    c.requires

pub returns-clause-emitted : goal.returns-clause-emitted
returns-clause-emitted g c =
    emitted_added g.W.Sink _ _ _ _ (search rules) refl c.requires
