use Rattle.std.proofs.lemmas.Grind.{common_steps}
use Rattle.std.proofs.Common.{arith}
use Rattle.unix_path.proofs.lemmas.names.AncestorLemmas.{length-ancestors_of}
use Rattle.unix_path.proofs.path.Path.ancestors.Goals as goal

pub returns-clause-len : goal.returns-clause-len
returns-clause-len c = grind (arith, common_steps, length-ancestors_of)
