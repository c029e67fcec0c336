use Rattle.std.proofs.Common.{arith}
use Rattle.std.proofs.lemmas.Grind.{common_steps}
use Rattle.path_archive.proofs.lemmas.marks.OrderLemmas.{dot_stripped, no_dot}
use Rattle.path_archive.proofs.slot.without_dot.Goals as goal

pub returns-in-Ok : goal.returns-in-Ok
returns-in-Ok c = grind (arith, common_steps, dot_stripped)

pub returns-in-Err : goal.returns-in-Err
returns-in-Err c = grind (arith, common_steps, no_dot)
