use Rattle.std.proofs.lemmas.Grind.{common_steps}
use Rattle.std.proofs.Common.{arith}
use Rattle.unix_path.proofs.lemmas.name_run_ends.MayEndLemmas.{none_told, one_told}
use Rattle.unix_path.proofs.name_run_ends.may_end_name_run_simd16.Goals as goal

pub returns-clause-none : goal.returns-clause-none
returns-clause-none c = λ none.
    none_told 16 c.args.separator c.args.dot c.args.bytes.now c.args.at c.requires.apart
    (omega arith)
    (omega arith) (omega (arith, c.requires.readable)) none

pub returns-clause-found : goal.returns-clause-found
returns-clause-found c = grind (arith, common_steps, one_told)
