use Rattle.std.proofs.Common.{arith}
use Rattle.unix_path.specs.Parts.{ParentDir}
use Rattle.unix_path.specs.Prefixes.{IsPrefixOf}
use Rattle.path_keys.specs.Keys.{code}
use Rattle.path_keys.proofs.lemmas.values.BeginLemmas.{begins_told}
use Rattle.path_keys.proofs.lemmas.spelling.ParentRunLemmas.{parent_run}
use Rattle.path_keys.proofs.runs.run_in.Goals as goal

pub returns-then-starts_with-clause-some : goal.returns-then-starts_with-clause-some
returns-then-starts_with-clause-some c =
    let begins : IsPrefixOf (code ParentDir) c.args.bytes.now = grind (arith, begins_told) in
    parent_run c.args.bytes.now begins
