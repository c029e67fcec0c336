use Rattle.std.proofs.Common.{arith}
use Rattle.std.proofs.lemmas.Bool.{true≢false}
use Rattle.unix_path.proofs.lemmas.callers.CallerLemmas.{name_end_of-ended, name_end_of-unnamed}
use Rattle.path_runs.proofs.edits.cache.ScanCache.name_end.Goals as goal

pub returns-then-not-ends_in_name-clause-value : goal.returns-then-not-ends_in_name-clause-value
returns-then-not-ends_in_name-clause-value c =
    let end = c.part_end-end in
    grind (arith, name_end_of-unnamed, true≢false)

pub returns-clause-value : goal.returns-clause-value
returns-clause-value c =
    let end = c.part_end-end in
    grind (arith, name_end_of-ended)
