use Rattle.std.proofs.Common.{arith, inl}
use Rattle.unix_path.specs.Cursor.{cursor_rest}
use Rattle.unix_path.proofs.lemmas.walks.CursorLemmas.{length-cursor_rest}
use Rattle.unix_path.proofs.lemmas.rests.RestLemmas.{length-values}
use Rattle.path_runs_tests.proofs.runs.callers.count.Goals as goal

pub count-requires-clause-fits : goal.count-requires-clause-fits
count-requires-clause-fits c =
    let small = c.ranges.parts.0 in
    let rest = cursor_rest c.args.parts in
    inl (omega (arith, length-values rest, length-cursor_rest c.args.parts))
