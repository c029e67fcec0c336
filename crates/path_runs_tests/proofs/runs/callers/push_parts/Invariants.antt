use Rattle.std.proofs.Common.{◌≡◌, ◌++◌, map}
use Rattle.unix_path.specs.Cursor.{cursor_values}
use Rattle.unix_path.specs.Views.{value_of}
use Rattle.path_runs_tests.proofs.runs.callers.push_parts.Given as goal

abbrev pub invariant-loop-part : goal.invariant-loop-part
invariant-loop-part l =
    (goal.iterator-loop-part).can_next l.part-iterator
    × (goal.iterator-loop-part).is_finite l.part-iterator
    × (map value_of l.list.items ++ cursor_values l.part-iterator ≡ cursor_values l.fn.parts)
