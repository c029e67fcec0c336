use Rattle.std.proofs.Common.{◌≡◌, ◌++◌, map}
use Rattle.unix_path.specs.Cursor.{iter_bytes}
use Rattle.unix_path.specs.Cursor.{name_bytes}
use Rattle.path_runs_tests.proofs.runs.callers.push_names.Given as goal

abbrev pub invariant-loop-name : goal.invariant-loop-name
invariant-loop-name l =
    (goal.iterator-loop-name).can_next l.name-iterator
    × (goal.iterator-loop-name).is_finite l.name-iterator
    × (map name_bytes l.list.items ++ iter_bytes l.name-iterator ≡ iter_bytes l.fn.parts)
