use Rattle.std.proofs.Common.{◌≡◌, ◌++◌, map}
use Rattle.unix_path.specs.Cursor.{iter_bytes}
use Rattle.unix_path.specs.Parts.{values, value_bytes}
use Rattle.unix_path.specs.Cursor.{name_bytes}
use Rattle.path_runs_tests.proofs.runs.loops.push_all.Given as goal

abbrev pub invariant-loop-name : goal.invariant-loop-name
invariant-loop-name l =
    (goal.iterator-loop-name).can_next l.name-iterator
    × (goal.iterator-loop-name).is_finite l.name-iterator
    × (map name_bytes l.list.items ++ iter_bytes l.name-iterator
    ≡ map value_bytes (values l.fn.path.bytes.now))
