use Rattle.std.proofs.Common.{◌≡◌, ◌++◌, map, reverse}
use Rattle.std.specs.Iterator.Adapters.{rev_source}
use Rattle.unix_path.specs.Cursor.{cursor_values}
use Rattle.unix_path.specs.Parts.{values, value_bytes}
use Rattle.unix_path.specs.Cursor.{name_bytes}
use Rattle.path_runs_tests.proofs.runs.loops.push_reversed.Given as goal

abbrev pub invariant-loop-part : goal.invariant-loop-part
invariant-loop-part l =
    (goal.iterator-loop-part).can_next l.part-iterator
    × (goal.iterator-loop-part).is_finite l.part-iterator
    × (map name_bytes l.list.items
    ++ map value_bytes (reverse (cursor_values (rev_source l.part-iterator)))
    ≡ map value_bytes (reverse (values l.fn.path.bytes.now)))
