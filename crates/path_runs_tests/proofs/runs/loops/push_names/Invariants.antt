use Rattle.std.proofs.Common.{◌≡◌, ◌++◌, map, filter, is_some}
use Rattle.unix_path.specs.Cursor.{cursor_values}
use Rattle.unix_path.specs.Names.{name_of}
use Rattle.unix_path.specs.Parts.{values}
use Rattle.unix_path.specs.Views.{value_of}
use Rattle.path_runs_tests.proofs.runs.loops.push_names.Given as goal

abbrev pub invariant-loop-part : goal.invariant-loop-part
invariant-loop-part l =
    (goal.iterator-loop-part).can_next l.part-iterator
    × (goal.iterator-loop-part).is_finite l.part-iterator
    × (map value_of l.list.items
    ++ filter (λ v. is_some (name_of v)) (cursor_values l.part-iterator)
    ≡ filter (λ v. is_some (name_of v)) (values l.fn.path.bytes.now))
