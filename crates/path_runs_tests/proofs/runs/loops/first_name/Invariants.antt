use Rattle.std.proofs.Common.{◌≡◌, ◌+◌, ◌^◌, ◌<◌, length, is_some}
use Rattle.std.specs.List.{position_or_len}
use Rattle.unix_path.specs.Cursor.{cursor_values}
use Rattle.unix_path.specs.Names.{name_of}
use Rattle.unix_path.specs.Parts.{values}
use Rattle.path_runs_tests.proofs.runs.loops.first_name.Given as goal

abbrev pub invariant-loop-part : goal.invariant-loop-part
invariant-loop-part l =
    (goal.iterator-loop-part).can_next l.part-iterator
    × (goal.iterator-loop-part).is_finite l.part-iterator
    × (l.n + position_or_len (λ v. is_some (name_of v)) (cursor_values l.part-iterator)
    ≡ position_or_len (λ v. is_some (name_of v)) (values l.fn.path.bytes.now))
    × (l.n + length (cursor_values l.part-iterator) < 2 ^ 64)
