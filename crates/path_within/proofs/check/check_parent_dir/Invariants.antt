use Rattle.std.proofs.Common.{◌≡◌}
use Rattle.unix_path.specs.Cursor.{cursor_values}
use Rattle.unix_path.specs.Parts.{values}
use Rattle.path_within.specs.Escapes.{has_root_or_parent_dir}
use Rattle.path_within.proofs.check.check_parent_dir.Given as goal

abbrev pub invariant-loop-part : goal.invariant-loop-part
invariant-loop-part l =
    (goal.iterator-loop-part).can_next l.part-iterator
    × (goal.iterator-loop-part).is_finite l.part-iterator
    × (has_root_or_parent_dir (cursor_values l.part-iterator)
    ≡ has_root_or_parent_dir (values l.fn.path.bytes.now))
