use Rattle.std.proofs.Common.{◌↔◌, length}
use Rattle.unix_path.specs.Cursor.{cursor_values}
use Rattle.path_within.specs.Resolved.{ParentDirsThenNames}
use Rattle.path_within.proofs.normal.are_parent_dirs_then_names.Given as goal

abbrev pub invariant-loop-part : goal.invariant-loop-part
invariant-loop-part l =
    ParentDirsThenNames (cursor_values l.fn.parts) ↔ ParentDirsThenNames (cursor_values l.rest)

abbrev pub decreases-loop-part : goal.decreases-loop-part
decreases-loop-part l = length (cursor_values l.rest)
