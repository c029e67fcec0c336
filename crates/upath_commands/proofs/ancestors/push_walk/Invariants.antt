use Rattle.std.proofs.Common.{◌≡◌, ◌++◌, map}
use Rattle.unix_path.specs.Ancestors.{remaining_ancestors}
use Rattle.upath_commands.specs.Answers.{dot_if_empty, record_output, up_to_current}
use Rattle.upath_commands.proofs.ancestors.push_walk.Given as goal

abbrev pub invariant-loop-parent : goal.invariant-loop-parent
invariant-loop-parent l =
    (goal.iterator-loop-parent).can_next l.walk × (goal.iterator-loop-parent).is_finite l.walk
    × (l.out.items ++ record_output l.options l.path.bytes.now
    (map dot_if_empty (up_to_current (remaining_ancestors l.walk)))
    ≡ l.initial.out.items ++ record_output l.options l.path.bytes.now
    (map dot_if_empty (up_to_current (remaining_ancestors l.initial.walk))))
