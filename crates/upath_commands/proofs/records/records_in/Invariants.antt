use Rattle.std.proofs.Common.{◌≡◌, ◌≤◌, ◌-◌, ◌++◌, drop, length}
use Rattle.upath_commands.specs.Records.{paths_of, records_of}
use Rattle.upath_commands.proofs.records.records_in.Given as goal

abbrev pub invariant-loop-at : goal.invariant-loop-at
invariant-loop-at l =
    (l.at ≤ length l.input)
    × (paths_of l.paths.items ++ records_of l.end (drop l.at l.input)
    ≡ records_of l.end l.input)

abbrev pub decreases-loop-at : goal.decreases-loop-at
decreases-loop-at l = length l.input - l.at
