use Rattle.std.proofs.Common.{◌≡◌, length}
use Rattle.upath_commands.specs.Records.{paths_of}
use Rattle.upath_commands.specs.Sorting.{disorder_of}
use Rattle.upath_commands.proofs.sorting.disorder_of.Given as goal

abbrev pub invariant-loop-rest : goal.invariant-loop-rest
invariant-loop-rest l =
    disorder_of l.options (paths_of l.rest) ≡ disorder_of l.options (paths_of l.paths)

abbrev pub decreases-loop-rest : goal.decreases-loop-rest
decreases-loop-rest l = length l.rest
