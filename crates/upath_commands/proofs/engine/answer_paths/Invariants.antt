use Rattle.std.proofs.Common.{◌≡◌, ◌-◌, drop, false, length}
use Rattle.upath_commands.specs.Records.{paths_of}
use Rattle.upath_commands.specs.Replies.{answers_failed, state_of}
use Rattle.upath_commands.specs.Invocations.{task_value}
use Rattle.upath_commands.proofs.lemmas.CallLemmas.{Went}
use Rattle.upath_commands.proofs.lemmas.PathLemmas.{Passed}
use Rattle.upath_commands.proofs.engine.answer_paths.Given as goal

abbrev pub invariant-loop-index : goal.invariant-loop-index
invariant-loop-index g l =
    (answers_failed l.replies ≡ false) × Went g.W.Sink g.E.Sink l.initial.replies l.replies
    × Passed (task_value l.task) l.initial.selection l.selection (paths_of l.paths)
    (paths_of (drop l.index l.paths)) (state_of g.W.Sink g.E.Sink l.initial.replies)
    (state_of g.W.Sink g.E.Sink l.replies)

abbrev pub decreases-loop-index : goal.decreases-loop-index
decreases-loop-index g l = length l.paths - l.index
