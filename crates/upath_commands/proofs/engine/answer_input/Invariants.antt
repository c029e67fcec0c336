use Rattle.std.proofs.Common.{◌≡◌, false}
use Rattle.byte_streams.specs.Calls.{Many, ReadsSome}
use Rattle.byte_streams.specs.Watched.{has_failed, watched_inner}
use Rattle.upath_commands.specs.Answers.{end_of}
use Rattle.upath_commands.specs.Replies.{answers_failed, state_of}
use Rattle.upath_commands.specs.Invocations.{task_value}
use Rattle.upath_commands.proofs.lemmas.BlockLemmas.{Reading}
use Rattle.upath_commands.proofs.lemmas.CallLemmas.{Went}
use Rattle.upath_commands.proofs.engine.answer_input.Given as goal

abbrev pub invariant-loop : goal.invariant-loop
invariant-loop g l =
    (answers_failed l.replies ≡ false) × (has_failed l.reader ≡ false)
    × Reading (task_value l.task) (end_of (task_value l.task).options)
    (g.R.Source.remaining (watched_inner l.initial.reader))
    (g.R.Source.remaining (watched_inner l.reader)) l.records.items l.initial.selection l.selection
    (state_of g.W.Sink g.E.Sink l.initial.replies) (state_of g.W.Sink g.E.Sink l.replies)
    × Went g.W.Sink g.E.Sink l.initial.replies l.replies
    × Many (ReadsSome g.R.Source.read_gives) (watched_inner l.initial.reader)
    (watched_inner l.reader)
