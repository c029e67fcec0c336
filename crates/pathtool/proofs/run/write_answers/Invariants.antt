use Rattle.std.proofs.Common.{◌≡◌, ◌++◌, List, ℕ, false, length}
use Rattle.std.specs.Io.KnownBytes.{Appends}
use Rattle.pathtool.specs.Answers.{output_of}
use Rattle.byte_streams.specs.Calls.{Many, WritesSome}
use Rattle.byte_streams.specs.Watched.{has_failed, watched_inner}
use Rattle.pathtool.proofs.run.write_answers.Given as goal

abbrev pub invariant-loop-unanswered : goal.invariant-loop-unanswered
invariant-loop-unanswered g l =
    (has_failed l.writer ≡ false)
    × ((done : List ℕ)
    × Appends (g.W.Sink.contents (watched_inner l.initial.writer))
    (g.W.Sink.contents (watched_inner l.writer)) done
    × (done ++ output_of l.unanswered ≡ output_of l.input))
    × Many (WritesSome g.W.Sink.write_gives) (watched_inner l.initial.writer)
    (watched_inner l.writer)

abbrev pub decreases-loop-unanswered : goal.decreases-loop-unanswered
decreases-loop-unanswered g l = length l.unanswered
