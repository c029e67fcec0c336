use Rattle.std.proofs.Common.{◌≡◌, ◌≤◌, ◌-◌, length, take}
use Rattle.std.specs.Io.KnownBytes.{Appends}
use Rattle.byte_streams.specs.Calls.{Many, WritesSome}
use Rattle.byte_streams.specs.Watched.{has_failed, watched_inner}
use Rattle.byte_streams.proofs.writes.write_all.Given as goal

abbrev pub invariant-loop-at : goal.invariant-loop-at
invariant-loop-at g l =
    (has_failed l.sink ≡ has_failed l.initial.sink) × (l.at ≤ length l.bytes)
    × Appends (g.S.Sink.contents (watched_inner l.initial.sink))
    (g.S.Sink.contents (watched_inner l.sink)) (take l.at l.bytes)
    × Many (WritesSome g.S.Sink.write_gives) (watched_inner l.initial.sink)
    (watched_inner l.sink)

abbrev pub decreases-loop-at : goal.decreases-loop-at
decreases-loop-at g l = length l.bytes - l.at
