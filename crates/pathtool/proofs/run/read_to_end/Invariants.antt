use Rattle.std.proofs.Common.{◌≡◌, ◌^◌, ◌-◌, false, vec_len}
use Rattle.std.specs.Io.KnownBytes.{Consumes}
use Rattle.byte_streams.specs.Calls.{Many, ReadsSome}
use Rattle.byte_streams.specs.Watched.{has_failed, has_ended, watched_inner}
use Rattle.pathtool.proofs.run.read_to_end.Given as goal

abbrev pub invariant-loop-count : goal.invariant-loop-count
invariant-loop-count g l =
    (has_failed l.reader ≡ false) × (has_ended l.reader ≡ false)
    × Consumes (g.R.Source.remaining (watched_inner l.initial.reader))
    (g.R.Source.remaining (watched_inner l.reader)) l.input.items
    × Many (ReadsSome g.R.Source.read_gives) (watched_inner l.initial.reader)
    (watched_inner l.reader)

abbrev pub decreases-loop-count : goal.decreases-loop-count
decreases-loop-count g l = 2 ^ 63 - vec_len l.input
