use Rattle.std.proofs.Common.{◌≡◌, ◌^◌, ◌-◌, false, vec_len}
use Rattle.std.specs.Io.KnownBytes.{Consumes}
use Rattle.byte_streams.specs.Calls.{Many, ReadsSome}
use Rattle.byte_streams.specs.Watched.{has_failed, watched_inner}
use Rattle.upath_commands.proofs.input.read_all.Given as goal

abbrev pub invariant-loop-bytes : goal.invariant-loop-bytes
invariant-loop-bytes g l =
    (has_failed l.reader ≡ false)
    × Consumes (g.R.Source.remaining (watched_inner l.initial.reader))
    (g.R.Source.remaining (watched_inner l.reader)) l.bytes.items
    × Many (ReadsSome g.R.Source.read_gives) (watched_inner l.initial.reader)
    (watched_inner l.reader)

abbrev pub decreases-loop-bytes : goal.decreases-loop-bytes
decreases-loop-bytes g l = 2 ^ 63 - vec_len l.bytes
