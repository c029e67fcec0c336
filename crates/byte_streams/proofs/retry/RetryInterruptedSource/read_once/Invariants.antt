use Rattle.std.specs.Io.KnownBytes.{Keeps}
use Rattle.byte_streams.specs.Calls.{Calls, Interrupts, WithBuffer, retry_inner}
use Rattle.byte_streams.proofs.retry.RetryInterruptedSource.read_once.Given as goal

abbrev pub invariant-loop-tries : goal.invariant-loop-tries
invariant-loop-tries g l =
    Keeps (g.T.Source.remaining (retry_inner l.initial.self))
    (g.T.Source.remaining (retry_inner l.self))
    × Calls (Interrupts (WithBuffer g.T.Source.read_gives))
    (retry_inner l.initial.self, l.initial.buf) l.tries (retry_inner l.self, l.buf)
