use Rattle.std.specs.Io.KnownBytes.{Keeps}
use Rattle.byte_streams.specs.Calls.{Calls, Interrupts, retry_inner}
use Rattle.byte_streams.proofs.retry.RetryInterruptedSink.flush_once.Given as goal

abbrev pub invariant-loop-tries : goal.invariant-loop-tries
invariant-loop-tries g l =
    Keeps (g.T.Sink.contents (retry_inner l.initial.self))
    (g.T.Sink.contents (retry_inner l.self))
    × Calls (Interrupts g.T.Sink.flush_gives) (retry_inner l.initial.self) l.tries
    (retry_inner l.self)
