use Rattle.std.proofs.Common.{rules, arith, inl, inr, Err}
use Rattle.std.proofs.KnownBytes.{Keeps-trans}
use Rattle.byte_streams.specs.Calls.Calls.{none}
use Rattle.byte_streams.proofs.lemmas.CallLemmas.{Calls-more}
use Rattle.byte_streams.proofs.retry.RetryInterruptedSource.read_once.Goals as goal

pub loop-tries-init : goal.loop-tries-init
loop-tries-init g c = (search rules, none)

pub returns-in-Ok-clause-single_call : goal.returns-in-Ok-clause-single_call
returns-in-Ok-clause-single_call g c = (
  c.loop-tries.tries,
  (_, c.loop-tries.invariant.1, c.in-Ok.ensures.single_call, inl (λ h. h)),
)

pub returns-in-Err-2-clause-single_call : goal.returns-in-Err-2-clause-single_call
returns-in-Err-2-clause-single_call g c = (
  c.loop-tries.tries,
  (_, c.loop-tries.invariant.1, c.in-Err.ensures.single_call, inl (search rules)),
)

pub loop-tries-preserved : goal.loop-tries-preserved
loop-tries-preserved g c = (
  Keeps-trans _ _ _ c.loop-tries.invariant.0 c.in-Err.ensures.bytes,
  Calls-more c.loop-tries.invariant.1
      (Err c.in-Err.error, search rules, c.in-Err.ensures.single_call),
)

pub returns-clause-single_call : goal.returns-clause-single_call
returns-clause-single_call g c = (
  c.loop-tries.tries,
  (
    _,
    c.loop-tries.invariant.1,
    c.read_once-2.ensures.single_call,
    inr (omega (arith, c.loop-tries.auto.tries-end, c.loop-tries-test.false)),
  ),
)
