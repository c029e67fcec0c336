use Rattle.std.proofs.Common.{◌+◌, ◌-◌, ◌<◌, ◌≤◌, ⊎_elim, arith}
use Rattle.std.proofs.lemmas.Bool.{cases_lt}
use Rattle.unix_bytes.proofs.lemmas.vectors.HitLemmas.{none_from}
use Rattle.unix_bytes.proofs.search.after_last.Goals as goal

pub returns-then-past-gt0-clause-none_after : goal.returns-then-past-gt0-clause-none_after
returns-then-past-gt0-clause-none_after c =
    let end = c.loop-end.end in
    let past = c.after_last_simd16-past in
    none_from c.args.byte c.args.bytes.now (end - 16 + past.result) (omega arith)
    (λ k h few.
    ⊎_elim (λ (less : k < end). past.ensures.none_after k h (omega arith))
    (λ (more : end ≤ k). c.loop-end.invariant.none_after k more few) (cases_lt k end))

pub returns-clause-none_after : goal.returns-clause-none_after
returns-clause-none_after c =
    let end = c.loop-end.end in
    let past = c.after_last_scalar in
    none_from c.args.byte c.args.bytes.now past.result (omega arith)
    (λ k h few.
    ⊎_elim (λ (less : k < end). past.ensures.none_after k h less)
    (λ (more : end ≤ k). c.loop-end.invariant.none_after k more few) (cases_lt k end))
