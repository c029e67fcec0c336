use Rattle.std.proofs.Common.{◌+◌, ◌-◌, ◌<◌, ◌≤◌, ⊎_elim, arith}
use Rattle.std.proofs.lemmas.Bool.{cases_lt}
use Rattle.unix_bytes.proofs.lemmas.vectors.CommonLemmas.{common_prefix_len-is}
use Rattle.unix_bytes.proofs.search.common_len.Goals as goal

pub returns-then-common-lt16-clause-value : goal.returns-then-common-lt16-clause-value
returns-then-common-lt16-clause-value c =
    let len = c.loop-len.len in
    let lanes = c.common_len_simd16-common in
    common_prefix_len-is c.args.a.now c.args.b.now (len + lanes.result) (omega arith) (omega arith)
    (λ k l.
    ⊎_elim (λ (less : k < len). c.loop-len.invariant.same k less)
    (λ (more : len ≤ k). lanes.ensures.same k more l) (cases_lt k len))
    (λ _ _. lanes.ensures.differs c.if-common-lt16.true)

pub returns-clause-value : goal.returns-clause-value
returns-clause-value c =
    let len = c.loop-len.len in
    let last = c.min-shorter_len.result - 16 in
    let lanes = c.common_len_simd16 in
    common_prefix_len-is c.args.a.now c.args.b.now (last + lanes.result) (omega arith) (omega arith)
    (λ k l.
    ⊎_elim (λ (less : k < len). c.loop-len.invariant.same k less)
    (λ (more : len ≤ k). lanes.ensures.same k (omega arith) l) (cases_lt k len))
    (λ in_first in_second. lanes.ensures.differs (omega arith))
