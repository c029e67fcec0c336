use Rattle.std.proofs.Common.{◌+◌, ◌-◌, ◌<◌, ◌≤◌, ⊎_elim, arith}
use Rattle.std.proofs.lemmas.Bool.{cases_lt}
use Rattle.unix_bytes.proofs.lemmas.vectors.CommonLemmas.{common_prefix_len-is}
use Rattle.unix_bytes.proofs.search.common_len_under_16.Goals as goal

pub returns-then-first-lt8-clause-value : goal.returns-then-first-lt8-clause-value
returns-then-first-lt8-clause-value c =
    let first = c.common_len_simd8-first in
    omega (
      arith,
      common_prefix_len-is c.args.a.now c.args.b.now (0 + first.result) (omega arith) (omega arith)
          (λ k l. first.ensures.same k (omega arith) l)
          (λ _ _. first.ensures.differs c.if-first-lt8.true),
    )

pub returns-clause-value : goal.returns-clause-value
returns-clause-value c =
    let first = c.common_len_simd8-first in
    let last = c.common_len_simd8 in
    common_prefix_len-is c.args.a.now c.args.b.now (c.args.shorter_len - 8 + last.result)
    (omega arith)
    (omega arith)
    (λ k l.
    ⊎_elim (λ (less : k < 8). first.ensures.same k (omega arith) (omega arith))
    (λ (more : 8 ≤ k). last.ensures.same k (omega arith) l) (cases_lt k 8))
    (λ in_first in_second. last.ensures.differs (omega arith))
