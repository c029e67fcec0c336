use Rattle.std.proofs.Common.{◌+◌, arith}
use Rattle.unix_bytes.proofs.lemmas.vectors.CommonLemmas.{common_prefix_len-is}
use Rattle.unix_bytes.proofs.search.common_len_expect_short.Goals as goal

pub returns-then-first-lt16-clause-value : goal.returns-then-first-lt16-clause-value
returns-then-first-lt16-clause-value c =
    let first = c.common_len_simd16-first in
    omega (
      arith,
      common_prefix_len-is c.args.a.now c.args.b.now (0 + first.result) (omega arith) (omega arith)
          (λ k l. first.ensures.same k (omega arith) l)
          (λ _ _. first.ensures.differs c.if-first-lt16.true),
    )
