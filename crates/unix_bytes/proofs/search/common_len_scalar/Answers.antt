use Rattle.std.proofs.Common.{arith, ne_eqb}
use Rattle.unix_bytes.proofs.lemmas.vectors.CommonLemmas.{common_prefix_len-is}
use Rattle.unix_bytes.proofs.search.common_len_scalar.Goals as goal

pub returns-else-a-len-clause-value : goal.returns-else-a-len-clause-value
returns-else-a-len-clause-value c =
    common_prefix_len-is c.args.a.now c.args.b.now c.loop-len.len (omega arith) (omega arith)
    c.loop-len.invariant.same (λ _ _. ne_eqb _ _ c.if-a-len.false)

pub returns-after-loop-len-clause-value : goal.returns-after-loop-len-clause-value
returns-after-loop-len-clause-value c =
    common_prefix_len-is c.args.a.now c.args.b.now c.loop-len.len (omega arith) (omega arith)
    c.loop-len.invariant.same (λ in_first in_second. absurd (omega arith))
