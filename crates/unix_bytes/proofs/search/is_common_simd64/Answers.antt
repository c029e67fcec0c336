use Rattle.std.proofs.Common.{arith, eqb-true}
use Rattle.unix_bytes.proofs.lemmas.vectors.CommonLemmas.{none_other}
use Rattle.unix_bytes.proofs.search.is_common_simd64.Goals as goal

pub returns : goal.returns
returns c = λ e.
    (none_other c.args.a.now c.args.b.now 64 c.args.at (omega arith) c.requires.in_first
    c.requires.in_second (eqb-true _ 0 e)).same
