use Rattle.std.proofs.Common.{arith}
use Rattle.unix_bytes.proofs.lemmas.vectors.CommonLemmas.{none_other, some_other}
use Rattle.unix_bytes.proofs.search.common_len_simd16.Goals as goal

pub returns-then-other-eq0 : goal.returns-then-other-eq0
returns-then-other-eq0 c =
    let lanes = none_other c.args.a.now c.args.b.now 16 c.args.at (omega arith) c.requires.in_first
    c.requires.in_second c.if-other-eq0.true in
    record { in_range = lanes.in_range; same = lanes.same; differs = lanes.differs }

pub returns-else-other-eq0 : goal.returns-else-other-eq0
returns-else-other-eq0 c =
    let lanes = some_other c.args.a.now c.args.b.now 16 c.args.at (omega arith) c.requires.in_first
    c.requires.in_second c.if-other-eq0.false in
    record { in_range = lanes.in_range; same = lanes.same; differs = lanes.differs }
