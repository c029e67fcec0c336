use Rattle.unix_bytes.proofs.lemmas.vectors.TestLaneLemmas.{none_set, some_set}
use Rattle.path_runs.proofs.lemmas.gaps.GapLaneLemmas.{lanes_show_gaps}
use Rattle.path_runs.proofs.gaps.gapless_simd16.Goals as goal
use Rattle.std.proofs.Common.{arith}

pub returns-then-gaps-eq0 : goal.returns-then-gaps-eq0
returns-then-gaps-eq0 c =
    let lanes =
    none_set (lanes_show_gaps c.args.bytes.now c.args.at c.requires) c.if-gaps-eq0.true in
    grind arith

pub returns-else-gaps-eq0 : goal.returns-else-gaps-eq0
returns-else-gaps-eq0 c =
    let lanes =
    some_set (lanes_show_gaps c.args.bytes.now c.args.at c.requires) c.if-gaps-eq0.false in
    grind arith
