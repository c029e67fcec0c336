use Rattle.std.proofs.Common.{arith}
use Rattle.unix_bytes.proofs.lemmas.vectors.TestLaneLemmas.{none_set, some_set}
use Rattle.unix_path.proofs.lemmas.name_run_ends.NameRunEndLaneLemmas.{ends_shown}
use Rattle.unix_path.proofs.name_run_ends.name_run_end_simd16.Goals as goal

pub returns-then-name_run_ends-eq0 : goal.returns-then-name_run_ends-eq0
returns-then-name_run_ends-eq0 c =
    let told = ends_shown 16 c.args.separator c.args.dot c.args.bytes.now c.args.at (omega arith)
    (omega arith) (omega (arith, c.requires)) in
    let lanes = none_set told c.if-name_run_ends-eq0.true in
    record { in_range = lanes.in_range; none_before = lanes.none_before }

pub returns-else-name_run_ends-eq0 : goal.returns-else-name_run_ends-eq0
returns-else-name_run_ends-eq0 c =
    let told = ends_shown 16 c.args.separator c.args.dot c.args.bytes.now c.args.at (omega arith)
    (omega arith) (omega (arith, c.requires)) in
    let lanes = some_set told c.if-name_run_ends-eq0.false in
    record { in_range = lanes.in_range; none_before = lanes.none_before }
