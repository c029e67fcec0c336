use Rattle.std.proofs.Common.{arith}
use Rattle.unix_bytes.proofs.lemmas.vectors.TestLaneLemmas.{none_set, some_set}
use Rattle.unix_path.proofs.lemmas.name_run_ends.EndCandidateLaneLemmas.{candidates_shown}
use Rattle.unix_path.proofs.name_run_ends.end_candidate_simd8.Goals as goal

pub returns-then-end_candidates-eq0 : goal.returns-then-end_candidates-eq0
returns-then-end_candidates-eq0 c =
    let told = candidates_shown 8 c.args.separator c.args.dot c.args.bytes.now c.args.at
    (omega arith)
    (omega arith) (omega (arith, c.requires)) in
    let lanes = none_set told c.if-end_candidates-eq0.true in
    record { in_range = lanes.in_range; none_before = lanes.none_before }

pub returns-else-end_candidates-eq0 : goal.returns-else-end_candidates-eq0
returns-else-end_candidates-eq0 c =
    let told = candidates_shown 8 c.args.separator c.args.dot c.args.bytes.now c.args.at
    (omega arith)
    (omega arith) (omega (arith, c.requires)) in
    let lanes = some_set told c.if-end_candidates-eq0.false in
    record { in_range = lanes.in_range; none_before = lanes.none_before }
