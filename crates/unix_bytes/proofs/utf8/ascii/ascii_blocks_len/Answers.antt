use Rattle.std.proofs.Common.{arith}
use Rattle.std.proofs.lemmas.Grind.{common_steps}
use Rattle.unix_bytes.proofs.lemmas.vectors.LaneLemmas.{more_ascii}
use Rattle.unix_bytes.proofs.utf8.ascii.ascii_blocks_len.Goals as goal

pub loop-at-preserved : goal.loop-at-preserved
loop-at-preserved c =
    let so_far = c.loop-at.invariant in
    let here = c.is_ascii_simd64.ensures c.if-is_ascii_simd64.true in
    grind (arith, common_steps, more_ascii c.args.source.now c.loop-at.at 64 so_far.ascii here)
