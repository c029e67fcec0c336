use Rattle.std.proofs.lemmas.Grind.{common_steps}
use Rattle.std.proofs.Common.{◌≡◌, ◌<◌, ◌==◌, length, take, drop, arith}
use Rattle.std.proofs.lemmas.Simd.{length-chunk, run_in_chunk_le}
use Rattle.std.proofs.lemmas.Simd.{leading_from_mask_l, trailing_mask_l}
use Rattle.unix_bytes.specs.Lanes.{hit_mask}
use Rattle.unix_bytes.proofs.search.find_byte_simd16.Goals as goal

pub returns-then-hits-eq0-clause-value : goal.returns-then-hits-eq0-clause-value
returns-then-hits-eq0-clause-value c =
    grind (arith, common_steps, leading_from_mask_l, length-chunk)

pub returns-else-hits-eq0-clause-value : goal.returns-else-hits-eq0-clause-value
returns-else-hits-eq0-clause-value c =
    let s = c.args.bytes.now in
    let window = take 16 (drop c.args.at s) in
    let long : length window ≡ 16 = length-chunk c.args.at 16 s c.requires in
    let some : 0 < hit_mask c.args.byte window =
    omega (arith, c.hits-hits.ensures, c.if-hits-eq0.false) in
    grind (arith, common_steps, length-chunk c.args.at 16 s c.requires, trailing_mask_l)

pub returns-else-hits-eq0-clause-in_range : goal.returns-else-hits-eq0-clause-in_range
returns-else-hits-eq0-clause-in_range c =
    run_in_chunk_le (λ b. b == c.args.byte) c.args.bytes.now c.args.at 16 _ 0 c.requires
    (returns-else-hits-eq0-clause-value c)
