use Rattle.std.proofs.Common.{eqb, take, drop, w8, arith}
use Rattle.std.proofs.lemmas.Simd.{bitmask_splat, length-chunk}
use Rattle.unix_bytes.proofs.search.hits.Goals as goal

pub returns : goal.returns
returns c =
    let s = c.args.bytes.now in
    bitmask_splat w8 eqb (take 16 (drop c.args.at s)) 16 c.args.byte
    (length-chunk c.args.at 16 s c.requires) (omega arith)
