use Rattle.std.proofs.Common.{take, drop, ap}
use Rattle.std.proofs.lemmas.Simd.{length-chunk}
use Rattle.std.specs.Simd.Lanes.{put_chunk}
use Rattle.path_keys.proofs.lemmas.lanes.RecodedLaneLemmas.{recoded_lanes}
use Rattle.path_keys.proofs.recode.recode_lanes.Goals as goal

pub returns : goal.returns
returns c =
    ap (put_chunk c.args.to c.args.out.now)
    (recoded_lanes c.args.how 16 (take 16 (drop c.args.from c.args.bytes.now))
    (length-chunk c.args.from 16 c.args.bytes.now c.requires.some))
