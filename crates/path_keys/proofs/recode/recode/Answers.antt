use Rattle.std.proofs.Common.{◌+◌, ◌-◌, length, arith}
use Rattle.path_keys.specs.NameBytes.{recoded}
use Rattle.path_keys.proofs.lemmas.lanes.PutLemmas.{put_fewer, put_many, put_all}
use Rattle.path_keys.proofs.recode.recode.Goals as goal

pub loop-from-preserved : goal.loop-from-preserved
loop-from-preserved c = record {
  in_range = omega arith;
  put = put_many 16 (recoded c.args.how) c.args.bytes.now c.args.out.now c.args.at
      c.loop-from.from c.loop-from.out _ c.loop-from.invariant.put (omega arith) c.requires
      c.recode_lanes.ensures;
}

pub returns : goal.returns
returns c =
    let f = recoded c.args.how in
    let bytes = c.args.bytes.now in
    let last = length bytes - 16 in
    let fewer = put_fewer f bytes c.args.out.now c.args.at c.loop-from.from last c.loop-from.out
    c.loop-from.invariant.put (omega arith) (omega arith) c.requires in
    put_all f bytes c.args.out.now c.args.at (last + 16) _
    (put_many 16 f bytes c.args.out.now c.args.at last c.loop-from.out _ fewer (omega arith)
    c.requires c.recode_lanes-2.ensures) (omega arith)
