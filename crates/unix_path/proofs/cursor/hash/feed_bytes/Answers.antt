use Rattle.std.proofs.lemmas.Grind.{common_steps}
use Rattle.std.proofs.Common.{arith}
use Rattle.std.proofs.lemmas.List.{take_rest}
use Rattle.unix_path.proofs.lemmas.order.EightLemmas.{in_eights-more, in_eights-last}
use Rattle.unix_path.proofs.cursor.hash.feed_bytes.Goals as goal

pub loop-rest-preserved : goal.loop-rest-preserved
loop-rest-preserved g c =
    let more = in_eights-more c.loop-rest.rest.now c.loop-rest-test.true in
    let so_far = c.loop-rest.invariant in
    rw take_rest (rw c.write.ensures (rw more at so_far))

pub returns : goal.returns
returns g c = grind (arith, common_steps, in_eights-last)
