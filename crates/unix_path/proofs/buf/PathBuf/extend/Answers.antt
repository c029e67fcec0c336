use Rattle.std.proofs.Common.{ap, arith, length}
use Rattle.std.proofs.lemmas.Bool.{false≢true}
use Rattle.unix_path.specs.Buffers.{path_bytes, capacity}
use Rattle.unix_path.specs.Joins.{join_of}
use Rattle.unix_path.proofs.lemmas.edits.SeparatorLemmas.{JoinsFit-next, JoinsFit-lengths}
use Rattle.unix_path.proofs.buf.PathBuf.extend.Goals as goal

pub returns-in_err-push-clause-succeeds_in_spare_capacity :
    goal.returns-in_err-push-clause-succeeds_in_spare_capacity
returns-in_err-push-clause-succeeds_in_spare_capacity g c = λ fits.
    let old = path_bytes c.args.self.now in
    let joined = JoinsFit-next old (capacity c.args.self.now)
    (JoinsFit-lengths old (capacity c.args.self.now) (omega arith) fits)
    c.into_iter-item-iterator.ensures.into_iter_gives c.loop-item.yielded
    c.loop-item.item-iterator c.next.new.self c.in-Some.item c.loop-item.yielded_by
    c.in-Some.ensures.steps in
    absurd (false≢true (c.in_err-push.ensures.succeeds (omega (
      arith,
      joined,
      ap (λ s. length (join_of s c.in-Some.item.bytes.now)) c.loop-item.invariant.bytes,
      c.loop-item.invariant.capacity,
    ))))
