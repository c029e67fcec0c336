use Rattle.std.proofs.Common.{arith}
use Rattle.unix_path.specs.Buffers.{path_bytes}
use Rattle.path_runs.proofs.lemmas.edits.EditListLemmas.{HasApplied-more}
use Rattle.path_runs.proofs.edits.apply.Goals as goal

pub loop-done-preserved : goal.loop-done-preserved
loop-done-preserved c =
    let h = c.loop-done.invariant in
    let one = c.in-Ok-apply_one.ensures in grind (
      arith,
      HasApplied-more (path_bytes c.args.path.now) c.args.edits.now c.loop-done.done _ _ _ _ _
          h.so_far c.loop-done-test.true one.ok one.value,
    )
