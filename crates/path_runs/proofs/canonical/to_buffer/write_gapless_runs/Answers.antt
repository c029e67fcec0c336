use Rattle.std.proofs.Common.{List, ℕ, ◌≤◌, ◌++◌, ◌-◌, ◌+◌, take, drop, length}
use Rattle.std.proofs.Common.{arith, length-append, length-take-le}
use Rattle.path_runs.specs.Gaps.{slashed_parts}
use Rattle.path_runs.proofs.lemmas.gaps.FirstGapLemmas.{no_parts_after_end}
use Rattle.path_runs.proofs.lemmas.lists.WritingLemmas.{writes_stretch, writes_room, writes_last}
use Rattle.path_runs.proofs.lemmas.lists.WritingLemmas.{writes_end}
use Rattle.path_runs.proofs.canonical.to_buffer.write_gapless_runs.Goals as goal

-- if `out` has at least `gap` bytes plus those of the components of s after index `gap`, each with
-- a slash before it, then the first `gap` bytes of s and these components fit into `out`
room : (s out : List ℕ) (gap : ℕ) → gap ≤ length s
    → gap + length (slashed_parts (drop gap s)) ≤ length out
    → length (take gap s ++ slashed_parts (drop gap s)) ≤ length out
room s out gap l h = grind (arith, length-append, length-take-le)

pub write_at-requires-in-loop-start : goal.write_at-requires-in-loop-start
write_at-requires-in-loop-start c =
    let run = c.gapless_run_at-run.result.now in
    let end = c.loop-start.start - 1 + length run in grind (
      arith,
      writes_room run (slashed_parts (drop end c.args.bytes.now)) c.loop-start.invariant.to_buffer
          c.gapless_run_at-run.ensures.same
          (room c.args.bytes.now c.args.out.now c.args.gap c.requires.in_range c.requires.room),
      room c.args.bytes.now c.args.out.now c.args.gap c.requires.in_range c.requires.room,
    )

pub loop-start-preserved : goal.loop-start-preserved
loop-start-preserved c = grind (arith, writes_stretch)

pub returns-clause-out : goal.returns-clause-out
returns-clause-out c = grind (arith, writes_last, no_parts_after_end, room)

pub returns-clause-len : goal.returns-clause-len
returns-clause-len c = grind (arith, writes_end, no_parts_after_end)
