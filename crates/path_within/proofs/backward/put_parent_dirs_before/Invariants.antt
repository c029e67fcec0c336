use Rattle.std.proofs.Common.{◌≤◌, ◌+◌, ◌*◌, ◌≡◌, ℕ, length}
use Rattle.std.proofs.Math.ListN.{replicate}
use Rattle.unix_path.specs.Parts.{ParentDir}
use Rattle.path_within.proofs.lemmas.backward.PutLemmas.{Puts}
use Rattle.path_within.proofs.backward.put_parent_dirs_before.Given as goal

abbrev pub invariant-loop-end : goal.invariant-loop-end
invariant-loop-end l = record {
  in_range : l.end ≤ 1 + length l.out;
  made : (m : ℕ) × (l.end + 3 * m ≡ l.initial.end)
      × Puts (replicate m ParentDir) l.initial.end l.initial.out l.end l.out;
}

abbrev pub decreases-loop-end : goal.decreases-loop-end
decreases-loop-end l = l.end
