use Rattle.std.proofs.Common.{◌≡◌, ◌||◌}
use Rattle.std.specs.BTreeSet.{contains, IsOrdered}
use Rattle.std.specs.Iterator.Adapters.{rev_source}
use Rattle.std.specs.List.{All, list_any}
use Rattle.std.specs.Slice.Iter.{iter_rest}
use Rattle.unix_path.specs.declared.buf.PathBuf.{PathBuf}
use Rattle.callers.specs.Manifest.{paths_cmp, is_same, IsCanonical}
use Rattle.callers.proofs.manifest.collect_backward.Given as goal

abbrev pub invariant-loop-path : goal.invariant-loop-path
invariant-loop-path l = IsOrdered paths_cmp l.set × All IsCanonical l.set.keys
    × ((p : PathBuf) → list_any (is_same p) l.paths
    ≡ (contains paths_cmp l.set p || list_any (is_same p) (iter_rest (rev_source l.path-iterator))))
