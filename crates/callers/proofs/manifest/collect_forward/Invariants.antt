use Rattle.std.proofs.Common.{◌≡◌, take}
use Rattle.std.specs.BTreeSet.{contains, IsOrdered}
use Rattle.std.specs.List.{All, list_any}
use Rattle.unix_path.specs.declared.buf.PathBuf.{PathBuf}
use Rattle.callers.specs.Manifest.{paths_cmp, is_same, IsCanonical}
use Rattle.callers.proofs.manifest.collect_forward.Given as goal

abbrev pub invariant-loop-path : goal.invariant-loop-path
invariant-loop-path l = IsOrdered paths_cmp l.set × All IsCanonical l.set.keys
    × ((p : PathBuf) → contains paths_cmp l.set p
    ≡ list_any (is_same p) (take l.path-index l.paths))
