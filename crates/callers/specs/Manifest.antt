-- Manifests: sorted paths in canonical form.
use Rattle.std.specs.Prelude.{◌≡◌, Bool, List}
use Rattle.std.specs.BTreeSet.{BTreeSet, contains, IsOrdered}
use Rattle.std.specs.List.{All, list_any}
use Rattle.std.specs.Ordering.{is_eq}
use Rattle.std.specs.declared.cmp.Ordering.{Ordering}
use Rattle.unix_path.specs.Buffers.{path_bytes}
use Rattle.unix_path.specs.Order.{values_cmp}
use Rattle.unix_path.specs.Parts.{values}
use Rattle.unix_path.specs.declared.buf.PathBuf.{PathBuf}
use Rattle.unix_path.specs.declared.path.Path.{Path}
use Rattle.path_runs.specs.Spelling.{spelling_of}

-- the order of two owned paths, as `cmp` returns it
abbrev pub paths_cmp : PathBuf → PathBuf → Ordering
paths_cmp p q = values_cmp (values (path_bytes p)) (values (path_bytes q))

-- the view `path` is equal to the owned path p
abbrev pub is_same : PathBuf → Path → Bool
is_same p path = is_eq (values_cmp (values path.bytes.now) (values (path_bytes p)))

-- the path is in canonical form: it is the shortest path with its components
abbrev pub IsCanonical : PathBuf → Type 0
IsCanonical p = path_bytes p ≡ spelling_of (values (path_bytes p))

-- `set` is sorted, its paths are in canonical form, and it contains a path if and only if the path
-- is equal to one of `paths`; no public clause cites this definition
pub record IsNormalised (paths : List Path) (set : BTreeSet PathBuf) : Type 0 where
  pub ordered : IsOrdered paths_cmp set
  pub canonical : All IsCanonical set.keys
  pub same : (p : PathBuf) → contains paths_cmp set p ≡ list_any (is_same p) paths
