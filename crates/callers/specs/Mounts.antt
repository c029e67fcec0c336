-- The file of a path below a mount point.
use Rattle.std.specs.Prelude.{◌≡◌, ◌⊎◌, ℕ, List, None, true}
use Rattle.unix_path.specs.Parts.{Value, values}
use Rattle.unix_path.specs.Prefixes.{IsPrefixOf}
use Rattle.path_within.specs.Below.{below_of, has_nul, names_below, IsBelow}
use Rattle.path_within.specs.Requests.{root_bytes}
use Rattle.path_within.specs.declared.root.Root.{Root}
use Rattle.path_keys.specs.Keys.{key_of}
use Rattle.path_tree.specs.Entries.{entry_at}
use Rattle.path_tree.specs.Nearest.{IsNearest}

-- `file` is the rest of the path s after its nearest mount point, resolved, below the root that is
-- mounted at this mount point
pub record IsMounted (s : List ℕ) (mounts : List (List ℕ × Root)) (file : List ℕ)
    : Type 0 where
  pub root : Root
  pub rest : List ℕ
  pub nearest : IsNearest s mounts rest root
  pub file_is : file ≡ below_of (root_bytes root) (names_below (values rest))
  pub below : IsBelow (root_bytes root) file

-- the path s starts with no mount point, or the rest of s after its nearest mount point has a NUL
-- byte
abbrev pub IsUnmounted : List ℕ → List (List ℕ × Root) → Type 0
IsUnmounted s mounts =
    ((base : List Value) → IsPrefixOf base (values s) → entry_at (key_of base) mounts ≡ None)
    ⊎ ((root : Root) × ((rest : List ℕ) × IsNearest s mounts rest root × (has_nul rest ≡ true)))
