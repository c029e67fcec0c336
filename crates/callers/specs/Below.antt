-- Paths that stay below each directory that they are joined to.
use Rattle.std.specs.Prelude.{◌≢◌, List, [], ◌∷◌}
use Rattle.std.specs.List.{All}
use Rattle.unix_path.specs.Prefixes.{IsPrefixOf}
use Rattle.unix_path.specs.Parts.{Value, RootDir, ParentDir}

-- the components vs do not begin with the root, and none of them is `..`
pub record StaysBelow (vs : List Value) : Type 0 where
  pub rootless : IsPrefixOf (RootDir ∷ []) vs → ⊥
  pub no_parent_dir : All (λ v. v ≢ ParentDir) vs
