-- Paths that are resolved from the last component to the first. No public clause cites these
-- definitions.
use Rattle.std.specs.Prelude.{◌≡◌, ◌<◌, ◌-◌, ℕ, List, [], ◌∷◌, ◌++◌, count_by, drop, fold}
use Rattle.std.specs.Prelude.{length, if◌then◌else◌}
use Rattle.unix_path.specs.Parts.{Value, CurDir, Normal, counts, value_of_piece}
use Rattle.path_within.specs.Below.{names_below}
use Rattle.path_within.specs.Escapes.{is_parent_dir}
use Rattle.path_within.specs.Resolved.{push_component}
use Rattle.path_within.specs.declared.backward.LastResolved.{LastResolved}
use Rattle.path_within.specs.declared.backward.LastResolved.TheVariants.{Name, ParentDirs}

-- the number of `..` that remain of these components after resolving
unfoldable pub remaining_parent_dirs : List Value → ℕ
remaining_parent_dirs vs = count_by is_parent_dir (fold push_component [] vs)

-- the last n of the names that remain of vs after resolving, or all these names if there are fewer
-- than n
abbrev pub last_names : ℕ → List Value → List Value
last_names n vs = drop (length (names_below vs) - n) (names_below vs)

-- the bytes of a piece as a component; filler becomes `.`, which resolving drops
abbrev pub piece_value : List ℕ → Value
piece_value bytes = if counts bytes then value_of_piece bytes else CurDir

-- `name` is the last name that remains of vs after resolving; ws is shorter than vs, and after
-- resolving the same `..` and the same other names remain of ws
pub record TakesName (name : List ℕ) (vs ws : List Value) : Type 0 where
  pub names : names_below vs ≡ names_below ws ++ Normal name ∷ []
  pub parent_dirs : remaining_parent_dirs vs ≡ remaining_parent_dirs ws
  pub fewer : length ws < length vs

-- the result of taking the last name that remains of vs after resolving: `Name name`, with ws still
-- to be resolved, or, if no name remains, `ParentDirs n` for the n times `..` that remain
abbrev pub Takes : LastResolved → List Value → List Value → Type 0
Takes (Name name) vs ws = TakesName name.bytes.now vs ws
Takes (ParentDirs n) vs ws = (names_below vs ≡ []) × (remaining_parent_dirs vs ≡ n)
