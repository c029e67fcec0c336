-- The gaps of a path: each slash that is followed by an empty piece or the piece `.`. No public
-- clause cites these definitions.
use Rattle.std.specs.Prelude.{◌≡◌, ◌<◌, ℕ, ◌+◌, ◌-◌, ◌==◌, Bool, false, ◌||◌, ◌&&◌}
use Rattle.std.specs.Prelude.{List, ◌∷◌, slice_index, slice_index_or}
use Rattle.std.specs.List.{flat_map}
use Rattle.unix_path.specs.Parts.{slash, dot, value_bytes}
use Rattle.unix_path.specs.CommonDir.{inner_values}
use Rattle.unix_path.specs.Scan.{is_filler}

-- the byte at i is a slash, and the piece after it is empty or `.`
abbrev pub is_gap : List ℕ → ℕ → Bool
is_gap s i =
    let next = slice_index_or s (i + 1) slash in
    slice_index s i == slash
    && (next == slash || (next == dot && slice_index_or s (i + 2) slash == slash))

-- a component of s begins at index `at`, after a slash
pub record IsPartStart (s : List ℕ) (at : ℕ) : Type 0 where
  pub after_start : 0 < at
  pub after_slash : slice_index s (at - 1) ≡ slash
  pub begins : is_filler s at ≡ false

-- the pieces of s that are neither empty nor `.`, with a slash before each
unfoldable pub slashed_parts : List ℕ → List ℕ
slashed_parts s = flat_map (λ v. slash ∷ value_bytes v) (inner_values s)
