-- The length of components as they are written. No public clause cites this definition.
use Rattle.std.specs.Prelude.{ℕ, ◌+◌, List, length, sum_by}
use Rattle.unix_path.specs.Parts.{Value, value_bytes}

-- the length of these components, with a slash for each
abbrev pub slashed_len : List Value → ℕ
slashed_len vs = sum_by (λ v. 1 + length (value_bytes v)) vs
