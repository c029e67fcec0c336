-- The ancestors that remain of a path. A caller keeps them as the length of the next ancestor (like
-- Rust's `Ancestors`).
use Rattle.std.specs.Prelude.{ℕ, List, [], length, take, nat_le, if◌then◌else◌}
use Rattle.unix_path.specs.Parents.{ancestors_of}

-- the ancestors of the path's first `next` bytes, including these bytes themselves; none if the
-- path has fewer bytes
abbrev pub remaining_ancestors : List ℕ → ℕ → List (List ℕ)
remaining_ancestors path next = if nat_le next (length path)
    then ancestors_of (take next path) else []
