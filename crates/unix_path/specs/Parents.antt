-- The parent and the ancestors of a path (Rust's `Path::parent` and `Path::ancestors`).
use Rattle.std.specs.Prelude.{ℕ, ◌-◌, ◌==◌, List, ◌∷◌, length, map, Option, Some, None}
use Rattle.std.specs.Prelude.{if◌then◌else◌}
use Rattle.std.specs.List.{range_with_len}
use Rattle.unix_path.specs.Parts.{values, is_rooted}
use Rattle.unix_path.specs.Rest.{rest}

-- the number of trailing components of s that can be removed: all except the root
abbrev pub depth_of : List ℕ → ℕ
depth_of s = length (values s) - (if is_rooted s then 1 else 0)

-- the rest of s before its last component; None if s is empty, or if its last component is the root
unfoldable pub parent_of : List ℕ → Option (List ℕ)
parent_of s = if depth_of s == 0 then None else Some (rest s 0 1)

-- s, then the rest of s before its last component, before its last two, and so on; the root is
-- never removed
unfoldable pub ancestors_of : List ℕ → List (List ℕ)
ancestors_of s = s ∷ map (λ m. rest s 0 m) (range_with_len 1 (depth_of s))
