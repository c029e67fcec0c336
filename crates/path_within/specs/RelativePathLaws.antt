-- Laws of the relative path from one path to another.
use Rattle.std.specs.Prelude.{◌≡◌, ◌≢◌, ◌≤◌, ◌+◌, ◌*◌, ℕ, List, length, false, Some, None}
use Rattle.unix_path.specs.Joins.{join_of}
use Rattle.unix_path.specs.Parts.{Value, is_rooted, values}
use Rattle.path_runs.specs.Spelling.{spelling_of}
use Rattle.path_within.specs.Resolved.{resolved_bytes_of}
use Rattle.path_within.specs.RelativePaths.{relative_path_of}

-- if `steps` are the relative path from `from` to `to`, the canonical form of `steps`, parsed as a
-- path, has the components `steps`
abbrev pub RelativePathReadsBack : Type 0
RelativePathReadsBack =
    (from to : List ℕ) (steps : List Value)
    → relative_path_of (values from) (values to) ≡ Some steps
    → values (spelling_of steps) ≡ steps

-- if `steps` are the relative path from `from` to `to`, the join of `from` and the canonical form
-- of `steps` resolves to the same bytes as `to`
abbrev pub RelativePathLeads : Type 0
RelativePathLeads =
    (from to : List ℕ) (steps : List Value)
    → relative_path_of (values from) (values to) ≡ Some steps
    → resolved_bytes_of (join_of from (spelling_of steps)) ≡ resolved_bytes_of to

-- if there is no relative path from `from` to `to`, and b has no root, the join of `from` and b
-- does not resolve to the same bytes as `to`
abbrev pub NoRelativePath : Type 0
NoRelativePath =
    (from to b : List ℕ) → relative_path_of (values from) (values to) ≡ None → is_rooted b ≡ false
    → resolved_bytes_of (join_of from b) ≢ resolved_bytes_of to

-- if `steps` is the relative path from `from` to `to`, the canonical form of `steps` has at most
-- 3 * (length from + 1) / 2 + length to bytes
abbrev pub RelativePathIsShort : Type 0
RelativePathIsShort =
    (from to : List ℕ) (steps : List Value)
    → relative_path_of (values from) (values to) ≡ Some steps
    → 2 * length (spelling_of steps) ≤ 3 * (length from + 1) + 2 * length to
