-- The longest common prefix of two byte strings, and the values of the rest after it.
use Rattle.std.specs.Prelude.{ℕ, List, take, map, nat_eq}
use Rattle.std.specs.List.{common_prefix_len}
use Rattle.unix_path.specs.Parts.{is_slash, Value, inner_parts}
use Rattle.unix_path.specs.Names.{after_last}

-- the index just after the last slash of the longest common prefix of a and b, or 0 if this prefix
-- has no slash
unfoldable pub common_dir_of : List ℕ → List ℕ → ℕ
common_dir_of a b = after_last is_slash (take (common_prefix_len nat_eq a b) a)

-- the values of s, which follows a slash, and so has no root and no leading `.`: one value for each
-- piece that is neither empty nor `.`
abbrev pub inner_values : List ℕ → List Value
inner_values s = map (λ p. p.value) (inner_parts 0 s)
