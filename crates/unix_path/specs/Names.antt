-- The file name of a path, its stem, extension and prefix (Rust's `Path::file_name`,
-- `Path::file_stem`, `Path::extension`, `Path::file_prefix`).
use Rattle.std.specs.Prelude.{ℕ, ◌+◌, ◌-◌, nat_lt, Bool, ◌==◌, not, List, length, take, drop}
use Rattle.std.specs.Prelude.{Option, Some, None, option_map, option_and_then, if◌then◌else◌}
use Rattle.std.specs.List.{last_or, suffix_len, position_or_len}
use Rattle.unix_path.specs.Parts.{dot, Value, Normal}

-- the bytes of a value that is a name, and None for other values
abbrev pub name_of : Value → Option (List ℕ)
name_of (Normal name) = Some name
name_of _ = None

-- the bytes of the last of these values, if it is a name; otherwise None
unfoldable pub file_name_of : List Value → Option (List ℕ)
file_name_of vs = option_and_then name_of (last_or None vs)

-- the index just after the last byte of s that passes p, or 0 if no byte of s does
abbrev pub after_last : (ℕ → Bool) → List ℕ → ℕ
after_last p s = length s - suffix_len (λ b. not (p b)) s

-- a name's bytes before and after its last dot; the whole name and None if it has no dot, or if its
-- last dot is its first byte
unfoldable pub split_name : List ℕ → List ℕ × Option (List ℕ)
split_name name =
    let n = after_last (λ b. b == dot) name in
    if nat_lt 1 n then (take (n - 1) name, Some (drop n name)) else (name, None)

-- the file name without its extension and the dot before the extension; None if there is no file
-- name
abbrev pub stem_of : List Value → Option (List ℕ)
stem_of vs = option_map (λ name. (split_name name).0) (file_name_of vs)

-- the file name's bytes after its last dot; None if there is no file name, or if it has no dot
-- after its first byte
abbrev pub extension_of : List Value → Option (List ℕ)
extension_of vs = option_and_then (λ name. (split_name name).1) (file_name_of vs)

-- a name up to its first dot at index 1 or later, or the whole name if there is none
abbrev pub name_prefix : List ℕ → List ℕ
name_prefix name = take (1 + position_or_len (λ b. b == dot) (drop 1 name)) name

-- the file name up to its first dot at index 1 or later; the whole name if there is no such dot,
-- and None if there is no file name
abbrev pub file_prefix_of : List Value → Option (List ℕ)
file_prefix_of vs = option_map name_prefix (file_name_of vs)
