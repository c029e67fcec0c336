-- One path joined to another (Rust's `Path::join`).
use Rattle.std.specs.Prelude.{ℕ, Bool, true, List, ◌∷◌, ◌++◌, None, if◌then◌else◌}
use Rattle.std.specs.Option.{option_map_or}
use Rattle.std.specs.List.{last_or}
use Rattle.unix_path.specs.Parts.{slash, is_slash, is_rooted}

-- s is empty or ends in a slash, so that a join to it needs no separator
abbrev pub needs_no_separator : List ℕ → Bool
needs_no_separator s = option_map_or is_slash (last_or None s) true

-- b if b is rooted; otherwise a and then b, with a slash between them unless a is empty or ends in
-- a slash
unfoldable pub join_of : List ℕ → List ℕ → List ℕ
join_of a b =
    if is_rooted b then b
    else (if needs_no_separator a then a ++ b else a ++ slash ∷ b)
