-- The answer of the command `under`: for each path that starts with a base, the rest of the path
-- after the base. Not in Rust's std.
use Rattle.std.specs.Prelude.{ℕ, List, [], map}
use Rattle.std.specs.BTreeMap.{insert_entry}
use Rattle.std.specs.List.{fold}
use Rattle.unix_path.specs.Order.{values_cmp}
use Rattle.unix_path.specs.Parts.{Value, values}
use Rattle.path_runs.specs.Spelling.{spelling_of}
use Rattle.path_table.specs.Table.{entries_under}
use Rattle.pathtool.specs.Fields.{tabs}

-- the entries, and a new entry for each path whose components have no entry yet
abbrev pub entries_with : List (List Value × Unit {0}) → List (List ℕ)
    → List (List Value × Unit {0})
entries_with entries paths =
    fold (λ entries path. insert_entry values_cmp entries (values path) tt) entries paths

-- for each path that starts with the base, the rest after the base in canonical form; the paths are
-- in path order, and equal paths occur once
abbrev pub under_answer : List ℕ → List (List ℕ) → List ℕ
under_answer base paths =
    tabs (map (λ entry. spelling_of entry.0) (entries_under (values base) (entries_with [] paths)))
