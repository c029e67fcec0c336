-- Tables of values by path, as rows: a row is the components of a path, with the value.
use Rattle.std.specs.Prelude.{ℕ, List, drop, length, map}
use Rattle.std.specs.Borrow.{Bor}
use Rattle.std.specs.List.{AllPass, filter}
use Rattle.std.specs.Map.{keys_of}
use Rattle.std.specs.Ordering.{is_le}
use Rattle.std.specs.declared.cmp.Ordering.{Ordering}
use Rattle.unix_path.specs.Buffers.{path_bytes}
use Rattle.unix_path.specs.Order.{values_cmp}
use Rattle.unix_path.specs.Parts.{Value, values}
use Rattle.unix_path.specs.Prefixes.{stripped_of}
use Rattle.unix_path.specs.declared.buf.PathBuf.{PathBuf}
use Rattle.unix_path.specs.declared.path.Path.{Path}
use Rattle.path_runs.specs.Rows.{is_under}
use Rattle.path_runs.specs.TableLaws.{rows_of}
use Rattle.path_table.specs.declared.table.PathTable.{PathTable}

-- the entries of a table in path order: each path as it was inserted, with its value
abbrev pub entries_of : {V : Type 0} → PathTable V → List (PathBuf × V)
entries_of table = table.inner.entries

-- the rows of a table in path order: the components of each path, with its value
abbrev pub table_of : {V : Type 0} → PathTable V → List (List Value × V)
table_of table = rows_of path_bytes (entries_of table)

-- the bytes of each path of a table as it was inserted, in path order
abbrev pub key_bytes : {V : Type 0} → PathTable V → List (List ℕ)
key_bytes table = map path_bytes (keys_of (entries_of table))

-- the order of two owned paths, as `cmp` returns it
abbrev pub paths_cmp : PathBuf → PathBuf → Ordering
paths_cmp p q = values_cmp (values (path_bytes p)) (values (path_bytes q))

-- the components of the path of each of `entries`
abbrev pub paths_of : {V : Type 0} → List (PathBuf × V) → List (List Value)
paths_of entries = keys_of (rows_of path_bytes entries)

-- none of the component lists `paths` comes before base in path order
abbrev pub NoneBefore : List Value → List (List Value) → Type 0
NoneBefore base paths = AllPass (λ v. is_le (values_cmp base v)) paths

-- the row without its first n components, where n is the number of base's components
abbrev pub row_after_base : {V : Type 0} → List Value → List Value × V → List Value × V
row_after_base base row = (drop (length base) row.0, row.1)

-- those of `rows` whose components start with base, in their order, each without the components of
-- base
abbrev pub entries_under : {V : Type 0} → List Value → List (List Value × V)
    → List (List Value × V)
entries_under base rows = map (row_after_base base) (filter (λ row. is_under base row.0) rows)

-- the components of an item's path, with the borrowed value
abbrev pub item_row : {V : Type 0} → Path × Bor V → List Value × V
item_row item = (values item.0.bytes.now, item.1.now)

-- the bytes of an item's path, with the borrowed value
abbrev pub item_rest : {V : Type 0} → Path × Bor V → List ℕ × V
item_rest item = (item.0.bytes.now, item.1.now)

-- for each of `entries` under base, the bytes of its path that remain after base, and its value
abbrev pub rests_under : {V : Type 0} → List ℕ → List (PathBuf × V) → List (List ℕ × V)
rests_under base entries = map (λ e. (stripped_of (path_bytes e.0) base, e.1))
    (filter (λ e. is_under (values base) (values (path_bytes e.0))) entries)
