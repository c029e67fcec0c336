-- Laws of tables with paths as keys: such a table behaves like one whose keys are the paths'
-- components (Rust's `BTreeMap`).
use Rattle.std.specs.Prelude.{◌≡◌, ℕ, List, map}
use Rattle.std.specs.BTreeMap.{insert_entry, is_at}
use Rattle.std.specs.Map.{lookup, remove_entry}
use Rattle.std.specs.Ordering.{on}
use Rattle.unix_path.specs.Parts.{Value, values}
use Rattle.unix_path.specs.Order.{values_cmp}
use Rattle.unix_path.specs.declared.path.Path.{Path}

-- the bytes of a borrowed path
abbrev pub view_bytes : Path → List ℕ
view_bytes path = path.bytes.now

-- the entries as rows: each key is replaced by the key's components
abbrev pub rows_of : {K V : Type 0} → (K → List ℕ) → List (K × V) → List (List Value × V)
rows_of bytes_of entries = map (λ e. (values (bytes_of e.0), e.1)) entries

-- looking up the components w in `entries`, by the components of their keys, has the same result as
-- looking up w in the rows of `entries`: the same value, or None for both
abbrev pub LookupByValues : {K : Type 0} → (K → List ℕ) → Type 0 → Type 0
LookupByValues {K} bytes_of V =
    (w : List Value) (entries : List (K × V))
    → lookup (is_at (λ k. values_cmp w (values (bytes_of k)))) entries
    ≡ lookup (is_at (values_cmp w)) (rows_of bytes_of entries)

-- if `key` and `value` are inserted into `entries`, the rows after that are the rows of `entries`
-- into which the components of `key`, and `value`, are inserted
abbrev pub InsertByValues : {K : Type 0} → (K → List ℕ) → Type 0 → Type 0
InsertByValues {K} bytes_of V =
    (entries : List (K × V)) (key : K) (value : V)
    → rows_of bytes_of
    (insert_entry (on (λ k. values (bytes_of k)) values_cmp) entries key value)
    ≡ insert_entry values_cmp (rows_of bytes_of entries) (values (bytes_of key)) value

-- if the entry whose key has the components w is removed from `entries`, the rows after that are
-- the rows of `entries` from which the row with the components w is removed
abbrev pub RemoveByValues : {K : Type 0} → (K → List ℕ) → Type 0 → Type 0
RemoveByValues {K} bytes_of V =
    (w : List Value) (entries : List (K × V))
    → rows_of bytes_of (remove_entry (is_at (λ k. values_cmp w (values (bytes_of k)))) entries)
    ≡ remove_entry (is_at (values_cmp w)) (rows_of bytes_of entries)
