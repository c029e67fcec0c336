-- The rows of a table are strictly increasing. Filtering entries by the components of their paths
-- filters their rows in the same way.
use Rattle.std.proofs.Common.{◌≡◌, ◌∷◌, [], List, Bool, true, false, cond, refl, ap, Less}
use Rattle.std.specs.List.{AllByRecursion, filter}
use Rattle.std.specs.List.Sorted.{IsStrictlySortedBy}
use Rattle.std.specs.BTreeMap.{is_at}
use Rattle.std.specs.Map.{keys_of, set_value}
use Rattle.std.specs.Ordering.{on}
use Rattle.unix_path.specs.Buffers.{path_bytes}
use Rattle.unix_path.specs.Order.{values_cmp}
use Rattle.unix_path.specs.Parts.{Value, values}
use Rattle.unix_path.specs.declared.buf.PathBuf.{PathBuf}
use Rattle.path_runs.specs.TableLaws.{rows_of}

module _ {V : Type 0} where
  -- if the components of the path of each of `entries` are greater than v, so are those of each row
  rows_greater : (v : List Value) (entries : List (PathBuf × V))
      → AllByRecursion (λ p. values_cmp v (values (path_bytes p)) ≡ Less) (keys_of entries)
      → AllByRecursion (λ w. values_cmp v w ≡ Less) (keys_of (rows_of path_bytes entries))
  rows_greater v [] greater = tt
  rows_greater v (e ∷ entries) greater = (greater.0, rows_greater v entries greater.1)

  -- if the paths of `entries` are strictly increasing, so are the components of their rows
  pub sorted-rows_of : (entries : List (PathBuf × V))
      → IsStrictlySortedBy (on (λ p. values (path_bytes p)) values_cmp) (keys_of entries)
      → IsStrictlySortedBy values_cmp (keys_of (rows_of path_bytes entries))
  unfolding IsStrictlySortedBy
  sorted-rows_of [] sorted = tt
  sorted-rows_of (e ∷ entries) sorted =
      (rows_greater (values (path_bytes e.0)) entries sorted.0, sorted-rows_of entries sorted.1)

  -- filtering `entries` by a test of the components of their paths, and then taking the rows, has
  -- the same result as filtering the rows of `entries` by the test of their components
  pub rows_of-filter : (test : List Value → Bool) (entries : List (PathBuf × V))
      → rows_of path_bytes (filter (λ e. test (values (path_bytes e.0))) entries)
      ≡ filter (λ row. test row.0) (rows_of path_bytes entries)
  rows_of-filter test [] = refl
  rows_of-filter test (e ∷ entries) =
      let row : List Value × V = (values (path_bytes e.0), e.1) in
      let kept = filter (λ e. test (values (path_bytes e.0))) entries in
      let kept_rows = filter (λ row. test row.0) (rows_of path_bytes entries) in
      elim (test row.0) as (λ b.
      rows_of path_bytes (cond b (e ∷ kept) kept) ≡ cond b (row ∷ kept_rows) kept_rows) [
        | true ↦ ap (λ rows. row ∷ rows) (rows_of-filter test entries)
        | false ↦ rows_of-filter test entries
      ]

  -- filtering rows by a test of their components, and then taking the components, has the same
  -- result as filtering the components by the test
  pub keys_of-filter : (test : List Value → Bool) (rows : List (List Value × V))
      → keys_of (filter (λ row. test row.0) rows) ≡ filter test (keys_of rows)
  keys_of-filter test [] = refl
  keys_of-filter test (row ∷ rows) =
      let kept : List (List Value × V) = filter (λ row. test row.0) rows in
      elim (test row.0) as (λ b.
      keys_of (cond b (row ∷ kept) kept)
      ≡ cond b (row.0 ∷ filter test (keys_of rows)) (filter test (keys_of rows))) [
        | true ↦ ap (λ keys. row.0 ∷ keys) (keys_of-filter test rows)
        | false ↦ keys_of-filter test rows
      ]

  -- setting the value of the entry at the components v to x, and then taking the rows, has the same
  -- result as setting the value of the row at v to x
  pub rows_of-set_value : (v : List Value) (entries : List (PathBuf × V)) (x : V)
      → rows_of path_bytes
      (set_value (is_at (λ p. values_cmp v (values (path_bytes p)))) entries x)
      ≡ set_value (is_at (values_cmp v)) (rows_of path_bytes entries) x
  rows_of-set_value v [] x = refl
  rows_of-set_value v (e ∷ entries) x =
      let w = values (path_bytes e.0) in
      let written = set_value (is_at (λ p. values_cmp v (values (path_bytes p)))) entries x in
      elim (is_at (values_cmp v) w) as (λ b.
      rows_of path_bytes (cond b ((e.0, x) ∷ entries) (e ∷ written))
      ≡ cond b ((w, x) ∷ rows_of path_bytes entries)
      ((w, e.1) ∷ set_value (is_at (values_cmp v)) (rows_of path_bytes entries) x)) [
        | true ↦ refl
        | false ↦ ap (λ rows. (w, e.1) ∷ rows) (rows_of-set_value v entries x)
      ]
