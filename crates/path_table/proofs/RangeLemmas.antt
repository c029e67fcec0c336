-- The entries of a table from a base on, in path order: they are strictly increasing, and have all
-- rows under the base.
use Rattle.std.proofs.Common.{◌≡◌, ◌∙◌, ◌≤◌, List, Bool, sym, ap, subst, length}
use Rattle.std.proofs.Common.{arith}
use Rattle.std.proofs.lemmas.List.{length-map}
use Rattle.std.proofs.lemmas.List.Sums.{length-filter, count_by-le-length}
use Rattle.std.proofs.lemmas.List.Elements.{filter_passes}
use Rattle.std.proofs.lemmas.List.Kept.{IsStrictlySortedBy-filter}
use Rattle.std.specs.List.{count_by, filter}
use Rattle.std.specs.List.Sorted.{IsStrictlySortedBy}
use Rattle.std.specs.Map.{keys_of}
use Rattle.std.specs.Ordering.{is_le, on}
use Rattle.unix_path.specs.Buffers.{path_bytes}
use Rattle.unix_path.specs.Order.{values_cmp}
use Rattle.unix_path.specs.Parts.{Value, values}
use Rattle.unix_path.specs.declared.buf.PathBuf.{PathBuf}
use Rattle.path_runs.specs.OrderLaws.{BaseBeforeUnder}
use Rattle.path_runs.specs.TableLaws.{rows_of}
use Rattle.path_runs.specs.Rows.{is_under}
use Rattle.path_table.specs.Table.{NoneBefore, entries_under, paths_of, row_after_base}
use Rattle.path_table.proofs.RowLemmas.{sorted-rows_of, rows_of-filter, keys_of-filter}
use Rattle.path_table.proofs.UnderLemmas.{from_base, under_from_base}

-- `range` has those of `entries` whose paths are not before base
module _ {V : Type 0} (base : List Value) (entries range : List (PathBuf × V))
    (is : range ≡ filter (λ e. is_le (values_cmp base (values (path_bytes e.0)))) entries) where
  -- the rows of `range` are the rows of `entries` that are not before base
  rows_are : rows_of path_bytes range ≡ from_base base (rows_of path_bytes entries)
  rows_are =
      ap (rows_of path_bytes) is ∙ rows_of-filter (λ v. is_le (values_cmp base v)) entries

  -- the components of the paths of `range` are the components of those paths of `entries` that are
  -- not before base
  keys_are : keys_of (rows_of path_bytes range)
      ≡ filter (λ v. is_le (values_cmp base v)) (keys_of (rows_of path_bytes entries))
  keys_are =
      ap keys_of rows_are
      ∙ keys_of-filter (λ v. is_le (values_cmp base v)) (rows_of path_bytes entries)

  -- if the paths of `entries` are strictly increasing, so are the paths of `range`
  pub range_ordered : IsStrictlySortedBy (on (λ p. values (path_bytes p)) values_cmp)
      (keys_of entries) → IsStrictlySortedBy values_cmp (paths_of range)
  range_ordered sorted =
      subst (IsStrictlySortedBy values_cmp) (sym keys_are)
      (IsStrictlySortedBy-filter values_cmp (λ v. is_le (values_cmp base v)) _
      (sorted-rows_of entries sorted))

  -- no path of `range` is before base
  pub range_from_base : NoneBefore base (paths_of range)
  range_from_base =
      subst (NoneBefore base) (sym keys_are)
      (filter_passes (λ v. is_le (values_cmp base v)) _)

  -- by `BaseBeforeUnder`, the rows of `range` under base are the rows of `entries` under base
  pub range_under : BaseBeforeUnder
      → entries_under base (rows_of path_bytes range)
      ≡ entries_under base (rows_of path_bytes entries)
  range_under before =
      ap (entries_under base) rows_are
      ∙ under_from_base base before (rows_of path_bytes entries)

-- `range` has no more rows under base than entries
pub fewer_under : {V : Type 0} (base : List Value) (range : List (PathBuf × V))
    → length (entries_under base (rows_of path_bytes range)) ≤ length range
fewer_under {V} base range =
    let rows : List (List Value × V) = rows_of path_bytes range in
    let test : List Value × V → Bool = λ row. is_under base row.0 in
    let kept : length (entries_under base rows) ≡ count_by test rows =
    length-map (filter test rows) (row_after_base base) ∙ length-filter test rows in
    let all : length rows ≡ length range =
    length-map range (λ e. (values (path_bytes e.0), e.1)) in
    omega (arith, kept, all, count_by-le-length test rows)
