-- In path order the rows under a base are consecutive, and none is before the base.
use Rattle.std.proofs.Common.{◌≡◌, ◌∷◌, [], ◌∙◌, List, Bool, true, false, true≢false, cond, refl}
use Rattle.std.proofs.Common.{sym, ap, map, Less, append-nil}
use Rattle.std.specs.List.{AllByRecursion, filter}
use Rattle.std.specs.List.Sorted.{IsStrictlySortedBy}
use Rattle.std.specs.Map.{keys_of}
use Rattle.std.specs.Ordering.{is_le}
use Rattle.unix_bytes.specs.IsPrefixOf.{IsPrefixOf}
use Rattle.unix_path.specs.Order.{values_cmp}
use Rattle.unix_path.specs.Parts.{Value}
use Rattle.path_runs.specs.OrderLaws.{DescendantsContiguous, BaseBeforeUnder}
use Rattle.path_runs.specs.Rows.{is_under}
use Rattle.path_table.specs.Table.{entries_under, row_after_base}
use Rattle.path_runs.proofs.lemmas.rows.UnderLemmas.{begins_from_under, not_under}
use Rattle.path_runs.proofs.lemmas.rows.UnderLemmas.{under_from_begins}

module _ {V : Type 0} (base : List Value) where
  -- those of `rows` that are under base
  abbrev pub rows_with_base : List (List Value × V) → List (List Value × V)
  rows_with_base rows = filter (λ row. is_under base row.0) rows

  -- those of `rows` that are not before base
  abbrev pub from_base : List (List Value × V) → List (List Value × V)
  from_base rows = filter (λ row. is_le (values_cmp base row.0)) rows

  -- if `row` is under base, the list of `row` and then `rows` has as rows under base `row` without
  -- the components of base, and then the rows under base of `rows`
  pub first_under : (row : List Value × V) (rows : List (List Value × V)) → IsPrefixOf base row.0
      → entries_under base (row ∷ rows) ≡ row_after_base base row ∷ entries_under base rows
  first_under row rows begins =
      ap (λ b. map (row_after_base base) (cond b (row ∷ rows_with_base rows) (rows_with_base rows)))
      (under_from_begins base row.0 begins)

  -- if `row` isn't under base, the list of `row` and then `rows` has the same rows under base as
  -- `rows`
  pub skip_under : (row : List Value × V) (rows : List (List Value × V))
      → (IsPrefixOf base row.0 → ⊥) → entries_under base (row ∷ rows) ≡ entries_under base rows
  skip_under row rows apart =
      ap (λ b. map (row_after_base base) (cond b (row ∷ rows_with_base rows) (rows_with_base rows)))
      (not_under base row.0 apart)

  -- by `DescendantsContiguous`: if v is neither before base nor under base, and all of `rows` are
  -- greater than v, none of `rows` is under base
  none_after : DescendantsContiguous → (v : List Value) (rows : List (List Value × V))
      → is_le (values_cmp base v) ≡ true → (IsPrefixOf base v → ⊥)
      → AllByRecursion (λ w. values_cmp v w ≡ Less) (keys_of rows)
      → entries_under base rows ≡ []
  none_after interval v [] from apart greater = refl
  none_after interval v (row ∷ rows) from apart greater =
      skip_under row rows (λ begins. apart
      (interval base base v row.0 ([], append-nil base) begins from (ap is_le greater.0)))
      ∙ none_after interval v rows from apart greater.1

  -- by `DescendantsContiguous`: if `row` and then `rows` are strictly increasing, and `row` is
  -- neither before base nor under base, none of `rows` is under base
  pub none_under : DescendantsContiguous → (row : List Value × V) (rows : List (List Value × V))
      → IsStrictlySortedBy values_cmp (keys_of (row ∷ rows))
      → is_le (values_cmp base row.0) ≡ true → (IsPrefixOf base row.0 → ⊥)
      → entries_under base rows ≡ []
  unfolding IsStrictlySortedBy
  none_under interval row rows sorted from apart =
      none_after interval row.0 rows from apart sorted.0

  -- by `BaseBeforeUnder`: if leaving out the rows before base doesn't change which of `rows` are
  -- under base, it doesn't change either which rows of the list of `row` and then `rows` are under
  -- base
  one_more : BaseBeforeUnder → (row : List Value × V) (rows : List (List Value × V))
      (from is : Bool) → is_le (values_cmp base row.0) ≡ from → is_under base row.0 ≡ is
      → entries_under base (from_base rows) ≡ entries_under base rows
      → entries_under base (cond from (row ∷ from_base rows) (from_base rows))
      ≡ map (row_after_base base) (cond is (row ∷ rows_with_base rows) (rows_with_base rows))
  one_more before row rows true true from is rest =
      first_under row (from_base rows) (begins_from_under base row.0 is)
      ∙ ap (λ t. row_after_base base row ∷ t) rest
  one_more before row rows true false from is rest =
      ap (λ b. map (row_after_base base) (cond b (row ∷ rows_with_base (from_base rows))
      (rows_with_base (from_base rows)))) is
      ∙ rest
  one_more before row rows false true from is rest =
      absurd (true≢false (sym (before base row.0 (begins_from_under base row.0 is)) ∙ from))
  one_more before row rows false false from is rest = rest

  -- by `BaseBeforeUnder`, leaving out those of `rows` that are before base doesn't change which of
  -- them are under base
  pub under_from_base : BaseBeforeUnder → (rows : List (List Value × V))
      → entries_under base (from_base rows) ≡ entries_under base rows
  under_from_base before [] = refl
  under_from_base before (row ∷ rows) =
      one_more before row rows (is_le (values_cmp base row.0)) (is_under base row.0) refl refl
      (under_from_base before rows)
