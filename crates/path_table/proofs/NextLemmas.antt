-- After a call of `next` of `Under`, the remaining paths are still strictly increasing, and none is
-- before the base.
use Rattle.std.proofs.Common.{◌≡◌, ◌∷◌, ◌∙◌, ◌<◌, [], List, true, Option, Some, None}
use Rattle.std.proofs.Common.{ap, sym, subst, length, arith}
use Rattle.std.proofs.lemmas.List.Elements.{All-nil, All-head, All-rest}
use Rattle.std.proofs.lemmas.Map.Keys.{sorted_tail}
use Rattle.std.specs.Borrow.{Bor}
use Rattle.std.specs.List.Sorted.{IsStrictlySortedBy}
use Rattle.std.specs.Ordering.{is_le}
use Rattle.unix_bytes.specs.IsPrefixOf.{IsPrefixOf}
use Rattle.std.specs.Map.Iter.{TakesFirst, deref_pair}
use Rattle.unix_path.specs.Buffers.{path_bytes}
use Rattle.unix_path.specs.Order.{values_cmp}
use Rattle.unix_path.specs.Parts.{Value, values}
use Rattle.unix_path.specs.declared.buf.PathBuf.{PathBuf}
use Rattle.path_runs.specs.TableLaws.{rows_of}
use Rattle.path_runs.specs.OrderLaws.{DescendantsContiguous}
use Rattle.path_table.specs.Table.{NoneBefore, entries_under, paths_of}
use Rattle.path_table.proofs.UnderLemmas.{none_under, skip_under}

module _ {V : Type 0} (old new : List (PathBuf × V)) where
  -- if a call of `next` takes the first of the entries `old`, if any, and leaves `new`, and the
  -- paths of `old` are strictly increasing, so are the paths of `new`
  pub next_ordered : (r : Option (Bor PathBuf × Bor V)) → TakesFirst deref_pair old r new
      → IsStrictlySortedBy values_cmp (paths_of old) → IsStrictlySortedBy values_cmp (paths_of new)
  unfolding IsStrictlySortedBy
  next_ordered None none sorted =
      subst (λ es. IsStrictlySortedBy values_cmp (paths_of es)) (sym none.1) tt
  next_ordered (Some e) some sorted =
      sorted_tail values_cmp (values (path_bytes e.0.now)) (paths_of new)
      (subst (λ es. IsStrictlySortedBy values_cmp (paths_of es)) some sorted)

  -- if a call of `next` takes the first of the entries `old`, if any, and leaves `new`, and no path
  -- of `old` is before base, no path of `new` is before base
  pub next_not_before : (base : List Value) (r : Option (Bor PathBuf × Bor V))
      → TakesFirst deref_pair old r new
      → NoneBefore base (paths_of old) → NoneBefore base (paths_of new)
  next_not_before base None none from =
      subst (λ es. NoneBefore base (paths_of es)) (sym none.1) (All-nil _)
  next_not_before base (Some e) some from =
      All-rest (λ v. is_le (values_cmp base v) ≡ true) (values (path_bytes e.0.now))
      (paths_of new) (paths_of old) (ap paths_of some) from

  -- by `DescendantsContiguous`: if `old` is e and then `new`, the paths of `old` are strictly
  -- increasing, none of them is before base, and the path of e isn't under base, then neither `old`
  -- nor `new` has rows under base
  pub none_remaining : DescendantsContiguous → (base : List Value) (e : PathBuf × V) → old ≡ e ∷ new
      → IsStrictlySortedBy values_cmp (paths_of old) → NoneBefore base (paths_of old)
      → (IsPrefixOf base (values (path_bytes e.0)) → ⊥)
      → (entries_under base (rows_of path_bytes old) ≡ [])
      × (entries_under base (rows_of path_bytes new) ≡ [])
  none_remaining interval base e next sorted from apart =
      let row : List Value × V = (values (path_bytes e.0), e.1) in
      let rows = rows_of path_bytes new in
      let paths = ap paths_of next in
      let ordered = subst (IsStrictlySortedBy values_cmp) paths sorted in
      let first = All-head (λ v. is_le (values_cmp base v) ≡ true) row.0 (paths_of new)
      (subst (NoneBefore base) paths from) in
      let none = none_under base interval row rows ordered first apart in (
        ap (λ es. entries_under base (rows_of path_bytes es)) next
            ∙ skip_under base row rows apart ∙ none,
        none,
      )

-- if `old` is x and then `new`, `new` is shorter than `old`
pub one_fewer : {A : Type 0} (x : A) (old new : List A) → old ≡ x ∷ new → length new < length old
one_fewer x old new next = rw next (omega arith)
