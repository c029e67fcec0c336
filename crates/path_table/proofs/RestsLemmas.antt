-- The rests of the paths under a base, as bytes.
use Rattle.std.proofs.Common.{◌≡◌, ◌∷◌, [], ◌∙◌, ℕ, List, Bool, true, false, cond, true≢false, map}
use Rattle.std.proofs.Common.{length, refl, suc, sym, ap}
use Rattle.std.proofs.lemmas.List.{nil_from_length}
use Rattle.std.specs.List.{filter}
use Rattle.std.specs.Ordering.{is_le}
use Rattle.unix_bytes.specs.IsPrefixOf.{IsPrefixOf}
use Rattle.unix_path.specs.Buffers.{path_bytes}
use Rattle.unix_path.specs.Order.{values_cmp}
use Rattle.unix_path.specs.Parts.{Value, values}
use Rattle.unix_path.specs.Prefixes.{stripped_of}
use Rattle.unix_path.specs.declared.buf.PathBuf.{PathBuf}
use Rattle.path_runs.specs.OrderLaws.{BaseBeforeUnder}
use Rattle.path_runs.specs.TableLaws.{rows_of}
use Rattle.path_runs.specs.Rows.{is_under}
use Rattle.path_table.specs.Table.{entries_under, rests_under, row_after_base}
use Rattle.path_runs.proofs.lemmas.rows.UnderLemmas.{begins_from_under, under_from_begins}

-- if each x that passes `test` passes `weaker`, filtering by `weaker` and then by `test` has the
-- same result as filtering by `test`
module _ {X : Type 0} (test weaker : X → Bool)
    (implies : (x : X) → test x ≡ true → weaker x ≡ true) where
  filter_first : (x : X) (xs : List X) (p q : Bool) → test x ≡ p → weaker x ≡ q
      → filter test (filter weaker xs) ≡ filter test xs
      → filter test (cond q (x ∷ filter weaker xs) (filter weaker xs))
      ≡ cond p (x ∷ filter test xs) (filter test xs)
  filter_first x xs p true is weak rest =
      ap (λ b. cond b (x ∷ filter test (filter weaker xs)) (filter test (filter weaker xs))) is
      ∙ ap (λ kept. cond p (x ∷ kept) kept) rest
  filter_first x xs true false is weak rest =
      absurd (true≢false (sym (implies x is) ∙ weak))
  filter_first x xs false false is weak rest = rest

  filter_filter : (xs : List X) → filter test (filter weaker xs) ≡ filter test xs
  filter_filter [] = refl
  filter_filter (x ∷ xs) =
      filter_first x xs (test x) (weaker x) refl refl (filter_filter xs)

module _ {V : Type 0} (base : List ℕ) where
  -- the bytes of the path of e that remain after base, and the value of e
  abbrev rest_of : PathBuf × V → List ℕ × V
  rest_of e = (stripped_of (path_bytes e.0) base, e.1)

  -- the path of e is under base
  abbrev is_entry_under : PathBuf × V → Bool
  is_entry_under e = is_under (values base) (values (path_bytes e.0))

  -- by `BaseBeforeUnder`: if `range` has those of `entries` whose paths are not before base,
  -- `range` and `entries` have the same rests under base
  pub rests_from_base : BaseBeforeUnder → (entries range : List (PathBuf × V))
      → range ≡ filter (λ e. is_le (values_cmp (values base) (values (path_bytes e.0)))) entries
      → rests_under base range ≡ rests_under base entries
  rests_from_base before entries range is =
      ap (rests_under base) is
      ∙ ap (map rest_of)
      (filter_filter is_entry_under
      (λ e. is_le (values_cmp (values base) (values (path_bytes e.0))))
      (λ e is. before (values base) (values (path_bytes e.0))
      (begins_from_under (values base) (values (path_bytes e.0)) is)) entries)

  -- if the path of e is under base, the list of e and then `entries` has as rests under base the
  -- rest of e, and then the rests under base of `entries`
  pub first_rest : (e : PathBuf × V) (entries : List (PathBuf × V))
      → IsPrefixOf (values base) (values (path_bytes e.0))
      → rests_under base (e ∷ entries)
      ≡ rest_of e ∷ rests_under base entries
  first_rest e entries begins =
      ap (λ b. map (λ e. (stripped_of (path_bytes e.0) base, e.1))
      (cond b (e ∷ filter is_entry_under entries) (filter is_entry_under entries)))
      (under_from_begins (values base) (values (path_bytes e.0)) begins)

  -- `entries` has as many rests under base as rows under base
  as_many : (entries : List (PathBuf × V))
      → length (rests_under base entries)
      ≡ length (entries_under (values base) (rows_of path_bytes entries))
  as_many [] = refl
  as_many (e ∷ entries) =
      let rests = filter is_entry_under entries in
      let row : List Value × V = (values (path_bytes e.0), e.1) in
      let rows = filter (λ (row : List Value × V). is_under (values base) row.0)
      (rows_of path_bytes entries) in
      elim (is_entry_under e) as (λ b.
      length (map rest_of (cond b (e ∷ rests) rests))
      ≡ length (map (row_after_base (values base)) (cond b (row ∷ rows) rows))) [
        | true ↦ ap (λ n. suc n) (as_many entries)
        | false ↦ as_many entries
      ]

  -- if `entries` has no rows under base, it has no rests under base
  pub no_rests : (entries : List (PathBuf × V))
      → entries_under (values base) (rows_of path_bytes entries) ≡ []
      → rests_under base entries ≡ []
  no_rests entries none = nil_from_length _ (as_many entries ∙ ap length none)
