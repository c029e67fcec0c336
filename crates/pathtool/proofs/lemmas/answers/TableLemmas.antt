-- The entries of a table of paths, and the paths that it finds under a base.
use Rattle.std.proofs.Common.{◌≡◌, ℕ, ◌+◌, List, [], ◌∷◌, ◌++◌, map, drop, length, Some, None}
use Rattle.std.proofs.Common.{sym, ap, ap₂, ◌∙◌, arith}
use Rattle.std.specs.BTreeMap.{insert_entry}
use Rattle.std.proofs.lemmas.List.{at_drop_more, at_drop_all, length_push}
use Rattle.std.proofs.lemmas.Simd.{map-map}
use Rattle.std.specs.Borrow.{Bor}
use Rattle.unix_path.specs.Order.{values_cmp}
use Rattle.unix_path.specs.Parts.{Value, values}
use Rattle.unix_path.specs.declared.path.Path.{Path}
use Rattle.path_runs.specs.Spelling.{spelling_of}
use Rattle.path_table.specs.Table.{item_row, entries_under}
use Rattle.pathtool.specs.Fields.{tabs}
use Rattle.pathtool.specs.Tables.{entries_with, under_answer}
use Rattle.pathtool.proofs.lemmas.lines.LoopLemmas.{IsStep}

-- the canonical form of the path in an item that a table's `under` returns
abbrev pub row_spelling : Path × Bor (Unit {0}) → List ℕ
row_spelling found = spelling_of (values found.0.bytes.now)

-- `so_far`: if the paths after those in `yielded` are inserted into `entries`, the result is `all`
module _ {A : Type 0} (shown : A → List ℕ) (paths : List (List ℕ)) (yielded : List A)
    (entries all : List (List Value × Unit {0}))
    (so_far : entries_with entries (drop (length yielded) paths) ≡ all) where
  -- if `more` is `entries` with the next path inserted, the fact `so_far` still holds for `more`
  -- and the paths after this path
  pub entries_with-more : (path : A) (more : List (List Value × Unit {0}))
      → IsStep shown paths yielded (Some path)
      → more ≡ insert_entry values_cmp entries (values (shown path)) tt
      → entries_with more (drop (length (yielded ++ path ∷ [])) paths) ≡ all
  entries_with-more path more h e =
      let n = length yielded in
      ap₂ (λ entries n. entries_with entries (drop n paths)) e (length_push yielded path)
      ∙ sym (at_drop_more (entries_with entries) paths n (shown path) h.0
      ∙ ap (λ path. entries_with (insert_entry values_cmp entries (values path) tt)
      (drop (n + 1) paths)) (sym h.1))
      ∙ so_far

  -- if no path remains, `entries` is `all`
  pub entries_with-all : IsStep shown paths yielded None → entries ≡ all
  entries_with-all h =
      sym (at_drop_all (entries_with entries) paths (length yielded) (omega (arith, h))) ∙ so_far

-- if `table` has the entries for `paths`, and `found` are the items that it has under `base`, the
-- canonical forms of `found`, joined by tabs, are the answer of the command `under`
pub under_answer-found : (base : List ℕ) (paths : List (List ℕ))
    (found : List (Path × Bor (Unit {0}))) (key : List ℕ) (table : List (List Value × Unit {0}))
    → key ≡ base → table ≡ entries_with [] paths
    → map item_row found ≡ entries_under (values key) table
    → tabs (map row_spelling found) ≡ under_answer base paths
under_answer-found base paths found key table same holds is =
    let spell = λ (row : List Value × Unit {0}). spelling_of row.0 in
    ap tabs (sym (map-map spell item_row found)
    ∙ ap (map spell)
    (is ∙ ap₂ (λ key table. entries_under (values key) table) same holds))
