-- The rows and rests that a walk over the entries under a base has still to yield.
use Rattle.std.specs.Prelude.{ℕ, List, Option}
use Rattle.std.specs.Borrow.{Bor}
use Rattle.std.specs.Iterator.{YieldsFirstBy}
use Rattle.unix_path.specs.Buffers.{path_bytes}
use Rattle.unix_path.specs.Parts.{Value, values}
use Rattle.path_runs.specs.TableLaws.{rows_of}
use Rattle.unix_path.specs.declared.path.Path.{Path}
use Rattle.path_table.specs.Table.{item_rest, item_row, entries_under, rests_under}
use Rattle.path_table.specs.declared.table.under.Under.{Under}

-- the rows under the base that the walk has still to yield, each without the components of the base
abbrev pub remaining_rows : {V : Type 0} → Under V → List (List Value × V)
remaining_rows walk = entries_under (values walk.base.bytes.now) (rows_of path_bytes walk.inner)

-- for each path under the base that the walk has still to yield, the bytes of the path that remain
-- after the base, and its value
abbrev pub remaining_rests : {V : Type 0} → Under V → List (List ℕ × V)
remaining_rests walk = rests_under walk.base.bytes.now walk.inner

-- a call of `next` yields the first of `remaining_rows`, as an item whose path has the bytes of the
-- first of `remaining_rests`, and leaves the others; it yields `None` if there are none
pub record YieldsUnder {V : Type 0} (old : Under V) (item : Option (Path × Bor V)) (new : Under V)
    : Type 0 where
  pub row_is : YieldsFirstBy item_row remaining_rows old item new
  pub rest_is : YieldsFirstBy item_rest remaining_rests old item new
