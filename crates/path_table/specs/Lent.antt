-- The table after the borrow of one of its values has ended.
use Rattle.std.specs.Prelude.{◌≡◌, List, Option}
use Rattle.std.specs.Borrow.{Fml, LendsSo, MutBor, RattleType}
use Rattle.std.specs.BTreeMap.{is_at}
use Rattle.std.specs.Map.{set_value}
use Rattle.unix_path.specs.Order.{values_cmp}
use Rattle.unix_path.specs.Parts.{Value}
use Rattle.path_table.specs.Table.{key_bytes, table_of}
use Rattle.path_table.specs.contracts.table.PathTable.{the_row}
use Rattle.path_table.specs.declared.table.PathTable.{PathTable}

-- when the borrow r of the value at the components v ends, the table s has the last value of r at
-- v, and all other values and the bytes of all keys are unchanged; if r is `None`, all values and
-- the bytes of all keys are unchanged
abbrev pub lends_table_value : (V : RattleType) → MutBor (PathTable V.Denot) → List Value
    → Option (MutBor V.Denot) → Fml
lends_table_value V s v r = LendsSo (the_row V) V s r
    (λ t x. (table_of t ≡ set_value (is_at (values_cmp v)) (table_of s.now) x)
    × (key_bytes t ≡ key_bytes s.now))
    (λ t. (table_of t ≡ table_of s.now) × (key_bytes t ≡ key_bytes s.now))
