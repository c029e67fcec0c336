use Rattle.std.proofs.Common.{◌≡◌, ◌++◌, map}
use Rattle.unix_path.specs.Buffers.{path_bytes}
use Rattle.unix_path.specs.Parts.{values}
use Rattle.path_table.specs.Table.{item_rest, item_row, entries_of, entries_under, rests_under}
use Rattle.path_table.specs.Table.{table_of}
use Rattle.path_table.specs.Under.{remaining_rests, remaining_rows}
use Rattle.path_table.proofs.table.PathTable.under.Given as goal

abbrev pub invariant-loop-item : goal.invariant-loop-item
invariant-loop-item g l =
    (goal.iterator-loop-item g).can_next l.item-iterator
    × (goal.iterator-loop-item g).is_finite l.item-iterator
    × (map item_row l.found.items ++ remaining_rows l.item-iterator
    ≡ entries_under (values (path_bytes l.fn.base)) (table_of l.fn.self))
    × (map item_rest l.found.items ++ remaining_rests l.item-iterator
    ≡ rests_under (path_bytes l.fn.base) (entries_of l.fn.self))
