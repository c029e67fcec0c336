use Rattle.std.proofs.Common.{◌≡◌, length, drop}
use Rattle.path_table.specs.Table.{table_of}
use Rattle.pathtool.specs.Fields.{fields_of}
use Rattle.pathtool.specs.Tables.{entries_with}
use Rattle.pathtool.proofs.tables.insert_paths.Given as goal

-- once the remaining fields are inserted too, the table has the entries for all fields
abbrev pub invariant-loop-bytes : goal.invariant-loop-bytes
invariant-loop-bytes l =
    let fields = fields_of l.fields in
    entries_with (table_of l.table) (drop (length l.yielded) fields)
    ≡ entries_with (table_of l.initial.table) fields
