use Rattle.std.proofs.Common.{◌≡◌, ◌++◌, map, drop}
use Rattle.std.specs.List.{filter_map}
use Rattle.upath_commands.specs.Items.{item_value}
use Rattle.upath_commands.specs.Invocations.{view_bytes}
use Rattle.upath_commands.specs.Arguments.{operand_of}
use Rattle.upath_commands.proofs.searches.operands_in.Given as goal

abbrev pub invariant-loop-item : goal.invariant-loop-item
invariant-loop-item l =
    map view_bytes l.operands.items
    ++ filter_map operand_of (map item_value (drop l.item-index l.items))
    ≡ filter_map operand_of (map item_value l.items)
