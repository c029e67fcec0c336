use Rattle.std.proofs.Common.{◌≡◌, ◌++◌, map, take}
use Rattle.upath_commands.specs.Items.{item_value, operand}
use Rattle.upath_commands.specs.Invocations.{view_bytes}
use Rattle.upath_commands.proofs.items.push_operands.Given as goal

abbrev pub invariant-loop-argument : goal.invariant-loop-argument
invariant-loop-argument l =
    map item_value l.items.items
    ≡ map item_value l.initial.items.items
    ++ map operand (map view_bytes (take l.argument-index l.arguments))
