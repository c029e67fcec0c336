use Rattle.std.proofs.Common.{◌≡◌, ◌++◌, map, drop, None}
use Rattle.upath_commands.specs.Items.{item_value, items_after}
use Rattle.upath_commands.specs.Invocations.{view_bytes}
use Rattle.upath_commands.proofs.items.items_of.Given as goal

-- the items so far, followed by those of the remaining arguments, are the items of all arguments
abbrev pub invariant-loop-index : goal.invariant-loop-index
invariant-loop-index l =
    map item_value l.items.items
    ++ items_after l.awaits (map view_bytes (drop l.index l.arguments))
    ≡ items_after None (map view_bytes l.arguments)
