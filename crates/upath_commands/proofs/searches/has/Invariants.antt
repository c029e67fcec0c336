use Rattle.std.proofs.Common.{◌≡◌, map, drop}
use Rattle.upath_commands.specs.Items.{item_value}
use Rattle.upath_commands.specs.Arguments.{has}
use Rattle.upath_commands.proofs.searches.has.Given as goal

abbrev pub invariant-loop-item : goal.invariant-loop-item
invariant-loop-item l =
    has (map item_value (drop l.item-index l.items)) l.option
    ≡ has (map item_value l.items) l.option
