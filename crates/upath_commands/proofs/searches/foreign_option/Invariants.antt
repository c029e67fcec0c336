use Rattle.std.proofs.Common.{◌≡◌, map, drop}
use Rattle.upath_commands.specs.Items.{item_value}
use Rattle.upath_commands.specs.Arguments.{first_of, foreign_option}
use Rattle.upath_commands.proofs.searches.foreign_option.Given as goal

abbrev pub invariant-loop-item : goal.invariant-loop-item
invariant-loop-item l =
    first_of (foreign_option l.command) (map item_value (drop l.item-index l.items))
    ≡ first_of (foreign_option l.command) (map item_value l.items)
