use Rattle.std.proofs.Common.{◌≡◌, map, drop, option_map}
use Rattle.std.specs.List.{filter_map, last_or}
use Rattle.upath_commands.specs.Items.{item_value}
use Rattle.upath_commands.specs.Invocations.{view_bytes}
use Rattle.upath_commands.specs.Arguments.{last_value, value_of}
use Rattle.upath_commands.proofs.searches.last_value.Given as goal

abbrev pub invariant-loop-item : goal.invariant-loop-item
invariant-loop-item l =
    last_or (option_map view_bytes l.value)
    (filter_map (value_of l.option) (map item_value (drop l.item-index l.items)))
    ≡ last_value (map item_value l.items) l.option
