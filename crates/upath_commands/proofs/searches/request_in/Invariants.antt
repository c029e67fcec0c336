use Rattle.std.proofs.Common.{◌≡◌, map, drop}
use Rattle.upath_commands.specs.Items.{item_value}
use Rattle.upath_commands.specs.Arguments.{asked_in}
use Rattle.upath_commands.proofs.searches.request_in.Given as goal

abbrev pub invariant-loop-index : goal.invariant-loop-index
invariant-loop-index l =
    asked_in (map item_value (drop l.index l.items)) ≡ asked_in (map item_value l.items)
