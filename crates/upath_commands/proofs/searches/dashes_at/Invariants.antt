use Rattle.std.proofs.Common.{◌≡◌, ◌≤◌, map, drop}
use Rattle.upath_commands.specs.Items.{item_value}
use Rattle.upath_commands.specs.Arguments.{dashes_at}
use Rattle.upath_commands.proofs.lemmas.DashLemmas.{dashes_after}
use Rattle.upath_commands.proofs.searches.dashes_at.Given as goal

abbrev pub invariant-loop-item : goal.invariant-loop-item
invariant-loop-item l =
    (l.count ≤ l.item-index)
    × (dashes_after l.count (map item_value (drop l.item-index l.items))
    ≡ dashes_at (map item_value l.items))
