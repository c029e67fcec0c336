use Rattle.std.proofs.Common.{◌≡◌, ◌++◌, map, drop}
use Rattle.upath_commands.specs.Items.{item_value, letter_items}
use Rattle.upath_commands.proofs.items.push_letters.Given as goal

abbrev pub invariant-loop-index : goal.invariant-loop-index
invariant-loop-index l =
    map item_value l.items.items ++ letter_items (drop l.index l.letters)
    ≡ map item_value l.initial.items.items ++ letter_items l.letters
