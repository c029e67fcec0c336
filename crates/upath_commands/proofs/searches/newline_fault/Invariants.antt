use Rattle.std.proofs.Common.{◌≡◌, ◌++◌, map, drop}
use Rattle.std.specs.List.{find}
use Rattle.std.specs.Option.{option_to_list}
use Rattle.upath_commands.specs.Invocations.{view_bytes}
use Rattle.upath_commands.specs.Items.{item_value}
use Rattle.upath_commands.specs.Arguments.{has_newline, last_value}
use Rattle.upath_commands.specs.declared.options.Flag.TheVariants as option
use Rattle.upath_commands.proofs.searches.newline_fault.Given as goal

abbrev pub invariant-loop-operand : goal.invariant-loop-operand
invariant-loop-operand l =
    let text = option_to_list (last_value (map item_value l.items) option.Or) in
    find has_newline (map view_bytes (drop l.operand-index l.operands) ++ text)
    ≡ find has_newline (map view_bytes l.operands ++ text)
