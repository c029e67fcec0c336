use Rattle.std.proofs.Common.{◌≡◌, map, take}
use Rattle.upath_commands.specs.Invocations.{view_bytes}
use Rattle.upath_commands.proofs.arguments.argument_paths.Given as goal

abbrev pub invariant-loop-argument : goal.invariant-loop-argument
invariant-loop-argument l =
    map view_bytes l.paths.items
    ≡ map (λ argument. argument.items) (take l.argument-index l.arguments)
