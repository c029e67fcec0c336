use Rattle.std.proofs.Common.{◌≡◌, ◌++◌, map}
use Rattle.upath_commands.specs.Answers.{record_output}
use Rattle.upath_commands.proofs.parts.push_each.Given as goal

abbrev pub invariant-loop-item : goal.invariant-loop-item
invariant-loop-item g l =
    l.out.items ≡ l.initial.out.items
    ++ record_output l.options l.path.bytes.now
    (map (λ x. x.bytes.now) l.yielded)
