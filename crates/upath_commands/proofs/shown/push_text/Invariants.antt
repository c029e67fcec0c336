use Rattle.std.proofs.Common.{◌≡◌, ◌++◌, length}
use Rattle.upath_commands.specs.Shown.{shown_text}
use Rattle.upath_commands.proofs.shown.push_text.Given as goal

abbrev pub invariant-loop-rest : goal.invariant-loop-rest
invariant-loop-rest l =
    l.out.items ++ shown_text l.rest ≡ l.initial.out.items ++ shown_text l.text

abbrev pub decreases-loop-rest : goal.decreases-loop-rest
decreases-loop-rest l = length l.rest
