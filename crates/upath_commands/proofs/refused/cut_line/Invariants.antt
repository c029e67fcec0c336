use Rattle.std.proofs.Common.{◌≡◌, ◌≤◌, ◌==◌, take}
use Rattle.std.specs.List.{count_by}
use Rattle.upath_commands.proofs.refused.cut_line.Given as goal

abbrev pub invariant-loop-byte : goal.invariant-loop-byte
invariant-loop-byte l =
    (l.count ≡ count_by (λ b. b == 0) (take l.byte-index l.input)) × (l.count ≤ l.byte-index)
