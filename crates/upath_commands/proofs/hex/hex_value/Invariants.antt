use Rattle.std.proofs.Common.{◌≡◌, length}
use Rattle.upath_commands.specs.Hex.{hex_value}
use Rattle.upath_commands.proofs.lemmas.HexLemmas.{joined}
use Rattle.upath_commands.proofs.hex.hex_value.Given as goal

-- the text's value is the bytes so far before the value of the rest
abbrev pub invariant-loop-rest : goal.invariant-loop-rest
invariant-loop-rest l = hex_value l.text ≡ joined l.bytes.items (hex_value l.rest)

abbrev pub decreases-loop-rest : goal.decreases-loop-rest
decreases-loop-rest l = length l.rest
