use Rattle.std.proofs.Common.{◌≡◌, take}
use Rattle.upath_commands.specs.Hex.{hex_of}
use Rattle.upath_commands.proofs.hex.hex_of.Given as goal

abbrev pub invariant-loop-byte : goal.invariant-loop-byte
invariant-loop-byte l = l.text.items ≡ hex_of (take l.byte-index l.bytes)
