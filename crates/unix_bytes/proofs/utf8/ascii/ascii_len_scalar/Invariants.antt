use Rattle.std.proofs.Common.{take}
use Rattle.std.specs.Str.{IsAscii}
use Rattle.unix_bytes.proofs.utf8.ascii.ascii_len_scalar.Given as goal

-- the bytes of `source` before `index` are ASCII
abbrev pub invariant-loop-index : goal.invariant-loop-index
invariant-loop-index l = IsAscii (take l.index l.source)
