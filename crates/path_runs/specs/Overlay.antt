-- Bytes of a buffer that are overwritten. No public clause cites this definition.
use Rattle.std.specs.Prelude.{ℕ, ◌+◌, List, ◌++◌, length, take, drop}

-- the bytes `old` after `bytes` are written over them, from index `at` on
abbrev pub overlay : ℕ → List ℕ → List ℕ → List ℕ
overlay at bytes old = (take at old ++ bytes) ++ drop (at + length bytes) old
