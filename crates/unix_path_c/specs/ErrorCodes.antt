-- What a call returns that writes a result: a length or an error code.
use Rattle.std.specs.Prelude.{ℕ, ◌<◌, ◌^◌}

-- the answer is a length, which is at most `PTRDIFF_MAX`, and so less than each error code
abbrev pub IsLength : ℕ → Type 0
IsLength answer = answer < 2 ^ 63
