-- Lengths as C returns them, where a length may be greater than any `size_t`, or than any buffer.
-- No public clause cites these definitions.
use Rattle.std.specs.Prelude.{ℕ, min, ◌-◌, ◌^◌}

-- the number, or the greatest `size_t` if the number is greater
abbrev pub saturated_size : ℕ → ℕ
saturated_size n = min n (2 ^ 64 - 1)

-- the number, or `PTRDIFF_MAX + 1` if the number is greater; a call returns `PTRDIFF_MAX + 1` as
-- the error code for a result that is too long
abbrev pub buffer_size : ℕ → ℕ
buffer_size n = min n (2 ^ 63)
