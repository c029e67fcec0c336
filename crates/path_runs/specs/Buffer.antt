-- The contents of a caller's buffer after a call that writes its whole result to it, or nothing.
use Rattle.std.specs.Prelude.{ℕ, List, ◌++◌, drop, length, nat_le, if◌then◌else◌}

-- a buffer with the contents `old` after a call whose result is `bytes`: `old` if `bytes` is
-- longer; otherwise `bytes`, and then the bytes of `old` from index `length bytes` on
abbrev pub buffer_after : List ℕ → List ℕ → List ℕ
buffer_after bytes old =
    if nat_le (length bytes) (length old) then bytes ++ drop (length bytes) old else old
