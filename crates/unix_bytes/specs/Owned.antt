-- The bytes and the capacity of a `UnixString`, as its contracts state them.
use Rattle.std.specs.Prelude.{ℕ, ◌+◌, ◌-◌, List, length, vec_len, vec_capacity}
use Rattle.unix_bytes.specs.declared.bytes.owned.UnixString.{UnixString}

-- the bytes of a `UnixString`
abbrev pub owned_bytes : UnixString → List ℕ
owned_bytes s = s.bytes.items

-- the capacity of a `UnixString`: how many bytes it can hold before it grows
abbrev pub owned_capacity : UnixString → ℕ
owned_capacity s = length (owned_bytes s) + (vec_capacity s.bytes - vec_len s.bytes)
