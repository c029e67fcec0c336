-- The bytes and the capacity of an owned key.
use Rattle.std.specs.Prelude.{ℕ, List, vec_capacity}
use Rattle.path_keys.specs.declared.key.PathKey.{PathKey}

-- the bytes of a key
abbrev pub key_bytes : PathKey → List ℕ
key_bytes key = key.bytes.items

-- the number of bytes that a key can contain before it reallocates
abbrev pub key_capacity : PathKey → ℕ
key_capacity key = vec_capacity key.bytes
