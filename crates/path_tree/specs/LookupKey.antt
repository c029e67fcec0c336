-- The bytes of a key that was written for a look-up. No public clause cites this definition.
use Rattle.std.specs.Prelude.{ℕ, List}
use Rattle.path_keys.specs.Held.{key_bytes}
use Rattle.path_tree.specs.declared.lookup_key.LookupKey.{LookupKey}
use Rattle.path_tree.specs.declared.lookup_key.LookupKey.TheVariants.{Short, Long}

-- the bytes of a key
abbrev pub lookup_bytes : LookupKey → List ℕ
lookup_bytes (Short key) = key.now
lookup_bytes (Long key) = key_bytes key
