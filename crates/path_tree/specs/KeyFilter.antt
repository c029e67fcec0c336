-- The Bloom filter over a tree's keys. No public clause cites this definition.
use Rattle.std.specs.Prelude.{ℕ, Bool, List}
use Rattle.path_tree.specs.Hashed.{has_bit, hash_of}
use Rattle.path_tree.specs.declared.key_filter.KeyFilter.{KeyFilter}

-- the filter has the bit of the key
abbrev pub may_contain : KeyFilter → List ℕ → Bool
may_contain filter key = has_bit filter.mask filter.words.items (hash_of key)
