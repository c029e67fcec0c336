-- The hash of a key, which determines its bit in a tree's Bloom filter. No public clause cites
-- these definitions.
use Rattle.std.specs.Prelude.{◌==◌, ◌/◌, ◌%◌, ◌^◌, ℕ, Bool, true, List, bit_and, length, nat_lt}
use Rattle.std.specs.Prelude.{if◌then◌else◌, slice_index}
use Rattle.std.specs.Hash.FoldHasher.{finish, initial, write}

-- the hash of the bytes by the standard library's `FoldHasher`
unfoldable pub hash_of : List ℕ → ℕ
hash_of key = finish (write initial key)

-- the bit of a hash is set: the masked bits of the hash are the index of the word, and its highest
-- six bits are the index of the bit in the word; if there is no such word, the bit counts as set
unfoldable pub has_bit : ℕ → List ℕ → ℕ → Bool
has_bit mask words hash =
    if nat_lt (bit_and hash mask) (length words)
    then slice_index words (bit_and hash mask) / 2 ^ (hash / 2 ^ 58) % 2 == 1
    else true
