-- The entry nearest to a path: the entry whose path is the path's longest prefix.
use Rattle.std.specs.Prelude.{◌≡◌, ℕ, List, Some, IsSome, length}
use Rattle.unix_bytes.specs.IsPrefixOf.{IsLongest}
use Rattle.unix_path.specs.Parts.{Value, values}
use Rattle.unix_path.specs.Rest.{rest}
use Rattle.path_keys.specs.Keys.{key_of}
use Rattle.path_tree.specs.Entries.{entry_at}

-- `base` is the longest prefix of the components of s whose key has an entry, x is the value of
-- this entry, and `rest_bytes` is the rest of s after `base`
pub record IsNearest {V : Type 0} (s : List ℕ) (entries : List (List ℕ × V))
    (rest_bytes : List ℕ) (x : V) : Type 0 where
  pub base : List Value
  pub value_is : entry_at (key_of base) entries ≡ Some x
  pub longest : IsLongest (λ v. IsSome (entry_at (key_of v) entries)) base (values s)
  pub rest_is : rest_bytes ≡ rest s (length base) 0
