-- Laws of trees of values by path.
use Rattle.std.specs.Prelude.{◌≡◌, ◌<◌, ◌+◌, ℕ, List, length, take}
use Rattle.unix_path.specs.Parts.{values}
use Rattle.path_keys.specs.Keys.{key_of}
use Rattle.unix_path.specs.Prefixes.{IsPrefixOf}
use Rattle.path_tree.specs.Children.{child_of}

-- if a path has more components than a base that it starts with, the child of the base's key with
-- which its key starts is the key of as many components as the base has, and one more
abbrev pub ChildHasOneMore : Type 0
ChildHasOneMore = (base s : List ℕ) → IsPrefixOf (values base) (values s)
    → length (values base) < length (values s)
    → child_of (key_of (values base)) (key_of (values s))
    ≡ key_of (take (length (values base) + 1) (values s))
