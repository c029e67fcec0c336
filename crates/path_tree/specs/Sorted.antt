-- Items whose paths are strictly increasing, from which a tree is created at once.
use Rattle.std.specs.Prelude.{◌≡◌, ℕ, List, [], ◌∷◌, ◌++◌, Option, Some}
use Rattle.std.specs.Iterator.{Drains, YieldsThen}
use Rattle.std.specs.List.Sorted.{IsStrictlySortedBy}
use Rattle.std.specs.Map.{keys_of}
use Rattle.std.specs.declared.cmp.Ordering.TheVariants.{Less}
use Rattle.unix_path.specs.Parts.{values}
use Rattle.unix_path.specs.declared.path.Path.{Path}
use Rattle.path_keys.specs.Keys.{key_of}
use Rattle.path_keys.specs.Ranges.{bytes_cmp}
use Rattle.path_tree.specs.Many.{entries_in}

-- the paths of an iterator's items are strictly increasing, and `entries` are the entries of the
-- items
pub record ListsAll {V S : Type 0} (steps : S → Option (Path × V) → S → Type 0) (items : S)
    (entries : List (List ℕ × V)) : Type 0 where
  pub yielded : List (Path × V)
  pub all_items : Drains steps items yielded
  pub rise : IsStrictlySortedBy bytes_cmp (keys_of (entries_in yielded))
  pub entries_are : entries ≡ entries_in yielded

-- the paths of an iterator's first items are strictly increasing, and the path of the next item is
-- not greater than the last of these paths
pub record StopsRising {V S : Type 0} (steps : S → Option (Path × V) → S → Type 0) (items : S)
    : Type 0 where
  pub yielded : List (Path × V)
  pub last : Path × V
  pub next : Path × V
  pub after : S
  pub items_before : YieldsThen steps items (yielded ++ last ∷ []) (Some next) after
  pub rise : IsStrictlySortedBy bytes_cmp (keys_of (entries_in (yielded ++ last ∷ [])))
  pub falls : bytes_cmp (key_of (values last.0.bytes.now)) (key_of (values next.0.bytes.now))
      ≡ Less → ⊥
