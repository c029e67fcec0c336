-- Many entries inserted one after the other (Rust's `Extend` of `BTreeMap`).
use Rattle.std.specs.Prelude.{◌≡◌, ℕ, List, Option, Some, fold, map}
use Rattle.std.specs.BTreeMap.{insert_entry}
use Rattle.std.specs.Iterator.{Drains, YieldsThen}
use Rattle.unix_path.specs.Parts.{values}
use Rattle.unix_path.specs.declared.path.Path.{Path}
use Rattle.path_keys.specs.Keys.{key_of}
use Rattle.path_keys.specs.Ranges.{bytes_cmp}

-- the entries after each of `others` was inserted into them, one after the other
abbrev pub entries_with : {V : Type 0} → List (List ℕ × V) → List (List ℕ × V)
    → List (List ℕ × V)
entries_with entries others = fold (λ all e. insert_entry bytes_cmp all e.0 e.1) entries others

-- the entries of these items: the key of each item's path, with the item's value
abbrev pub entries_in : {V : Type 0} → List (Path × V) → List (List ℕ × V)
entries_in items = map (λ item. (key_of (values item.0.bytes.now), item.1)) items

-- all items of an iterator were inserted into the old entries, one after the other
pub record InsertsAll {V S : Type 0} (steps : S → Option (Path × V) → S → Type 0) (items : S)
    (old new : List (List ℕ × V)) : Type 0 where
  pub yielded : List (Path × V)
  pub all_items : Drains steps items yielded
  pub inserted : new ≡ entries_with old (entries_in yielded)

-- an iterator's first items were inserted into the old entries, one after the other, and the item
-- after them was not
pub record InsertsBeginning {V S : Type 0} (steps : S → Option (Path × V) → S → Type 0)
    (items : S) (old new : List (List ℕ × V)) : Type 0 where
  pub yielded : List (Path × V)
  pub next : Path × V
  pub after : S
  pub items_before : YieldsThen steps items yielded (Some next) after
  pub inserted : new ≡ entries_with old (entries_in yielded)
