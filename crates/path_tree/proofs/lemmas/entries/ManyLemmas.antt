-- Many entries inserted one after the other.
use Rattle.std.proofs.Common.{◌≡◌, ℕ, List, [], ◌∷◌, ◌++◌, refl}
use Rattle.std.specs.BTreeMap.{insert_entry}
use Rattle.unix_path.specs.Parts.{values}
use Rattle.unix_path.specs.declared.path.Path.{Path}
use Rattle.path_keys.specs.Keys.{key_of}
use Rattle.path_keys.specs.Ranges.{bytes_cmp}
use Rattle.path_tree.specs.Many.{entries_in, entries_with}

-- inserting `others` and then one more entry is the same as inserting this one into the entries
-- with `others` inserted
pub entries_with_snoc : {V : Type 0} (entries others : List (List ℕ × V)) (e : List ℕ × V)
    → entries_with entries (others ++ e ∷ [])
    ≡ insert_entry bytes_cmp (entries_with entries others) e.0 e.1
entries_with_snoc entries [] e = refl
entries_with_snoc entries (x ∷ others) e =
    entries_with_snoc (insert_entry bytes_cmp entries x.0 x.1) others e

-- the same for the entry of one more item
pub entries_in_snoc : {V : Type 0} (entries : List (List ℕ × V)) (items : List (Path × V))
    (item : Path × V)
    → entries_with entries (entries_in (items ++ item ∷ []))
    ≡ insert_entry bytes_cmp (entries_with entries (entries_in items))
    (key_of (values item.0.bytes.now)) item.1
entries_in_snoc entries [] item = refl
entries_in_snoc entries (x ∷ items) item =
    entries_in_snoc (insert_entry bytes_cmp entries (key_of (values x.0.bytes.now)) x.1) items item
