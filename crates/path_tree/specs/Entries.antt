-- Entries: the bytes of keys, each with a value.
use Rattle.std.specs.Prelude.{ℕ, List, [], ◌∷◌, Option, Some, None, eqb, filter, map, not}
use Rattle.std.specs.Borrow.{Bor}
use Rattle.std.specs.BTreeMap.{is_at}
use Rattle.std.specs.Global.{Vec}
use Rattle.std.specs.List.{starts_with}
use Rattle.std.specs.Map.{lookup}
use Rattle.path_keys.specs.Ranges.{bytes_cmp}

-- the bytes of each key, with its value
abbrev pub key_entries : {V : Type 0} → List (Vec ℕ × V) → List (List ℕ × V)
key_entries entries = map (λ e. (e.0.items, e.1)) entries

-- the borrowed entry and the entries after it; none if no entry is borrowed. No public clause cites
-- this definition
abbrev pub entries_from : {V : Type 0} → Option (Bor (Vec ℕ) × Bor V) → List (Vec ℕ × V)
    → List (Vec ℕ × V)
entries_from None rest = []
entries_from (Some next) rest = (next.0.now, next.1.now) ∷ rest

-- the value of the entry whose key has these bytes
abbrev pub entry_at : {V : Type 0} → List ℕ → List (List ℕ × V) → Option V
entry_at key entries = lookup (is_at (bytes_cmp key)) entries

-- the entries whose keys start with these bytes, in their order
abbrev pub entries_under : {V : Type 0} → List ℕ → List (List ℕ × V) → List (List ℕ × V)
entries_under base entries = filter (λ e. starts_with eqb e.0 base) entries

-- the entries whose keys do not start with these bytes, in their order
abbrev pub entries_outside : {V : Type 0} → List ℕ → List (List ℕ × V) → List (List ℕ × V)
entries_outside base entries = filter (λ e. not (starts_with eqb e.0 base)) entries
