-- Entries that are moved from one base to another.
use Rattle.std.specs.Prelude.{ℕ, List, ◌++◌, drop, length, map}
use Rattle.path_tree.specs.Entries.{entries_under}

-- an entry with the first bytes of its key, as many as `from` has, replaced by `to`
abbrev pub moved_entry : {V : Type 0} → List ℕ → List ℕ → List ℕ × V → List ℕ × V
moved_entry from to e = (to ++ drop (length from) e.0, e.1)

-- the entries whose keys start with `from`, each with `from` replaced by `to`
abbrev pub moved_entries : {V : Type 0} → List ℕ → List ℕ → List (List ℕ × V) → List (List ℕ × V)
moved_entries from to entries = map (moved_entry from to) (entries_under from entries)
