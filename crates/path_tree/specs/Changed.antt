-- The entries that two trees have with different values.
use Rattle.std.specs.Prelude.{ℕ, Bool, List, filter, not}
use Rattle.std.specs.Borrow.{Bor}
use Rattle.std.specs.List.{filter_map}
use Rattle.std.specs.Option.{option_map}
use Rattle.path_tree.specs.Entries.{entry_at}

-- the bytes of a borrowed key, with the two values that are borrowed with it
abbrev pub borrowed_both : {V W : Type 0} → Bor (List ℕ) × Bor V × Bor W → List ℕ × V × W
borrowed_both entry = (entry.0.now, entry.1.now, entry.2.now)

-- the entries whose keys the other entries have too, each with its value and then the other value,
-- in their order
abbrev pub entries_in_both : {V W : Type 0} → List (List ℕ × W) → List (List ℕ × V)
    → List (List ℕ × V × W)
entries_in_both other entries =
    filter_map (λ e. option_map (λ y. (e.0, e.1, y)) (entry_at e.0 other)) entries

-- the entries in both whose two values are not equal
abbrev pub entries_changed : {V : Type 0} → (V → V → Bool) → List (List ℕ × V)
    → List (List ℕ × V) → List (List ℕ × V × V)
entries_changed eq other entries =
    filter (λ both. not (eq both.1 both.2)) (entries_in_both other entries)
