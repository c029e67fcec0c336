-- The entries of one tree that another tree lacks (Rust's `BTreeSet::difference`, with values).
use Rattle.std.specs.Prelude.{ℕ, List, filter, is_some, not}
use Rattle.path_tree.specs.Entries.{entry_at}

-- the entries whose keys the other entries do not have, in their order
abbrev pub entries_lacking : {V W : Type 0} → List (List ℕ × W) → List (List ℕ × V)
    → List (List ℕ × V)
entries_lacking other entries = filter (λ e. not (is_some (entry_at e.0 other))) entries
