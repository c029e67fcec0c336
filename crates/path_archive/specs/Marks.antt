-- One pass over sorted uses marks each with its cause: the index of a use that it clashes with, or
-- its own index if it stays.
use Rattle.std.specs.Prelude.{◌≡◌, ◌≢◌, ◌⊎◌, ◌<◌, ℕ, true, false, List, [], length, slice_index}
use Rattle.std.specs.Prelude.{slice_index_or, Option, Some, MatchOption}
use Rattle.path_archive.specs.Entries.{UsedAsOther, Use, use_as, components}
use Rattle.path_archive.specs.Rule.{Clash, AreApart, is_directory}
use Rattle.path_archive.specs.declared.slot.Slot.{Slot}

-- the use at an index
abbrev pub use_in : List Use → ℕ → Use
use_in us k = slice_index_or us k (use_as UsedAsOther [])

-- the use at index i doesn't clash with the leaf
abbrev pub IsFree : List Use → Option ℕ → ℕ → Type 0
IsFree us leaf i = MatchOption leaf (Unit {0}) (λ v. Clash (use_in us v) (use_in us i) → ⊥)

-- the uses at v and i are of one path
abbrev pub SamePath : List Use → ℕ → ℕ → Type 0
SamePath us v i = components (use_in us v).path ≡ components (use_in us i).path

-- one step of the pass gives the use at index i a cause, and the leaf for the next use
pub data Step (us : List Use) (leaf : Option ℕ) (i : ℕ) : ℕ → Option ℕ → Type 0 where
  refused : {v : ℕ} → leaf ≡ Some v → Clash (use_in us v) (use_in us i) → Step us leaf i v leaf
  becomes_leaf : IsFree us leaf i → MatchOption leaf (Unit {0}) (λ v. SamePath us v i → ⊥)
      → is_directory (use_in us i).used_as ≡ false → Step us leaf i i (Some i)
  stays : IsFree us leaf i
      → (is_directory (use_in us i).used_as ≡ true) ⊎ MatchOption leaf ⊥ (λ v. SamePath us v i)
      → Step us leaf i i leaf

-- each refused use clashes with its cause, and those that stay are apart
pub record Marked (us : List Use) (causes : List ℕ) : Type 0 where
  pub refused : (k : ℕ) → k < length us → slice_index causes k ≢ k
      → (slice_index causes k < k) × Clash (use_in us (slice_index causes k)) (use_in us k)
  pub apart : (j k : ℕ) → j < k → k < length us → slice_index causes j ≡ j
      → slice_index causes k ≡ k → AreApart (use_in us j) (use_in us k)

-- a slot without its mark
abbrev pub unmarked : Slot → Slot
unmarked s = record s { cause = 0 }
