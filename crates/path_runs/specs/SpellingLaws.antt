-- Laws of the canonical form. Not in Rust's std.
use Rattle.std.specs.Prelude.{◌≡◌, ◌↔◌, ◌⊎◌, ◌<◌, ℕ, List, [], length, map, fold}
use Rattle.unix_path.specs.Joins.{join_of}
use Rattle.unix_path.specs.Parts.{value_bytes, values, SameValues}
use Rattle.path_runs.specs.Spelling.{spelling_of}

-- the canonical form of a path has the path's components
abbrev pub SpellingReadsBack : Type 0
SpellingReadsBack = (s : List ℕ) → SameValues (spelling_of (values s)) s

-- if t has the components of s, t is the canonical form of s or longer than it
abbrev pub SpellingIsShortest : Type 0
SpellingIsShortest =
    (s t : List ℕ) → SameValues t s
    → (t ≡ spelling_of (values s)) ⊎ (length (spelling_of (values s)) < length t)

-- two paths have the same components if and only if their canonical forms have the same bytes
abbrev pub SpellingDeterminesValues : Type 0
SpellingDeterminesValues =
    (s t : List ℕ) → SameValues s t ↔ (spelling_of (values s) ≡ spelling_of (values t))

-- the empty path, joined with the bytes of each component of s, one after the other, is the
-- canonical form of s
abbrev pub JoinsAreSpelling : Type 0
JoinsAreSpelling =
    (s : List ℕ) → fold join_of [] (map value_bytes (values s)) ≡ spelling_of (values s)
