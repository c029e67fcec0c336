-- Paths as records of an input.
use Rattle.std.specs.Prelude.{ℕ, ◌==◌, List, [], ◌∷◌, map}
use Rattle.std.specs.List.{slice_split}
use Rattle.unix_path.specs.declared.path.Path.{Path}

-- these pieces, without the last one if it is empty
abbrev pub without_empty_last : List (List ℕ) → List (List ℕ)
without_empty_last [] = []
without_empty_last ([] ∷ []) = []
without_empty_last (piece ∷ pieces) = piece ∷ without_empty_last pieces

-- the records of an input: each ends at a byte `end`, which the last record may lack if it isn't
-- empty
unfoldable pub records_of : ℕ → List ℕ → List (List ℕ)
records_of end input = without_empty_last (slice_split (λ b. b == end) input)

-- the bytes of these paths
abbrev pub paths_of : List Path → List (List ℕ)
paths_of paths = map (λ path. path.bytes.now) paths
