-- Prefixes of lists.
use Rattle.std.specs.Prelude.{◌≡◌, ◌≤◌, List, ◌++◌, length}

-- v is a prefix of w
abbrev pub IsPrefixOf : {A : Type 0} → List A → List A → Type 0
IsPrefixOf {A} v w = (more : List A) × (v ++ more ≡ w)

-- v is a prefix of w, and no prefix of w of which P holds is longer than v
abbrev pub IsLongest : {A : Type 0} → (List A → Type 0) → List A → List A → Type 0
IsLongest {A} P v w = IsPrefixOf v w × ((u : List A) → P u → IsPrefixOf u w → length u ≤ length v)
