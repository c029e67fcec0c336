-- The handler of a path, found by the longest route that is a prefix of the path.
use Rattle.std.specs.Prelude.{◌≡◌, ◌⊎◌, ℕ, List, None}
use Rattle.unix_path.specs.Parts.{Value, values}
use Rattle.unix_path.specs.Prefixes.{IsPrefixOf}
use Rattle.path_keys.specs.Keys.{key_of}
use Rattle.path_tree.specs.Entries.{entry_at}
use Rattle.path_tree.specs.Nearest.{IsNearest}

-- `handler` is the handler of the longest route that is a prefix of the path s, and `rest` is the
-- rest of s after that route; or no route is a prefix of s, `handler` is the fallback, and `rest`
-- is s
abbrev pub IsRouted : {H : Type 0} → List ℕ → List (List ℕ × H) → H → List ℕ → H → Type 0
IsRouted s routes fallback rest handler =
    IsNearest s routes rest handler
    ⊎ (((base : List Value) → IsPrefixOf base (values s) → entry_at (key_of base) routes ≡ None)
    × (rest ≡ s) × (handler ≡ fallback))
