-- Laws of keys in hexadecimal.
use Rattle.std.specs.Prelude.{◌≡◌, ◌<◌, ℕ, List, Some}
use Rattle.std.specs.List.{All}
use Rattle.std.specs.Str.{str_to_ascii_lowercase}
use Rattle.unix_path.specs.Parts.{values}
use Rattle.path_runs.specs.Spelling.{spelling_of}
use Rattle.path_keys.specs.Keys.{key_of}
use Rattle.upath_commands.specs.Hex.{hex_of}
use Rattle.upath_commands.specs.KeyTexts.{unkeyed_path}

-- the path of the key of a path is the path in canonical form
abbrev pub UnkeyUndoesKey : Type 0
UnkeyUndoesKey = (s : List ℕ) → All (λ b. b < 256) s
    → unkeyed_path (hex_of (key_of (values s))) ≡ Some (spelling_of (values s))

-- the path of a key is in canonical form
abbrev pub UnkeyIsCanonical : Type 0
UnkeyIsCanonical = (text p : List ℕ) → unkeyed_path text ≡ Some p → p ≡ spelling_of (values p)

-- the key of the path of a key is that key, in lower case
abbrev pub KeyUndoesUnkey : Type 0
KeyUndoesUnkey = (text p : List ℕ) → unkeyed_path text ≡ Some p
    → hex_of (key_of (values p)) ≡ str_to_ascii_lowercase text
