-- The paths of keys, and of keys in hexadecimal.
use Rattle.std.specs.Prelude.{ℕ, Bool, List, Option, Some, None, if◌then◌else◌}
use Rattle.std.specs.Option.{option_and_then}
use Rattle.path_runs.specs.Spelling.{spelling_of}
use Rattle.path_keys.specs.KeyValues.{is_own, key_values}
use Rattle.path_within.specs.Below.{has_nul}
use Rattle.upath_commands.specs.Arguments.{has_newline}
use Rattle.upath_commands.specs.Hex.{hex_value}

-- the canonical form of the paths with this key; none if no path has it
unfoldable pub key_path : List ℕ → Option (List ℕ)
key_path key = if is_own key then Some (spelling_of (key_values key)) else None

-- the path of the key that this text is in hexadecimal; none if it isn't one
abbrev pub unkeyed_path : List ℕ → Option (List ℕ)
unkeyed_path text = option_and_then key_path (hex_value text)

-- this path, if it can be a record: if it doesn't have the byte that ends records, which is a NUL
-- if `null`, and otherwise a newline
abbrev pub if_record : Bool → List ℕ → Option (List ℕ)
if_record null p = if (if null then has_nul p else has_newline p) then None else Some p

-- the answer of `unkey` to this text
abbrev pub unkey_of : Bool → List ℕ → Option (List ℕ)
unkey_of null text = option_and_then (if_record null) (unkeyed_path text)
