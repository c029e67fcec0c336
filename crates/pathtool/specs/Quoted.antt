-- A path as compact JSON text (RFC 8259, section 7). The crate `json` defines how a string is
-- quoted.
use Rattle.std.specs.Prelude.{ℕ, List, codes, if◌then◌else◌}
use Rattle.json.specs.Print.{quoted}
use Rattle.unix_bytes.specs.Lossy.{is_text}

-- the path as a JSON string if its bytes are valid UTF-8, and otherwise the message that they are
-- not
abbrev pub json_of : List ℕ → List ℕ
json_of path =
    if is_text path then quoted path else codes "path contains invalid UTF-8 characters"
