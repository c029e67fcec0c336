-- Lines as fields with tabs between them, and words that occur in the answers of several commands.
use Rattle.std.specs.Prelude.{ℕ, Bool, ◌==◌, List, codes, if◌then◌else◌}
use Rattle.std.specs.List.{slice_split, join_with_byte}
use Rattle.std.specs.Str.{byte}

-- the fields of a line; if it has n tabs, it has n + 1 fields
abbrev pub fields_of : List ℕ → List (List ℕ)
fields_of line = slice_split (λ b. b == byte "\t") line

-- a list as an answer: the items with a tab between neighbours
abbrev pub tabs : List (List ℕ) → List ℕ
tabs items = join_with_byte (byte "\t") items

-- the answer if a command, an edit or a turn is unknown, or if there are too few or too many fields
abbrev pub bad_command : List ℕ
bad_command = codes "bad command"

-- the word for a bool
abbrev pub bool_text : Bool → List ℕ
bool_text is_so = if is_so then codes "true" else codes "false"
