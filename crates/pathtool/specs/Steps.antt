-- Bytes that separate fields and lines. The clauses of `run` and `Watched` use none of these
-- definitions.
use Rattle.std.specs.Prelude.{ℕ}
use Rattle.std.specs.Str.{byte}

-- the byte between two fields, and between two items of a list
abbrev pub tab : ℕ
tab = byte "\t"

-- the byte that ends a line
abbrev pub newline : ℕ
newline = byte "\n"
