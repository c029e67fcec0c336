-- Spans of a path, each an index and a length (Rust returns slices of the path).
use Rattle.std.specs.Prelude.{ℕ, ◌+◌, List, length, take, drop, Option, option_map}
use Rattle.unix_path.specs.Parts.{parts, values}
use Rattle.unix_path.specs.Rest.{rest}
use Rattle.unix_path.specs.Names.{file_name_of}
use Rattle.unix_path.specs.Edits.{last_start_of}
use Rattle.unix_path_c.specs.declared.spans.Span.{Span}

-- the index just after the last byte of the span
abbrev pub span_end : Span → ℕ
span_end span = span.start + span.length

-- the path's bytes in the span
abbrev pub span_bytes : List ℕ → Span → List ℕ
span_bytes path span = take span.length (drop span.start path)

-- the index at which the file name starts, if the path has a file name
unfoldable pub name_start_of : List ℕ → Option ℕ
name_start_of s = option_map (λ name. last_start_of (parts s)) (file_name_of (values s))

-- the index just after the last component, or 0 if there is none
abbrev pub last_end_of : List ℕ → ℕ
last_end_of s = length (rest s 0 0)
