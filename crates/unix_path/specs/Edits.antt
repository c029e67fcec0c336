-- The result of each edit of a path (Rust's `PathBuf::pop`, `PathBuf::set_file_name`,
-- `PathBuf::set_extension`).
use Rattle.std.specs.Prelude.{ℕ, ◌+◌, ◌==◌, List, [], ◌∷◌, ◌++◌, length, take, Option, None}
use Rattle.std.specs.Prelude.{unwrap_or, is_some, option_map, if◌then◌else◌}
use Rattle.std.specs.Option.{option_map_or}
use Rattle.std.specs.List.{last_or}
use Rattle.unix_path.specs.Parts.{dot, Part, parts, values}
use Rattle.unix_path.specs.Rest.{rest}
use Rattle.unix_path.specs.Joins.{join_of}
use Rattle.unix_path.specs.Parents.{parent_of}
use Rattle.unix_path.specs.Names.{file_name_of, stem_of}

-- the parent of s, or all of s if it has no parent
unfoldable pub popped_of : List ℕ → List ℕ
popped_of s = unwrap_or (parent_of s) s

-- s without its file name and the filler around the name, or all of s if it has no file name
unfoldable pub before_name_of : List ℕ → List ℕ
before_name_of s = if is_some (file_name_of (values s)) then rest s 0 1 else s

-- s without its file name, joined with the new name
abbrev pub with_name_of : List ℕ → List ℕ → List ℕ
with_name_of s name = join_of (before_name_of s) name

-- the index where the last of these components starts, or 0 if there is none
abbrev pub last_start_of : List Part → ℕ
last_start_of ps = option_map_or (λ p. p.start) (last_or None ps) 0

-- the index where the stem of the file name of s ends, or None if s has no file name
unfoldable pub stem_end_of : List ℕ → Option ℕ
stem_end_of s = option_map (λ stem. last_start_of (parts s) + length stem) (stem_of (values s))

-- a dot, or nothing if the extension is empty
abbrev pub dot_before : List ℕ → List ℕ
dot_before extension = if length extension == 0 then [] else dot ∷ []

-- s up to the end of its stem, then a dot unless the extension is empty, and then the extension;
-- all of s if it has no file name
unfoldable pub with_extension_of : List ℕ → List ℕ → List ℕ
with_extension_of s extension =
    option_map_or (λ end. (take end s ++ dot_before extension) ++ extension) (stem_end_of s) s
