-- The components of a path, here called parts. The path is split at every slash into pieces. Pieces
-- that are neither empty nor `.` count. The components are the root or a leading `.`, if there is
-- one, and then the pieces that count (POSIX.1-2017 section 4.13, and Rust's `Path::components`).
-- The bytes that belong to no component, namely slashes other than the root and other `.` pieces,
-- are filler.
use Rattle.std.specs.Prelude.{◌≡◌, ℕ, ◌+◌, Bool, false, ◌==◌, ◌||◌, not, List, [], ◌∷◌, ◌++◌}
use Rattle.std.specs.Prelude.{map, length, slice_get, if◌then◌else◌}
use Rattle.std.specs.Option.{option_map_or}
use Rattle.std.specs.List.{before_first, slice_split}
use Rattle.std.specs.Str.{bytes_eq}

-- `b'.'`
abbrev pub dot : ℕ
dot = 46

-- `b'/'`
abbrev pub slash : ℕ
slash = 47

-- the byte b is a slash
abbrev pub is_slash : ℕ → Bool
is_slash b = b == slash

-- the bytes of `.`
abbrev pub cur_dir : List ℕ
cur_dir = dot ∷ []

-- the bytes of `..`
abbrev pub parent_dir : List ℕ
parent_dir = dot ∷ dot ∷ []

-- a component without its position
pub data Value : Type 0 where
  RootDir : Value
  CurDir : Value
  ParentDir : Value
  Normal : List ℕ → Value

-- a component with its position: the value, and its bytes from index `start` up to `end`
pub record Part : Type 0 where
  pub start : ℕ
  pub end : ℕ
  pub value : Value

-- `piece` is neither empty nor `.`
abbrev pub counts : List ℕ → Bool
counts piece = not (bytes_eq piece [] || bytes_eq piece cur_dir)

-- the value of a piece that is neither empty nor `.`: `..`, or else a name
abbrev pub value_of_piece : List ℕ → Value
value_of_piece bytes = if bytes_eq bytes parent_dir then ParentDir else Normal bytes

-- the components of these pieces: the first piece begins at index `at`, and one byte lies between
-- each piece and the next
abbrev pub parts_of_pieces : ℕ → List (List ℕ) → List Part
parts_of_pieces at [] = []
parts_of_pieces at (p ∷ ps) =
    let part : Part = record { start = at; end = at + length p; value = value_of_piece p } in
    (if counts p then part ∷ [] else []) ++ parts_of_pieces (at + length p + 1) ps

-- the inner components of s: those of the pieces between its slashes, without the root and without
-- a leading `.`; s begins at index `at`
unfoldable pub inner_parts : ℕ → List ℕ → List Part
inner_parts at s = parts_of_pieces at (slice_split is_slash s)

-- byte 0 of s is a slash
abbrev pub is_rooted : List ℕ → Bool
is_rooted s = option_map_or is_slash (slice_get s 0) false

-- the leading component of s: the root at 0..1 if byte 0 of s is a slash; otherwise the `.` at 0..1
-- if the first piece of s is `.`; otherwise none
unfoldable pub leading_part : List ℕ → List Part
leading_part s =
    let dotted = bytes_eq (before_first is_slash s) cur_dir in
    if is_rooted s then record { start = 0; end = 1; value = RootDir } ∷ []
    else (if dotted then record { start = 0; end = 1; value = CurDir } ∷ [] else [])

-- the components of s: the root or leading `.`, and then the pieces that are neither empty nor `.`,
-- each with its position
unfoldable pub parts : List ℕ → List Part
parts s = leading_part s ++ inner_parts 0 s

-- the components of s without their positions
unfoldable pub values : List ℕ → List Value
values s = map (λ p. p.value) (parts s)

-- the paths s and t are equal: they have the same components
abbrev pub SameValues : List ℕ → List ℕ → Type 0
SameValues s t = values s ≡ values t

-- the bytes of a value
abbrev pub value_bytes : Value → List ℕ
value_bytes RootDir = slash ∷ []
value_bytes CurDir = cur_dir
value_bytes ParentDir = parent_dir
value_bytes (Normal name) = name
