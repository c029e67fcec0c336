-- Walks that a caller keeps as two indices of a path (like Rust's `Components`).
use Rattle.std.specs.Prelude.{ℕ, ◌+◌, ◌≤◌, nat_le, ◌==◌, ◌&&◌, List, [], ◌∷◌, map, length}
use Rattle.std.specs.Prelude.{take, drop, slice_range, if◌then◌else◌}
use Rattle.unix_path.specs.Parts as paths
use Rattle.unix_path.specs.Parts.{Value, RootDir, CurDir, ParentDir, Normal, parts}
use Rattle.unix_path_c.specs.declared.walks.Part.{Part}
use Rattle.unix_path_c.specs.declared.walks.Walk.{Walk}

-- the indices are in order: each is at most as large as the next
abbrev pub InOrder : List ℕ → Type 0
InOrder [] = Unit {0}
InOrder (m ∷ []) = Unit {0}
InOrder (m ∷ n ∷ indices) = (m ≤ n) × InOrder (n ∷ indices)

-- the rest of a walk: the bytes between its indices; none if these are out of order or past the
-- path's end
unfoldable pub remaining : List ℕ → Walk → List ℕ
remaining path walk =
    if nat_le walk.front walk.back && nat_le walk.back (length path)
    then slice_range path walk.front walk.back else []

-- p is a component of a string, which a path has at index `at`: the same component, with its
-- indices in the path
abbrev pub part_from : ℕ → paths.Part → paths.Part
part_from at p = record { start = p.start + at; end = p.end + at; value = p.value }

-- the components of the rest of a walk, with their indices in the path
abbrev pub remaining_parts : List ℕ → Walk → List paths.Part
remaining_parts path walk = map (part_from walk.front) (parts (remaining path walk))

-- the component of this kind, which has these bytes if it is a name; the kind is 0 for the root, 1
-- for `.`, 2 for `..`, and 3 for a name
abbrev pub value_of_kind : ℕ → List ℕ → Value
value_of_kind kind bytes =
    if kind == 0 then RootDir
    else (if kind == 1 then CurDir else (if kind == 2 then ParentDir else Normal bytes))

-- the index just after the component's last byte
abbrev pub part_end : Part → ℕ
part_end part = part.start + part.length

-- the path's bytes in the component's span
abbrev pub part_bytes : List ℕ → Part → List ℕ
part_bytes path part = take part.length (drop part.start path)

-- the component of a path that the record `part` describes, without its position
abbrev pub part_value : List ℕ → Part → Value
part_value path part = value_of_kind part.kind (part_bytes path part)

-- the component that the record `part` describes, in the form that the specs of `unix_path` use
abbrev pub part_in : List ℕ → Part → paths.Part
part_in path part =
    record { start = part.start; end = part_end part; value = part_value path part }
