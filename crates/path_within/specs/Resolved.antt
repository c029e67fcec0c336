-- Paths resolved lexically: each `..` drops the name before it (like Go's `path.Clean`, which
-- returns `.` where nothing remains). The components that remain so far are a stack: a list that
-- starts with its top, the last component.
use Rattle.std.specs.Prelude.{ℕ, List, [], ◌∷◌, fold, reverse, ⊤}
use Rattle.unix_path.specs.Parts.{Value, RootDir, CurDir, ParentDir, Normal, values}
use Rattle.path_runs.specs.Spelling.{spelling_of}

-- the stack after one more component: the root replaces all of it, and `.` is dropped; a `..` drops
-- a name that is on top, and is dropped itself if the root is on top; otherwise the component
-- becomes the top
abbrev pub push_component : List Value → Value → List Value
push_component stack RootDir = RootDir ∷ []
push_component stack CurDir = stack
push_component (Normal name ∷ stack) ParentDir = stack
push_component (RootDir ∷ stack) ParentDir = RootDir ∷ stack
push_component stack v = v ∷ stack

-- the components that remain of vs after resolving: vs are pushed from the first to the last, and
-- the stack is read from its lowest component to its top
unfoldable pub resolved_of : List Value → List Value
resolved_of vs = reverse (fold push_component [] vs)

-- the canonical form of a path's resolved components
abbrev pub resolved_bytes_of : List ℕ → List ℕ
resolved_bytes_of s = spelling_of (resolved_of (values s))

-- all these components are names
abbrev pub AllNames : List Value → Type 0
AllNames [] = ⊤
AllNames (Normal name ∷ vs) = AllNames vs
AllNames vs = ⊥

-- these components are zero or more `..`, and then zero or more names
abbrev pub ParentDirsThenNames : List Value → Type 0
ParentDirsThenNames (ParentDir ∷ vs) = ParentDirsThenNames vs
ParentDirsThenNames vs = AllNames vs

-- no component is `.`, no `..` follows a name or the root, and only the first component may be a
-- root
abbrev pub IsNormal : List Value → Type 0
IsNormal (RootDir ∷ vs) = AllNames vs
IsNormal vs = ParentDirsThenNames vs
