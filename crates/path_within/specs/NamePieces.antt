-- Paths of names only. No public clause cites these definitions.
use Rattle.std.specs.Prelude.{ℕ, Bool, ◌&&◌, not, List, drop, if◌then◌else◌}
use Rattle.std.specs.List.{list_all, slice_split}
use Rattle.std.specs.Str.{bytes_eq}
use Rattle.unix_path.specs.Parts.{is_slash, counts, parent_dir, is_rooted}

-- all pieces between the slashes are names: neither empty, nor `.`, nor `..`
abbrev pub has_only_name_pieces : List ℕ → Bool
has_only_name_pieces s =
    list_all (λ piece. counts piece && not (bytes_eq piece parent_dir)) (slice_split is_slash s)

-- the path is one of names only: all its pieces are names, except, in a path with a root, the empty
-- piece before the first slash
abbrev pub is_names_only : List ℕ → Bool
is_names_only s = has_only_name_pieces (if is_rooted s then drop 1 s else s)
