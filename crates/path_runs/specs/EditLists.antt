-- Edits of a path and lists of edits (Rust's `PathBuf::push`, `PathBuf::pop`,
-- `PathBuf::set_file_name`, `PathBuf::set_extension`, `PathBuf::add_extension`, `PathBuf::clear`).
use Rattle.std.specs.Prelude.{ℕ, List, [], ◌∷◌, is_some, if◌then◌else◌}
use Rattle.unix_path.specs.Parts.{values}
use Rattle.unix_path.specs.Joins.{join_of}
use Rattle.unix_path.specs.Parents.{parent_of}
use Rattle.unix_path.specs.Names.{file_name_of}
use Rattle.unix_path.specs.Edits.{popped_of, with_name_of, with_extension_of}
use Rattle.unix_path.specs.Extensions.{has_slash, added_extension_of}
use Rattle.path_runs.specs.declared.edits.Answer.{Answer}
use Rattle.path_runs.specs.declared.edits.Answer.TheVariants.{Plain, Flag, Separator}

-- an edit, with the bytes of the path, name or extension that it pushes, sets or adds
pub data EditValue : Type 0 where
  Push : List ℕ → EditValue
  Pop : EditValue
  SetFileName : List ℕ → EditValue
  SetExtension : List ℕ → EditValue
  AddExtension : List ℕ → EditValue
  Clear : EditValue

-- the path s after an edit, and the edit's answer
abbrev pub edit_of : List ℕ → EditValue → List ℕ × Answer
edit_of s (Push b) = (join_of s b, Plain)
edit_of s Pop = (popped_of s, Flag (is_some (parent_of s)))
edit_of s (SetFileName name) = (with_name_of s name, Plain)
edit_of s (SetExtension extension) =
    if has_slash extension then (s, Separator)
    else (with_extension_of s extension, Flag (is_some (file_name_of (values s))))
edit_of s (AddExtension extension) =
    if has_slash extension then (s, Separator)
    else (added_extension_of s extension, Flag (is_some (file_name_of (values s))))
edit_of s Clear = ([], Plain)

-- the path s after a list of edits, each applied to the result of the edit before it, and the
-- answers of all edits
abbrev pub edits_of : List ℕ → List EditValue → List ℕ × List Answer
edits_of s [] = (s, [])
edits_of s (e ∷ es) =
    let one = edit_of s e in
    let more = edits_of one.0 es in
    (more.0, one.1 ∷ more.1)
