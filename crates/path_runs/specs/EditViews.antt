-- Converts edits of the code to edits of `EditLists`, and results of setting or adding an extension
-- to answers.
use Rattle.std.specs.Prelude.{Bool, Option, Some, None, Result, Ok, Err}
use Rattle.unix_path.specs.declared.buf.extensions.ExtensionError.{ExtensionError}
use Rattle.unix_path.specs.declared.buf.extensions.ExtensionError.TheVariants.{Separator, Memory}
use Rattle.path_runs.specs.declared.edits.Answer.{Answer}
use Rattle.path_runs.specs.declared.edits.Answer.TheVariants as answers
use Rattle.path_runs.specs.EditLists.{EditValue}
use Rattle.path_runs.specs.EditLists as edit_lists
use Rattle.path_runs.specs.declared.edits.Edit.{Edit}
use Rattle.path_runs.specs.declared.edits.Edit.TheVariants.{Push, Pop, SetFileName}
use Rattle.path_runs.specs.declared.edits.Edit.TheVariants.{SetExtension, AddExtension, Clear}

-- an edit of the code as an edit of `EditLists`: it has the bytes instead of a view of them
abbrev pub edit_value : Edit → EditValue
edit_value (Push path) = edit_lists.Push path.bytes.now
edit_value Pop = edit_lists.Pop
edit_value (SetFileName name) = edit_lists.SetFileName name.bytes.now
edit_value (SetExtension extension) = edit_lists.SetExtension extension.bytes.now
edit_value (AddExtension extension) = edit_lists.AddExtension extension.bytes.now
edit_value Clear = edit_lists.Clear

-- the answer of setting or adding an extension, from the result of the call; `None` if an
-- allocation failed
abbrev pub extension_answer : Result Bool ExtensionError → Option Answer
extension_answer (Ok is_made) = Some (answers.Flag is_made)
extension_answer (Err Separator) = Some answers.Separator
extension_answer (Err (Memory error)) = None
