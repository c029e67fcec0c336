-- Edits as fields of a line: `push:x`, `pop`, `name:x`, `ext:x`, `add:x` or `clear`.
use Rattle.std.specs.Prelude.{ℕ, ◌+◌, ◌==◌, Option, option_map, is_some, List, [], ◌∷◌, map, take}
use Rattle.std.specs.Prelude.{drop, codes, if◌then◌else◌}
use Rattle.std.specs.List.{position_or_len, filter_map, list_all}
use Rattle.std.specs.Map.{lookup}
use Rattle.std.specs.Str.{byte, bytes_eq}
use Rattle.path_runs.specs.EditLists.{EditValue, Push, Pop, SetFileName, SetExtension}
use Rattle.path_runs.specs.EditLists.{AddExtension, Clear, edits_of}
use Rattle.path_runs.specs.declared.edits.Answer.{Answer}
use Rattle.path_runs.specs.declared.edits.Answer.TheVariants.{Plain, Flag, Separator}
use Rattle.pathtool.specs.Fields.{tabs, bad_command, bool_text}

-- for each kind of edit, the name that a field begins with, and the edit as a function of the bytes
-- after that name
abbrev pub edits_by_name : List (List ℕ × (List ℕ → EditValue))
edits_by_name =
    (codes "push:", Push)
    ∷ (codes "pop", λ _. Pop)
    ∷ (codes "name:", SetFileName)
    ∷ (codes "ext:", SetExtension)
    ∷ (codes "add:", AddExtension)
    ∷ (codes "clear", λ _. Clear) ∷ []

-- the edit that a field names by its bytes up to and including the first colon, or by all its bytes
-- if there is no colon; `None` if they name no edit
abbrev pub edit_of_field : List ℕ → Option EditValue
edit_of_field field =
    let n = position_or_len (λ b. b == byte ":") field + 1 in
    option_map (λ edit. edit (drop n field)) (lookup (bytes_eq (take n field)) edits_by_name)

-- the word for the answer of an edit
abbrev pub answer_word : Answer → List ℕ
answer_word Plain = codes "ok"
answer_word (Flag is_so) = bool_text is_so
answer_word Separator = codes "separator"

-- the items of the answer to edits: the bytes of the edited path, and then the word for the answer
-- of each edit
abbrev pub edit_items : List ℕ → List EditValue → List (List ℕ)
edit_items path edits = let done = edits_of path edits in done.0 ∷ map answer_word done.1

-- the answer to edits named by fields: their items, or `bad command` if a field names no edit
abbrev pub edit_answer : List ℕ → List (List ℕ) → List ℕ
edit_answer path fields =
    if list_all (λ field. is_some (edit_of_field field)) fields
    then tabs (edit_items path (filter_map edit_of_field fields))
    else bad_command
