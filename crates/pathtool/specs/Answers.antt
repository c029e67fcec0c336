-- The answers of the program. A line has fields with tabs between them, and the first field names a
-- command.
use Rattle.std.specs.Prelude.{ℕ, ◌==◌, List, [], ◌∷◌, ◌++◌, reverse, codes, Option}
use Rattle.std.specs.Prelude.{Some, None, unwrap_or, if◌then◌else◌}
use Rattle.std.specs.Option.{option_map_or, option_and_then}
use Rattle.std.specs.declared.cmp.Ordering.{Ordering}
use Rattle.std.specs.declared.cmp.Ordering.TheVariants.{Less, Equal, Greater}
use Rattle.std.specs.List.{slice_split, flat_map, starts_with, ends_with}
use Rattle.std.specs.Map.{lookup}
use Rattle.std.specs.Str.{byte, bytes_eq}
use Rattle.unix_path.specs.Parts.{values}
use Rattle.unix_path.specs.Parents.{parent_of, ancestors_of}
use Rattle.unix_path.specs.Names.{file_name_of, stem_of, extension_of}
use Rattle.unix_path.specs.Prefixes.{stripped_of}
use Rattle.unix_path.specs.Order.{same_value, values_cmp}
use Rattle.unix_bytes.specs.Lossy.{lossy_of}
use Rattle.unix_path.specs.Joins.{join_of}
use Rattle.path_runs.specs.Spelling.{spelling_of}
use Rattle.pathtool.specs.EditFields.{edit_answer}
use Rattle.pathtool.specs.Quoted.{json_of}
use Rattle.pathtool.specs.Tables.{under_answer}
use Rattle.pathtool.specs.Walks.{part_bytes, walk_answer}
use Rattle.pathtool.specs.Fields.{fields_of, tabs, bad_command, bool_text}

-- `+` and the bytes for `Some`, and `-` for `None`
abbrev pub optional : Option (List ℕ) → List ℕ
optional found = option_map_or (λ bytes. codes "+" ++ bytes) found (codes "-")

-- an order as a word
abbrev pub order_text : Ordering → List ℕ
order_text Less = codes "less"
order_text Equal = codes "equal"
order_text Greater = codes "greater"

-- the answer of `strip`: the rest of a path after the components of `base`, or a message if the
-- path doesn't start with these components
abbrev pub strip_answer : List ℕ → List ℕ → List ℕ
strip_answer path base =
    if starts_with same_value (values path) (values base)
    then optional (Some (stripped_of path base))
    else codes "prefix not found"

-- the answer of a command with one path, or `None` if a field follows the path
abbrev pub path_answer : (List ℕ → List ℕ) → List ℕ → List (List ℕ) → Option (List ℕ)
path_answer answer p [] = Some (answer p)
path_answer answer p _ = None

-- the answer of a command with a path and one more field, or `None` if no field or more than one
-- follows the path
abbrev pub pair_answer : (List ℕ → List ℕ → List ℕ) → List ℕ → List (List ℕ) → Option (List ℕ)
pair_answer answer p (q ∷ []) = Some (answer p q)
pair_answer answer p _ = None

-- the commands, and the answer of each to a path and the fields that follow it
abbrev pub commands : List (List ℕ × (List ℕ → List (List ℕ) → Option (List ℕ)))
commands =
    (codes "parts", path_answer (λ p. tabs (part_bytes p)))
    ∷ (codes "back", path_answer (λ p. tabs (reverse (part_bytes p))))
    ∷ (codes "parent", path_answer (λ p. optional (parent_of p)))
    ∷ (codes "name", path_answer (λ p. optional (file_name_of (values p))))
    ∷ (codes "stem", path_answer (λ p. optional (stem_of (values p))))
    ∷ (codes "ext", path_answer (λ p. optional (extension_of (values p))))
    ∷ (codes "ancestors", path_answer (λ p. tabs (ancestors_of p)))
    ∷ (codes "canon", path_answer (λ p. spelling_of (values p)))
    ∷ (codes "show", path_answer lossy_of)
    ∷ (codes "json", path_answer json_of)
    ∷ (codes "join", pair_answer join_of)
    ∷ (codes "strip", pair_answer strip_answer)
    ∷ (
      codes "starts",
      pair_answer
          (λ p q. bool_text (starts_with same_value (values p) (values q))),
    )
    ∷ (codes "ends", pair_answer (λ p q. bool_text (ends_with same_value (values p) (values q))))
    ∷ (codes "cmp", pair_answer (λ p q. order_text (values_cmp (values p) (values q))))
    ∷ (codes "walk", pair_answer walk_answer)
    ∷ (codes "edit", λ p fields. Some (edit_answer p fields))
    ∷ (codes "under", λ base paths. Some (under_answer base paths)) ∷ []

-- the answer of the command in the first field to the path in the second field and to the fields
-- after it; `bad command` if there is no such command, no second field, or a number of fields that
-- the command doesn't take
abbrev pub answer_to : List (List ℕ) → List ℕ
answer_to (command ∷ p ∷ fields) =
    let found = lookup (bytes_eq command) commands in
    unwrap_or (option_and_then (λ answer. answer p fields) found) bad_command
answer_to _ = bad_command

-- the answer to a line
unfoldable pub answer_of : List ℕ → List ℕ
answer_of line = answer_to (fields_of line)

-- the pieces of an input, without the last piece if it is empty
abbrev pub without_empty_last : List (List ℕ) → List (List ℕ)
without_empty_last [] = []
without_empty_last ([] ∷ []) = []
without_empty_last (line ∷ lines) = line ∷ without_empty_last lines

-- the lines of an input: each ends at a newline, which the last line may lack if it isn't empty
abbrev pub lines_of : List ℕ → List (List ℕ)
lines_of input = without_empty_last (slice_split (λ b. b == byte "\n") input)

-- the output for an input: the answer to each of its lines, each followed by a newline
unfoldable pub output_of : List ℕ → List ℕ
output_of input = flat_map (λ line. answer_of line ++ byte "\n" ∷ []) (lines_of input)
