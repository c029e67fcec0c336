-- What each command answers.
use Rattle.std.specs.Prelude.{ℕ, Bool, true, not, List, ◌∷◌, ◌++◌, Option, Some, None}
use Rattle.std.specs.Prelude.{is_some, reverse, option_map, if◌then◌else◌}
use Rattle.std.specs.Option.{option_to_list}
use Rattle.unix_path.specs.Names.{extension_of, file_name_of, stem_of}
use Rattle.unix_path.specs.Parts.{values}
use Rattle.path_runs.specs.Spelling.{spelling_of}
use Rattle.path_keys.specs.Keys.{key_of}
use Rattle.path_within.specs.Resolved.{resolved_bytes_of}
use Rattle.upath_commands.specs.Answers.{dot_if_empty, escaping_of, is_refused, joined_of}
use Rattle.upath_commands.specs.Answers.{parent_answer, parents_answer, part_bytes}
use Rattle.upath_commands.specs.Answers.{record_output, relative_of, rest_after, rest_under}
use Rattle.upath_commands.specs.Answers.{under_answer}
use Rattle.upath_commands.specs.Hex.{hex_of}
use Rattle.upath_commands.specs.KeyTexts.{unkey_of}
use Rattle.upath_commands.specs.Invocations.{TaskValue}
use Rattle.upath_commands.specs.declared.command.Command.{Command}
use Rattle.upath_commands.specs.declared.command.Command.TheVariants.{Canon, Resolve, Parent}
use Rattle.upath_commands.specs.declared.command.Command.TheVariants.{Ancestors, Name, Stem}
use Rattle.upath_commands.specs.declared.command.Command.TheVariants.{Extension, Parts, Join}
use Rattle.upath_commands.specs.declared.command.Command.TheVariants.{Strip, Relative, Key, Unkey}
use Rattle.upath_commands.specs.declared.command.Command.TheVariants.{Escapes, Under, Sort, Check}
use Rattle.upath_commands.specs.declared.command.Command.TheVariants.{Uniq}
use Rattle.upath_commands.specs.declared.command.Options.{Options}

-- the answer of this command with the options of a task, if it has at most one
abbrev pub answer_of : Command → TaskValue → List ℕ → Option (List ℕ)
answer_of Canon task p = Some (spelling_of (values p))
answer_of Resolve task p = Some (dot_if_empty (resolved_bytes_of p))
answer_of Parent task p = parent_answer p
answer_of Name task p = file_name_of (values p)
answer_of Stem task p = stem_of (values p)
answer_of Extension task p = extension_of (values p)
answer_of Join task p = joined_of task.options.rule task.base p
answer_of Strip task p = option_map dot_if_empty (rest_after task.base p)
answer_of Relative task p = option_map dot_if_empty (relative_of task.base p)
answer_of Key task p = Some (hex_of (key_of (values p)))
answer_of Unkey task p = unkey_of task.options.null p
answer_of Escapes task p = escaping_of task.options p
answer_of Under task p = under_answer task.options p (rest_under task.options task.base p)
answer_of Sort task p = Some p
answer_of Uniq task p = Some p
answer_of command task p = None

-- the records that a path is answered with
abbrev pub answers_of : Command → TaskValue → List ℕ → List (List ℕ)
answers_of Ancestors task p = p ∷ parents_answer p
answers_of Parts task p = if task.options.from_back then reverse (part_bytes p) else part_bytes p
answers_of command task p = option_to_list (answer_of command task p)

-- the path is answered: the command has an answer to it, but for `escapes` it stays; `sort -c` has
-- none to the path that is out of order
abbrev pub is_answered : Command → TaskValue → List ℕ → Bool
is_answered Ancestors task p = true
is_answered Parts task p = true
is_answered Escapes task p = not (is_refused p)
is_answered command task p = is_some (answer_of command task p)

-- the path is answered, if the command has an answer to it or not
abbrev pub is_answered_if : Command → Options → Bool → Bool
is_answered_if Escapes options has = if options.inverted then has else not has
is_answered_if command options has = has

-- what is printed for a path that is not answered: the text of `--or`, but `escapes`, `under` and
-- `sort -c` select paths, and print nothing else
abbrev pub fallback : Command → Option (List ℕ) → Option (List ℕ)
fallback Escapes text = None
fallback Under text = None
fallback Check text = None
fallback command text = text

-- what is printed for p
abbrev pub printed_of : TaskValue → List ℕ → List (List ℕ)
printed_of task p =
    if is_answered task.command task p then answers_of task.command task p
    else answers_of task.command task p ++ option_to_list (fallback task.command task.or)

-- what is written for p
abbrev pub text_for : TaskValue → List ℕ → List ℕ
text_for task p = record_output task.options p (printed_of task p)
