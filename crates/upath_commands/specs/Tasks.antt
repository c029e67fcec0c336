-- What a command prints for paths.
use Rattle.std.specs.Prelude.{◌≡◌, ◌++◌, ℕ, Bool, List, [], Result, IfOk, is_some}
use Rattle.std.specs.Prelude.{if◌then◌else◌}
use Rattle.std.specs.List.{flat_map}
use Rattle.std.specs.Option.{option_to_list}
use Rattle.upath_commands.specs.Answers.{record_output}
use Rattle.upath_commands.specs.Commands.{answer_of, fallback, is_answered, is_answered_if}
use Rattle.upath_commands.specs.Commands.{text_for}
use Rattle.upath_commands.specs.Invocations.{TaskValue}
use Rattle.upath_commands.specs.Refusals.{message_for}

-- the path is answered
abbrev pub answers : TaskValue → List ℕ → Bool
answers task p = is_answered task.command task p

-- what the task prints for p was appended, and the result says whether p is answered
abbrev pub Prints : {E : Type 0} → Result Bool E → List ℕ → List ℕ → TaskValue → List ℕ → Type 0
Prints result old new task p = IfOk result
    (λ is. (is ≡ answers task p) × (new ≡ old ++ text_for task p))

-- the same of a command that has at most one answer
abbrev pub PrintsOnly : {E : Type 0} → Result Bool E → List ℕ → List ℕ → TaskValue → List ℕ
    → Type 0
PrintsOnly result old new task p =
    let found = answer_of task.command task p in
    let answered = is_answered_if task.command task.options (is_some found) in
    let answer = option_to_list found in
    let printed = if answered then answer
    else answer ++ option_to_list (fallback task.command task.or) in
    IfOk result
    (λ is. (is ≡ answered) × (new ≡ old ++ record_output task.options p printed))

-- what is written for these paths
abbrev pub output_of : TaskValue → List (List ℕ) → List ℕ
output_of task paths = flat_map (text_for task) paths

-- the message for a path, if it is not answered
abbrev pub message_of : TaskValue → List ℕ → List ℕ
message_of task p = if answers task p then [] else message_for task p

-- the messages for these paths
abbrev pub messages_of : TaskValue → List (List ℕ) → List ℕ
messages_of task paths = flat_map (message_of task) paths
