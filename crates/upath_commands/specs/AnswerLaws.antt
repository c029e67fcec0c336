-- Laws of what is printed.
use Rattle.std.specs.Prelude.{◌≡◌, ◌≢◌, ◌⊎◌, ◌↔◌, ℕ, true, false, ◌==◌, List, []}
use Rattle.std.specs.Prelude.{IsTrue, Some}
use Rattle.std.specs.List.{AllByRecursion, flat_map, list_any}
use Rattle.unix_path.specs.Parts.{values}
use Rattle.path_within.specs.Below.{has_nul}
use Rattle.path_within.specs.Escapes.{Escapes}
use Rattle.upath_commands.specs.Answers.{end_of, is_refused}
use Rattle.upath_commands.specs.Commands.{answer_of, printed_of}
use Rattle.upath_commands.specs.Invocations.{TaskValue}
use Rattle.upath_commands.specs.Records.{records_of}
use Rattle.upath_commands.specs.Tasks.{messages_of, output_of}
use Rattle.upath_commands.specs.declared.command.Command.{Command}
use Rattle.upath_commands.specs.declared.command.Command.TheVariants.{Under}

-- `escapes` prints the paths that escape, as the library defines it, and those with a NUL
abbrev pub EscapesTested : Type 0
EscapesTested = (p : List ℕ)
    → IsTrue (is_refused p) ↔ (Escapes (values p) ⊎ IsTrue (has_nul p))

-- the command prints no empty answer
abbrev pub NeverEmpty : Command → Type 0
NeverEmpty command = (task : TaskValue) (p : List ℕ) → answer_of command task p ≢ Some []

-- nor does `under --strip`
abbrev pub UnderStripsNeverEmpty : Type 0
UnderStripsNeverEmpty = (task : TaskValue) (p : List ℕ) → task.options.inverted ≡ false
    → task.options.stripped ≡ true → answer_of Under task p ≢ Some []

-- what is printed for these paths, one after the other
abbrev pub printed_for : TaskValue → List (List ℕ) → List (List ℕ)
printed_for task paths = flat_map (printed_of task) paths

-- the bytes don't have this byte
abbrev pub Lacks : ℕ → List ℕ → Type 0
Lacks b bytes = list_any (λ c. c == b) bytes ≡ false

-- the output has one record for each answer, and the record is the answer, unless an answer has the
-- byte that ends records, or `-q` or `-p` is given
abbrev pub OutputReadsBack : Type 0
OutputReadsBack = (task : TaskValue) (paths : List (List ℕ))
    → task.options.quiet ≡ false → task.options.pair ≡ false
    → AllByRecursion (Lacks (end_of task.options)) (printed_for task paths)
    → records_of (end_of task.options) (output_of task paths) ≡ printed_for task paths

-- with `-q` nothing is printed, neither answers nor messages
abbrev pub QuietPrintsNothing : Type 0
QuietPrintsNothing = (task : TaskValue) (paths : List (List ℕ)) → task.options.quiet ≡ true
    → (output_of task paths ≡ []) × (messages_of task paths ≡ [])
