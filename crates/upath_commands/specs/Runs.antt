-- What an invocation prints, and its exit status.
use Rattle.std.specs.Prelude.{◌≡◌, ◌⊎◌, ◌↔◌, ℕ, Bool, true, false, List, [], ◌++◌, take}
use Rattle.std.specs.Prelude.{Option, Some, None, Result, Ok, Err, find, if◌then◌else◌, unwrap_or}
use Rattle.std.specs.Prelude.{IfErr, IfOk, IfSome, OnErr, OnOk}
use Rattle.std.specs.Io.KnownBytes.{Appends}
use Rattle.std.specs.List.{list_all, list_any}
use Rattle.std.specs.Option.{option_map_or}
use Rattle.std.specs.Ordering.{is_eq}
use Rattle.std.specs.Str.{bytes_eq}
use Rattle.byte_streams.specs.Watched.{AppendsPrefix}
use Rattle.byte_streams.specs.declared.io_traits.Sink.{Ghosts as Sink}
use Rattle.unix_path.specs.Order.{values_cmp}
use Rattle.unix_path.specs.Parts.{values}
use Rattle.upath_commands.specs.Answers.{end_of}
use Rattle.upath_commands.specs.Archives.{IsSafe, OnArchive}
use Rattle.upath_commands.specs.Invocations.{InvocationValue, Meaning, TaskValue}
use Rattle.upath_commands.specs.Invocations.{Help, Version, Equal, Archive, Each}
use Rattle.upath_commands.specs.Outputs.{Ended, Speaks, Tells}
use Rattle.upath_commands.specs.Records.{records_of}
use Rattle.upath_commands.specs.Replies.{Broken, GaveThis, OfPrinted, State, state_of}
use Rattle.upath_commands.specs.Sorting.{chosen}
use Rattle.upath_commands.specs.Tasks.{answers, messages_of, output_of}
use Rattle.upath_commands.specs.Usage.{usage_line}
use Rattle.upath_commands.specs.declared.command.Command.{Command}
use Rattle.upath_commands.specs.declared.command.Command.TheVariants.{Under}
use Rattle.upath_commands.specs.declared.output.RunError.{RunError}
use Rattle.upath_commands.specs.declared.replies.Replies.{Replies}
use Rattle.upath_commands.specs.declared.runs.Texts.{Texts}

-- the paths that a command answers, in their order: of those of the arguments, or if there are none
-- of the records of the input
abbrev pub asked : TaskValue → Option (List (List ℕ)) → List ℕ → List (List ℕ)
asked task paths input =
    chosen task.command task.options
    (unwrap_or paths (records_of (end_of task.options) input))

-- the answer of a command, if it is known whether all paths are answered, and whether any is
abbrev pub yes_of : Command → Bool → Bool → Bool
yes_of Under all any = any
yes_of command all any = all

-- the answer of a command for these paths: for `under` that it prints any, else that all are
-- answered
abbrev pub command_yes : TaskValue → List (List ℕ) → Bool
command_yes task paths =
    yes_of task.command (list_all (answers task) paths) (list_any (answers task) paths)

-- the help text of the command with this name, or the general one
abbrev pub help_text : Texts → List ℕ → List ℕ
help_text texts name =
    option_map_or (λ help. help.text.now)
    (find (λ help. bytes_eq help.name.now name) texts.commands.now) texts.general.now

-- an invocation reads the input
abbrev pub reads_input : InvocationValue → Bool
reads_input (Each task None) = true
reads_input (Archive options) = true
reads_input _ = false

-- P holds of what an invocation writes and of its messages
abbrev pub OnPrinted : Texts → InvocationValue → List ℕ → OfPrinted → Type 0
OnPrinted texts (Help name) input P = P (help_text texts name) []
OnPrinted texts Version input P = P texts.version.now []
OnPrinted texts (Equal options a b) input P = P [] []
OnPrinted texts (Archive options) input P = OnArchive options input P
OnPrinted texts (Each task paths) input P =
    let those = asked task paths input in P (output_of task those) (messages_of task those)

-- the same after an error: if it came before `archive` decided, nothing was printed
abbrev pub OnBegun : Texts → InvocationValue → List ℕ → OfPrinted → Type 0
OnBegun texts (Archive options) input P = P [] [] ⊎ OnArchive options input P
OnBegun texts invocation input P = OnPrinted texts invocation input P

-- the answer of an invocation is this; of `archive` yes, if and only if the archive is safe
abbrev pub IsAnswer : InvocationValue → List ℕ → Bool → Type 0
IsAnswer (Help name) input answer = answer ≡ true
IsAnswer Version input answer = answer ≡ true
IsAnswer (Equal options a b) input answer = answer ≡ is_eq (values_cmp (values a) (values b))
IsAnswer (Archive options) input answer = (answer ≡ true) ↔ IsSafe options input
IsAnswer (Each task paths) input answer = answer ≡ command_yes task (asked task paths input)

-- the exit status of an invocation: 0 if the answer is yes, 1 if not
abbrev pub IsStatusOf : InvocationValue → List ℕ → ℕ → Type 0
IsStatusOf invocation input status =
    (answer : Bool) × IsAnswer invocation input answer × (status ≡ (if answer then 0 else 1))

-- arguments with this meaning have the input read
abbrev pub reads : Meaning → Bool
reads (Ok invocation) = reads_input invocation
reads (Err usage) = false

-- what matters of an input: nothing, if it isn't read
abbrev pub input_if : Bool → Option (List ℕ) → Option (List ℕ)
input_if is_read input = if is_read then input else Some []

-- P holds of what is written for arguments with this meaning and of the messages: for paths that
-- are not answered and entries that are refused, or for wrong usage
abbrev pub OnReplies : Texts → Meaning → List ℕ → OfPrinted → Type 0
OnReplies texts (Ok invocation) input P = OnPrinted texts invocation input P
OnReplies texts (Err usage) input P = P [] (usage_line usage)

-- the same after an error
abbrev pub OnBegunReplies : Texts → Meaning → List ℕ → OfPrinted → Type 0
OnBegunReplies texts (Ok invocation) input P = OnBegun texts invocation input P
OnBegunReplies texts (Err usage) input P = P [] (usage_line usage)

-- the exit status: 0 if the answer is yes, 1 if not, 2 for wrong usage
abbrev pub IsStatus : Meaning → List ℕ → ℕ → Type 0
IsStatus (Ok invocation) input status = IsStatusOf invocation input status
IsStatus (Err usage) input status = status ≡ 2

-- nothing is printed, neither answers nor messages
abbrev pub is_quiet : InvocationValue → Bool
is_quiet (Equal options a b) = options.quiet
is_quiet (Each task paths) = task.options.quiet
is_quiet (Archive options) = options.quiet
is_quiet _ = false

-- nothing is printed for an error of the run
abbrev pub hides_errors : Meaning → Bool
hides_errors (Ok invocation) = is_quiet invocation
hides_errors (Err usage) = false

-- for a known input the output and the messages for these paths were added, and the result is the
-- answer of the command; after an error prefixes of them were added
abbrev pub GaveFor : {W E : Type 0} → Sink W → Sink E → TaskValue → Result Bool RunError
    → Replies W E → Replies W E → Option (List ℕ) → (List ℕ → List (List ℕ)) → Type 0
GaveFor w e task result old new input paths = GaveThis w e result old new input
    (λ input. output_of task (paths input)) (λ input. messages_of task (paths input))
    (λ input. command_yes task (paths input))

-- the output was written, after the pending bytes, and the messages
pub record Done (old new : State) (output messages : List ℕ) : Type 0 where
  pub wrote : Appends old.written new.written (old.pending ++ output)
  pub said : Tells old.is_deaf new.is_deaf old.told new.told messages

-- a prefix of the output was written, and a prefix of the messages and then this line
pub record Failed (old new : State) (output messages line : List ℕ) : Type 0 where
  pub wrote : AppendsPrefix old.written new.written (old.pending ++ output)
  pub said : (n : ℕ) × Tells old.is_deaf new.is_deaf old.told new.told (take n messages ++ line)

-- for a known input an output and messages were written of which `printed` says what they are, and
-- the result is its answer; after an error prefixes of those that `begun` tells
pub record Ran {W E : Type 0} (w : Sink W) (e : Sink E) (result : Result Bool RunError)
    (old new : Replies W E) (input : Option (List ℕ)) (printed begun : List ℕ → OfPrinted → Type 0)
    (is_answer : List ℕ → Bool → Type 0) : Type 0 where
  pub ok : OnOk result (IfSome input (λ input.
      printed input (Done (state_of w e old) (state_of w e new))))
  pub answer : IfOk result (λ is. IfSome input (λ input. is_answer input is))
  pub err : OnErr result (IfSome input (λ input.
      begun input (Broken (state_of w e old) (state_of w e new))))
  pub ended : Ended w result old.answers new.answers
  pub speaks : Speaks e old.messages new.messages

-- for a known input an output and messages were written of which `printed` says what they are;
-- after an error prefixes of those that `begun` tells, and then this line
pub record Reported {W E A : Type 0} (w : Sink W) (e : Sink E) (result : Result A RunError)
    (old new : Replies W E) (input : Option (List ℕ)) (printed begun : List ℕ → OfPrinted → Type 0)
    (line : RunError → List ℕ) : Type 0 where
  pub ok : OnOk result (IfSome input (λ input.
      printed input (Done (state_of w e old) (state_of w e new))))
  pub err : IfErr result (λ error. IfSome input (λ input.
      begun input (λ output messages.
      Failed (state_of w e old) (state_of w e new) output messages (line error))))
  pub speaks : Speaks e old.messages new.messages
