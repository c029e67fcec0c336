-- What arguments ask for, with bytes in place of paths.
use Rattle.std.specs.Prelude.{ℕ, List, map, Option, option_map, Result, Ok, Err}
use Rattle.unix_path.specs.declared.path.Path.{Path}
use Rattle.upath_commands.specs.declared.command.Command.{Command}
use Rattle.upath_commands.specs.declared.command.Invocation.{Invocation}
use Rattle.upath_commands.specs.declared.command.Invocation.TheVariants as invocation
use Rattle.upath_commands.specs.declared.command.Options.{Options}
use Rattle.upath_commands.specs.declared.command.Task.{Task}
use Rattle.upath_commands.specs.declared.usage.UsageError.{UsageError}
use Rattle.upath_commands.specs.declared.usage.UsageErrorKind.{UsageErrorKind}

-- a command for each of some paths: its options, the value of `--or`, and its ROOT, BASE or DIR
pub record TaskValue : Type 0 where
  pub command : Command
  pub options : Options
  pub or : Option (List ℕ)
  pub base : List ℕ

-- what a list of arguments asks for; `Each` without a list of paths takes those of the input
pub data InvocationValue : Type 0 where
  Help : List ℕ → InvocationValue
  Version : InvocationValue
  Equal : Options → List ℕ → List ℕ → InvocationValue
  Archive : Options → InvocationValue
  Each : TaskValue → Option (List (List ℕ)) → InvocationValue

-- wrong usage: its kind, and the bytes of the argument that shows it
abbrev pub UsageValue : Type 0
UsageValue = UsageErrorKind × List ℕ

-- a list of arguments has one meaning, or it is wrong usage
abbrev pub Meaning : Type 0
Meaning = Result InvocationValue UsageValue

-- the bytes of a path
abbrev pub view_bytes : Path → List ℕ
view_bytes path = path.bytes.now

-- the task, with the bytes that its views point to
abbrev pub task_value : Task → TaskValue
task_value task = record {
  command = task.command;
  options = task.options;
  or = option_map view_bytes task.or;
  base = view_bytes task.base;
}

-- the invocation, with the bytes that its views point to
abbrev pub invocation_value : Invocation → InvocationValue
invocation_value (invocation.Help name) = Help (view_bytes name)
invocation_value invocation.Version = Version
invocation_value (invocation.Equal options a b) = Equal options (view_bytes a) (view_bytes b)
invocation_value (invocation.Archive options) = Archive options
invocation_value (invocation.Each task paths) =
    Each (task_value task) (option_map (λ paths. map view_bytes paths.items) paths)

-- wrong usage, with the bytes that its view points to
abbrev pub usage_value : UsageError → UsageValue
usage_value error = (error.kind, view_bytes error.argument)

-- the meaning, or wrong usage, with the bytes that its views point to
abbrev pub meaning_value : Result Invocation UsageError → Meaning
meaning_value (Ok invocation) = Ok (invocation_value invocation)
meaning_value (Err error) = Err (usage_value error)
