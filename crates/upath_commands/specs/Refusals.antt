-- The message for a path without an answer.
use Rattle.std.specs.Prelude.{ℕ, Bool, true, false, List, [], ◌∷◌, ◌++◌, Option, Some, None}
use Rattle.std.specs.Prelude.{codes, if◌then◌else◌, is_some}
use Rattle.std.specs.Str.{byte}
use Rattle.unix_path.specs.Parts.{is_rooted, values}
use Rattle.path_within.specs.Escapes.{has_root_or_parent_dir}
use Rattle.upath_commands.specs.Escaping.{escapes}
use Rattle.upath_commands.specs.Invocations.{TaskValue}
use Rattle.upath_commands.specs.KeyTexts.{unkeyed_path}
use Rattle.upath_commands.specs.declared.command.Command.{Command}
use Rattle.upath_commands.specs.declared.command.Command.TheVariants.{Parent, Name, Stem}
use Rattle.upath_commands.specs.declared.command.Command.TheVariants.{Extension, Join, Strip}
use Rattle.upath_commands.specs.declared.command.Command.TheVariants.{Relative, Unkey, Check}
use Rattle.upath_commands.specs.declared.command.JoinRule.{JoinRule}
use Rattle.upath_commands.specs.declared.command.JoinRule.TheVariants.{Beneath, Verbatim}
use Rattle.upath_commands.specs.declared.reasons.Reason.{Reason}
use Rattle.upath_commands.specs.declared.reasons.Reason.TheVariants.{Plain, NoRelative}
use Rattle.upath_commands.specs.Shown.{shown}

-- why the rule refuses p
abbrev pub join_reason : JoinRule → List ℕ → List ℕ
join_reason Beneath p =
    if is_rooted p then codes "has a root"
    else (if escapes p then codes "leaves its root" else codes "has a NUL byte")
join_reason Verbatim p =
    if is_rooted p then codes "has a root"
    else (if has_root_or_parent_dir (values p) then codes "has a .." else codes "has a NUL byte")
join_reason _ p = codes "has a NUL byte"

-- why `unkey` has no answer to this text
abbrev pub unkey_reason : Bool → List ℕ → List ℕ
unkey_reason null text =
    if is_some (unkeyed_path text)
    then (if null then codes "has a NUL byte" else codes "has a newline, which needs -z")
    else codes "not a key"

-- why there is no relative path from a directory with or without a root to such a path
abbrev pub no_relative : Bool → Bool → List ℕ
no_relative true false = codes ", as only one of them has a leading slash"
no_relative false true = codes ", as only one of them has a leading slash"
no_relative from to = codes ", which has a .. that the path lacks"

-- why there is no relative path from a directory to p
abbrev pub relative_reason : List ℕ → List ℕ → List ℕ
relative_reason dir p =
    codes "no relative path from " ++ (shown dir ++ no_relative (is_rooted dir) (is_rooted p))

-- a reason, as the code has it
abbrev pub reason_text : Reason → List ℕ
reason_text (Plain text) = text.now
reason_text (NoRelative dir text) =
    codes "no relative path from " ++ (shown dir.bytes.now ++ text.now)

-- why the command has no answer to p; `None` for commands that answer every path, and for `escapes`
-- and `under`, which leave out paths without a reason
abbrev pub reason_of : Command → TaskValue → List ℕ → Option (List ℕ)
reason_of Parent task p = Some (codes "no parent")
reason_of Name task p = Some (codes "no file name")
reason_of Stem task p = Some (codes "no file name")
reason_of Extension task p = Some (codes "no extension")
reason_of Join task p = Some (join_reason task.options.rule p)
reason_of Strip task p = Some (codes "doesn't start with the base")
reason_of Relative task p = Some (relative_reason task.base p)
reason_of Unkey task p = Some (unkey_reason task.options.null p)
reason_of Check task p = Some (codes "is out of order")
reason_of command task p = None

-- the line for this path and this reason
abbrev pub reason_line : List ℕ → Option (List ℕ) → List ℕ
reason_line p None = []
reason_line p (Some reason) =
    codes "upath: " ++ (shown p ++ (codes ": " ++ (reason ++ byte "\n" ∷ [])))

-- the message for p if it is not answered
abbrev pub message_for : TaskValue → List ℕ → List ℕ
message_for task p =
    if task.options.quiet then [] else reason_line p (reason_of task.command task p)
