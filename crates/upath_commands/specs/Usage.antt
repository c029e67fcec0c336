-- The message for wrong usage.
use Rattle.std.specs.Prelude.{ℕ, List, [], ◌∷◌, ◌++◌, codes}
use Rattle.std.specs.Str.{byte}
use Rattle.upath_commands.specs.Invocations.{UsageValue}
use Rattle.upath_commands.specs.Shown.{shown}
use Rattle.upath_commands.specs.declared.usage.UsageErrorKind.{UsageErrorKind}
use Rattle.upath_commands.specs.declared.usage.UsageErrorKind.TheVariants as kind

-- what is wrong with an argument
abbrev pub usage_text : UsageErrorKind → List ℕ
usage_text kind.MissingCommand = codes "COMMAND is missing"
usage_text kind.UnknownCommand = codes "unknown command"
usage_text kind.UnknownOption = codes "unknown option"
usage_text kind.UnknownLetter = codes "unknown option"
usage_text kind.MisplacedRequest = codes "must be the first argument or follow the command"
usage_text kind.MissingValue = codes "its value is missing"
usage_text kind.UnexpectedValue = codes "takes no value"
usage_text kind.ContradictoryOptions =
    codes "--beneath, --in-root and --verbatim exclude one another"
usage_text kind.MissingRoot = codes "ROOT is missing"
usage_text kind.MissingBase = codes "BASE is missing"
usage_text kind.MissingFrom = codes "--from=DIR is missing"
usage_text kind.MissingPair = codes "A or B is missing"
usage_text kind.UnexpectedOperand = codes "one operand too many"
usage_text kind.BeforeDashes = codes "comes before --"
usage_text kind.NewlineInOperand = codes "has a newline, which needs -z"

-- the argument and a colon; nothing if a command is missing
abbrev pub shown_argument : UsageValue → List ℕ
shown_argument (kind.MissingCommand, bytes) = []
shown_argument (kind.UnknownLetter, letter) = byte "-" ∷ (shown letter ++ codes ": ")
shown_argument (kind, bytes) = shown bytes ++ codes ": "

-- the line for wrong usage, with the argument that shows it
abbrev pub usage_line : UsageValue → List ℕ
usage_line usage =
    codes "upath: " ++ (shown_argument usage
    ++ (usage_text usage.0 ++ codes "\nTry 'upath --help'.\n"))
