-- Laws of the meaning of arguments: the conventions of GNU's `getopt_long`, but for requests, which
-- are the first argument or follow the command, and for `--`, after which nothing is read.
use Rattle.std.specs.Prelude.{◌≡◌, ◌≢◌, ◌<◌, ◌⊎◌, ℕ, Bool, true, false, ◌==◌, ◌&&◌, not, List}
use Rattle.std.specs.Prelude.{[], ◌∷◌}
use Rattle.std.specs.Prelude.{◌++◌, codes, length, Result, Ok, Err, None, Some, IsTrue}
use Rattle.std.specs.List.{All, list_all, starts_with}
use Rattle.std.specs.Option.{is_none, is_some}
use Rattle.std.specs.Str.{byte, bytes_eq}
use Rattle.upath_commands.specs.declared.command.Command.{Command}
use Rattle.upath_commands.specs.declared.command.Command.TheVariants.{Canon, Join}
use Rattle.upath_commands.specs.declared.command.JoinRule.{JoinRule}
use Rattle.upath_commands.specs.declared.command.JoinRule.TheVariants.{Trusted, Beneath}
use Rattle.upath_commands.specs.declared.command.Options.{Options}
use Rattle.upath_commands.specs.declared.usage.UsageErrorKind.{UsageErrorKind}
use Rattle.upath_commands.specs.declared.usage.UsageErrorKind.TheVariants.{UnknownCommand}
use Rattle.upath_commands.specs.declared.usage.UsageErrorKind.TheVariants.{UnknownLetter}
use Rattle.upath_commands.specs.declared.options.Flag.{Flag}
use Rattle.upath_commands.specs.Arguments.{first_word, meaning_of}
use Rattle.upath_commands.specs.Invocations.{Each, Help, InvocationValue, Meaning, TaskValue}
use Rattle.upath_commands.specs.Items.{value_awaited}
use Rattle.upath_commands.specs.Options.{command_by_name, has_option, option_by_letter}
use Rattle.upath_commands.specs.Options.{request_by_word}

-- the argument doesn't begin with a dash
abbrev pub is_plain : List ℕ → Bool
is_plain argument = not (starts_with ◌==◌ argument (codes "-"))

-- a dash and these letters
abbrev pub short : List ℕ → List ℕ
short letters = byte "-" ∷ letters

-- an option, or options by their letters, that needs no further argument; no request
abbrev pub is_option : List ℕ → Bool
is_option argument =
    not (is_plain argument) && not (bytes_eq argument (codes "-"))
    && not (bytes_eq argument (codes "--")) && is_none (value_awaited argument)
    && is_none (request_by_word argument)

-- the options that `-z` and a rule of `join` give
abbrev pub null_options : JoinRule → Options
null_options rule = record {
  null = true;
  pair = false;
  quiet = false;
  from_back = false;
  rule = rule;
  inverted = false;
  with_reason = false;
  tar_list = false;
  closed = false;
  stripped = false;
  by_components = false;
  unique = false;
  reversed = false;
}

-- a command with these options, for ROOT or BASE
abbrev pub null_task : Command → JoinRule → List ℕ → TaskValue
null_task command rule base =
    record { command = command; options = null_options rule; or = None; base = base }

-- after `-z` and `--`, exactly the arguments are paths, whatever their bytes are
abbrev pub PathsAfterDashes : Type 0
PathsAfterDashes = (paths : List (List ℕ))
    → meaning_of (codes "canon" ∷ codes "-z" ∷ codes "--" ∷ paths)
    ≡ Ok (Each (null_task Canon Trusted []) (Some paths))

-- so are those after ROOT and `--`
abbrev pub PathsAfterRoot : Type 0
PathsAfterRoot = (root : List ℕ) (paths : List (List ℕ)) → IsTrue (is_plain root)
    → meaning_of (codes "join" ∷ codes "-z" ∷ codes "--beneath" ∷ root ∷ codes "--" ∷ paths)
    ≡ Ok (Each (null_task Join Beneath root) (Some paths))

-- `--help` as the first argument asks for help on the command that the next argument names,
-- whatever follows
abbrev pub HelpFirst : Type 0
HelpFirst = (name : List ℕ) (after : List (List ℕ)) → IsTrue (is_some (command_by_name name))
    → meaning_of (codes "--help" ∷ name ∷ after) ≡ Ok (Help name)

-- before another word it is wrong usage
abbrev pub HelpUnknown : Type 0
HelpUnknown = (word : List ℕ) (after : List (List ℕ)) → IsTrue (is_plain word)
    → command_by_name word ≡ None
    → meaning_of (codes "--help" ∷ word ∷ after) ≡ Err (UnknownCommand, word)

-- alone it asks for help in general
abbrev pub HelpAlone : Type 0
HelpAlone = meaning_of (codes "--help" ∷ []) ≡ Ok (Help [])

-- `--help` just after a command asks for help on it, whatever options precede the command, and
-- whatever follows
abbrev pub HelpAfterCommand : Type 0
HelpAfterCommand = (before : List (List ℕ)) (name : List ℕ) (after : List (List ℕ))
    → IsTrue (list_all is_option before) → IsTrue (is_some (command_by_name name))
    → meaning_of (before ++ name ∷ codes "--help" ∷ after) ≡ Ok (Help name)

-- a short option but `-h` means the same before and after arguments without dashes, the first of
-- which isn't `help`, unless it parts the command from a request
abbrev pub OptionsFollowOperands : Type 0
OptionsFollowOperands = (letter : ℕ) (before after : List (List ℕ))
    → IsTrue (list_all is_plain before) → first_word before ≢ codes "help"
    → letter ≢ byte "-" → letter ≢ byte "h"
    → (length before ≢ 1) ⊎ (request_by_word (first_word after) ≡ None)
    → meaning_of (before ++ short (letter ∷ []) ∷ after)
    ≡ meaning_of (short (letter ∷ []) ∷ before ++ after)

-- short options mean the same joined and apart, but for `-h`, if the first ones are ASCII, so that
-- no character is cut; the first of the arguments before them isn't `help`
abbrev pub LettersJoin : Type 0
LettersJoin = (a b : ℕ) (letters more : List ℕ) (before after : List (List ℕ))
    → IsTrue (list_all is_plain before) → first_word before ≢ codes "help"
    → a ≢ byte "-" → b ≢ byte "-" → a ∷ letters ≢ codes "h" → b ∷ more ≢ codes "h"
    → All (λ b. b < 128) (a ∷ letters)
    → meaning_of (before ++ short ((a ∷ letters) ++ b ∷ more) ∷ after)
    ≡ meaning_of (before ++ short (a ∷ letters) ∷ short (b ∷ more) ∷ after)

-- the invocation, or the kind of the wrong usage
abbrev pub kind_of : Meaning → Result InvocationValue UsageErrorKind
kind_of (Ok invocation) = Ok invocation
kind_of (Err usage) = Err usage.0

-- whatever their bytes are, they ask for the same, or are wrong usage of the same kind
abbrev pub LettersJoinInKind : Type 0
LettersJoinInKind = (a b : ℕ) (letters more : List ℕ) (before after : List (List ℕ))
    → IsTrue (list_all is_plain before) → first_word before ≢ codes "help"
    → a ≢ byte "-" → b ≢ byte "-" → a ∷ letters ≢ codes "h" → b ∷ more ≢ codes "h"
    → kind_of (meaning_of (before ++ short ((a ∷ letters) ++ b ∷ more) ∷ after))
    ≡ kind_of (meaning_of (before ++ short (a ∷ letters) ∷ short (b ∷ more) ∷ after))

-- after words that don't begin with a dash, a letter that is no option is the wrong usage that is
-- reported, whatever follows
abbrev pub UnknownOptionFirst : Type 0
UnknownOptionFirst = (letter : ℕ) (word : List ℕ) (before after : List (List ℕ))
    → IsTrue (list_all is_plain (word ∷ before)) → word ≢ codes "help"
    → option_by_letter letter ≡ None → letter ≢ byte "-" → letter ≢ byte "h"
    → meaning_of (word ∷ before ++ short (letter ∷ []) ∷ after)
    ≡ Err (UnknownLetter, letter ∷ [])

-- among words that don't begin with a dash and a letter that is an option of some command, the
-- first word, if it is no command, is the wrong usage that is reported
abbrev pub UnknownCommandSecond : Type 0
UnknownCommandSecond = (letter : ℕ) (flag : Flag) (word : List ℕ) (before after : List (List ℕ))
    → IsTrue (list_all is_plain (word ∷ before)) → IsTrue (list_all is_plain after)
    → word ≢ codes "help" → command_by_name word ≡ None → option_by_letter letter ≡ Some flag
    → meaning_of (word ∷ before ++ short (letter ∷ []) ∷ after) ≡ Err (UnknownCommand, word)

-- if the first word is a command, it is the letter, if that is no option of this command
abbrev pub ForeignOptionThird : Type 0
ForeignOptionThird = (letter : ℕ) (flag : Flag) (name : List ℕ) (command : Command)
    (before after : List (List ℕ))
    → IsTrue (list_all is_plain before) → IsTrue (list_all is_plain after)
    → command_by_name name ≡ Some command → option_by_letter letter ≡ Some flag
    → has_option command flag ≡ false
    → meaning_of (name ∷ before ++ short (letter ∷ []) ∷ after) ≡ Err (UnknownLetter, letter ∷ [])

-- a value means the same as the next argument and after a `=`
abbrev pub ValueAfterEqualsSign : Type 0
ValueAfterEqualsSign = (dir : List ℕ) (after : List (List ℕ))
    → meaning_of (codes "relative" ∷ codes "--from" ∷ dir ∷ after)
    ≡ meaning_of (codes "relative" ∷ (codes "--from=" ++ dir) ∷ after)
