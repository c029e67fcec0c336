-- The options and the commands: their names, and which command has which option.
use Rattle.std.specs.Prelude.{ℕ, Bool, true, false, ◌==◌, List, [], ◌∷◌, Option, codes}
use Rattle.std.specs.List.{list_any}
use Rattle.std.specs.Map.{lookup}
use Rattle.std.specs.Str.{byte, bytes_eq}
use Rattle.upath_commands.specs.declared.command.Command.{Command}
use Rattle.upath_commands.specs.declared.command.Command.TheVariants as command
use Rattle.upath_commands.specs.declared.options.Flag.{Flag}
use Rattle.upath_commands.specs.declared.options.Flag.TheVariants as option
use Rattle.upath_commands.specs.declared.options.Request.{Request}
use Rattle.upath_commands.specs.declared.options.Request.TheVariants as request

-- the commands, each after its name
abbrev pub commands : List (List ℕ × Command)
commands =
    (codes "canon", command.Canon)
    ∷ (codes "resolve", command.Resolve)
    ∷ (codes "parent", command.Parent)
    ∷ (codes "ancestors", command.Ancestors)
    ∷ (codes "name", command.Name)
    ∷ (codes "stem", command.Stem)
    ∷ (codes "ext", command.Extension)
    ∷ (codes "parts", command.Parts)
    ∷ (codes "join", command.Join)
    ∷ (codes "strip", command.Strip)
    ∷ (codes "relative", command.Relative)
    ∷ (codes "key", command.Key)
    ∷ (codes "unkey", command.Unkey)
    ∷ (codes "escapes", command.Escapes)
    ∷ (codes "archive", command.Archive)
    ∷ (codes "under", command.Under)
    ∷ (codes "sort", command.Sort)
    ∷ (codes "uniq", command.Uniq)
    ∷ (codes "equal", command.Equal) ∷ []

-- the command with this name
abbrev pub command_by_name : List ℕ → Option Command
command_by_name name = lookup (bytes_eq name) commands

-- the options with a letter, each after it
abbrev pub letters : List (ℕ × Flag)
letters =
    (byte "z", option.Null)
    ∷ (byte "p", option.Pair)
    ∷ (byte "q", option.Quiet)
    ∷ (byte "b", option.FromBack)
    ∷ (byte "v", option.Inverted)
    ∷ (byte "c", option.Check)
    ∷ (byte "u", option.Unique)
    ∷ (byte "r", option.Reversed) ∷ []

-- the options with a long name, each after it
abbrev pub names : List (List ℕ × Flag)
names =
    (codes "null", option.Null)
    ∷ (codes "pair", option.Pair)
    ∷ (codes "quiet", option.Quiet)
    ∷ (codes "or", option.Or)
    ∷ (codes "beneath", option.Beneath)
    ∷ (codes "in-root", option.InRoot)
    ∷ (codes "verbatim", option.Verbatim)
    ∷ (codes "from", option.From)
    ∷ (codes "reason", option.Reason)
    ∷ (codes "closed", option.Closed)
    ∷ (codes "tar-list", option.TarList)
    ∷ (codes "strip", option.Strip)
    ∷ (codes "by-components", option.ByComponents) ∷ []

-- the option with this letter
abbrev pub option_by_letter : ℕ → Option Flag
option_by_letter letter = lookup (λ b. letter == b) letters

-- the option with this long name
abbrev pub option_by_name : List ℕ → Option Flag
option_by_name name = lookup (bytes_eq name) names

-- the command has the option
abbrev pub has_option : Command → Flag → Bool
has_option command option.Null = true
has_option command option.Quiet = true
has_option command.Archive option.Pair = false
has_option command option.Pair = true
has_option command.Archive option.Or = false
has_option command option.Or = true
has_option command.Parts option.FromBack = true
has_option command.Join option.Beneath = true
has_option command.Join option.InRoot = true
has_option command.Join option.Verbatim = true
has_option command.Relative option.From = true
has_option command.Escapes option.Inverted = true
has_option command.Under option.Inverted = true
has_option command.Escapes option.Reason = true
has_option command.Archive option.Reason = true
has_option command.Archive option.Closed = true
has_option command.Archive option.TarList = true
has_option command.Under option.Strip = true
has_option command.Under option.ByComponents = true
has_option command.Sort option.Check = true
has_option command.Sort option.Unique = true
has_option command.Sort option.Reversed = true
has_option command option = false

-- a number for each option
abbrev pub option_number : Flag → ℕ
option_number option.Null = 0
option_number option.Pair = 1
option_number option.Quiet = 2
option_number option.Or = 3
option_number option.FromBack = 4
option_number option.Beneath = 5
option_number option.InRoot = 6
option_number option.Verbatim = 7
option_number option.From = 8
option_number option.Inverted = 9
option_number option.Reason = 10
option_number option.Strip = 11
option_number option.ByComponents = 12
option_number option.Check = 13
option_number option.Unique = 14
option_number option.Reversed = 15
option_number option.Closed = 16
option_number option.TarList = 17

-- the options are the same
abbrev pub same_option : Flag → Flag → Bool
same_option a b = option_number a == option_number b

-- the options that take a value, each after the argument that is it without one
abbrev pub valued : List (List ℕ × Flag)
valued = (codes "--from", option.From) ∷ (codes "--or", option.Or) ∷ []

-- the option takes a value
abbrev pub takes_value : Flag → Bool
takes_value flag = list_any (λ row. same_option flag row.1) valued

-- the arguments that ask for something in the place of a command
abbrev pub requests : List (List ℕ × Request)
requests =
    (codes "--help", request.Help)
    ∷ (codes "-h", request.Help)
    ∷ (codes "--version", request.Version) ∷ []

-- the request that this argument is
abbrev pub request_by_word : List ℕ → Option Request
request_by_word word = lookup (bytes_eq word) requests
