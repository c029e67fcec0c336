-- The meaning of a list of arguments.
use Rattle.std.specs.Prelude.{ℕ, Bool, true, false, ◌==◌, List, [], ◌∷◌, ◌++◌, length, Option}
use Rattle.std.specs.Prelude.{Some, None, Ok, Err, codes, nat_le, nat_lt, not, option_map}
use Rattle.std.specs.Prelude.{if◌then◌else◌, map, unwrap_or}
use Rattle.std.specs.Option.{is_some, option_or, option_to_list}
use Rattle.std.specs.List.{before_first, filter_map, filter, find, last_or, list_any, position}
use Rattle.std.specs.List.{starts_with}
use Rattle.std.specs.Str.{byte, bytes_eq}
use Rattle.upath_commands.specs.declared.arguments.Words.{Words as WordsOf}
use Rattle.upath_commands.specs.declared.command.Command.{Command}
use Rattle.upath_commands.specs.declared.command.Command.TheVariants as command
use Rattle.upath_commands.specs.declared.command.JoinRule.{JoinRule}
use Rattle.upath_commands.specs.declared.command.JoinRule.TheVariants as rule
use Rattle.upath_commands.specs.declared.command.Options.{Options}
use Rattle.upath_commands.specs.declared.items.ItemKind.TheVariants.{Operand, Value, Wrong, Dashes}
use Rattle.upath_commands.specs.declared.items.ItemKind.TheVariants as kind
use Rattle.upath_commands.specs.declared.options.Flag.{Flag}
use Rattle.upath_commands.specs.declared.options.Flag.TheVariants as option
use Rattle.upath_commands.specs.declared.options.Request.{Request}
use Rattle.upath_commands.specs.declared.options.Request.TheVariants as request
use Rattle.upath_commands.specs.declared.usage.UsageErrorKind.{UsageErrorKind}
use Rattle.upath_commands.specs.declared.usage.UsageErrorKind.TheVariants as wrong
use Rattle.upath_commands.specs.Invocations.{InvocationValue, Meaning, TaskValue, UsageValue}
use Rattle.upath_commands.specs.Invocations as value
use Rattle.upath_commands.specs.Invocations.{view_bytes}
use Rattle.upath_commands.specs.Items.{ItemValue, item_value, items_after}
use Rattle.upath_commands.specs.Options.{command_by_name, has_option, request_by_word, same_option}

-- the first result of `f` for these items
abbrev pub first_of : {A : Type 0} → (ItemValue → Option A) → List ItemValue → Option A
first_of f [] = None
first_of f (item ∷ items) = option_or (f item) (first_of f items)

-- the item is this option
abbrev pub is_given : Flag → ItemValue → Bool
is_given flag (kind.Option given, bytes) = same_option given flag
is_given flag (other, bytes) = false

-- the option is among the items
abbrev pub has : List ItemValue → Flag → Bool
has items flag = list_any (is_given flag) items

-- the wrong usage that an item is for every command
abbrev pub fault_of : ItemValue → Option UsageValue
fault_of (Wrong wrong, bytes) = Some (wrong, bytes)
fault_of (kind.Request request, bytes) = Some (wrong.MisplacedRequest, bytes)
fault_of _ = None

-- the wrong usage that an item is if the command doesn't have this option, which is a letter after
-- a dash, or a whole argument
abbrev pub foreign_option : Command → ItemValue → Option UsageValue
foreign_option command (kind.Option flag, bytes) =
    if has_option command flag then None
    else Some (if length bytes == 1 then wrong.UnknownLetter else wrong.UnknownOption, bytes)
foreign_option command _ = None

-- the bytes of an operand
abbrev pub operand_of : ItemValue → Option (List ℕ)
operand_of (Operand, bytes) = Some bytes
operand_of _ = None

-- the bytes of the operands
abbrev pub operands_of : List ItemValue → List (List ℕ)
operands_of items = filter_map operand_of items

-- the item is `--`
abbrev pub is_dashes : ItemValue → Bool
is_dashes (Dashes, bytes) = true
is_dashes _ = false

-- the number of operands before `--`, or 0 without it
abbrev pub dashes_at : List ItemValue → ℕ
dashes_at items =
    if list_any is_dashes items then length (operands_of (before_first is_dashes items)) else 0

-- the value of this option
abbrev pub value_of : Flag → ItemValue → Option (List ℕ)
value_of flag (Value given, bytes) = if same_option given flag then Some bytes else None
value_of flag _ = None

-- the last value of this option
abbrev pub last_value : List ItemValue → Flag → Option (List ℕ)
last_value items flag = last_or None (filter_map (value_of flag) items)

-- the options of `join`, each with its rule
abbrev pub join_rules : List (Flag × JoinRule)
join_rules =
    (option.Beneath, rule.Beneath)
    ∷ (option.InRoot, rule.InRoot)
    ∷ (option.Verbatim, rule.Verbatim) ∷ []

-- the only one of these rules, or `Trusted` if there is none, or `None` if there are several
abbrev pub only_rule : List (Flag × JoinRule) → Option JoinRule
only_rule [] = Some rule.Trusted
only_rule (given ∷ []) = Some given.1
only_rule _ = None

-- the rule of a join; two of its options exclude one another
abbrev pub join_rule : List ItemValue → Option JoinRule
join_rule items = only_rule (filter (λ row. has items row.0) join_rules)

-- the options
abbrev pub options_of : List ItemValue → Options
options_of items = record {
  null = has items option.Null;
  pair = has items option.Pair;
  quiet = has items option.Quiet;
  from_back = has items option.FromBack;
  rule = unwrap_or (join_rule items) rule.Trusted;
  inverted = has items option.Inverted;
  with_reason = has items option.Reason;
  tar_list = has items option.TarList;
  closed = has items option.Closed;
  stripped = has items option.Strip;
  by_components = has items option.ByComponents;
  unique = has items option.Unique;
  reversed = has items option.Reversed;
}

-- a command with its options and with its ROOT, BASE or DIR
abbrev pub task_of : Command → List ℕ → List ItemValue → TaskValue
task_of command base items = record {
  command = command;
  options = options_of items;
  or = last_value items option.Or;
  base = base;
}

-- the bytes have a newline
abbrev pub has_newline : List ℕ → Bool
has_newline bytes = is_some (position (λ b. b == byte "\n") bytes)

-- an operand or the value of `--or` with a newline is wrong usage if records end with newlines
abbrev pub newline_fault : List ItemValue → List (List ℕ) → Option UsageValue
newline_fault items operands =
    if has items option.Null then None
    else option_map (λ bytes. (wrong.NewlineInOperand, bytes))
    (find has_newline (operands ++ option_to_list (last_value items option.Or)))

-- wrong usage, if there is any, or else the meaning
abbrev pub refuse : Option UsageValue → Meaning → Meaning
refuse (Some fault) meaning = Err fault
refuse None meaning = meaning

-- a command's name, what the arguments say, and the number of operands before `--`
pub record Words : Type 0 where
  pub name : List ℕ
  pub items : List ItemValue
  pub dashes : ℕ

-- the words of the program, with the bytes that their views point to
abbrev pub words_value : WordsOf → Words
words_value words = record {
  name = view_bytes words.name;
  items = map item_value words.items.now;
  dashes = words.dashes;
}

-- the meaning of a command for these paths, before which come `own` operands: its name, and ROOT or
-- BASE. A `--` after those begins the paths, so that none of them is before it, and none is read.
abbrev pub each : Command → List ℕ → Words → ℕ → List (List ℕ) → Meaning
each command base words own [] =
    Ok (value.Each (task_of command base words.items)
    (if nat_le own words.dashes then Some [] else None))
each command base words own (path ∷ paths) =
    if nat_lt own words.dashes then Err (wrong.BeforeDashes, path)
    else Ok (value.Each (task_of command base words.items) (Some (path ∷ paths)))

-- the meaning of a command whose first operand is its ROOT or BASE
abbrev pub each_after : Command → UsageErrorKind → Words → List (List ℕ) → Meaning
each_after command missing words [] = Err (missing, words.name)
each_after command missing words (base ∷ paths) = each command base words 2 paths

-- the meaning of `equal` with these operands
abbrev pub equal_meaning : Words → List (List ℕ) → Meaning
equal_meaning words (a ∷ b ∷ []) = Ok (value.Equal (options_of words.items) a b)
equal_meaning words (a ∷ b ∷ c ∷ operands) = Err (wrong.UnexpectedOperand, c)
equal_meaning words _ = Err (wrong.MissingPair, words.name)

-- the meaning of `archive`, which takes no operand, and reads the input also after `--`
abbrev pub archive_meaning : Words → List (List ℕ) → Meaning
archive_meaning words [] = Ok (value.Archive (options_of words.items))
archive_meaning words (operand ∷ operands) = Err (wrong.UnexpectedOperand, operand)

-- the meaning of `join` with this rule
abbrev pub join_meaning : Option JoinRule → Words → List (List ℕ) → Meaning
join_meaning (Some rule) words operands =
    each_after command.Join wrong.MissingRoot words operands
join_meaning None words operands = Err (wrong.ContradictoryOptions, words.name)

-- the meaning of `relative` with this directory
abbrev pub relative_meaning : Option (List ℕ) → Words → List (List ℕ) → Meaning
relative_meaning (Some dir) words operands = each command.Relative dir words 1 operands
relative_meaning None words operands = Err (wrong.MissingFrom, words.name)

-- the meaning of a command with these operands after its name
abbrev pub meaning_of_command : Command → Words → List (List ℕ) → Meaning
meaning_of_command command.Join words operands =
    join_meaning (join_rule words.items) words operands
meaning_of_command command.Strip words operands =
    each_after command.Strip wrong.MissingBase words operands
meaning_of_command command.Under words operands =
    each_after command.Under wrong.MissingBase words operands
meaning_of_command command.Relative words operands =
    relative_meaning (last_value words.items option.From) words operands
meaning_of_command command.Archive words operands = archive_meaning words operands
meaning_of_command command.Equal words operands = equal_meaning words operands
meaning_of_command command.Sort words operands =
    each (if has words.items option.Check then command.Check else command.Sort) [] words 1
    operands
meaning_of_command command words operands = each command [] words 1 operands

-- the meaning of the command that was found under its name
abbrev pub found_meaning : Option Command → Words → List (List ℕ) → Meaning
found_meaning None words operands = Err (wrong.UnknownCommand, words.name)
found_meaning (Some command) words operands =
    refuse (first_of (foreign_option command) words.items)
    (refuse (newline_fault words.items operands) (meaning_of_command command words operands))

-- the meaning of operands, the first of which is the command
abbrev pub command_meaning : List ItemValue → List (List ℕ) → Meaning
command_meaning items [] = Err (wrong.MissingCommand, [])
command_meaning items (name ∷ operands) =
    found_meaning (command_by_name name)
    record { name = name; items = items; dashes = dashes_at items } operands

-- what is asked for with this name of a command
abbrev pub requested : Request → List ℕ → InvocationValue
requested request.Help name = value.Help name
requested request.Version name = value.Version

-- what is asked for just after this name, which is wrong usage if no command has it
abbrev pub asked_of : Request → List ℕ → Option Command → Meaning
asked_of asked name (Some command) = Ok (requested asked name)
asked_of asked name None = Err (wrong.UnknownCommand, name)

-- what is asked for just after the operand with these bytes
abbrev pub request_after : List ℕ → List ItemValue → Option Meaning
request_after name ((kind.Request asked, bytes) ∷ items) =
    Some (asked_of asked name (command_by_name name))
request_after name items = None

-- what is asked for just after the first operand
abbrev pub asked_in : List ItemValue → Option Meaning
asked_in [] = None
asked_in ((Operand, name) ∷ items) = request_after name items
asked_in (item ∷ items) = asked_in items

-- what the first argument asks for in the place of a command
abbrev pub request_of : List ℕ → Option Request
request_of word = if bytes_eq word (codes "help") then Some request.Help else request_by_word word

-- the first of these arguments, or no bytes
abbrev pub first_word : List (List ℕ) → List ℕ
first_word [] = []
first_word (word ∷ words) = word

-- what is asked for before these arguments: help is on the command that the first one names, unless
-- that begins with a dash
abbrev pub asked_with : Request → List (List ℕ) → Meaning
asked_with request.Help (word ∷ words) =
    if not (starts_with ◌==◌ word (codes "-"))
    then asked_of request.Help word (command_by_name word)
    else Ok (value.Help word)
asked_with asked words = Ok (requested asked (first_word words))

-- what the first argument asks for in the place of a command
abbrev pub asked_first : List (List ℕ) → Option Meaning
asked_first [] = None
asked_first (word ∷ words) = option_map (λ asked. asked_with asked words) (request_of word)

-- the meaning of these items
abbrev pub meaning_of_items : List ItemValue → Meaning
meaning_of_items items =
    unwrap_or (asked_in items)
    (refuse (first_of fault_of items) (command_meaning items (operands_of items)))

-- the meaning of these arguments
unfoldable pub meaning_of : List (List ℕ) → Meaning
meaning_of arguments =
    unwrap_or (asked_first arguments) (meaning_of_items (items_after None arguments))
