-- What arguments say before a command is known: options, their values, operands and requests.
use Rattle.std.specs.Prelude.{ℕ, Bool, ◌==◌, ◌&&◌, not, List, [], ◌∷◌, ◌++◌}
use Rattle.std.specs.Prelude.{Option, Some, None, codes, map, drop, take, unwrap_or}
use Rattle.std.specs.Prelude.{if◌then◌else◌, find}
use Rattle.std.specs.Option.{is_some, option_map_or}
use Rattle.std.specs.List.{before_first, after_first, position, starts_with}
use Rattle.std.specs.Map.{lookup}
use Rattle.std.specs.Str.{byte, bytes_eq}
use Rattle.unix_bytes.specs.Lossy.{is_text}
use Rattle.upath_commands.specs.declared.items.Item.{Item}
use Rattle.upath_commands.specs.declared.items.ItemKind.{ItemKind}
use Rattle.upath_commands.specs.declared.items.ItemKind.TheVariants as kind
use Rattle.upath_commands.specs.declared.options.Flag.{Flag}
use Rattle.upath_commands.specs.declared.options.Flag.TheVariants as option
use Rattle.upath_commands.specs.declared.usage.UsageErrorKind.TheVariants.{UnknownOption}
use Rattle.upath_commands.specs.declared.usage.UsageErrorKind.TheVariants.{UnknownLetter}
use Rattle.upath_commands.specs.declared.usage.UsageErrorKind.TheVariants.{MissingValue}
use Rattle.upath_commands.specs.declared.usage.UsageErrorKind.TheVariants.{UnexpectedValue}
use Rattle.upath_commands.specs.Invocations.{view_bytes}
use Rattle.upath_commands.specs.Options.{option_by_letter, option_by_name, request_by_word}
use Rattle.upath_commands.specs.Options.{takes_value, valued}

-- what an argument says, with its bytes
abbrev pub ItemValue : Type 0
ItemValue = ItemKind × List ℕ

-- an item of the program, with the bytes that its view points to
abbrev pub item_value : Item → ItemValue
item_value item = (item.kind, view_bytes item.bytes)

-- an operand
abbrev pub operand : List ℕ → ItemValue
operand bytes = (kind.Operand, bytes)

-- an option, or wrong usage if it is unknown
abbrev pub known : Option Flag → ItemKind
known (Some flag) = kind.Option flag
known None = kind.Wrong UnknownOption

-- the byte is `=`
abbrev pub is_equals_sign : ℕ → Bool
is_equals_sign b = b == byte "="

-- the items of an argument that is an option, a `=` and a value
abbrev pub with_value : List ℕ → List ℕ → ItemKind → List ItemValue
with_value argument value (kind.Option flag) =
    if takes_value flag then (kind.Option flag, argument) ∷ (kind.Value flag, value) ∷ []
    else (kind.Wrong UnexpectedValue, argument) ∷ []
with_value argument value unknown = (unknown, argument) ∷ []

-- the items of an argument that is `--` and this text: a long name, and perhaps a `=` and a value
abbrev pub long_items : List ℕ → List ℕ → List ItemValue
long_items argument text =
    let named = known (option_by_name (before_first is_equals_sign text)) in
    if is_some (position is_equals_sign text)
    then with_value argument (after_first is_equals_sign text) named
    else (named, argument) ∷ []

-- the first character: the shortest prefix of at most four bytes that is valid UTF-8, or else the
-- first byte
abbrev pub character : List ℕ → List ℕ
character s =
    let prefixes = take 1 s ∷ take 2 s ∷ take 3 s ∷ take 4 s ∷ [] in
    unwrap_or (find is_text prefixes) (take 1 s)

-- the item of the first of these letters
abbrev pub letter_item : Option Flag → List ℕ → ItemValue
letter_item (Some flag) letters = (kind.Option flag, take 1 letters)
letter_item None letters = (kind.Wrong UnknownLetter, character letters)

-- an item for each letter after a `-`
abbrev pub letter_items : List ℕ → List ItemValue
letter_items [] = []
letter_items (letter ∷ letters) =
    letter_item (option_by_letter letter) (letter ∷ letters) ∷ letter_items letters

-- the items of an argument that is no request; a single `-` is an operand
abbrev pub option_items : List ℕ → List ItemValue
option_items argument =
    if starts_with ◌==◌ argument (codes "--") then long_items argument (drop 2 argument)
    else (if starts_with ◌==◌ argument (codes "-") && not (bytes_eq argument (codes "-"))
    then letter_items (drop 1 argument)
    else operand argument ∷ [])

-- the items of an argument that may be an option or a request
abbrev pub argument_items : List ℕ → List ItemValue
argument_items argument =
    option_map_or (λ asked. (kind.Request asked, argument) ∷ []) (request_by_word argument)
    (option_items argument)

-- the option whose value is the next argument, if this argument is such an option
abbrev pub value_awaited : List ℕ → Option Flag
value_awaited argument = lookup (bytes_eq argument) valued

-- the argument that is this option, without a value
abbrev pub valued_name : Flag → List ℕ
valued_name option.Or = codes "--or"
valued_name flag = codes "--from"

-- the items of these arguments, the first of which is the value of an option if one awaits it:
-- `--` ends the options, unless it is such a value
abbrev pub items_after : Option Flag → List (List ℕ) → List ItemValue
items_after (Some flag) [] = (kind.Wrong MissingValue, valued_name flag) ∷ []
items_after (Some flag) (value ∷ rest) = (kind.Value flag, value) ∷ items_after None rest
items_after None [] = []
items_after None (argument ∷ rest) =
    if bytes_eq argument (codes "--") then (kind.Dashes, argument) ∷ map operand rest
    else argument_items argument ++ items_after (value_awaited argument) rest
