-- The columns of a line between the letter of the kind and the name: permissions, owner and group,
-- size, and date.
use Rattle.std.specs.Prelude.{ℕ, Bool, ◌==◌, ◌&&◌, ◌||◌, not, ◌-◌, nat_le, nat_lt, List, length}
use Rattle.std.specs.Prelude.{drop, slice_index, take}
use Rattle.std.specs.List.{after_first, before_first, list_all, position_or_len}
use Rattle.std.specs.Str.{byte}

-- a letter of permissions
abbrev pub is_permission : ℕ → Bool
is_permission b =
    b == byte "-" || b == byte "r" || b == byte "w" || b == byte "x" || b == byte "s"
    || b == byte "S" || b == byte "t" || b == byte "T"

-- a digit
abbrev pub is_digit : ℕ → Bool
is_digit b = nat_le (byte "0") b && nat_le b (byte "9")

-- nine letters
abbrev pub are_permissions : List ℕ → Bool
are_permissions text = length text == 9 && list_all is_permission text

-- one digit or more
abbrev pub is_number : List ℕ → Bool
is_number text = nat_lt 0 (length text) && list_all is_digit text

-- two digits
abbrev pub are_two_digits : List ℕ → Bool
are_two_digits text = length text == 2 && list_all is_digit text

-- a number, or a `-` and a number
abbrev pub is_integer : List ℕ → Bool
is_integer text =
    is_number text || (slice_index text 0 == byte "-" && is_number (drop 1 text))

-- the number of the owner, `/`, and the number of the group
unfoldable pub are_owners : List ℕ → Bool
are_owners text =
    is_number (before_first (λ b. b == byte "/") text)
    && is_number (after_first (λ b. b == byte "/") text)

-- the size, or for a device two numbers with a `,` between
unfoldable pub is_size : List ℕ → Bool
is_size text =
    is_number text || (is_number (before_first (λ b. b == byte ",") text)
    && is_number (after_first (λ b. b == byte ",") text))

-- `-`, a month, `-`, and a day
unfoldable pub is_month_and_day : List ℕ → Bool
is_month_and_day text =
    slice_index text 0 == byte "-"
    && (are_two_digits (before_first (λ b. b == byte "-") (drop 1 text))
    && are_two_digits (after_first (λ b. b == byte "-") (drop 1 text)))

-- a year, a month and a day
unfoldable pub is_day : List ℕ → Bool
is_day text =
    is_integer (take (length text - 6) text) && is_month_and_day (drop (length text - 6) text)

-- an hour, `:`, and a minute
unfoldable pub is_time : List ℕ → Bool
is_time text =
    are_two_digits (before_first (λ b. b == byte ":") text)
    && are_two_digits (after_first (λ b. b == byte ":") text)

-- the text without its first spaces
abbrev pub after_spaces : List ℕ → List ℕ
after_spaces text = drop (position_or_len (λ b. not (b == byte " ")) text) text

-- the first word, and what follows it; words have spaces between
unfoldable pub first_word : List ℕ → List ℕ
first_word text = before_first (λ b. b == byte " ") (after_spaces text)

unfoldable pub after_word : List ℕ → List ℕ
after_word text = after_first (λ b. b == byte " ") (after_spaces text)

-- there is no word, only spaces
unfoldable pub is_blank : List ℕ → Bool
is_blank text = length (after_spaces text) == 0

-- a day and a time; or, if the year is too large, seconds since 1970
unfoldable pub is_date : List ℕ → Bool
is_date text =
    (is_day (first_word text) && is_time (first_word (after_word text))
    && is_blank (after_word (after_word text)))
    || (is_integer (first_word text) && is_blank (after_word text))

-- the last byte is a space
abbrev pub ends_in_space : List ℕ → Bool
ends_in_space text = nat_lt 0 (length text) && slice_index text (length text - 1) == byte " "

-- owner and group, size, and date, with a space after the date
unfoldable pub are_later_columns : List ℕ → Bool
are_later_columns text =
    are_owners (before_first (λ b. b == byte " ") text)
    && (is_size (first_word (after_first (λ b. b == byte " ") text))
    && is_date (after_word (after_first (λ b. b == byte " ") text)))

-- permissions, and the later columns
unfoldable pub are_columns : List ℕ → Bool
are_columns text =
    are_permissions (before_first (λ b. b == byte " ") text)
    && (are_later_columns (after_first (λ b. b == byte " ") text) && ends_in_space text)
