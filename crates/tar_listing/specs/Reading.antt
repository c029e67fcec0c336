-- How a listing is read.
use Rattle.std.specs.Prelude.{◌≡◌, ℕ, true, ◌==◌, ◌||◌, not, ◌+◌, ◌-◌, ◌*◌}
use Rattle.std.specs.Prelude.{nat_lt, List, [], ◌∷◌, ◌++◌, Option, Some, None}
use Rattle.std.specs.Prelude.{if◌then◌else◌}
use Rattle.std.specs.List.{list_all}
use Rattle.std.specs.Str.{byte}
use Rattle.path_archive.specs.Entries.{EntryValue, DirectoryEntry, FileEntry, SymlinkEntry}
use Rattle.path_archive.specs.Entries.{HardLinkEntry, OtherEntry}
use Rattle.tar_listing.specs.Columns.{are_columns}
use Rattle.tar_listing.specs.Form.{IsLine, closed, is_byte, is_octal, is_shown}
use Rattle.tar_listing.specs.Form.{kind_of}
use Rattle.tar_listing.specs.declared.columns.Kind.{Kind}
use Rattle.tar_listing.specs.declared.columns.Kind.TheVariants.{Directory, File, Symlink, HardLink}
use Rattle.tar_listing.specs.declared.columns.Kind.TheVariants.{Other}

-- the line begins with the letter of this kind, columns and a `"`, and `rest` follows
pub record StartsLine (line : List ℕ) (kind : Kind) (rest : List ℕ) : Type 0 where
  pub letter : ℕ
  pub columns : List ℕ
  pub is : line ≡ letter ∷ columns ++ byte "\"" ∷ rest
  pub kind_is : kind_of letter ≡ Some kind
  pub form : are_columns columns ≡ true
  pub unquoted : list_all (λ b. not (b == byte "\"")) columns ≡ true

-- the byte of a letter after a backslash
abbrev pub named : ℕ → Option ℕ
named l =
    if l == byte "a" then Some 7 else if l == byte "b" then Some 8
    else if l == byte "t" then Some 9 else if l == byte "n" then Some 10
    else if l == byte "v" then Some 11 else if l == byte "f" then Some 12
    else if l == byte "r" then Some 13 else if l == byte "\"" then Some (byte "\"")
    else if l == byte "\\" then Some (byte "\\") else None

-- the byte, if bytes like it are listed by their digits
abbrev pub if_octal : ℕ → Option ℕ
if_octal b = if is_octal b then Some b else None

-- the byte of three octal digits
abbrev pub octal_value : ℕ → ℕ → ℕ → Option ℕ
octal_value x y z =
    if nat_lt x (byte "0") || nat_lt (byte "3") x then None
    else if nat_lt y (byte "0") || nat_lt (byte "7") y || nat_lt z (byte "0")
    || nat_lt (byte "7") z then None
    else if_octal (64 * (x - byte "0") + 8 * (y - byte "0") + (z - byte "0"))

-- a byte, if there is one, and what follows it
abbrev pub followed : Option ℕ → List ℕ → Option (ℕ × List ℕ)
followed (Some b) more = Some (b, more)
followed None more = None

-- the byte of three octal digits, and what follows them
abbrev pub octal_read : List ℕ → Option (ℕ × List ℕ)
octal_read (x ∷ y ∷ z ∷ more) = followed (octal_value x y z) more
octal_read _ = None

-- a byte by its letter, or by its digits
abbrev pub by_letter : Option ℕ → List ℕ → List ℕ → Option (ℕ × List ℕ)
by_letter (Some b) more text = Some (b, more)
by_letter None more text = octal_read text

-- the byte of what follows a backslash, and what follows that
abbrev pub escape_read : List ℕ → Option (ℕ × List ℕ)
escape_read [] = None
escape_read (l ∷ more) = by_letter (named l) more (l ∷ more)

-- the byte that is listed first, and what follows it
unfoldable pub read_byte : List ℕ → Option (ℕ × List ℕ)
read_byte [] = None
read_byte (b ∷ more) =
    if b == byte "\\" then escape_read more else if is_shown b then Some (b, more) else None

-- what follows the first byte, if that is `"`
abbrev pub after_quote : List ℕ → Option (List ℕ)
after_quote [] = None
after_quote (b ∷ more) = if b == byte "\"" then Some more else None

-- these words, and a text that ends at a quote
abbrev pub after_words : List ℕ → List ℕ → List ℕ → List ℕ
after_words words text more = words ++ closed text more

-- some text is printed at the start of s, `after` follows, and the text was appended
pub record IsPushed (printed : List ℕ → List ℕ → List ℕ) (s after old new : List ℕ)
    : Type 0 where
  pub text : List ℕ
  pub bytes : list_all is_byte text ≡ true
  pub is : s ≡ printed text after
  pub pushed : new ≡ old ++ text

-- no text is printed at the start of s
abbrev pub CannotRead : (List ℕ → List ℕ → List ℕ) → List ℕ → Type 0
CannotRead printed s =
    (text after : List ℕ) → list_all is_byte text ≡ true → s ≡ printed text after → ⊥

-- the kind of an entry in a record
abbrev pub kind_code : Kind → ℕ
kind_code Directory = byte "d"
kind_code File = byte "f"
kind_code Symlink = byte "l"
kind_code HardLink = byte "h"
kind_code Other = byte "o"

-- the entry of this kind
abbrev pub made : Kind → List ℕ → List ℕ → EntryValue
made Directory p t = DirectoryEntry p
made File p t = FileEntry p
made Symlink p t = SymlinkEntry p t
made HardLink p t = HardLinkEntry p t
made Other p t = OtherEntry p

-- the record of an entry
abbrev pub record_of : Kind → List ℕ → List ℕ → List ℕ
record_of kind p t = kind_code kind ∷ 0 ∷ (p ++ 0 ∷ (t ++ 0 ∷ []))

-- the first line is some entry's, `after` follows, and the entry's record was appended
pub record IsEntryPushed (line after old new : List ℕ) : Type 0 where
  pub kind : Kind
  pub path : List ℕ
  pub target : List ℕ
  pub is : IsLine line (made kind path target) after
  pub bytes : list_all is_byte target ≡ true
  pub pushed : new ≡ old ++ record_of kind path target
