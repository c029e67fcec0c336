-- The form of a listing, as GNU tar prints it with `-tvP --numeric-owner --quoting-style=c`.
use Rattle.std.specs.Prelude.{◌≡◌, ◌≢◌, ℕ, Bool, true, ◌==◌, ◌&&◌, ◌||◌, not, ◌+◌, ◌/◌, ◌%◌}
use Rattle.std.specs.Prelude.{nat_le, nat_lt, List, [], ◌∷◌}
use Rattle.std.specs.Prelude.{◌++◌, length, codes, Option, Some, None}
use Rattle.std.specs.Prelude.{if◌then◌else◌}
use Rattle.std.specs.List.{flat_map, list_all}
use Rattle.std.specs.Str.{byte}
use Rattle.path_archive.specs.Entries.{EntryValue, DirectoryEntry, FileEntry, SymlinkEntry}
use Rattle.path_archive.specs.Entries.{HardLinkEntry, OtherEntry, path_of}
use Rattle.path_archive.specs.Records.{entries_in}
use Rattle.tar_listing.specs.Columns.{are_columns}
use Rattle.tar_listing.specs.declared.columns.Kind.{Kind}
use Rattle.tar_listing.specs.declared.columns.Kind.TheVariants.{Directory, File, Symlink, HardLink}
use Rattle.tar_listing.specs.declared.columns.Kind.TheVariants.{Other}

-- a byte that a name may have: any but NUL
abbrev pub is_byte : ℕ → Bool
is_byte b = nat_lt 0 b && nat_lt b 256

-- the byte is listed as itself: a character of ASCII that isn't a control character, `"` or `\`
abbrev pub is_shown : ℕ → Bool
is_shown b = nat_le 32 b && nat_le b 126 && not (b == byte "\"") && not (b == byte "\\")

-- the byte is listed as a backslash and three octal digits
abbrev pub is_octal : ℕ → Bool
is_octal b = (nat_le 1 b && nat_le b 6) || (nat_le 14 b && nat_le b 31) || nat_le 127 b

-- the letter of a byte that is listed as a backslash and a letter; `"` and `\` are their own
abbrev pub letter_of : ℕ → ℕ
letter_of b =
    if b == 7 then byte "a" else if b == 8 then byte "b" else if b == 9 then byte "t"
    else if b == 10 then byte "n" else if b == 11 then byte "v" else if b == 12 then byte "f"
    else if b == 13 then byte "r" else b

-- a byte as it is listed
abbrev pub escaped : ℕ → List ℕ
escaped b =
    if is_shown b then b ∷ []
    else if is_octal b then byte "\\" ∷ (byte "0" + b / 64) ∷ (byte "0" + b / 8 % 8)
    ∷ (byte "0" + b % 8) ∷ []
    else byte "\\" ∷ letter_of b ∷ []

-- bytes as they are listed, up to the closing quote, and what follows
unfoldable pub closed : List ℕ → List ℕ → List ℕ
closed text more = flat_map escaped text ++ byte "\"" ∷ more

-- bytes as they are listed, between quotes, and what follows
abbrev pub quoted : List ℕ → List ℕ → List ℕ
quoted text more = byte "\"" ∷ closed text more

-- the kind of an entry
abbrev pub kind_in : EntryValue → Kind
kind_in (DirectoryEntry p) = Directory
kind_in (FileEntry p) = File
kind_in (SymlinkEntry p t) = Symlink
kind_in (HardLinkEntry p t) = HardLink
kind_in (OtherEntry p) = Other

-- the target of a link
abbrev pub target_in : EntryValue → List ℕ
target_in (SymlinkEntry p t) = t
target_in (HardLinkEntry p t) = t
target_in _ = []

-- the kind that a letter is listed for: `C` is a contiguous file, `b`, `c` and `p` are block and
-- character devices and pipes
abbrev pub kind_of : ℕ → Option Kind
kind_of b =
    if b == byte "d" then Some Directory
    else if b == byte "-" || b == byte "C" then Some File
    else if b == byte "l" then Some Symlink
    else if b == byte "h" then Some HardLink
    else if b == byte "b" || b == byte "c" || b == byte "p" then Some Other
    else None

-- what follows the name of an entry of this kind: a link's target, and more
abbrev pub target_text : Kind → List ℕ → List ℕ → List ℕ
target_text Symlink target more = codes " -> " ++ quoted target more
target_text HardLink target more = codes " link to " ++ quoted target more
target_text _ target more = more

-- the listing begins with a line of this entry, and `rest` follows
pub record IsLine (listing : List ℕ) (e : EntryValue) (rest : List ℕ) : Type 0 where
  pub letter : ℕ
  pub columns : List ℕ
  pub is : listing ≡ letter ∷ columns
      ++ quoted (path_of e) (target_text (kind_in e) (target_in e) (byte "\n" ∷ rest))
  pub kind : kind_of letter ≡ Some (kind_in e)
  pub form : are_columns columns ≡ true
  pub unquoted : list_all (λ b. not (b == byte "\"")) columns ≡ true
  pub named : path_of e ≢ []
  pub path : list_all is_byte (path_of e) ≡ true
  pub target : list_all is_byte (target_in e) ≡ true

-- the listing begins with a line of each of these entries, in order, and `rest` follows
abbrev pub Begins : List ℕ → List EntryValue → List ℕ → Type 0
Begins listing [] rest = listing ≡ rest
Begins listing (e ∷ entries) rest =
    (more : List ℕ) × IsLine listing e more × Begins more entries rest

-- the listing is a line of each of these entries, in order
abbrev pub IsListing : List ℕ → List EntryValue → Type 0
IsListing listing entries = Begins listing entries []

-- the records are those of the entries of the listing
pub record IsRead (listing records : List ℕ) : Type 0 where
  pub entries : List EntryValue
  pub lines : IsListing listing entries
  pub read : entries_in records ≡ Some entries

-- the listing begins with n - 1 lines, and what follows is not empty and begins with no line
pub record IsRefusedAt (listing : List ℕ) (n : ℕ) : Type 0 where
  pub entries : List EntryValue
  pub rest : List ℕ
  pub lines : Begins listing entries rest
  pub number : n ≡ length entries + 1
  pub more : rest ≢ []
  pub refused : (e : EntryValue) (after : List ℕ) → IsLine rest e after → ⊥
