-- Records of entries: for each entry its kind, its path and a link's target, with a NUL after each.
use Rattle.std.specs.Prelude.{◌≡◌, ◌≢◌, map, ℕ, ◌+◌, ◌<◌, ◌≤◌, slice_range, ◌==◌, List, [], ◌∷◌}
use Rattle.std.specs.Prelude.{length, take}
use Rattle.std.specs.Prelude.{codes, IfSome, Option, Some, None, if◌then◌else◌}
use Rattle.std.specs.List.{slice_split}
use Rattle.std.specs.Option.{option_map}
use Rattle.std.specs.Str.{bytes_eq}
use Rattle.path_archive.specs.Entries.{EntryValue, DirectoryEntry, FileEntry, SymlinkEntry}
use Rattle.path_archive.specs.Entries.{HardLinkEntry, OtherEntry, all_uses}
use Rattle.path_archive.specs.Refusals.{numbered_at, numbered_from}
use Rattle.path_archive.specs.Slots.{field_at}
use Rattle.path_archive.specs.declared.records.Record.{Record}
use Rattle.path_archive.specs.declared.slot.Slot.{Slot}

-- the entry of a record: `d` is a directory, `f` a file, `l` a symbolic link, `h` a hard link
abbrev pub entry_of : List ℕ → List ℕ → List ℕ → EntryValue
entry_of kind path target =
    if bytes_eq kind (codes "d") then DirectoryEntry path
    else if bytes_eq kind (codes "f") then FileEntry path
    else if bytes_eq kind (codes "l") then SymlinkEntry path target
    else if bytes_eq kind (codes "h") then HardLinkEntry path target
    else OtherEntry path

-- the entry whose path is used as this rank says
abbrev pub entry_of_rank : ℕ → List ℕ → List ℕ → EntryValue
entry_of_rank r path target =
    if r == 0 then SymlinkEntry path target else if r == 1 then HardLinkEntry path target
    else if r == 3 then FileEntry path else if r == 5 then DirectoryEntry path
    else OtherEntry path

-- the entries of what lies between NULs, three for each entry, and nothing after the last NUL; None
-- if a record is cut off
abbrev pub entries_of : List (List ℕ) → Option (List EntryValue)
entries_of (kind ∷ path ∷ target ∷ more) =
    option_map (λ entries. entry_of kind path target ∷ entries) (entries_of more)
entries_of ([] ∷ []) = Some []
entries_of fields = None

-- what lies between the NULs
abbrev pub fields_of : List ℕ → List (List ℕ)
fields_of s = slice_split (λ b. b == 0) s

-- the entries of records; None if a record is cut off
unfoldable pub entries_in : List ℕ → Option (List EntryValue)
entries_in records = entries_of (fields_of records)

-- P holds of the entries of records that aren't cut off
abbrev pub OnEntries : List ℕ → (List EntryValue → Type 0) → Type 0
OnEntries records P = IfSome (entries_in records) P

-- the entry of a record
abbrev pub record_entry : List ℕ → Record → EntryValue
record_entry records r = entry_of_rank r.rank (slice_range records r.start r.end)
    (slice_range records (r.end + 1) r.target_end)

-- the rank is that of an entry's own path
pub record IsKind (r : ℕ) : Type 0 where
  pub most : r ≤ 5
  pub own : r ≢ 2

-- the record is in the records from `at` on
pub record IsInRange (at len : ℕ) (r : Record) : Type 0 where
  pub start : at < r.start
  pub path : r.start ≤ r.end
  pub target : r.end < r.target_end
  pub end : r.target_end < len
  pub kind : IsKind r.rank

-- the record's target ends at the first NUL
abbrev pub HasTarget : List ℕ → Record → Type 0
HasTarget records r = field_at records (r.end + 1) ≡ slice_range records (r.end + 1) r.target_end

-- `count` is the number of uses of the entries of the records, and if there is room, the first
-- slots are these uses, in order
pub record IsSplit (records : List ℕ) (count : ℕ) (slots : List Slot) : Type 0 where
  pub entries : List EntryValue
  pub read : entries_in records ≡ Some entries
  pub count_is : count ≡ length (all_uses entries)
  pub uses : count ≤ length slots
      → map (numbered_at records) (take count slots) ≡ numbered_from 0 entries
