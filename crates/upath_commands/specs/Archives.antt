-- What `archive` prints of the entries that are refused.
use Rattle.std.specs.Prelude.{◌≡◌, ◌≢◌, ◌⊎◌, ◌+◌, ◌/◌, ◌==◌, ◌&&◌, not, ℕ, Bool, true, false}
use Rattle.std.specs.Prelude.{List, [], ◌∷◌, ◌++◌, Some, None, codes, count_by, decimal}
use Rattle.std.specs.Prelude.{if◌then◌else◌, slice_index_or}
use Rattle.std.specs.List.{flat_map}
use Rattle.std.specs.Str.{byte}
use Rattle.path_archive.specs.Entries.{EntryValue, DirectoryEntry, FileEntry, SymlinkEntry}
use Rattle.path_archive.specs.Entries.{HardLinkEntry, OtherEntry, path_of}
use Rattle.path_archive.specs.EntryViews.{target_of}
use Rattle.path_archive.specs.Records.{entries_in}
use Rattle.path_archive.specs.Refusals.{Decides, numbered_from}
use Rattle.path_archive.specs.Rule.{AcceptedAt}
use Rattle.path_archive.specs.declared.level.Level.{Level}
use Rattle.path_archive.specs.declared.level.Level.TheVariants.{Inside, Closed}
use Rattle.path_archive.specs.declared.refusal.Reason.{Reason}
use Rattle.path_archive.specs.declared.refusal.Reason.TheVariants.{Name, Kind, BelowLeaf}
use Rattle.path_archive.specs.declared.refusal.Reason.TheVariants.{LinkUsedTwice, TargetIsLink}
use Rattle.path_archive.specs.declared.refusal.Reason.TheVariants.{LeadsOut}
use Rattle.path_archive.specs.declared.refusal.Refusal.{Refusal}
use Rattle.tar_listing.specs.Form.{IsListing, IsRefusedAt}
use Rattle.upath_commands.specs.Answers.{end_of}
use Rattle.upath_commands.specs.Arguments.{has_newline}
use Rattle.upath_commands.specs.Refusals.{reason_line}
use Rattle.upath_commands.specs.Shown.{shown}
use Rattle.upath_commands.specs.declared.archive.Decision.{Decision}
use Rattle.upath_commands.specs.declared.command.Options.{Options}

-- the level that the options ask for
abbrev pub level_of : Options → Level
level_of options = if options.closed then Closed else Inside

-- the entry with the number n
abbrev pub entry_in : List EntryValue → ℕ → EntryValue
entry_in entries n = slice_index_or entries n (OtherEntry [])

-- the number, from 1, of the record that is cut off: each record before it has three NULs
abbrev pub cut_record : List ℕ → ℕ
cut_record input = count_by (λ b. b == 0) input / 3 + 1

-- the name of a reason
abbrev pub reason_name : Reason → List ℕ
reason_name Name = codes "name"
reason_name Kind = codes "kind"
reason_name BelowLeaf = codes "below"
reason_name LinkUsedTwice = codes "twice"
reason_name TargetIsLink = codes "target"
reason_name LeadsOut = codes "out"

-- a path as it is printed: one with a newline as messages show it, if newlines end the records
abbrev pub printed_path : Options → List ℕ → List ℕ
printed_path options p = if has_newline p && not options.null then shown p else p

-- the record for a refusal
abbrev pub refusal_record : Options → List EntryValue → Refusal → List ℕ
refusal_record options entries r =
    let reason = if options.with_reason then reason_name r.reason ++ byte "\t" ∷ [] else [] in
    reason ++ (printed_path options (path_of (entry_in entries r.entry)) ++ end_of options ∷ [])

-- the target of a hard link, which may be what is refused; nothing for other entries
abbrev pub or_target : EntryValue → List ℕ
or_target (HardLinkEntry p t) =
    codes "this path or the target " ++ (shown t ++ byte " " ∷ [])
or_target entry = []

-- what an entry is
abbrev pub kind_text : EntryValue → List ℕ
kind_text (DirectoryEntry p) = codes "the directory "
kind_text (FileEntry p) = codes "the file "
kind_text (SymlinkEntry p t) = codes "the symbolic link "
kind_text (HardLinkEntry p t) = codes "the hard link "
kind_text (OtherEntry p) = codes "the entry "

-- the target of a hard link, which may be what another path is below; nothing for other entries
abbrev pub or_its_target : EntryValue → List ℕ
or_its_target (HardLinkEntry p t) = codes " or its target " ++ shown t
or_its_target entry = []

-- an entry below which another path is
abbrev pub leaf_text : EntryValue → List ℕ
leaf_text entry = kind_text entry ++ (shown (path_of entry) ++ or_its_target entry)

-- why an entry is refused, with the entry that it clashes with
abbrev pub refusal_text : Reason → EntryValue → EntryValue → List ℕ
refusal_text Name entry cause =
    or_target entry ++ codes "has a root, has a .., or does not end in a name"
refusal_text Kind entry cause = codes "neither a directory, a file nor a link"
refusal_text BelowLeaf entry cause =
    or_target entry ++ (codes "lies below " ++ leaf_text cause)
refusal_text LinkUsedTwice entry cause = codes "is a symbolic link, and used twice"
refusal_text TargetIsLink entry cause = codes "hard link to the link " ++ shown (path_of cause)
refusal_text LeadsOut entry cause = codes "leads out, to " ++ shown (target_of entry)

-- the message for a refusal
abbrev pub refusal_message : List EntryValue → Refusal → List ℕ
refusal_message entries r =
    let entry = entry_in entries r.entry in
    reason_line (path_of entry)
    (Some (refusal_text r.reason entry (entry_in entries r.cause)))

-- the message for an input in which a record is cut off
abbrev pub cut_line : List ℕ → List ℕ
cut_line input =
    codes "upath: record " ++ (decimal (cut_record input) ++ codes " is cut off\n")

-- the message for a line that isn't of the form of a listing
abbrev pub refused_line : ℕ → List ℕ
refused_line n = codes "upath: line " ++ (decimal n ++ codes ": not a line of tar's listing\n")

-- an input, which is a listing or records, is of these entries
abbrev pub IsInput : Bool → List ℕ → List EntryValue → Type 0
IsInput true input entries = IsListing input entries
IsInput false input entries = entries_in input ≡ Some entries

-- an input is refused as a whole, with this message: a line isn't of the form, or a record is cut
-- off
abbrev pub IsNoInput : Bool → List ℕ → List ℕ → Type 0
IsNoInput true input line = (n : ℕ) × IsRefusedAt input n × (line ≡ refused_line n)
IsNoInput false input line = (entries_in input ≡ None) × (line ≡ cut_line input)

-- there are entries, and all are accepted
abbrev pub AreSafe : Options → List EntryValue → Type 0
AreSafe options entries = (entries ≢ []) × AcceptedAt (level_of options) entries

-- so are the entries of the input
abbrev pub IsSafeIn : Bool → Options → List ℕ → Type 0
IsSafeIn listing options input =
    (entries : List EntryValue) × IsInput listing input entries × AreSafe options entries

abbrev pub IsSafe : Options → List ℕ → Type 0
IsSafe options input = IsSafeIn options.tar_list options input

-- what is written for these refusals of entries
abbrev pub entries_output : Options → List EntryValue → List Refusal
    → List ℕ
entries_output options entries refusals =
    if options.quiet then [] else flat_map (refusal_record options entries) refusals

-- the messages for these refusals of entries, unless `quiet`
abbrev pub refusal_lines : List EntryValue → List Refusal → List ℕ
refusal_lines [] refusals = codes "upath: no entries\n"
refusal_lines (e ∷ entries) refusals = flat_map (refusal_message (e ∷ entries)) refusals

-- the messages for these refusals of entries
abbrev pub entries_messages : Options → List EntryValue → List Refusal → List ℕ
entries_messages options entries refusals =
    if options.quiet then [] else refusal_lines entries refusals

-- P holds of what is written for these entries and of the messages, by refusals that decide them
abbrev pub OnEntries : Options → List EntryValue
    → (List ℕ → List ℕ → Type 0) → Type 0
OnEntries options entries P =
    (refusals : List Refusal) × Decides (level_of options) (numbered_from 0 entries) refusals
    × P (entries_output options entries refusals)
    (entries_messages options entries refusals)

-- P holds of what is written for an input, which is a listing or records, and of the messages
abbrev pub OnInput : Bool → Options → List ℕ
    → (List ℕ → List ℕ → Type 0) → Type 0
OnInput listing options input P =
    ((line : List ℕ) × IsNoInput listing input line × P [] (if options.quiet then [] else line))
    ⊎ ((entries : List EntryValue) × IsInput listing input entries
    × OnEntries options entries P)

-- the same of what `archive` writes
unfoldable pub OnArchive : Options → List ℕ → (List ℕ → List ℕ → Type 0)
    → Type 0
OnArchive options input P = OnInput options.tar_list options input P

-- this is the output and these are the messages
abbrev pub IsText : Decision → List ℕ → List ℕ → Type 0
IsText decision output messages =
    (decision.output.items ≡ output) × (decision.messages.items ≡ messages)

-- there are entries, and no refusals
abbrev pub none_refused : List EntryValue → List Refusal → Bool
none_refused (e ∷ entries) [] = true
none_refused entries refusals = false
