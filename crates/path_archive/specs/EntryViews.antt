-- Entries as the code has them.
use Rattle.std.specs.Prelude.{ℕ, List, []}
use Rattle.path_archive.specs.Entries.{EntryValue, DirectoryEntry, FileEntry, SymlinkEntry}
use Rattle.path_archive.specs.Entries.{HardLinkEntry, OtherEntry}
use Rattle.path_archive.specs.declared.entry.Entry.{Entry}
use Rattle.path_archive.specs.declared.entry.Entry.TheVariants as entry

-- an entry, with the bytes that its views point to
abbrev pub entry_value : Entry → EntryValue
entry_value (entry.Directory p) = DirectoryEntry p.bytes.now
entry_value (entry.File p) = FileEntry p.bytes.now
entry_value (entry.Symlink p t) = SymlinkEntry p.bytes.now t.bytes.now
entry_value (entry.HardLink p t) = HardLinkEntry p.bytes.now t.bytes.now
entry_value (entry.Other p) = OtherEntry p.bytes.now

-- the target of a link; of other entries no bytes
abbrev pub target_of : EntryValue → List ℕ
target_of (SymlinkEntry p t) = t
target_of (HardLinkEntry p t) = t
target_of _ = []
