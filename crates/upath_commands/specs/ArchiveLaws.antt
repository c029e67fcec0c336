-- A law of `archive`.
use Rattle.std.specs.Prelude.{◌≡◌, ℕ, Bool, true, List, Ok}
use Rattle.path_archive.specs.Entries.{EntryValue}
use Rattle.path_archive.specs.Extractions.{Extracts}
use Rattle.path_archive.specs.FileSystems.{Place, FileSystem, IsEmpty, SameOutside}
use Rattle.upath_commands.specs.Archives.{IsInput}
use Rattle.upath_commands.specs.Invocations.{Archive}
use Rattle.upath_commands.specs.Runs.{IsStatus}
use Rattle.upath_commands.specs.declared.command.Options.{Options}

-- whatever an extractor does for these entries below an empty directory, nothing outside changes; a
-- careless one needs `closed`
abbrev pub StaysInside : Bool → List EntryValue → Type 0
StaysInside closed entries =
    (careless : Bool) (top : Place) (old new : FileSystem) → (careless ≡ true → closed ≡ true)
    → IsEmpty top old → Extracts careless entries top old new → SameOutside top old new

-- if the status of `archive` is 0, this is so of the entries that the input is of
abbrev pub SafeStaysInside : Type 0
SafeStaysInside =
    (options : Options) (input : List ℕ) → IsStatus (Ok (Archive options)) input 0
    → (entries : List EntryValue) × IsInput options.tar_list input entries
    × StaysInside options.closed entries
