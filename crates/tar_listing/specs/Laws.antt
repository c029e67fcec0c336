-- The law of listings.
use Rattle.std.specs.Prelude.{◌≡◌, ℕ, List, Some}
use Rattle.path_archive.specs.Entries.{EntryValue}
use Rattle.path_archive.specs.Records.{entries_in}
use Rattle.tar_listing.specs.Form.{IsListing, IsRead, IsRefusedAt}

-- a listing of these entries, whatever its columns are, reads back as these entries: it is not
-- refused, and its records are these entries'
abbrev pub ListingReadsBack : Type 0
ListingReadsBack =
    (listing : List ℕ) (entries : List EntryValue) → IsListing listing entries
    → ((n : ℕ) → IsRefusedAt listing n → ⊥)
    × ((records : List ℕ) → IsRead listing records → entries_in records ≡ Some entries)
