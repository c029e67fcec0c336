-- Filler in a path, and `..` as its first or last piece.
use Rattle.std.specs.Prelude.{◌≡◌, ◌<◌, ℕ, ◌+◌, ◌-◌, nat_lt, ◌==◌, Bool, false, ◌||◌, ◌&&◌, List}
use Rattle.std.specs.Prelude.{length, slice_index, slice_index_or}
use Rattle.unix_path.specs.Parts.{slash, dot}

-- the byte of s at i is a slash, or a `.` before a slash or the end of s
abbrev pub is_filler : List ℕ → ℕ → Bool
is_filler s i =
    slice_index s i == slash
    || (slice_index s i == dot && slice_index_or s (i + 1) slash == slash)

-- the first piece of s is `..`
abbrev pub starts_with_parent_dir : List ℕ → Bool
starts_with_parent_dir s =
    slice_index s 0 == dot && (slice_index s 1 == dot && slice_index_or s 2 slash == slash)

-- the last piece of s is `..`
abbrev pub ends_with_parent_dir : List ℕ → Bool
ends_with_parent_dir s =
    slice_index s (length s - 1) == dot
    && (nat_lt 1 (length s) && (slice_index s (length s - 2) == dot
    && (length s == 2 || slice_index s (length s - 3) == slash)))

-- i is not 0, and the byte of s at i is a slash, or a `.` just after a slash
abbrev pub is_trailing : List ℕ → ℕ → Bool
is_trailing s i =
    nat_lt 0 i
    && (slice_index s i == slash || (slice_index s i == dot && slice_index s (i - 1) == slash))

-- s is empty or ends where its last component ends
abbrev pub EndsInPart : List ℕ → Type 0
EndsInPart s = 0 < length s → is_trailing s (length s - 1) ≡ false
