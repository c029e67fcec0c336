-- Uses of paths as places in the records of an archive's entries.
use Rattle.std.specs.Prelude.{ℕ, Bool, ◌==◌, ◌+◌, List, [], slice_range, take, drop, if◌then◌else◌}
use Rattle.std.specs.List.{position_or_len}
use Rattle.std.specs.declared.cmp.Ordering.{Ordering}
use Rattle.std.specs.Ordering.{is_lt, nat_cmp, then_cmp, on}
use Rattle.unix_path.specs.Order.{values_cmp}
use Rattle.path_archive.specs.Entries.{UsedAs, UsedAsSymlink, UsedAsHardLink, UsedAsTarget}
use Rattle.path_archive.specs.Entries.{UsedAsFile, UsedAsOther, UsedAsDirectory, Use, components}
use Rattle.path_archive.specs.declared.slot.Slot.{Slot}

-- what a rank says a path is used as; among uses of one path, the lower rank comes first
abbrev pub used_as_of : ℕ → UsedAs
used_as_of r =
    if r == 0 then UsedAsSymlink else if r == 1 then UsedAsHardLink else if r == 2 then UsedAsTarget
    else if r == 3 then UsedAsFile else if r == 4 then UsedAsOther else UsedAsDirectory

-- the path at a slot
abbrev pub path_at : List ℕ → Slot → List ℕ
path_at records slot = slice_range records slot.start slot.end

-- the bytes from an index on, up to the next NUL
abbrev pub field_at : List ℕ → ℕ → List ℕ
field_at records at = take (position_or_len (λ b. b == 0) (drop at records)) (drop at records)

-- the target of a symbolic link at a slot, which follows the path and its NUL
abbrev pub target_at : List ℕ → Slot → List ℕ
target_at records slot = if slot.rank == 0 then field_at records (slot.end + 1) else []

-- the use at a slot
unfoldable pub use_at : List ℕ → Slot → Use
use_at records slot = record {
  used_as = used_as_of slot.rank;
  path = path_at records slot;
  target = target_at records slot;
}

-- the order of slots: by path, then by rank, then by entry
abbrev pub slot_cmp : List ℕ → Slot → Slot → Ordering
slot_cmp records =
    then_cmp (on (λ s. components (path_at records s)) values_cmp)
    (then_cmp (on (λ s. s.rank) nat_cmp) (on (λ s. s.entry) nat_cmp))

-- a slot comes before another one
abbrev pub slot_lt : List ℕ → Slot → Slot → Bool
slot_lt records x y = is_lt (slot_cmp records x y)
