-- The decision on an archive's entries, in the numbers of C.
use Rattle.std.specs.Prelude.{ℕ, ◌==◌, if◌then◌else◌}
use Rattle.path_archive.specs.declared.level.Level.{Level}
use Rattle.path_archive.specs.declared.level.Level.TheVariants.{Inside, Closed}
use Rattle.path_archive.specs.declared.refusal.Reason.{Reason}
use Rattle.path_archive.specs.declared.refusal.Reason.TheVariants.{Name, Kind, BelowLeaf}
use Rattle.path_archive.specs.declared.refusal.Reason.TheVariants.{LinkUsedTwice, TargetIsLink}
use Rattle.path_archive.specs.declared.refusal.Reason.TheVariants.{LeadsOut}
use Rattle.path_archive.specs.declared.refusal.Refusal.{Refusal as Found}
use Rattle.unix_path_c.specs.declared.entries.Refusal.{Refusal}

-- the level of a number: 0 is `Inside`, and any other number is `Closed`
abbrev pub level_of : ℕ → Level
level_of n = if n == 0 then Inside else Closed

-- the number of a reason
abbrev pub number_of : Reason → ℕ
number_of Name = 0
number_of Kind = 1
number_of BelowLeaf = 2
number_of LinkUsedTwice = 3
number_of TargetIsLink = 4
number_of LeadsOut = 5

-- the record of a refusal
abbrev pub record_of : Found → Refusal
record_of r = record { entry = r.entry; cause = r.cause; reason = number_of r.reason }
