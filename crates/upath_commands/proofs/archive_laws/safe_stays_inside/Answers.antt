use Rattle.std.proofs.Common.{◌≡◌, ℕ, Bool, true, false, refl, arith, if◌then◌else◌}
use Rattle.path_archive.specs.Levels.{asks_closed}
use Rattle.upath_commands.specs.Archives.{level_of}
use Rattle.upath_commands.specs.declared.command.Options.{Options}
use Rattle.upath_commands.proofs.archive_laws.safe_stays_inside.Goals as goal

-- the answer at status 0
is_yes : (answer : Bool) → ◌≡◌ {A = ℕ} 0 (if answer then 0 else 1) → answer ≡ true
is_yes true e = refl
is_yes false e = absurd (omega arith)

-- the level of `--closed`
closed_level : (options : Options) → options.closed ≡ true
    → asks_closed (level_of options) ≡ true
closed_level options e = rw e refl

pub returns : goal.returns
returns c = λ options input status.
    let (entries, is, (some, all)) = status.1.0 (is_yes status.0 status.2) in (
      entries,
      is,
      λ careless top old new level empty extracts.
          c.accepted_stays_inside.ensures careless entries top old new all.accepted
          (λ e. all.closed (closed_level options (level e))) empty extracts,
    )
