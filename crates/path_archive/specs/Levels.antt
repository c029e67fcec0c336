-- Levels at which entries are accepted.
use Rattle.std.specs.Prelude.{Bool, true, false}
use Rattle.path_archive.specs.declared.level.Level.{Level}
use Rattle.path_archive.specs.declared.level.Level.TheVariants.{Inside, Closed}

-- the level asks that no symbolic link leads out
abbrev pub asks_closed : Level → Bool
asks_closed Inside = false
asks_closed Closed = true
