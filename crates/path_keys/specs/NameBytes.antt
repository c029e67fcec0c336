-- The bytes of names in a path and in a key. No public clause cites these definitions.
use Rattle.std.specs.Prelude.{ℕ, ◌+◌, ◌%◌, ◌==◌, nat_lt, if◌then◌else◌}
use Rattle.unix_path.specs.Parts.{slash}
use Rattle.path_keys.specs.Keys.{raised}
use Rattle.path_keys.specs.Codes.{lowered}
use Rattle.path_keys.specs.declared.recode.Recoding.{Recoding}

-- the byte in a key for the byte b of a run of names; for a slash it is the end mark 0
abbrev pub coded : ℕ → ℕ
coded b = if b == slash then 0 else raised b

-- the byte in a path for the byte b of a run of names in a key; for an end mark it is a slash
abbrev pub decoded : ℕ → ℕ
decoded b = if b == 0 then slash else lowered b

-- the byte b, changed in the way `how`
abbrev pub recoded : Recoding → ℕ → ℕ
recoded how b = if b == how.separator then how.new_separator
    else (if nat_lt b how.below then (b + how.shift) % 256 else b)
