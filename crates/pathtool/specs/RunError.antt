-- The message for the error of a run.
use Rattle.std.specs.Prelude.{ℕ, List, codes}
use Rattle.pathtool.specs.declared.run.RunError.{RunError}
use Rattle.pathtool.specs.declared.run.RunError.TheVariants.{Read, Write, Memory}

-- the message that an error of a run is displayed as
abbrev pub error_text : RunError → List ℕ
error_text Read = codes "read error"
error_text Write = codes "write error"
error_text Memory = codes "out of memory"
