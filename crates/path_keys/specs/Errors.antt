-- The text of the error of reading a key back.
use Rattle.std.specs.Prelude.{ℕ, List, codes}
use Rattle.path_keys.specs.declared.read.KeyError.{KeyError}
use Rattle.path_keys.specs.declared.read.KeyError.TheVariants.{NotAKey, Memory}

-- the text that an error of reading back is printed as
abbrev pub key_error_text : KeyError → List ℕ
key_error_text NotAKey = codes "not the key of a path"
key_error_text (Memory error) = codes "out of memory"
