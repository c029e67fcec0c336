-- JSON strings that contain paths.
use Rattle.std.specs.Prelude.{ℕ, List, codes}
use Rattle.unix_path.specs.declared.json.JsonError.{JsonError}
use Rattle.unix_path.specs.declared.json.JsonError.TheVariants.{NotUtf8, NotString, Memory}

-- the text that is printed for an error of reading or writing JSON
abbrev pub error_text : JsonError → List ℕ
error_text NotUtf8 = codes "path contains invalid UTF-8 characters"
error_text NotString = codes "expected path string"
error_text (Memory error) = codes "out of memory"
