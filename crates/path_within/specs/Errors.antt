-- The texts of the errors of joins, requests and roots.
use Rattle.std.specs.Prelude.{ℕ, List, codes}
use Rattle.path_within.specs.declared.within.WithinError.{WithinError}
use Rattle.path_within.specs.declared.within.WithinError.TheVariants.{Escapes, Memory}
use Rattle.path_within.specs.declared.within.WithinError.TheVariants as within_errors
use Rattle.path_within.specs.declared.request.RequestError.{RequestError}
use Rattle.path_within.specs.declared.request.RequestError.TheVariants.{Rooted}
use Rattle.path_within.specs.declared.request.RequestError.TheVariants as request_errors
use Rattle.path_within.specs.declared.root.StripError.{StripError}
use Rattle.path_within.specs.declared.root.StripError.TheVariants.{Outside}
use Rattle.path_within.specs.declared.root.StripError.TheVariants as strip_errors

-- the text of an error of a join
abbrev pub within_error_text : WithinError → List ℕ
within_error_text Escapes = codes "path leaves its root"
within_error_text within_errors.Nul = codes "path has a NUL byte"
within_error_text (Memory error) = codes "out of memory"

-- the text of an error of a request
abbrev pub request_error_text : RequestError → List ℕ
request_error_text Rooted = codes "path has a root"
request_error_text request_errors.Escapes = codes "path leaves its root"
request_error_text request_errors.Nul = codes "path has a NUL byte"

-- the text of the error for a path that is not below a root
abbrev pub strip_error_text : StripError → List ℕ
strip_error_text Outside = codes "path is outside its root"
strip_error_text strip_errors.Nul = codes "path has a NUL byte"
