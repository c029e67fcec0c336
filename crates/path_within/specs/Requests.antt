-- The bytes and names of requests and roots, for clauses.
use Rattle.std.specs.Prelude.{ℕ, List}
use Rattle.std.specs.Borrow.{Bor}
use Rattle.unix_path.specs.Buffers.{path_bytes}
use Rattle.unix_path.specs.Parts.{Value, values}
use Rattle.path_within.specs.Below.{names_below}
use Rattle.path_within.specs.declared.request.Request.{Request}
use Rattle.path_within.specs.declared.root.Root.{Root}

-- the slice of the path that a request borrows
abbrev pub request_slice : Request → Bor (List ℕ)
request_slice r = r.path.bytes

-- the bytes of a request, verbatim
abbrev pub request_bytes : Request → List ℕ
request_bytes r = (request_slice r).now

-- the names that a request represents
abbrev pub request_names : Request → List Value
request_names r = names_below (values (request_bytes r))

-- the bytes of a root
abbrev pub root_bytes : Root → List ℕ
root_bytes r = path_bytes r.path
