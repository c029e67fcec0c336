-- The components of the rest of a path after a base.
use Rattle.std.proofs.Common.{◌≡◌, ◌∙◌, ℕ, ◌+◌, ◌-◌, ◌≤◌, List, drop, length, length-drop, arith}
use Rattle.std.proofs.lemmas.List.{take_all}
use Rattle.unix_path.specs.Parts.{values}
use Rattle.unix_path.specs.Prefixes.{stripped_of}
use Rattle.path_runs.specs.PartLaws.{RestHasValues}

-- by `RestHasValues`, the components of the rest of s after base are the components of s without
-- the first n, where n is the number of components of base
pub values-stripped_of : RestHasValues → (s base : List ℕ)
    → values (stripped_of s base) ≡ drop (length (values base)) (values s)
values-stripped_of again s base =
    let n = length (values base) in
    let rest = drop n (values s) in
    let fits : length rest ≤ length (values s) - (n + 0) =
    rw (length-drop n (values s)) (omega arith) in
    again s n 0 ∙ take_all _ rest fits
