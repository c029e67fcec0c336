-- A name, rebuilt from its stem and its extension.
use Rattle.std.proofs.Common.{◌≡◌, ℕ, List, Option, Some, None, option_map, arith}
use Rattle.std.proofs.lemmas.Option.{same_Some, none-some}
use Rattle.std.specs.Option.{option_and_then}
use Rattle.unix_path.specs.Names.{split_name}
use Rattle.path_runs.specs.QueryLaws.{name_from_stem}
use Rattle.path_runs.proofs.lemmas.names.DotLemmas.{split_case}

-- a name is its stem, followed by a dot and its extension if it has one
pub name_from_stem-split_name : (name : List ℕ)
    → name_from_stem (split_name name).0 (split_name name).1 ≡ name
name_from_stem-split_name name =
    grind (arith, split_case)

-- if the optional file name o has the stem `stem`, then o is `stem`, followed by a dot and the
-- extension of o if it has one
pub file_name-from_stem : (o : Option (List ℕ)) (stem : List ℕ)
    → option_map (λ name. (split_name name).0) o ≡ Some stem
    → o ≡ Some (name_from_stem stem (option_and_then (λ name. (split_name name).1) o))
file_name-from_stem None stem e = absurd (none-some stem e)
file_name-from_stem (Some name) stem e =
    let cut = split_name name in
    grind (arith, name_from_stem-split_name, same_Some)

pub ruleset name_rejoined_cases = (name_from_stem-split_name, file_name-from_stem)
