use Rattle.std.proofs.Common.{arith}
use Rattle.std.proofs.lemmas.List.{take_rest}
use Rattle.path_within.proofs.lemmas.names_only.NameStartLemmas.{only_name_pieces}
use Rattle.path_within.proofs.lemmas.names_only.NameStartLemmas.{names_only_without_root}
use Rattle.path_within.proofs.names_only.is_names_only.Goals as goal

pub returns : goal.returns
returns c =
    grind (arith, only_name_pieces, names_only_without_root, take_rest)
