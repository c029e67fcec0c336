use Rattle.std.proofs.Common.{arith}
use Rattle.path_within.proofs.lemmas.names_only.RequestLemmas.{names_down}
use Rattle.path_within.proofs.check.check_parent_dir.Goals as goal
use Rattle.path_within.proofs.lemmas.names_only.NamesOnlyLemmas.{names_only_has_names}

pub returns-then-is_names_only-clause-refused : goal.returns-then-is_names_only-clause-refused
returns-then-is_names_only-clause-refused c = grind (arith, names_down, names_only_has_names)
