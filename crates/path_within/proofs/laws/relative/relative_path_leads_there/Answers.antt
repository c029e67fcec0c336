use Rattle.path_within.proofs.lemmas.relative.LeadsLemmas.{values-relative_path}
use Rattle.path_within.proofs.lemmas.relative.LeadsLemmas.{relative_path_leads}
use Rattle.path_within.proofs.lemmas.relative.NoRelativePathLemmas.{no_relative_path}
use Rattle.path_within.proofs.laws.relative.relative_path_leads_there.Goals as goal
use Rattle.std.proofs.Common.{arith}

pub returns : goal.returns
returns c = grind (arith, values-relative_path, relative_path_leads, no_relative_path)
