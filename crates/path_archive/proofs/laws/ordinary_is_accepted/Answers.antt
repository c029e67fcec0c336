use Rattle.path_archive.proofs.lemmas.laws.OrdinaryLemmas.{ordinary_accepted}
use Rattle.path_archive.proofs.laws.ordinary_is_accepted.Goals as goal

pub returns : goal.returns
returns c entries h = ordinary_accepted entries h
