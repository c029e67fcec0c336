use Rattle.path_runs.proofs.lemmas.spelling.JoinAllLemmas.{joins-values}
use Rattle.path_runs.proofs.laws.spelling.spelling_joined.Goals as goal

pub returns : goal.returns
returns c = joins-values
