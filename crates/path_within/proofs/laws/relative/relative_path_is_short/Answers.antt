use Rattle.path_within.proofs.lemmas.relative.RelativePathBoundLemmas.{length-relative_path}
use Rattle.path_within.proofs.laws.relative.relative_path_is_short.Goals as goal

pub returns : goal.returns
returns c = length-relative_path
