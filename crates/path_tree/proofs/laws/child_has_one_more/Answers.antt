use Rattle.path_tree.proofs.lemmas.keys.ChildKeyLemmas.{child_of-values}
use Rattle.path_tree.proofs.laws.child_has_one_more.Goals as goal

pub returns : goal.returns
returns c = child_of-values
