use Rattle.std.proofs.Common.{arith, length-take-le}
use Rattle.std.proofs.lemmas.List.{take_rest}
use Rattle.path_tree.proofs.lemmas.keys.ChildKeyLemmas.{child_code_fits, child_of-take}
use Rattle.path_tree.proofs.tree.children.child_key.Goals as goal

pub overflow_add-len : goal.overflow_add-len
overflow_add-len c = grind (arith, child_code_fits, take_rest)

pub slice_bounds-result-end : goal.slice_bounds-result-end
slice_bounds-result-end c = grind (arith, child_code_fits, take_rest, length-take-le)

pub returns : goal.returns
returns c = grind (arith, take_rest, child_of-take)
