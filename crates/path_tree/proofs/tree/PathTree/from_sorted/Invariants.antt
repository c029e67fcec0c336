use Rattle.path_tree.proofs.lemmas.entries.SortedWalkLemmas.{Listed}
use Rattle.path_tree.proofs.tree.PathTree.from_sorted.Given as goal

abbrev pub invariant-loop-path : goal.invariant-loop-path
invariant-loop-path g l = Listed l.entries.items l.yielded
