use Rattle.std.proofs.Common.{◌≡◌}
use Rattle.path_tree.specs.Many.{entries_in, entries_with}
use Rattle.path_tree.specs.Tree.{entries_of}
use Rattle.path_tree.proofs.tree.PathTree.extend.Given as goal

abbrev pub invariant-loop-path : goal.invariant-loop-path
invariant-loop-path g l = record {
  inserted : entries_of l.self ≡ entries_with (entries_of l.initial.self)
      (entries_in l.yielded);
}
