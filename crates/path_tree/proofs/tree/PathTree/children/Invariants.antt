use Rattle.std.proofs.Common.{length, map, option_map}
use Rattle.path_tree.specs.Children.{borrowed_child}
use Rattle.path_tree.proofs.lemmas.children.ChildWalkLemmas.{FindsChildren}
use Rattle.path_tree.proofs.tree.PathTree.children.Given as goal

abbrev pub invariant-loop-key : goal.invariant-loop-key
invariant-loop-key g l =
    FindsChildren l.base.items l.fn.self.entries.entries (option_map (λ c. c.now) l.last) l.rest
    (map borrowed_child l.found.items)

abbrev pub decreases-loop-key : goal.decreases-loop-key
decreases-loop-key g l = length l.rest
