use Rattle.std.proofs.Common.{length}
use Rattle.unix_path.specs.Cursor.{cursor_rest, cursor_values}
use Rattle.path_tree.specs.Tree.{entries_of}
use Rattle.path_tree.proofs.lemmas.keys.NearestLemmas.{GoesUp}
use Rattle.path_tree.proofs.tree.PathTree.nearest_by.Given as goal

abbrev pub invariant-loop-value : goal.invariant-loop-value
invariant-loop-value g l =
    GoesUp l.fn.path.bytes.now l.fn.key (entries_of l.fn.self) l.end (cursor_rest l.parts)

abbrev pub decreases-loop-value : goal.decreases-loop-value
decreases-loop-value g l = length (cursor_values l.parts)
