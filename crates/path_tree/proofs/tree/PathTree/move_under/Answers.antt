use Rattle.std.proofs.Common.{arith}
use Rattle.path_tree.proofs.lemmas.entries.EntryLemmas.{length-key_entries}
use Rattle.path_tree.proofs.lemmas.entries.MovedLemmas.{length-moved, moved_outside, none_under}
use Rattle.path_tree.proofs.lemmas.entries.MovedLemmas.{outside-with, taken_back}
use Rattle.path_tree.proofs.tree.PathTree.move_under.Goals as goal

pub returns-in-Err-clause-err : goal.returns-in-Err-clause-err
returns-in-Err-clause-err g c = grind (arith, taken_back)

pub returns-clause-entries : goal.returns-clause-entries
returns-clause-entries g c = grind (arith, outside-with, moved_outside, none_under)

pub returns-clause-count : goal.returns-clause-count
returns-clause-count g c = grind (arith, length-key_entries, length-moved)
