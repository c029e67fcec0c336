use Rattle.std.proofs.Common.{length}
use Rattle.path_tree.specs.Entries.{entries_from, key_entries}
use Rattle.path_tree.proofs.lemmas.entries.CursorLemmas.{FindsSame}
use Rattle.path_tree.proofs.tree.merge_cursor.EntryWalk.find.Given as goal

abbrev pub invariant-loop-self : goal.invariant-loop-self
invariant-loop-self g l =
    FindsSame l.key.items (key_entries (entries_from l.fn.self.next l.fn.self.rest))
    (key_entries (entries_from l.self.next l.self.rest))

abbrev pub decreases-loop-self : goal.decreases-loop-self
decreases-loop-self g l = length (entries_from l.self.next l.self.rest)
