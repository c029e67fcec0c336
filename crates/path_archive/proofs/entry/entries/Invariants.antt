use Rattle.std.proofs.Common.{length, map, ◌-◌}
use Rattle.path_archive.specs.EntryViews.{entry_value}
use Rattle.path_archive.proofs.lemmas.records.EntryLemmas.{EntriesHold}
use Rattle.path_archive.proofs.entry.entries.Given as goal

abbrev pub invariant-loop-at : goal.invariant-loop-at
invariant-loop-at l = EntriesHold l.records l.at (map entry_value l.list.items)

abbrev pub decreases-loop-at : goal.decreases-loop-at
decreases-loop-at l = length l.records - l.at
