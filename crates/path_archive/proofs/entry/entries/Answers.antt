use Rattle.path_archive.proofs.lemmas.records.EntryLemmas.{entries_start}
use Rattle.path_archive.proofs.entry.entries.Goals as goal

pub loop-at-init : goal.loop-at-init
loop-at-init c = rw c.new-list.ensures.items (entries_start c.args.records.now)
