use Rattle.path_archive.proofs.lemmas.refusals.CollectLemmas.{Collected}
use Rattle.path_archive.proofs.decide.collect.Given as goal

abbrev pub invariant-loop-k : goal.invariant-loop-k
invariant-loop-k l = Collected l.fn.level l.records l.slots l.list.items l.k
