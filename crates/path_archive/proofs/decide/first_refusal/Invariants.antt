use Rattle.path_archive.proofs.lemmas.refusals.CollectLemmas.{FirstHolds}
use Rattle.path_archive.proofs.decide.first_refusal.Given as goal

abbrev pub invariant-loop-k : goal.invariant-loop-k
invariant-loop-k l = FirstHolds l.fn.level l.records l.slots l.first l.k
