use Rattle.std.proofs.Common.{◌≡◌, map}
use Rattle.path_archive.specs.Marks.{unmarked}
use Rattle.path_archive.proofs.lemmas.marks.MarkLemmas.{PassHolds}
use Rattle.path_archive.proofs.lemmas.marks.StepLemmas.{uses_at}
use Rattle.path_archive.proofs.lemmas.marks.UnmarkedLemmas.{causes_of}
use Rattle.path_archive.proofs.pass.mark_clashes.Given as goal

abbrev pub invariant-loop-i : goal.invariant-loop-i
invariant-loop-i l = record {
  same : map unmarked l.slots ≡ map unmarked l.initial.slots;
  holds : PassHolds (uses_at l.records l.slots) (causes_of l.slots) l.i l.leaf;
}
