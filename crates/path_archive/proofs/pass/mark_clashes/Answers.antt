use Rattle.std.proofs.Common.{◌≤◌, ◌∙◌, arith, length, refl}
use Rattle.std.proofs.lemmas.List.{length-map}
use Rattle.path_archive.specs.Slots.{use_at}
use Rattle.path_archive.proofs.lemmas.marks.MarkLemmas.{pass_ends, pass_starts}
use Rattle.path_archive.proofs.lemmas.marks.StepLemmas.{uses_at}
use Rattle.path_archive.proofs.lemmas.marks.UnmarkedLemmas.{causes_of, mark_same, marks_next}
use Rattle.path_archive.proofs.pass.mark_clashes.Goals as goal

pub loop-i-init : goal.loop-i-init
loop-i-init c = record {
  same = refl;
  holds = pass_starts (uses_at c.args.records.now c.args.slots.now) (causes_of c.args.slots.now);
}

pub loop-i-preserved : goal.loop-i-preserved
loop-i-preserved c = record {
  same = mark_same c.loop-i.slots c.loop-i.i _ c.step-cause.result.0 ∙ c.loop-i.invariant.same;
  holds = marks_next c.args.records.now c.args.slots.now c.loop-i.slots c.loop-i.i _
      c.step-cause.result.0 c.loop-i.leaf c.step-cause.result.1 c.requires c.loop-i.invariant.same
      (omega arith) c.loop-i.invariant.holds c.step-cause.ensures;
}

pub returns-clause-marked : goal.returns-clause-marked
returns-clause-marked c =
    let size = length-map c.loop-i.slots (use_at c.args.records.now) in
    let end : length (uses_at c.args.records.now c.loop-i.slots) ≤ c.loop-i.i = omega arith in
    pass_ends (uses_at c.args.records.now c.loop-i.slots) (causes_of c.loop-i.slots) c.loop-i.i
    c.loop-i.leaf end c.loop-i.invariant.holds
