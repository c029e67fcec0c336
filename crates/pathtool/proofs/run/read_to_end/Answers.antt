use Rattle.std.proofs.Common.{rules, arith, inl, refl}
use Rattle.std.proofs.lemmas.Grind.{common_steps}
use Rattle.byte_streams.proofs.lemmas.CallLemmas.{Many-none, Many-more}
use Rattle.pathtool.proofs.run.read_to_end.Goals as goal

pub loop-count-init : goal.loop-count-init
loop-count-init g c = (search rules, search rules, search rules, Many-none _)

pub loop-count-preserved : goal.loop-count-preserved
loop-count-preserved g c = (
  search rules,
  search rules,
  grind (arith, common_steps),
  Many-more c.loop-count.invariant.3
      (_, (_, (c.in-Ok.count, omega (arith, c.if-count-eq0.false), c.in-Ok.ensures.single_call))),
)

pub returns-in_err-extend_from_slice-clause-reads :
    goal.returns-in_err-extend_from_slice-clause-reads
returns-in_err-extend_from_slice-clause-reads g c = (
  _,
  Many-more c.loop-count.invariant.3
      (_, (_, (c.in-Ok.count, omega (arith, c.if-count-eq0.false), c.in-Ok.ensures.single_call))),
  inl refl,
)
