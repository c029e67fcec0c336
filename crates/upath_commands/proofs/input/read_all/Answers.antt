use Rattle.std.proofs.Common.{rules, arith, inl, refl}
use Rattle.std.proofs.lemmas.Grind.{common_steps}
use Rattle.byte_streams.proofs.lemmas.CallLemmas.{Many-more, Many-none}
use Rattle.upath_commands.proofs.input.read_all.Goals as goal

pub loop-bytes-init : goal.loop-bytes-init
loop-bytes-init g c = (search rules, search rules, Many-none _)

pub loop-bytes-preserved : goal.loop-bytes-preserved
loop-bytes-preserved g c = (
  search rules,
  grind (arith, common_steps),
  Many-more c.loop-bytes.invariant.2
      (c.in_ok-count.ensures.some (omega (arith, c.if-count-eq0.false))),
)

pub returns-in_err-extend_from_slice-clause-reads :
    goal.returns-in_err-extend_from_slice-clause-reads
returns-in_err-extend_from_slice-clause-reads g c = record {
  failed = search rules;
  reads = (
    _,
    Many-more c.loop-bytes.invariant.2
        (c.in_ok-count.ensures.some (omega (arith, c.if-count-eq0.false))),
    inl refl,
  );
}
