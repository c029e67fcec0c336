use Rattle.std.proofs.Common.{suc, refl, arith}
use Rattle.unix_path.specs.Parts.{ParentDir}
use Rattle.path_within.proofs.lemmas.backward.PutLemmas.{puts_none, puts_then, puts_value}
use Rattle.path_within.proofs.backward.put_parent_dirs_before.Goals as goal

pub loop-end-init : goal.loop-end-init
loop-end-init c = record { in_range = c.requires; made = (0, omega arith, puts_none refl) }

pub loop-end-preserved : goal.loop-end-preserved
loop-end-preserved c =
    let so_far = c.loop-end.invariant.made in
    record {
      in_range = omega arith;
      made = (
        suc so_far.0,
        omega (arith, so_far.1),
        puts_then so_far.2 (puts_value ParentDir c.put_before-end.ensures.start
            c.put_before-end.ensures.bytes),
      );
    }

pub returns : goal.returns
returns c = grind arith
