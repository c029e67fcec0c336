use Rattle.std.proofs.Common.{◌≡◌, ◌-◌, take, sym, ◌∙◌, arith}
use Rattle.unix_path.specs.Parts.{parts}
use Rattle.unix_path.proofs.lemmas.filler.TrimLemmas.{parts_shorter}
use Rattle.unix_path.proofs.filler.trimmed_len.Goals as goal
use Rattle.unix_path.proofs.filler.trimmed_len.Goals.{Then-is_trailing}

-- if one more byte is removed from the end, the bytes of the path that remain have the same
-- components as the first `len` bytes
trims_one : (c : Then-is_trailing)
    → parts (take (c.loop-end.end - 1) c.args.path.now) ≡ parts (take c.args.len c.args.path.now)
trims_one c =
    parts_shorter c.args.path.now c.loop-end.end (omega arith) (omega arith)
    (sym c.is_trailing.ensures ∙ c.if-is_trailing.true)
    ∙ c.loop-end.invariant.same

pub loop-end-preserved : goal.loop-end-preserved
loop-end-preserved c =
    record {
      forward = omega arith;
      in_range = omega arith;
      same = trims_one (goal.at.loop-end-preserved c).Then-is_trailing;
    }

pub loop-end-preserved-then-len-end-eq8 : goal.loop-end-preserved-then-len-end-eq8
loop-end-preserved-then-len-end-eq8 c =
    record {
      forward = c.trimmed_blocks_len-end.ensures.forward;
      in_range = omega (arith, c.trimmed_blocks_len-end.ensures.in_range);
      same = c.trimmed_blocks_len-end.ensures.same
          ∙ trims_one (goal.at.loop-end-preserved-then-len-end-eq8 c).Then-is_trailing;
    }
