use Rattle.std.proofs.Common.{arith}
use Rattle.path_keys.proofs.lemmas.values.LastLemmas.{last_low}
use Rattle.unix_path_c.proofs.lemmas.buffers.RangeLemmas.{end_written, end_not_written}
use Rattle.unix_path_c.proofs.keys.write_end.Goals as goal

pub overflow_add-out : goal.overflow_add-out
overflow_add-out c = omega
    (arith, last_low c.args.key.now ∣ c.requires.is_key ∣₁ c.requires.non_empty)

pub returns-then-last-out-clause-end : goal.returns-then-last-out-clause-end
returns-then-last-out-clause-end c =
    end_written c.args.key.now c.args.out.now c.write_at.new.out c.requires.non_empty
    (omega (arith, c.if-last-out.true)) c.write_at.ensures

pub returns-else-last-out-clause-end : goal.returns-else-last-out-clause-end
returns-else-last-out-clause-end c =
    end_not_written c.args.key.now c.args.out.now c.requires.non_empty
    (omega (arith, c.if-last-out.false, c.requires.non_empty))
