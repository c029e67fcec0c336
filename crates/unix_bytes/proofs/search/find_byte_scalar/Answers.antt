use Rattle.std.proofs.lemmas.Grind.{common_steps}
use Rattle.std.proofs.Common.{◌==◌, length, sym, arith, eq-eqb}
use Rattle.std.proofs.lemmas.List.Sums.{position_or_len_is}
use Rattle.unix_bytes.proofs.search.find_byte_scalar.Goals as goal

pub returns-clause-value : goal.returns-clause-value
returns-clause-value c =
    sym (position_or_len_is (λ b. b == c.args.byte) c.args.bytes.now (length c.args.bytes.now) 0
    (omega arith) (λ k l. c.loop-index.invariant k (omega arith)) (λ l. absurd (omega arith)))

pub returns-then-b-byte-clause-value : goal.returns-then-b-byte-clause-value
returns-then-b-byte-clause-value c = grind (arith, common_steps, position_or_len_is, eq-eqb)
