use Rattle.std.proofs.Common.{arith}
use Rattle.std.proofs.lemmas.Bool.Decides.{nat_tests}
use Rattle.unix_path_c.proofs.lemmas.buffers.RangeLemmas.{nil_is_key}
use Rattle.unix_path_c.proofs.keys.unix_path_key_range_end.Goals as goal

pub returns-then-is_empty-clause-not_a_key : goal.returns-then-is_empty-clause-not_a_key
returns-then-is_empty-clause-not_a_key c = (
  λ is. absurd (omega (arith, is)),
  λ none. absurd (none (nil_is_key c.args.key.now (grind (arith, nat_tests)))),
)
