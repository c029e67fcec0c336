use Rattle.std.proofs.Common.{ap, length, arith}
use Rattle.path_keys.proofs.lemmas.values.LengthLemmas.{length-key_of}
use Rattle.path_keys.proofs.encode.sufficient_len.Goals as goal

pub returns-then-most-available-clause-enough : goal.returns-then-most-available-clause-enough
returns-then-most-available-clause-enough c = omega (
  arith,
  length-key_of c.args.path.bytes.now,
  ap length c.as_unix_str.ensures.bytes,
)
