use Rattle.std.proofs.Common.{refl, length-take-le, arith}
use Rattle.path_keys.proofs.lemmas.reading.KeyReadLemmas.{has_path, kept_back, written_back}
use Rattle.path_keys.proofs.read.write_path_of.Goals as goal

pub returns-then-len-out-clause-out : goal.returns-then-len-out-clause-out
returns-then-len-out-clause-out c = λ s e.
    kept_back s (c.in-Some.ensures.length s e) (omega (arith, c.if-len-out.true))

pub write_text-requires : goal.write_text-requires
write_text-requires c =
    has_path (c.in-Some.ensures.is_key.0 refl) c.in-Some.ensures.length
    (length-take-le c.in-Some.len c.args.out.now (omega arith))

pub returns-clause-out : goal.returns-clause-out
returns-clause-out c = grind (arith, written_back)
