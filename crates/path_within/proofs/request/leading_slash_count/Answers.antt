use Rattle.std.proofs.Common.{not, length, sym, ap, arith}
use Rattle.std.proofs.lemmas.List.Sums.{position_or_len_is}
use Rattle.unix_path.specs.Parts.{is_slash}
use Rattle.path_within.proofs.request.leading_slash_count.Goals as goal

pub returns-then-byte-ne47-clause-value : goal.returns-then-byte-ne47-clause-value
returns-then-byte-ne47-clause-value c = grind (arith, position_or_len_is)

pub returns-clause-value : goal.returns-clause-value
returns-clause-value c =
    sym (position_or_len_is (λ b. not (is_slash b)) c.args.bytes.now (length c.args.bytes.now) 0
    (omega arith) (λ k l. ap not (c.loop-index.invariant k (omega arith)))
    (λ l. absurd (omega arith)))
