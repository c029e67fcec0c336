use Rattle.std.proofs.Common.{◌-◌, length, arith}
use Rattle.unix_bytes.proofs.lemmas.vectors.HitLemmas.{first_after, none_before}
use Rattle.unix_bytes.proofs.search.find_byte.Goals as goal

pub returns-then-index-lt16-clause-value : goal.returns-then-index-lt16-clause-value
returns-then-index-lt16-clause-value c =
    let at = c.loop-at.at in
    let index = c.find_byte_simd16-index in
    first_after c.args.byte c.args.bytes.now at at index.result (omega arith) (omega arith)
    index.ensures.value index.ensures.in_range c.loop-at.invariant.none (λ l. omega arith)

pub loop-at-preserved : goal.loop-at-preserved
loop-at-preserved c =
    let at = c.loop-at.at in
    let index = c.find_byte_simd16-index in
    record {
      in_range = omega arith;
      none = λ k l. none_before c.args.byte c.args.bytes.now at at index.result (omega arith)
          (omega arith) index.ensures.value c.loop-at.invariant.none k (omega arith);
    }

pub returns-clause-value : goal.returns-clause-value
returns-clause-value c =
    let index = c.find_byte_simd16 in
    first_after c.args.byte c.args.bytes.now c.loop-at.at (length c.args.bytes.now - 16)
    index.result (omega arith) (omega arith) index.ensures.value index.ensures.in_range
    c.loop-at.invariant.none (λ l. omega arith)
