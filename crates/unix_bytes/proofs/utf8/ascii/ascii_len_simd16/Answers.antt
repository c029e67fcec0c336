use Rattle.std.proofs.lemmas.Grind.{common_steps}
use Rattle.std.proofs.Common.{◌≡◌, ◌+◌, take, subst, arith}
use Rattle.std.specs.Int.Count.{count_trailing_zeros}
use Rattle.std.specs.Str.{IsAscii}
use Rattle.std.proofs.lemmas.Str.Ascii.{IsAscii-nil}
use Rattle.unix_bytes.proofs.lemmas.vectors.LaneLemmas.{ascii_window, ascii_prefix, first_non_ascii}
use Rattle.unix_bytes.proofs.utf8.ascii.ascii_len_simd16.Goals as goal

pub returns-then-non_ascii-eq0-clause-ascii : goal.returns-then-non_ascii-eq0-clause-ascii
returns-then-non_ascii-eq0-clause-ascii c =
    ascii_window c.args.source.now 0 _ (omega arith) IsAscii-nil c.non_ascii_bits-non_ascii.ensures
    c.if-non_ascii-eq0.true

pub returns-clause-bound : goal.returns-clause-bound
returns-clause-bound c =
    (first_non_ascii c.args.source.now _ (omega arith) c.non_ascii_bits-non_ascii.ensures
    c.if-non_ascii-eq0.false).0

pub returns-clause-ascii : goal.returns-clause-ascii
returns-clause-ascii c =
    let s = c.args.source.now in
    let n = count_trailing_zeros 64 c.non_ascii_bits-non_ascii.result in
    subst (λ k. IsAscii (take k s)) (let e : 0 + n ≡ n = omega arith in e)
    (ascii_prefix s 0 _ (omega arith) IsAscii-nil c.non_ascii_bits-non_ascii.ensures
    c.if-non_ascii-eq0.false).1

pub returns-clause-non_ascii : goal.returns-clause-non_ascii
returns-clause-non_ascii c = grind (arith, common_steps, first_non_ascii)
