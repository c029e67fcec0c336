use Rattle.std.proofs.Common.{◌≡◌, ◌==◌, length, sym, arith, not, true, get_or}
use Rattle.std.specs.Str.{byte}
use Rattle.std.proofs.lemmas.Bool.Decides.{nat_tests}
use Rattle.std.proofs.lemmas.List.Sums.{position_or_len_is}
use Rattle.tar_listing.proofs.fields.spaces.Goals as goal

pub returns-clause-value : goal.returns-clause-value
returns-clause-value c =
    sym (position_or_len_is (λ b. not (b == byte " ")) c.args.text.now (length c.args.text.now) 0
    (omega arith) (λ k l. c.loop-index.invariant k (omega arith)) (λ l. absurd (omega arith)))

pub returns-then-byte-ne32-clause-value : goal.returns-then-byte-ne32-clause-value
returns-then-byte-ne32-clause-value c =
    let other : not (get_or c.args.text.now c.loop-index.index 0 == byte " ") ≡ true =
    grind (arith, nat_tests) in
    sym (position_or_len_is (λ b. not (b == byte " ")) c.args.text.now c.loop-index.index 0
    (omega arith) (λ k l. c.loop-index.invariant k l) (λ l. other))
