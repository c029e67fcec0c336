use Rattle.std.proofs.Common.{◌==◌, ◌∙◌, arith, sym}
use Rattle.std.proofs.lemmas.List.{take_rest}
use Rattle.std.proofs.lemmas.List.Splits.{slice_split_first}
use Rattle.pathtool.proofs.lemmas.lines.SplitLemmas.{slice_split-whole}
use Rattle.pathtool.proofs.fields.split_at_byte.Goals as goal

pub returns-then-index-bytes-clause-value : goal.returns-then-index-bytes-clause-value
returns-then-index-bytes-clause-value c =
    slice_split-whole (λ b. b == c.args.«end») c.args.bytes.now
    (sym c.find_byte-index.ensures.value ∙ c.if-index-bytes.true)

pub returns-clause-value : goal.returns-clause-value
returns-clause-value c =
    let index = c.find_byte-index.ensures in
    let l = index.in_range in
    simp (take_rest, index.value)
    (slice_split_first (λ b. b == c.args.«end») c.args.bytes.now 0 (omega (arith, index.value)))
