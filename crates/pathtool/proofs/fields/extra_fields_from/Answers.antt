use Rattle.std.proofs.Common.{arith, ap, length}
use Rattle.std.proofs.lemmas.List.Splits.{length-slice_split}
use Rattle.pathtool.proofs.lemmas.lines.SplitLemmas.{is_tab}
use Rattle.pathtool.proofs.fields.extra_fields_from.Goals as goal

pub returns-in-Some-clause-count : goal.returns-in-Some-clause-count
returns-in-Some-clause-count c =
    let rest = c.in-Some.field-0.now in
    let fields = rw c.in-Some.is at c.split_at_byte.ensures.value in
    omega (arith, ap length fields, length-slice_split is_tab rest)
