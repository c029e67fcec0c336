use Rattle.std.proofs.Common.{arith}
use Rattle.path_within.proofs.lemmas.backward.LayoutLemmas.{length-verbatim}
use Rattle.path_within.proofs.lemmas.below.BelowLemmas.{pieces_verbatim}
use Rattle.path_within.proofs.write.Names.verbatim.Goals as goal
use Rattle.path_within.proofs.lemmas.below.BoundLemmas.{length-le-slashed_len}
use Rattle.path_within.proofs.lemmas.below.BoundLemmas.{slashed_len-names}

pub invariant_of-result : goal.invariant_of-result
invariant_of-result c =
    let s = c.args.path.bytes.now in
    let verbatim = pieces_verbatim s c.requires in
    grind (arith, length-verbatim, slashed_len-names, length-le-slashed_len)

pub returns : goal.returns
returns c = grind (arith, slashed_len-names, length-le-slashed_len)
