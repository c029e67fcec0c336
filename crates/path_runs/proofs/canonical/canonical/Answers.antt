use Rattle.std.proofs.Common.{arith}
use Rattle.path_runs.proofs.lemmas.gaps.GapSpellingLemmas.{spelling_of-run, spelling_of-whole}
use Rattle.path_runs.proofs.canonical.canonical.Goals as goal

pub returns-then-bytes-lt2-clause-bytes : goal.returns-then-bytes-lt2-clause-bytes
returns-then-bytes-lt2-clause-bytes c =
    let bytes = c.trimmed-bytes in
    let own =
    spelling_of-whole bytes.result.now c.first_gap-gap.result bytes.ensures.ends
    (record {
      in_range = c.first_gap-gap.ensures.in_range;
      gap = c.first_gap-gap.ensures.gap;
      none_before = c.first_gap-gap.ensures.none_before;
    }) c.then-bytes-lt2.either in
    grind arith

pub returns-clause-bytes : goal.returns-clause-bytes
returns-clause-bytes c =
    let bytes = c.trimmed-bytes in
    grind (arith, spelling_of-run)
