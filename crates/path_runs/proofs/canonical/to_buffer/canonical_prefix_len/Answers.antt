use Rattle.std.proofs.Common.{arith}
use Rattle.path_runs.proofs.lemmas.gaps.GaplessLemmas.{gap_or_end-length}
use Rattle.path_runs.proofs.lemmas.gaps.GapSpellingLemmas.{spelling_of-run, spelling_of-short}
use Rattle.path_runs.proofs.canonical.to_buffer.canonical_prefix_len.Goals as goal
use Rattle.path_runs.proofs.lemmas.gaps.FirstGapLemmas.{no_parts_after_end}
use Rattle.std.proofs.lemmas.Grind.{common_steps}

pub returns-then-bytes-lt2-clause-spelling : goal.returns-then-bytes-lt2-clause-spelling
returns-then-bytes-lt2-clause-spelling c =
    grind (arith, common_steps, spelling_of-short, no_parts_after_end)

pub returns-clause-spelling : goal.returns-clause-spelling
returns-clause-spelling c =
    spelling_of-run c.args.bytes.now c.first_gap.result c.if-bytes-lt2.false c.requires
    (record {
      in_range = c.first_gap.ensures.in_range;
      gap = c.first_gap.ensures.gap;
      none_before = c.first_gap.ensures.none_before;
    })

pub returns-then-bytes-lt2-clause-fits : goal.returns-then-bytes-lt2-clause-fits
returns-then-bytes-lt2-clause-fits c =
    gap_or_end-length c.args.bytes.now _ (omega arith) (λ more. absurd (omega arith))

pub returns-clause-fits : goal.returns-clause-fits
returns-clause-fits c = gap_or_end-length c.args.bytes.now c.first_gap.result
    c.first_gap.ensures.in_range c.first_gap.ensures.gap
