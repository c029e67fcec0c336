use Rattle.std.proofs.Common.{length, subst}
use Rattle.std.specs.Prelude.{slice_range}
use Rattle.path_runs.proofs.lemmas.gaps.GaplessRunLemmas.{is_gapless_run}
use Rattle.path_runs.proofs.lemmas.gaps.FirstGapLemmas.{slice_range-from, FirstGap}
use Rattle.path_runs.proofs.canonical.to_buffer.gapless_run_at.Goals as goal

pub returns : goal.returns
returns c =
    let s = c.args.bytes.now in
    let start = c.args.start in
    let found = c.first_gap-len in
    let first : FirstGap (slice_range s start (length s)) found.result = record {
      in_range = found.ensures.in_range;
      gap = found.ensures.gap;
      none_before = found.ensures.none_before;
    } in
    let run = is_gapless_run s start found.result c.requires.in_range c.requires.part
    (subst (λ u. FirstGap u found.result) (slice_range-from s start) first) in
    record { more = run.more; in_range = run.in_range; gap = run.gap; same = run.same }
