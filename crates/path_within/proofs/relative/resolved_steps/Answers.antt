use Rattle.std.proofs.Common.{arith}
use Rattle.std.proofs.lemmas.List.Sums.{common_prefix_len-le}
use Rattle.path_within.proofs.lemmas.backward.LayoutLemmas.{length-rootless}
use Rattle.path_within.proofs.lemmas.below.BoundLemmas.{length-le-slashed_len}
use Rattle.path_within.proofs.lemmas.backward.StepLemmas.{last_others}
use Rattle.path_within.proofs.lemmas.backward.StepLemmas.{no_relative_path-parent_dir_run}
use Rattle.path_within.proofs.lemmas.backward.StepLemmas.{relative_path-shared}
use Rattle.path_within.proofs.lemmas.backward.StepLemmas.{relative_path-parent_dir_run}
use Rattle.path_within.proofs.relative.resolved_steps.Goals as goal
use Rattle.path_within.proofs.relative.resolved_steps.Goals.{After-shared_names-shared}
use Rattle.path_within.proofs.lemmas.backward.LeadingLemmas.{remaining_parent_dirs-rooted}
use Rattle.std.proofs.lemmas.Grind.{common_steps}

pub returns-then-first-second : goal.returns-then-first-second
returns-then-first-second c = grind (arith, no_relative_path-parent_dir_run)

pub last-names-requires : goal.last-names-requires
last-names-requires c = grind (arith, last_others)

pub overflow_add-first : goal.overflow_add-first
overflow_add-first c =
    grind (arith, length-le-slashed_len, remaining_parent_dirs-rooted, length-rootless)

pub returns-then-first-second-2 : goal.returns-then-first-second-2
returns-then-first-second-2 c =
    let s = c.args.from.bytes.now in
    let t = c.args.to.bytes.now in
    grind (arith, last_others, relative_path-parent_dir_run)

pub overflow_sub-second-2 : goal.overflow_sub-second-2
overflow_sub-second-2 c = grind (arith, common_prefix_len-le)

pub overflow_sub-first : goal.overflow_sub-first
overflow_sub-first c = grind (arith, common_prefix_len-le)

pub last-names-requires-2 : goal.last-names-requires-2
last-names-requires-2 c = grind (arith, common_steps)

pub returns : goal.returns
returns c =
    let s = c.args.from.bytes.now in
    let t = c.args.to.bytes.now in
    grind (arith, common_steps, relative_path-shared)
