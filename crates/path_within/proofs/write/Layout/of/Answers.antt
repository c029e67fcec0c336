use Rattle.std.proofs.Common.{append-nil, arith}
use Rattle.path_within.proofs.lemmas.backward.LayoutLemmas.{no_parent_dirs}
use Rattle.path_within.proofs.lemmas.backward.StepLemmas.{last_others}
use Rattle.path_within.proofs.lemmas.names_only.NamesOnlyLemmas.{is_names_only-rootless}
use Rattle.path_within.proofs.write.Layout.of.Goals as goal
use Rattle.path_within.proofs.lemmas.backward.LeadingLemmas.{resolved_of-rooted}
use Rattle.path_within.proofs.lemmas.backward.LeadingLemmas.{resolved_of-rootless}

pub verbatim-requires : goal.verbatim-requires
verbatim-requires c = is_names_only-rootless c.trimmed-trimmed_path.result.bytes.now
    (c.is_names_only.ensures c.if-is_names_only.true)
    c.trimmed-trimmed_path.ensures.rootless

pub returns-then-is_names_only-clause-values : goal.returns-then-is_names_only-clause-values
returns-then-is_names_only-clause-values c =
    grind (arith, no_parent_dirs, append-nil, resolved_of-rooted, resolved_of-rootless)

pub returns-clause-names : goal.returns-clause-names
returns-clause-names c = grind (arith, last_others)

pub returns-clause-values : goal.returns-clause-values
returns-clause-values c =
    grind (arith, last_others, append-nil, resolved_of-rooted, resolved_of-rootless)
