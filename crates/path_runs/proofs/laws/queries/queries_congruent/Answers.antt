use Rattle.std.proofs.Common.{arith}
use Rattle.path_runs.proofs.lemmas.edits.EqualPathLemmas.{ancestors_same}
use Rattle.path_runs.proofs.lemmas.edits.EqualPathLemmas.{stripped_of-same}
use Rattle.path_runs.proofs.lemmas.edits.CongruenceLemmas.{rests_same, with_name_same}
use Rattle.path_runs.proofs.lemmas.edits.CongruenceLemmas.{with_extension_same}
use Rattle.path_runs.proofs.lemmas.edits.CongruenceLemmas.{added_extension_same}
use Rattle.path_runs.proofs.lemmas.joins.LeadLemmas.{joins_same, roots_same}
use Rattle.path_runs.proofs.laws.queries.queries_congruent.Goals as goal
use Rattle.unix_path.specs.Parents.{parent_of}

pub returns : goal.returns
unfolding parent_of
returns c = grind (
  arith,
  roots_same,
  ancestors_same,
  rests_same,
  stripped_of-same,
  joins_same,
  with_name_same,
  with_extension_same,
  added_extension_same,
)
