use Rattle.path_runs.proofs.lemmas.edits.CongruenceLemmas.{edits_same}
use Rattle.path_runs.proofs.laws.edits.edits_congruent.Goals as goal

pub returns-clause-answers : goal.returns-clause-answers
returns-clause-answers c = λ s t ds es e h. (edits_same s t ds es e h).1

pub returns-clause-values : goal.returns-clause-values
returns-clause-values c = λ s t ds es e h. (edits_same s t ds es e h).0
