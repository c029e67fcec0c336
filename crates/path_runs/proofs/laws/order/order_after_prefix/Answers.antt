use Rattle.unix_path.proofs.lemmas.callers.CallerLemmas.{values_cmp-common_dir}
use Rattle.unix_path.proofs.lemmas.order.CommonPrefixLemmas.{values_cmp-slash}
use Rattle.path_runs.proofs.laws.order.order_after_prefix.Goals as goal

pub returns-clause-slash : goal.returns-clause-slash
returns-clause-slash c = values_cmp-slash

pub returns-clause-common_dir : goal.returns-clause-common_dir
returns-clause-common_dir c = λ s t some. values_cmp-common_dir s t some
