use Rattle.std.proofs.Common.{rules}
use Rattle.unix_path_c.proofs.lemmas.buffers.BoundLemmas.{relative_path_bound}
use Rattle.unix_path_c.proofs.relative.unix_path_relative_path.Goals as goal

pub returns-in-Some-clause-len_bound : goal.returns-in-Some-clause-len_bound
returns-in-Some-clause-len_bound c = λ is.
    relative_path_bound c.args.from.now c.args.to.now _ (search rules)
