use Rattle.std.proofs.Common.{ap, take, ◌-◌, arith}
use Rattle.path_keys.proofs.lemmas.spelling.LastNamesLemmas.{names_remain}
use Rattle.path_keys.proofs.runs.next_run.Goals as goal

pub returns-then-max_len-gt0-clause-some : goal.returns-then-max_len-gt0-clause-some
returns-then-max_len-gt0-clause-some c =
    let s = c.args.bytes.now in
    names_remain _ s c.args.max_len c.requires (omega arith) (omega arith)
    (ap (λ n. take (n - 1) s) (omega arith))
