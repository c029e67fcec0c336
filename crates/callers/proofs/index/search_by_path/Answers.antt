use Rattle.std.proofs.Common.{rules, tests}
use Rattle.std.proofs.lemmas.Fn.{always_returns_same}
use Rattle.unix_path.specs.Buffers.{path_bytes}
use Rattle.unix_path.specs.Order.{values_cmp}
use Rattle.unix_path.specs.Parts.{values}
use Rattle.callers.proofs.index.search_by_path.Goals as goal

pub returns-clause-search_result : goal.returns-clause-search_result
returns-clause-search_result g c = c.binary_search_by.ensures.position
    (λ file. values_cmp (values (path_bytes file.0)) (values c.args.path.bytes.now))
    (always_returns_same _ _ _ (λ a r h k. search (rules, tests)))
