use Rattle.std.proofs.Common.{length, rules}
use Rattle.std.proofs.lemmas.Iterator.{items_from_collect, YieldsList-from_map}
use Rattle.std.proofs.lemmas.Iterator.Consumers.{YieldsList-at}
use Rattle.unix_path.proofs.lemmas.walks.CursorLemmas.{Iter-yields_back}
use Rattle.path_runs_tests.proofs.runs.callers.name_lengths_back.Goals as goal

pub returns : goal.returns
returns c =
    items_from_collect _ c.collect.ensures.ran
    (YieldsList-from_map _ length
    (YieldsList-at c.map.ensures.source (Iter-yields_back c.rev.ensures.source))
    c.map.ensures.closure (λ x r q k. search rules))
