use Rattle.std.proofs.Common.{◌∙◌}
use Rattle.std.proofs.lemmas.Iterator.Adapters.{YieldsList-from_vec, fact_from_collect}
use Rattle.std.specs.BTreeMap.{IsFromIterResult}
use Rattle.path_keys.specs.Ranges.{bytes_cmp}
use Rattle.path_tree.proofs.tree.sorted.map_of.Goals as goal

pub returns : goal.returns
returns g c =
    fact_from_collect (IsFromIterResult (λ k l. bytes_cmp k.items l.items)) c.collect.result
    c.collect.ensures.ran
    (YieldsList-from_vec c.args.entries.items c.into_iter.ensures.rest
    (c.into_iter.ensures.len ∙ c.args.entries.ok.0))
