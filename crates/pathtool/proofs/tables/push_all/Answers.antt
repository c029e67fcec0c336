use Rattle.std.proofs.Common.{◌++◌, ap, ◌∙◌, map}
use Rattle.std.proofs.lemmas.List.{map_more, take_all}
use Rattle.pathtool.specs.Fields.{tabs}
use Rattle.pathtool.proofs.lemmas.answers.TableLemmas.{row_spelling}
use Rattle.pathtool.proofs.lemmas.answers.TabbedLemmas.{adds_item}
use Rattle.pathtool.proofs.tables.push_all.Goals as goal

pub loop-path-preserved : goal.loop-path-preserved
loop-path-preserved c =
    let (first, so_far) = c.loop-path.invariant in
    adds_item _ _ _ _ _ _
    (map_more row_spelling c.args.paths.now c.loop-path.path-index _ c.loop-path-test.true)
    first so_far c.in_ok-push_canon_item.ensures

pub returns : goal.returns
returns c =
    c.loop-path.invariant.1
    ∙ ap (λ paths. c.args.answer.now.items ++ tabs (map row_spelling paths))
    (take_all c.loop-path.path-index c.args.paths.now c.loop-path-test.false)
