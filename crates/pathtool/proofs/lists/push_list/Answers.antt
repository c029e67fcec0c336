use Rattle.std.proofs.Common.{[], ◌∷◌, ◌++◌, ap, sym, ◌∙◌}
use Rattle.std.proofs.lemmas.List.{map-append}
use Rattle.pathtool.proofs.lemmas.answers.TabbedLemmas.{adds_item, names_bytes}
use Rattle.pathtool.proofs.lists.push_list.Goals as goal

pub loop-item-preserved : goal.loop-item-preserved
loop-item-preserved g c =
    let names = c.loop-item.yielded in
    let name = c.in-Some.item in
    let (first, so_far) = c.loop-item.invariant in
    adds_item (names_bytes names) c.as_bytes.result.now _ _ _ _
    (map-append (λ name. name.bytes.now) names (name ∷ [])
    ∙ ap (λ bytes. names_bytes names ++ bytes ∷ []) (sym c.as_bytes.ensures.bytes))
    first so_far c.in_ok-push_item.ensures
