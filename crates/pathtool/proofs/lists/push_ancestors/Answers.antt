use Rattle.std.proofs.Common.{length, ap, map-id, subst, rules, tests}
use Rattle.std.proofs.lemmas.Iterator.{YieldsList, YieldsList-from_map_by}
use Rattle.std.proofs.lemmas.Iterator.Consumers.{YieldsList-at, YieldsList-from_shown}
use Rattle.unix_path.specs.Cursor.{name_bytes}
use Rattle.unix_path.specs.Ancestors.{GivesAncestor, remaining_ancestors}
use Rattle.unix_path.specs.Parents.{ancestors_of}
use Rattle.pathtool.proofs.lemmas.answers.AddLemmas.{adds}
use Rattle.pathtool.proofs.lemmas.answers.TabbedLemmas.{adds_list}
use Rattle.pathtool.specs.Fields.{tabs}
use Rattle.pathtool.proofs.lists.push_ancestors.Goals as goal

pub returns : goal.returns
returns c =
    let all = ancestors_of c.args.path.bytes.now in
    adds c.push_list.result c.push_list.new.answer.items c.args.answer.now.items
    (ap tabs (map-id all))
    (adds_list c.push_list.result _ _
    (YieldsList-from_map_by _ name_bytes (λ bytes. bytes)
    (YieldsList-at c.map.ensures.source
    (subst (YieldsList GivesAncestor (λ path. path.bytes.now) c.ancestors.result)
    c.ancestors.ensures.pending
    (YieldsList-from_shown GivesAncestor (λ path. path.bytes.now) remaining_ancestors
    (λ s t h. ap length h.item_is.0) (λ s x t h. h.item_is) c.ancestors.result)))
    c.map.ensures.closure (λ x r q k. search (rules, tests)))
    c.push_list.ensures)
