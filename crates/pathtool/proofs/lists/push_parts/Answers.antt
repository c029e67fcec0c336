use Rattle.std.proofs.Common.{ap, map, rules, tests}
use Rattle.std.proofs.lemmas.Iterator.{YieldsList-from_map_by}
use Rattle.std.proofs.lemmas.Iterator.Consumers.{YieldsList-at}
use Rattle.unix_path.proofs.lemmas.walks.CursorLemmas.{Components-yields}
use Rattle.unix_path.specs.Cursor.{name_bytes}
use Rattle.unix_path.specs.Parts.{value_bytes}
use Rattle.pathtool.proofs.lemmas.answers.AddLemmas.{adds}
use Rattle.pathtool.proofs.lemmas.answers.TabbedLemmas.{adds_list}
use Rattle.unix_path.proofs.lemmas.names.ParentLemmas.{values-whole}
use Rattle.pathtool.specs.Fields.{tabs}
use Rattle.pathtool.proofs.lists.push_parts.Goals as goal

pub returns : goal.returns
returns c =
    let parts = values-whole c.args.path.bytes.now _ c.components.ensures.rest in
    adds c.push_list.result c.push_list.new.answer.items c.args.answer.now.items
    (ap (λ values. tabs (map value_bytes values)) parts)
    (adds_list c.push_list.result _ _
    (YieldsList-from_map_by _ name_bytes value_bytes
    (YieldsList-at c.map.ensures.source (Components-yields c.components.result))
    c.map.ensures.closure (λ x r q k. search (rules, tests)))
    c.push_list.ensures)
