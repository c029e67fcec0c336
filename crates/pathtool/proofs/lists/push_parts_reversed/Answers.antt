use Rattle.std.proofs.Common.{ap, map, reverse}
use Rattle.unix_path.proofs.lemmas.walks.CursorLemmas.{Iter-yields_back}
use Rattle.unix_path.specs.Parts.{value_bytes}
use Rattle.pathtool.proofs.lemmas.answers.AddLemmas.{adds}
use Rattle.pathtool.proofs.lemmas.answers.TabbedLemmas.{adds_list}
use Rattle.unix_path.proofs.lemmas.names.ParentLemmas.{values-whole}
use Rattle.pathtool.specs.Fields.{tabs}
use Rattle.pathtool.proofs.lists.push_parts_reversed.Goals as goal

pub returns : goal.returns
returns c =
    let parts = values-whole c.args.path.bytes.now _ c.iter.ensures.rest in
    adds c.push_list.result c.push_list.new.answer.items c.args.answer.now.items
    (ap (λ values. tabs (reverse (map value_bytes values))) parts)
    (adds_list c.push_list.result _ _ (Iter-yields_back c.rev.ensures.source) c.push_list.ensures)
