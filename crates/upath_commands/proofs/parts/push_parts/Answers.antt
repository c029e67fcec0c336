use Rattle.std.proofs.Common.{◌++◌, ◌∙◌, ap, map, reverse, rules, tests}
use Rattle.std.proofs.lemmas.Iterator.{YieldsList-from_map_by}
use Rattle.std.proofs.lemmas.Iterator.Consumers.{YieldsList-at}
use Rattle.unix_path.proofs.lemmas.names.ParentLemmas.{values-whole}
use Rattle.unix_path.proofs.lemmas.walks.CursorLemmas.{Components-yields, Iter-yields_back}
use Rattle.unix_path.specs.Cursor.{name_bytes}
use Rattle.unix_path.specs.Parts.{value_bytes}
use Rattle.upath_commands.specs.Answers.{record_output}
use Rattle.upath_commands.proofs.lemmas.PartLemmas.{adds_all}
use Rattle.upath_commands.proofs.lemmas.ReplyLemmas.{on_ok}
use Rattle.upath_commands.proofs.parts.push_parts.Goals as goal

pub returns-then-options : goal.returns-then-options
returns-then-options c =
    let p = c.args.path.bytes.now in
    let old = c.args.out.now.items in
    let options = c.args.options in
    rw c.if-options.true
    (on_ok c.push_each.result
    (λ h. adds_all options p c.push_each.new.out.items old
    (Iter-yields_back c.rev.ensures.source) h
    ∙ ap (λ vs. old ++ record_output options p (reverse (map value_bytes vs)))
    (values-whole p _ c.iter.ensures.rest))
    c.push_each.ensures)

pub returns : goal.returns
returns c =
    let p = c.args.path.bytes.now in
    let old = c.args.out.now.items in
    let options = c.args.options in
    rw c.if-options.false
    (on_ok c.push_each-2.result
    (λ h. adds_all options p c.push_each-2.new.out.items old
    (YieldsList-from_map_by _ name_bytes value_bytes
    (YieldsList-at c.map-parts.ensures.source (Components-yields c.components.result))
    c.map-parts.ensures.closure (λ x r q k. search (rules, tests))) h
    ∙ ap (λ vs. old ++ record_output options p (map value_bytes vs))
    (values-whole p _ c.components.ensures.rest))
    c.push_each-2.ensures)
