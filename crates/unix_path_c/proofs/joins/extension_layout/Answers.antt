use Rattle.std.proofs.Common.{sym, ◌∙◌}
use Rattle.std.specs.Option.{option_to_list}
use Rattle.unix_path.proofs.lemmas.edits.EditLemmas.{with_extension_of-none, with_extension_of-some}
use Rattle.unix_path_c.proofs.joins.extension_layout.Goals as goal

pub returns-in_default : goal.returns-in_default
returns-in_default c = c.unchanged_layout.ensures
    ∙ sym (with_extension_of-none c.args.path.bytes.now c.args.extension.now
    c.in_default.ensures.value)

pub returns : goal.returns
returns c =
    sym (with_extension_of-some c.args.path.bytes.now c.args.extension.now
    (option_to_list c.dot_before.result) c.in-Some.end c.in-Some.ensures.value
    c.dot_before.ensures)
