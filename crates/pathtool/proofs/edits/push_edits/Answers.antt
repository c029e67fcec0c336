use Rattle.std.proofs.Common.{Some, map, option_map, ap, sym, ◌∙◌}
use Rattle.path_runs.specs.EditViews.{edit_value}
use Rattle.pathtool.specs.Fields.{fields_of}
use Rattle.pathtool.proofs.lemmas.answers.FieldLemmas.{edited_answer, edited_answer-fields}
use Rattle.pathtool.proofs.lemmas.answers.AddLemmas.{adds}
use Rattle.pathtool.proofs.edits.push_edits.Goals as goal

pub returns-in-Some : goal.returns-in-Some
returns-in-Some c =
    let path = c.args.path.bytes.now in
    let says = sym c.in_ok-edits.ensures
    ∙ ap (option_map (λ edits. map edit_value edits.items)) c.in-Some.is in
    adds c.push_edited.result _ _
    (ap (λ edits. edited_answer path (Some (map edit_value edits))) c.as_slice.ensures.value
    ∙ ap (edited_answer path) (sym says)
    ∙ edited_answer-fields path (fields_of c.args.fields.now))
    c.push_edited.ensures

pub returns-in-None : goal.returns-in-None
returns-in-None c =
    let path = c.args.path.bytes.now in
    let says = sym c.in_ok-edits.ensures
    ∙ ap (option_map (λ edits. map edit_value edits.items)) c.in-None.is in
    adds c.push_bad_command.result _ _
    (ap (edited_answer path) (sym says)
    ∙ edited_answer-fields path (fields_of c.args.fields.now))
    c.push_bad_command.ensures
