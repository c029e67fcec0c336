use Rattle.std.proofs.Common.{◌≡◌, map, length, drop}
use Rattle.path_runs.specs.EditViews.{edit_value}
use Rattle.pathtool.specs.Fields.{fields_of}
use Rattle.pathtool.proofs.lemmas.answers.FieldLemmas.{edits_of_fields, edits_then}
use Rattle.pathtool.proofs.edits.edits_from.Given as goal

-- the edits so far, followed by the edits that the remaining fields name, are the edits of all
-- fields
abbrev pub invariant-loop-field : goal.invariant-loop-field
invariant-loop-field l =
    let fields = fields_of l.fields in
    edits_then (map edit_value l.edits.items) (drop (length l.yielded) fields)
    ≡ edits_of_fields fields
