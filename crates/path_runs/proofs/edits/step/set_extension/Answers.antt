use Rattle.std.proofs.Common.{sym, ap, ◌∙◌, arith}
use Rattle.unix_path.specs.Buffers.{path_bytes}
use Rattle.unix_path.specs.Edits.{stem_end_of}
use Rattle.unix_path.proofs.lemmas.edits.EditLemmas.{file_name_of-stem}
use Rattle.path_runs.proofs.lemmas.edits.EditStepLemmas.{keeps-front}
use Rattle.path_runs.proofs.edits.step.set_extension.Goals as goal
use Rattle.std.proofs.lemmas.List.{append_assoc}

pub returns-clause-cache : goal.returns-clause-cache
returns-clause-cache c = grind (arith, keeps-front, append_assoc)

pub returns-clause-value : goal.returns-clause-value
returns-clause-value c = sym (file_name_of-stem (path_bytes c.args.path.now) c.in-Some.end
    (c.in-Some.ensures.value ∙ ap stem_end_of c.bytes_of.ensures))
