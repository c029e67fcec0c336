use Rattle.std.proofs.Common.{sym, ap, ◌∙◌, arith}
use Rattle.unix_path.specs.Buffers.{path_bytes}
use Rattle.unix_path.specs.Extensions.{name_end_of}
use Rattle.unix_path.proofs.lemmas.names.NameEndLemmas.{file_name_of-name_end}
use Rattle.path_runs.proofs.lemmas.edits.EditStepLemmas.{keeps-front}
use Rattle.path_runs.proofs.edits.step.add_extension.Goals as goal
use Rattle.std.proofs.lemmas.List.{append_assoc}

pub returns-clause-cache : goal.returns-clause-cache
returns-clause-cache c = grind (arith, keeps-front, append_assoc)

pub returns-clause-value : goal.returns-clause-value
returns-clause-value c = sym (file_name_of-name_end (path_bytes c.args.path.now) c.in-Some.end
    (c.in-Some.ensures.value ∙ ap name_end_of c.bytes_of.ensures))
