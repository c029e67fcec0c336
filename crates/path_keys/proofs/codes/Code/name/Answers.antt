use Rattle.std.proofs.Common.{ap, ◌∙◌}
use Rattle.path_keys.specs.Codes.{code_bytes}
use Rattle.path_keys.proofs.lemmas.reading.MarkLemmas.{coded_name}
use Rattle.path_keys.proofs.codes.Code.name.Goals as goal

pub returns-in-Name-clause-value : goal.returns-in-Name-clause-value
returns-in-Name-clause-value c = λ v e.
    coded_name v c.in-Name.name.now (e ∙ ap code_bytes c.in-Name.is)
