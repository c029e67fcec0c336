use Rattle.std.proofs.Common.{ap, ◌∙◌}
use Rattle.unix_path.specs.Parts.{values}
use Rattle.unix_path.proofs.lemmas.parts.PartLemmas.{values-nil, values-none}
use Rattle.path_runs.proofs.laws.parts.no_part_no_byte.Goals as goal

pub returns : goal.returns
returns c = record { iff = λ s. (values-none s, λ e. ap values e ∙ values-nil); empty = values-nil }
