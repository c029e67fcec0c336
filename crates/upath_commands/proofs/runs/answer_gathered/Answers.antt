use Rattle.std.proofs.Common.{rules, ap, sym, ◌∙◌}
use Rattle.upath_commands.specs.Records.{paths_of}
use Rattle.upath_commands.proofs.lemmas.CallLemmas.{replied_nothing}
use Rattle.upath_commands.proofs.runs.answer_gathered.Goals as goal

pub returns-in_err-choose : goal.returns-in_err-choose
returns-in_err-choose g c =
    replied_nothing g.W.Sink g.E.Sink _ c.from_residual.result _ _ (search rules) (search rules)
    (search rules) c.requires.write

pub returns : goal.returns
returns g c =
    rw (sym (ap paths_of c.as_slice.ensures.value ∙ c.in_ok-choose.ensures))
    c.answer_paths.ensures.replied
