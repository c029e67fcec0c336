use Rattle.std.proofs.Common.{rules, ap, sym, ◌∙◌}
use Rattle.upath_commands.specs.Records.{paths_of, records_of}
use Rattle.upath_commands.proofs.lemmas.CallLemmas.{replied_nothing}
use Rattle.upath_commands.proofs.engine.answer_records.Goals as goal

pub returns-in_err-paths-clause-replied : goal.returns-in_err-paths-clause-replied
returns-in_err-paths-clause-replied g c =
    replied_nothing g.W.Sink g.E.Sink _ c.from_residual.result _ _ (search rules) (search rules)
    (search rules) c.requires

pub returns-clause-replied : goal.returns-clause-replied
returns-clause-replied g c =
    rw (sym (ap paths_of c.as_slice.ensures.value ∙ c.in_ok-paths.ensures
    ∙ ap (λ end. records_of end c.args.bytes.now) c.end_of.ensures))
    c.answer_paths.ensures.replied
