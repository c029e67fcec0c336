use Rattle.std.proofs.Common.{rules, ap, sym, ◌∙◌}
use Rattle.upath_commands.specs.Records.{paths_of}
use Rattle.upath_commands.specs.Sorting.{firsts_if}
use Rattle.upath_commands.proofs.lemmas.CallLemmas.{replied_nothing}
use Rattle.upath_commands.proofs.lemmas.RunLemmas.{chosen_streamed}
use Rattle.upath_commands.proofs.runs.answer_operands.Goals as goal

pub returns-in_err-paths : goal.returns-in_err-paths
returns-in_err-paths g c =
    replied_nothing g.W.Sink g.E.Sink _ c.from_residual.result _ _ (search rules) (search rules)
    (search rules) c.requires

pub returns-then-is_gathered : goal.returns-then-is_gathered
returns-then-is_gathered g c = rw (sym c.in_ok-paths.ensures.items) c.answer_gathered.ensures

pub returns : goal.returns
returns g c =
    let paths = paths_of c.args.paths.now in
    let task = c.args.task.now in
    rw (sym (c.new-selection.ensures paths
    ∙ ap (λ is. firsts_if is paths) c.is_uniq.ensures
    ∙ chosen_streamed task.command task.options paths
    (sym c.is_gathered.ensures ∙ c.if-is_gathered.false)))
    c.answer_paths.ensures.replied
