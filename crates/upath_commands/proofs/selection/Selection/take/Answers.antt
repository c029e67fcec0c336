use Rattle.upath_commands.proofs.lemmas.SelectionLemmas.{take_first}
use Rattle.upath_commands.proofs.selection.Selection.take.Goals as goal

pub returns-in_ok-old-in-Firsts-clause-rest : goal.returns-in_ok-old-in-Firsts-clause-rest
returns-in_ok-old-in-Firsts-clause-rest c =
    take_first c.args.self.now c.in-Firsts.table _ _ _ _ c.in-Firsts.is
    c.in_ok-to_path_buf-in-Firsts.ensures.bytes c.in_ok-old-in-Firsts.ensures.found
    c.in_ok-old-in-Firsts.ensures.others
