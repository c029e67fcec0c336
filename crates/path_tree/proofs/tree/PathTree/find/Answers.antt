use Rattle.std.proofs.Common.{◌∙◌}
use Rattle.path_tree.proofs.lemmas.entries.UpdateLemmas.{entry_at-lookup}
use Rattle.path_tree.proofs.tree.PathTree.find.Goals as goal

pub returns : goal.returns
returns g c =
    c.get.ensures.value ∙ entry_at-lookup c.args.key.now c.args.self.now.entries.entries
