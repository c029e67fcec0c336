use Rattle.path_tree.proofs.lemmas.entries.EntryLemmas.{keys-own, sorted-key_entries}
use Rattle.path_tree.proofs.tree.PathTree.show_entries.Goals as goal

pub returns : goal.returns
returns g c =
    let tree = c.args.self.now in
    let entries = tree.entries.entries in
    record {
      keys = keys-own entries tree.own;
      ordered = sorted-key_entries entries c.len-len.ensures.ordered;
    }
