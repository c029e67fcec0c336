use Rattle.std.proofs.Common.{◌∙◌, sym}
use Rattle.path_tree.specs.KeyFilter.{may_contain}
use Rattle.path_tree.proofs.lemmas.keys.FilterLemmas.{lookup-filtered}
use Rattle.path_tree.proofs.lemmas.entries.UpdateLemmas.{entry_at-lookup}
use Rattle.path_tree.proofs.tree.PathTree.find_filtered.Goals as goal

pub returns-then-not-may_contain : goal.returns-then-not-may_contain
returns-then-not-may_contain g c =
    let tree = c.args.self.now in
    let entries = tree.entries.entries in
    let key = c.args.key.now in
    sym (lookup-filtered (λ k. k.items) (may_contain tree.key_filter) key
    (sym c.may_contain.ensures ∙ c.if-not-may_contain.true) entries tree.filtered)
    ∙ entry_at-lookup key entries
