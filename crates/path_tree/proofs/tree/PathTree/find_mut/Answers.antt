use Rattle.std.proofs.Common.{ap, refl, ◌∙◌}
use Rattle.path_tree.specs.Entries.{key_entries}
use Rattle.path_tree.proofs.lemmas.entries.UpdateLemmas.{entry_at-lookup, set_value-key_entries}
use Rattle.path_tree.proofs.tree.PathTree.find_mut.Goals as goal

pub returns : goal.returns
returns g c =
    let follows = c.get_mut.follows in
    let entries = c.args.self.now.entries.entries in
    let key = c.args.key.now in (
      (
        refl,
        λ x. ap key_entries (follows.holds x).0 ∙ set_value-key_entries key entries x,
        ap (λ m. key_entries m.entries) follows.holds-at-none,
      ),
      record {
        writes_back = tt;
        value = c.get_mut.ensures.value ∙ entry_at-lookup key entries;
      },
    )
