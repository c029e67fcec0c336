use Rattle.std.proofs.Common.{arith}
use Rattle.std.proofs.Common.{◌≡◌, ◌∙◌, None, ap, eqb, rules, true}
use Rattle.std.specs.List.{starts_with}
use Rattle.path_keys.specs.Held.{key_bytes}
use Rattle.path_keys.specs.Ranges.{end_of}
use Rattle.path_tree.specs.Entries.{key_entries}
use Rattle.path_tree.proofs.lemmas.entries.EntryLemmas.{endless-starts, filter-key_entries}
use Rattle.path_tree.proofs.lemmas.entries.EntryLemmas.{sorted-key_entries}
use Rattle.path_tree.proofs.lemmas.entries.WalkLemmas.{sorted-filter}
use Rattle.path_tree.proofs.tree.PathTree.under.Goals as goal

pub returns-in_default-clause-entries : goal.returns-in_default-clause-entries
returns-in_default-clause-entries g c =
    let base = key_bytes c.args.base.now in
    let ends : end_of base ≡ None = search rules in
    ap key_entries (c.range.ensures.between tt)
    ∙ filter-key_entries (λ k. true) (λ key. starts_with eqb key base)
    (λ k. endless-starts base ends k.items) c.args.self.now.entries.entries

pub returns-in_default-clause-ordered : goal.returns-in_default-clause-ordered
returns-in_default-clause-ordered g c =
    grind (arith, returns-in_default-clause-entries, sorted-filter, sorted-key_entries)
