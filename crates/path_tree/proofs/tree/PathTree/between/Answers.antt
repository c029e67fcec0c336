use Rattle.std.proofs.Common.{arith}
use Rattle.std.proofs.Common.{◌∙◌, ◌&&◌, ap, eqb, is_le, not}
use Rattle.std.specs.List.{starts_with}
use Rattle.path_keys.specs.Ranges.{bytes_cmp}
use Rattle.path_tree.specs.Entries.{key_entries}
use Rattle.path_tree.proofs.lemmas.keys.UnderLemmas.{forward}
use Rattle.path_tree.proofs.lemmas.entries.EntryLemmas.{between-starts, filter-key_entries}
use Rattle.path_tree.proofs.lemmas.entries.EntryLemmas.{sorted-key_entries}
use Rattle.path_tree.proofs.lemmas.entries.WalkLemmas.{sorted-filter}
use Rattle.path_tree.proofs.tree.PathTree.between.Goals as goal

pub range-requires : goal.range-requires
range-requires g c = forward c.args.first.now.items c.args.end.now.items c.requires

pub returns-clause-entries : goal.returns-clause-entries
returns-clause-entries g c =
    let first = c.args.first.now.items in
    let end = c.args.end.now.items in
    ap key_entries (c.range.ensures.between tt)
    ∙ filter-key_entries
    (λ k. is_le (bytes_cmp first k.items) && not (is_le (bytes_cmp end k.items)))
    (λ key. starts_with eqb key first)
    (λ k. between-starts first end k.items c.requires) c.args.self.now.entries.entries

pub returns-clause-ordered : goal.returns-clause-ordered
returns-clause-ordered g c =
    grind (arith, returns-clause-entries, sorted-filter, sorted-key_entries)
