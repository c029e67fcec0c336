use Rattle.std.proofs.Common.{ap, sym, ◌∙◌}
use Rattle.path_runs.proofs.lemmas.rows.UpdateLemmas.{elsewhere-insert_entry}
use Rattle.path_keys.specs.KeyValues.{is_own}
use Rattle.path_keys.specs.Ranges.{bytes_cmp}
use Rattle.path_tree.specs.Entries.{entry_at, key_entries}
use Rattle.path_tree.specs.KeyFilter.{may_contain}
use Rattle.path_tree.proofs.lemmas.keys.PassLemmas.{AllKeys-insert}
use Rattle.path_tree.proofs.lemmas.entries.UpdateLemmas.{bytes_exact, entry_at-lookup}
use Rattle.path_tree.proofs.lemmas.entries.UpdateLemmas.{insert-key_entries}
use Rattle.path_tree.proofs.tree.PathTree.put.Goals as goal

pub invariant_of-self : goal.invariant_of-self
invariant_of-self g c =
    let tree = c.args.self.now in
    let filter = c.insert.new.self in
    record {
      own = AllKeys-insert (λ k. k.items) is_own tree.entries.entries
          c.insert-2.new.self.entries tree.own _ c.args.key c.args.value c.requires
          c.insert-2.result c.insert-2.ensures.entries c.insert-2.ensures.err;
      filtered = AllKeys-insert (λ k. k.items) (may_contain filter) tree.entries.entries
          c.insert-2.new.self.entries
          (λ k d l. c.insert.ensures.kept _ (tree.filtered k d l))
          _ c.args.key c.args.value
          (ap (may_contain filter) (sym c.as_slice.ensures.value) ∙ c.insert.ensures.contained)
          c.insert-2.result c.insert-2.ensures.entries c.insert-2.ensures.err;
    }

pub returns-clause-entries : goal.returns-clause-entries
returns-clause-entries g c =
    c.rebuild_filter.ensures ∙ ap key_entries c.in_ok-old.ensures.entries
    ∙ insert-key_entries c.args.key c.args.value c.args.self.now.entries.entries

pub returns-clause-old : goal.returns-clause-old
returns-clause-old g c =
    c.in_ok-old.ensures.old ∙ entry_at-lookup c.args.key.items c.args.self.now.entries.entries

pub returns-clause-found : goal.returns-clause-found
returns-clause-found g c =
    let key = c.args.key.items in
    ap (entry_at key) c.rebuild_filter.ensures
    ∙ sym (entry_at-lookup key c.insert-2.new.self.entries) ∙ c.in_ok-old.ensures.updates.1

pub returns-clause-others : goal.returns-clause-others
returns-clause-others g c = elsewhere-insert_entry bytes_cmp bytes_exact _ c.args.value _ _
    (returns-clause-entries g c)
