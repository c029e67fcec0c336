use Rattle.std.proofs.Common.{ap, sym, ◌∙◌}
use Rattle.path_runs.proofs.lemmas.rows.UpdateLemmas.{elsewhere-remove_entry}
use Rattle.path_keys.specs.KeyValues.{is_own}
use Rattle.path_keys.specs.Ranges.{bytes_cmp}
use Rattle.path_tree.specs.Entries.{key_entries}
use Rattle.path_tree.specs.KeyFilter.{may_contain}
use Rattle.path_tree.proofs.lemmas.keys.PassLemmas.{AllKeys-remove}
use Rattle.path_tree.proofs.lemmas.entries.UpdateLemmas.{bytes_exact, entry_at-lookup}
use Rattle.path_tree.proofs.lemmas.entries.UpdateLemmas.{remove-key_entries}
use Rattle.path_tree.proofs.tree.PathTree.take.Goals as goal

pub invariant_of-self : goal.invariant_of-self
invariant_of-self g c =
    let tree = c.args.self.now in
    record {
      own = AllKeys-remove (λ k. k.items) is_own tree.entries.entries
          c.remove.new.self.entries tree.own _ c.remove.ensures.entries;
      filtered = AllKeys-remove (λ k. k.items) (may_contain tree.key_filter) tree.entries.entries
          c.remove.new.self.entries tree.filtered _ c.remove.ensures.entries;
    }

pub returns-clause-value : goal.returns-clause-value
returns-clause-value g c =
    c.remove.ensures.value ∙ entry_at-lookup c.args.key.now c.args.self.now.entries.entries

pub returns-clause-entries : goal.returns-clause-entries
returns-clause-entries g c =
    ap key_entries c.remove.ensures.entries
    ∙ remove-key_entries c.args.key.now c.args.self.now.entries.entries

pub returns-clause-gone : goal.returns-clause-gone
returns-clause-gone g c =
    sym (entry_at-lookup c.args.key.now c.remove.new.self.entries) ∙ c.remove.ensures.updates.1

pub returns-clause-others : goal.returns-clause-others
returns-clause-others g c = elsewhere-remove_entry bytes_cmp bytes_exact _ _ _
    (returns-clause-entries g c)
