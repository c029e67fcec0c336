use Rattle.std.proofs.Common.{◌∙◌, ap, arith, eqb, length, not, refl, rules}
use Rattle.std.proofs.lemmas.List.Filters.{length-filter_both}
use Rattle.std.proofs.lemmas.Map.Made.{filter_same_pairs}
use Rattle.std.specs.List.{starts_with}
use Rattle.path_keys.specs.Held.{key_bytes}
use Rattle.path_keys.specs.KeyValues.{is_own}
use Rattle.path_tree.specs.Entries.{entries_outside, key_entries}
use Rattle.path_tree.specs.KeyFilter.{may_contain}
use Rattle.path_tree.specs.Tree.{entries_of}
use Rattle.path_tree.proofs.lemmas.entries.EntryLemmas.{filter-key_entries, length-key_entries}
use Rattle.path_tree.proofs.lemmas.keys.PassLemmas.{AllKeys-filter}
use Rattle.path_tree.proofs.tree.PathTree.remove_under.Goals as goal

pub invariant_of-self : goal.invariant_of-self
invariant_of-self g c =
    let tree = c.args.self.now in
    let base = c.bytes_of-base.result.now in
    let kept = filter_same_pairs _ (λ e. not (starts_with eqb e.0.items base)) _
    (λ k v b w f t. search rules) _ _ c.retain.ensures.filtered in
    record {
      own = AllKeys-filter (λ k. k.items) is_own tree.entries.entries
          c.retain.new.self.entries tree.own _ kept;
      filtered = AllKeys-filter (λ k. k.items) (may_contain tree.key_filter) tree.entries.entries
          c.retain.new.self.entries tree.filtered _ kept;
    }

pub returns-clause-entries : goal.returns-clause-entries
returns-clause-entries g c =
    let tree = c.args.self.now in
    let base = c.bytes_of-base.result.now in
    let kept = filter_same_pairs _ (λ e. not (starts_with eqb e.0.items base)) _
    (λ k v b w f t. search rules) _ _ c.retain.ensures.filtered in
    ap key_entries kept
    ∙ filter-key_entries (λ k. not (starts_with eqb k.items base))
    (λ key. not (starts_with eqb key base)) (λ k. refl) tree.entries.entries
    ∙ ap (λ b. entries_outside b (entries_of tree)) c.bytes_of-base.ensures.bytes

pub returns-clause-count : goal.returns-clause-count
returns-clause-count g c =
    let base = key_bytes c.args.base.now in
    let both = length-filter_both (λ e. starts_with eqb e.0 base)
    (λ e. not (starts_with eqb e.0 base)) (λ e. refl) (entries_of c.args.self.now) in
    let after = ap length (returns-clause-entries g c) in
    omega (
      arith,
      both,
      after,
      c.len-before.ensures.len,
      c.len.ensures.len,
      length-key_entries c.args.self.now.entries.entries,
      length-key_entries c.retain.new.self.entries,
    )
