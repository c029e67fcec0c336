use Rattle.std.proofs.Common.{◌≡◌, ◌∙◌, ◌∷◌, [], ap, ap₂, eqb, rules, sym}
use Rattle.std.specs.List.{starts_with}
use Rattle.path_tree.specs.Entries.{entries_under, key_entries}
use Rattle.path_tree.specs.Tree.{entries_of}
use Rattle.path_tree.proofs.lemmas.entries.FirstUnderLemmas.{none_under_first, some_under}
use Rattle.path_tree.proofs.lemmas.entries.FirstUnderLemmas.{under-rest}
use Rattle.path_tree.proofs.lemmas.keys.OwnLemmas.{Key}
use Rattle.path_tree.proofs.tree.PathTree.has_under.Goals as goal

pub returns-in-Some-clause-some : goal.returns-in-Some-clause-some
returns-in-Some-clause-some g c = λ is none.
    let tree = c.args.self.now in
    let base = c.vec_of-base.result.now.items in
    let e : Key × g.row.V.Denot = (c.in-Some.key.now, c.in-Some.field-0-1.now) in
    let first : c.range.result ≡ e ∷ c.next.new.self = search rules in
    some_under base tree.entries.entries c.range.ensures.ordered c.range.result
    (c.range.ensures.between tt) e c.next.new.self first
    (ap₂ (starts_with eqb) (sym c.as_slice.ensures.value) (sym c.deref.ensures.value)
    ∙ sym c.starts_with.ensures.value ∙ is)
    (ap (λ b. entries_under b (entries_of tree)) c.vec_of-base.ensures.bytes ∙ none)

pub returns-in-Some-clause-none : goal.returns-in-Some-clause-none
returns-in-Some-clause-none g c = λ is.
    let tree = c.args.self.now in
    let base = c.vec_of-base.result.now.items in
    let e : Key × g.row.V.Denot = (c.in-Some.key.now, c.in-Some.field-0-1.now) in
    let first : c.range.result ≡ e ∷ c.next.new.self = search rules in
    ap (λ b. entries_under b (entries_of tree)) (sym c.vec_of-base.ensures.bytes)
    ∙ none_under_first base tree.entries.entries c.range.ensures.ordered c.range.result
    (c.range.ensures.between tt) e c.next.new.self first
    (ap₂ (starts_with eqb) (sym c.as_slice.ensures.value) (sym c.deref.ensures.value)
    ∙ sym c.starts_with.ensures.value ∙ is)

pub returns-in-None-clause-none : goal.returns-in-None-clause-none
returns-in-None-clause-none g c = λ _.
    let tree = c.args.self.now in
    let base = c.vec_of-base.result.now.items in
    let none : c.range.result ≡ [] = search rules in
    ap (λ b. entries_under b (entries_of tree)) (sym c.vec_of-base.ensures.bytes)
    ∙ sym (under-rest base tree.entries.entries c.range.ensures.ordered c.range.result
    (c.range.ensures.between tt))
    ∙ ap (λ l. entries_under base (key_entries l)) none
