use Rattle.std.proofs.Common.{◌≡◌, [], ◌∷◌, ◌∙◌, ap, rules, subst, sym}
use Rattle.std.proofs.lemmas.List.Elements.{All-nil}
use Rattle.path_tree.specs.KeyFilter.{may_contain}
use Rattle.path_tree.proofs.lemmas.keys.FilterLemmas.{FiltersRest, filters_more}
use Rattle.path_tree.proofs.lemmas.keys.PassLemmas.{AllKeys}
use Rattle.path_tree.proofs.lemmas.keys.OwnLemmas.{Key}
use Rattle.path_tree.proofs.key_filter.KeyFilter.from_keys.Goals as goal

pub loop-key-preserved : goal.loop-key-preserved
loop-key-preserved g c =
    let rest = c.next.new.self in
    let key = c.in-Some.key.now in
    let e : Key × g.row.V.Denot = (key, c.in-Some.field-0-1.now) in
    let all = c.args.entries.now.entries in
    let new = may_contain c.insert.new.self in
    let steps : c.loop-key.key-iterator ≡ e ∷ rest = search rules in (
      tt,
      tt,
      filters_more (λ (k : Key). k.items) (may_contain c.loop-key.filter) new e rest all
          (subst
          (λ remaining. FiltersRest (λ (k : Key). k.items)
          (may_contain c.loop-key.filter) remaining all)
          steps c.loop-key.invariant.2)
          (ap new (sym c.as_slice.ensures.value) ∙ c.insert.ensures.contained)
          c.insert.ensures.kept,
    )

pub returns : goal.returns
returns g c =
    let has = may_contain c.loop-key.filter in
    let none : c.loop-key.key-iterator ≡ [] = search rules in
    c.loop-key.invariant.2 has (λ key is. is)
    (subst (AllKeys (λ (k : Key). k.items) has) (sym none) (All-nil _))
