use Rattle.std.proofs.lemmas.Grind.{common_steps}
use Rattle.std.proofs.Common.{refl, sym, ap, ◌∙◌, ◌-◌, subst, arith}
use Rattle.unix_path.specs.Cursor.{cursor_rest}
use Rattle.unix_path.specs.Views.{value_of}
use Rattle.path_tree.specs.Entries.{entry_at}
use Rattle.path_tree.specs.Tree.{entries_of}
use Rattle.path_tree.proofs.lemmas.keys.NearestLemmas.{GoesUp, code_fits, goes_on, goes_up}
use Rattle.path_tree.proofs.lemmas.keys.NearestLemmas.{is_nearest, none_nearer}
use Rattle.path_tree.proofs.lemmas.keys.RestLemmas.{prefix-trimmed, stripped-trimmed}
use Rattle.path_tree.proofs.tree.PathTree.nearest_by.Goals as goal

pub loop-value-init : goal.loop-value-init
loop-value-init g c =
    goes_up _ _ _ _ _ c.requires refl c.components-parts.ensures.rest
    c.components-parts.ensures.values

pub rest_after-requires-clause-trimmed : goal.rest_after-requires-clause-trimmed
rest_after-requires-clause-trimmed g c = grind (arith, prefix-trimmed)

pub rest_after-requires-clause-base : goal.rest_after-requires-clause-base
rest_after-requires-clause-base g c = grind (arith, prefix-trimmed)

pub returns-in-Some-clause-nearest : goal.returns-in-Some-clause-nearest
returns-in-Some-clause-nearest g c = grind (arith, is_nearest, stripped-trimmed)

pub returns-in_default-next_back-clause-none : goal.returns-in_default-next_back-clause-none
returns-in_default-next_back-clause-none g c = grind (arith, common_steps, none_nearer)

pub overflow_sub-end : goal.overflow_sub-end
overflow_sub-end g c =
    omega (
      arith,
      c.code_len-end.ensures,
      code_fits c.args.path.bytes.now c.args.key.now (entries_of c.args.self.now) c.loop-value.end
          (cursor_rest c.loop-value.parts) (cursor_rest c.next_back.new.self)
          (value_of c.in-Some-next_back.part) c.loop-value.invariant
          c.in-Some-next_back.ensures.steps.item_is,
    )

pub loop-value-preserved : goal.loop-value-preserved
loop-value-preserved g c =
    let entries = entries_of c.args.self.now in
    let prefix = cursor_rest c.loop-value.parts in
    let new = cursor_rest c.next_back.new.self in
    subst (λ n. GoesUp c.args.path.bytes.now c.args.key.now entries (c.loop-value.end - n) new)
    (sym c.code_len-end.ensures)
    (goes_on c.args.path.bytes.now c.args.key.now entries c.loop-value.end prefix new _
    c.loop-value.invariant
    (sym (c.in_default.ensures
    ∙ ap (λ k. entry_at k entries) c.loop-value.invariant.key_is))
    c.in-Some-next_back.ensures.steps.item_is
    c.in-Some-next_back.ensures.steps.rest_is)
