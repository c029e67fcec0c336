use Rattle.std.proofs.Common.{◌+◌, drop, map, sym, ap, ◌∙◌, arith}
use Rattle.std.proofs.lemmas.List.{at_drop_more}
use Rattle.upath_commands.specs.Items.{item_value}
use Rattle.upath_commands.proofs.lemmas.DashLemmas.{dashes_after, dashes-operand, dashes-other}
use Rattle.upath_commands.proofs.searches.dashes_at.Goals.{in-Operand, in_default}
use Rattle.upath_commands.proofs.searches.dashes_at.Goals as goal

pub loop-item-preserved : goal.loop-item-preserved
loop-item-preserved c =
    let (bound, so_far) = c.loop-item.invariant in
    let n = c.loop-item.count in
    let next = c.loop-item.item-index + 1 in
    let rest = map item_value (drop next c.args.items.now) in
    let before = ap (dashes_after n) (sym (at_drop_more (map item_value) c.args.items.now
    c.loop-item.item-index _ c.loop-item-test.true)) ∙ so_far in
    elim c.match-item.branch [
      | in-Operand w ↦ (
        omega (arith, bound, w.count-is),
        dashes-operand n _ _ _ rest w.in-Operand.is w.count-is ∙ before,
      )
      | in_default w ↦ (
        omega (arith, bound, w.count-is),
        dashes-other n _ _ _ rest w.in_default.not-Dashes w.in_default.not-Operand w.count-is
            ∙ before,
      )
    ]
