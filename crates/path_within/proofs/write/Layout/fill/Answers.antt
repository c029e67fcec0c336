use Rattle.std.proofs.Common.{◌≡◌, ◌-◌, ◌∷◌, ap, sym, ◌∙◌, arith, length, take, drop}
use Rattle.std.proofs.Common.{length-drop, length-take}
use Rattle.unix_path.specs.Parts.{slash}
use Rattle.path_within.proofs.lemmas.backward.LayoutLemmas.{first_fits, layout-rooted}
use Rattle.path_within.proofs.lemmas.backward.LayoutLemmas.{layout-rootless, length-rooted_layout}
use Rattle.path_within.proofs.lemmas.backward.LayoutLemmas.{slash_first, length-rootless_layout}
use Rattle.path_within.proofs.write.Layout.fill.Goals as goal
use Rattle.std.proofs.lemmas.Grind.{common_steps}

pub slice_bounds-fill_after_root-count : goal.slice_bounds-fill_after_root-count
slice_bounds-fill_after_root-count c = grind (arith, length-rooted_layout)

pub slice_bounds-fill_after_root-start : goal.slice_bounds-fill_after_root-start
slice_bounds-fill_after_root-start c = grind (arith, length-rooted_layout)

pub fill_after_root-requires : goal.fill_after_root-requires
fill_after_root-requires c = grind (arith, length-rooted_layout, length-drop, length-take)

pub bounds-out-0 : goal.bounds-out-0
bounds-out-0 c = grind (arith, first_fits, length-rooted_layout)

pub fill_after_root-requires-else-self : goal.fill_after_root-requires-else-self
fill_after_root-requires-else-self c = grind (arith, length-rootless_layout)

pub returns-then-self : goal.returns-then-self
returns-then-self c =
    let size = length-rooted_layout c.args.self.now c.if-self.true in
    let is = layout-rooted c.args.self.now c.if-self.true in
    let part : length (take (length c.args.out.now - 1) (drop 1 c.args.out.now))
    ≡ length c.args.out.now - 1 = omega (
      arith,
      length-drop 1 c.args.out.now,
      length-take (length c.args.out.now - 1) (drop 1 c.args.out.now),
    ) in
    slash_first c.args.out.now c.fill_after_root.new.out (omega (arith, c.requires, size))
    (c.fill_after_root.auto.out ∙ part)
    ∙ ap (λ s. slash ∷ s) (c.fill_after_root.ensures 0 (grind (arith, common_steps))) ∙ sym is

pub returns-else-self : goal.returns-else-self
returns-else-self c = grind (arith, layout-rootless)
