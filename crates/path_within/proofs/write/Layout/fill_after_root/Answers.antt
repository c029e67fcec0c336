use Rattle.std.proofs.Common.{◌∙◌}
use Rattle.path_within.proofs.lemmas.backward.LayoutLemmas.{puts_layout}
use Rattle.path_within.proofs.write.Layout.fill_after_root.Goals as goal

pub returns : goal.returns
returns c = λ n space. puts_layout
    (record { size = c.put_before-end.ensures.size; bytes = c.put_before-end.ensures.bytes })
    (record { size = c.put_before-end-2.ensures.size; bytes = c.put_before-end-2.ensures.bytes })
    c.put_parent_dirs_before.ensures
    (c.put_parent_dirs_before.auto.out ∙ c.put_before-end-2.auto.out ∙ c.put_before-end.auto.out) n
    space
